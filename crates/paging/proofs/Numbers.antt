-- Laws of the refusals' numbers: 0 is no reason's, and no two reasons have one.
use Prim.Native.Nat.{ℕ}
use native.Mathlib.Omega.{arith}
use mathlib.Core.Path.{◌≡◌, refl, sym, ap, ◌∙◌}
use lib.Dec.{eqb}
use Rattle.lists.specs.Choice.{pick}
use Rattle.paging.specs.Numbers.{number_of}
use Rattle.paging.specs.declared.reasons.Refusal.{Refusal}
use Rattle.paging.specs.declared.reasons.Refusal.TheVariants.{BufferSize, BundleSize, TraceTooLong, WrongMark, CutShort, WrongRecord, TooManyHeld}
use Rattle.paging.specs.declared.reasons.Refusal.TheVariants.{TooLittleRoom, IllFormed, TableFull, PageTwice, CounterFull, EmptyRun}

-- 0 is no reason's number
pub number_above : (reason : Refusal) → number_of reason ≡ 0 → ⊥
number_above reason z = grind arith

-- the reason of a number
abbrev pub reason_of : ℕ → Refusal
reason_of n =
    pick (eqb n 1) BufferSize (pick (eqb n 2) BundleSize (pick (eqb n 3) TraceTooLong (pick (eqb n 4) WrongMark (pick (eqb n 5) CutShort
    (pick (eqb n 6) WrongRecord (pick (eqb n 7) TooManyHeld (pick (eqb n 8) TooLittleRoom (pick (eqb n 9) IllFormed (pick (eqb n 10) TableFull
    (pick (eqb n 11) PageTwice (pick (eqb n 12) CounterFull EmptyRun)))))))))))

pub reason_back : (reason : Refusal) → reason_of (number_of reason) ≡ reason
reason_back BufferSize = refl
reason_back BundleSize = refl
reason_back TraceTooLong = refl
reason_back WrongMark = refl
reason_back CutShort = refl
reason_back WrongRecord = refl
reason_back TooManyHeld = refl
reason_back TooLittleRoom = refl
reason_back IllFormed = refl
reason_back TableFull = refl
reason_back PageTwice = refl
reason_back CounterFull = refl
reason_back EmptyRun = refl

-- a number tells its reason, so that a view by number loses nothing
pub number_tells : (one two : Refusal) → number_of one ≡ number_of two → one ≡ two
number_tells one two e = sym (reason_back one) ∙ ap reason_of e ∙ reason_back two
