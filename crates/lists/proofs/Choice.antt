-- Laws of tests: cases, and, or, bits.
use Prim.Native.Nat.{ℕ, ◌≤◌}
use native.Mathlib.Omega.{arith}
use mathlib.Core.Bool.{Bool, true, false, not, true≢false, false≢true}
use mathlib.Core.Logic.{◌⊎◌, inl, inr}
use mathlib.Core.Path.{◌≡◌, refl, sym}
use lib.Dec.{eqb}
use borrow.Author.Tests.{eq-eqb, ne_eqb, eqb-true, eqb-false, leb-true, leb-false, ltb-true, ltb-false, le-leb, lt-leb, lt-ltb, le-ltb}
use Rattle.lists.specs.Choice.{pick, ◌and◌, ◌or◌}
use Rattle.lists.specs.Pages.{bit}

-- with it omega reads and proves comparisons that are tests
pub ruleset tests =
    (arith, leb-true, leb-false, ltb-true, ltb-false, eqb-true, eqb-false, le-leb, lt-leb, lt-ltb, le-ltb, eq-eqb, ne_eqb)

pub cases {ℓ} : {A : Type ℓ} (b : Bool) → (b ≡ true → A) → (b ≡ false → A) → A
cases true f g = f refl
cases false f g = g refl

-- the same where the type mentions the test
pub by_test : (P : Bool → Type 0) (b : Bool) → (b ≡ true → P true) → (b ≡ false → P false) → P b
by_test P true f g = f refl
by_test P false f g = g refl

pub split {ℓ} : {A B : Type 0} {C : Type ℓ} → A ⊎ B → (A → C) → (B → C) → C
split (inl x) f g = f x
split (inr y) f g = g y

-- a test is not both
pub clash {ℓ} : {A : Type ℓ} (b : Bool) → b ≡ true → b ≡ false → A
clash true e f = absurd (true≢false f)
clash false e f = absurd (false≢true e)

pub and_l : (a b : Bool) → a and b ≡ true → a ≡ true
unfolding ◌and◌
and_l true b e = refl
and_l false b e = e

pub and_r : (a b : Bool) → a and b ≡ true → b ≡ true
unfolding ◌and◌
and_r true b e = e
and_r false b e = absurd (false≢true e)

pub and_i : (a b : Bool) → a ≡ true → b ≡ true → a and b ≡ true
unfolding ◌and◌
and_i true b e f = f
and_i false b e f = e

pub and_false_l : (a b : Bool) → a ≡ false → a and b ≡ false
unfolding ◌and◌
and_false_l true b e = absurd (true≢false e)
and_false_l false b e = refl

pub and_false_r : (a b : Bool) → b ≡ false → a and b ≡ false
unfolding ◌and◌
and_false_r true b e = e
and_false_r false b e = refl

pub or_l : (a b : Bool) → a ≡ true → a or b ≡ true
unfolding ◌or◌
or_l true b e = refl
or_l false b e = absurd (false≢true e)

pub or_r : (a b : Bool) → b ≡ true → a or b ≡ true
unfolding ◌or◌
or_r true b e = refl
or_r false b e = e

pub or_split : (a b : Bool) → a or b ≡ true → (a ≡ true) ⊎ (b ≡ true)
unfolding ◌or◌
or_split true b e = inl refl
or_split false b e = inr e

pub or_none_l : (a b : Bool) → a or b ≡ false → a ≡ false
unfolding ◌or◌
or_none_l true b e = e
or_none_l false b e = refl

pub or_none_r : (a b : Bool) → a or b ≡ false → b ≡ false
unfolding ◌or◌
or_none_r true b e = absurd (true≢false e)
or_none_r false b e = e

pub or_none : (a b : Bool) → a ≡ false → b ≡ false → a or b ≡ false
unfolding ◌or◌
or_none true b e f = e
or_none false b e f = f

-- two tests are one where each gives the other
pub same_test : (a b : Bool) → (a ≡ true → b ≡ true) → (b ≡ true → a ≡ true) → a ≡ b
same_test true b f g = sym (f refl)
same_test false true f g = g refl
same_test false false f g = refl

pub not_i : (a : Bool) → a ≡ false → not a ≡ true
not_i true e = absurd (true≢false e)
not_i false e = refl

pub bit_true : (b : Bool) → b ≡ true → bit b ≡ 1
bit_true true e = refl
bit_true false e = absurd (false≢true e)

pub bit_false : (b : Bool) → b ≡ false → bit b ≡ 0
bit_false true e = absurd (true≢false e)
bit_false false e = refl

pub bit_le : (b : Bool) → bit b ≤ 1
bit_le true = omega arith
bit_le false = omega arith

pub bit_mono : (a b : Bool) → (a ≡ true → b ≡ true) → bit a ≤ bit b
bit_mono true b f = rw (f refl) (omega arith)
bit_mono false b f = omega arith

pub pick_true {ℓ} : {A : Type ℓ} (b : Bool) (x y : A) → b ≡ true → pick b x y ≡ x
pick_true true x y e = refl
pick_true false x y e = absurd (false≢true e)

pub pick_false {ℓ} : {A : Type ℓ} (b : Bool) (x y : A) → b ≡ false → pick b x y ≡ y
pick_false true x y e = absurd (true≢false e)
pick_false false x y e = refl

pub eqb_self : (n : ℕ) → eqb n n ≡ true
eqb_self n = eq-eqb n n refl

pub eqb_sym : (m n : ℕ) → eqb m n ≡ eqb n m
eqb_sym m n = same_test (eqb m n) (eqb n m) (λ e. eq-eqb n m (sym (eqb-true m n e))) (λ e. eq-eqb m n (sym (eqb-true n m e)))
