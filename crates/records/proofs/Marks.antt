-- A mark that is none of the known ones.
use Prim.Native.Nat.{ℕ}
use mathlib.Core.Path.{◌≡◌}
use borrow.Author.Tests.{ne_eqb}
use Rattle.records.specs.Marks.{bad, mark_of, mark_ka, mark_rq, mark_rr, mark_ev, mark_pf}

pub mark_other : (m : ℕ) → (m ≡ mark_ka → ⊥) → (m ≡ mark_rq → ⊥) → (m ≡ mark_rr → ⊥) → (m ≡ mark_ev → ⊥) → (m ≡ mark_pf → ⊥) → bad 4 ≡ mark_of m
unfolding mark_of
mark_other m ka rq rr ev pf = rw (ne_eqb m mark_ka ka, ne_eqb m mark_rq rq, ne_eqb m mark_rr rr, ne_eqb m mark_ev ev, ne_eqb m mark_pf pf)
