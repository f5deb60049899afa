-- What the functions decide, as the definitions have it.
use Prim.Native.Nat.{ℕ, ◌-◌, ◌≤◌, ◌<◌}
use native.Mathlib.Omega.{arith}
use mathlib.Core.Bool.{true, false}
use mathlib.Core.Path.{◌≡◌, refl, sym}
use lib.Dec.{eqb, leb, ltb}
use borrow.Author.Tests.{lt-ltb, le-ltb}
use Rattle.std.proofs.Common.{Ordering, Less, Equal, Greater}
use Rattle.std.specs.Ordering.{is_lt, ordering_then, partial_ordering_then, nat_cmp, is_some_and}
use Rattle.std.proofs.Common.{Some}
use Rattle.lists.specs.Choice.{◌and◌, ◌or◌}
use Rattle.lists.proofs.Choice.{tests, cases, and_false_r}
use Rattle.marking.specs.Marking.{Cached, sooner}

-- A place that is one of the last so many

pub revealed_at : (at used shown : ℕ) → at < used → leb (used - at) shown ≡ leb (used - shown) at and ltb at used
unfolding ◌and◌
revealed_at at used shown h =
    rw (lt-ltb at used h) (cases (leb (used - at) shown)
    (λ e. let g : leb (used - shown) at ≡ true = omega tests in rw (e, g) refl)
    (λ e. let g : leb (used - shown) at ≡ false = omega tests in rw (e, g) refl))

pub revealed_past : (at used shown : ℕ) → used ≤ at → false ≡ leb (used - shown) at and ltb at used
revealed_past at used shown h = sym (and_false_r _ _ (le-ltb at used h))

-- Which of two cached pages leaves first

-- two fields compared one after the other
then_some : (o p : Ordering) → partial_ordering_then (Some o) (Some p) ≡ Some (ordering_then o p)
then_some Less p = refl
then_some Equal p = refl
then_some Greater p = refl

then_less : (a b : ℕ) (o : Ordering) → is_lt (ordering_then (nat_cmp a b) o) ≡ ltb a b or (eqb a b and is_lt o)
unfolding ◌and◌ ◌or◌
then_less a b o = grind (arith, nat_cmp)

less : (a b : ℕ) → is_lt (nat_cmp a b) ≡ ltb a b
less a b = grind (arith, nat_cmp)

-- the order of the fields is the order in which pages leave
pub fields_in_order : (x y : Cached)
    → is_some_and is_lt (partial_ordering_then (Some (nat_cmp x.mark y.mark)) (partial_ordering_then (Some (nat_cmp x.priority y.priority)) (Some (nat_cmp x.page y.page))))
    ≡ sooner x y
unfolding sooner
fields_in_order x y =
    let later = nat_cmp x.priority y.priority in
    let last = nat_cmp x.page y.page in
    rw (
      then_some later last,
      then_some (nat_cmp x.mark y.mark) (ordering_then later last),
      then_less x.mark y.mark (ordering_then later last),
      then_less x.priority y.priority last,
      less x.page y.page,
    ) refl
