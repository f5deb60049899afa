-- Entries in order: what stands behind an entry, and the turns of entries whose time is past or has not come.
use Prim.Native.Nat.{ℕ, zero, suc, ◌≤◌, ◌<◌}
use native.Mathlib.Omega.{arith}
use mathlib.Core.Bool.{Bool, true, false}
use mathlib.Core.List.{List, [], ◌∷◌}
use mathlib.Core.Path.{◌≡◌, refl, subst}
use lib.Dec.{eqb, leb}
use Rattle.lists.specs.Choice.{◌and◌}
use Rattle.lists.proofs.Choice.{cases, tests, and_l, and_r, and_i}
use Rattle.paging.specs.Schedule.{Entry, ev, pf, time_of, bundles_at, fetches_at, turns_from, follows, in_order}

-- whether the entry is a PF
abbrev pub is_pf : Entry → Bool
is_pf (ev t pages) = false
is_pf (pf t page) = true

-- an entry that stands for "at request t, with or without a PF"
abbrev pub mark : ℕ → Bool → Entry
mark t false = ev t []
mark t true = pf t 0

pub mark_time : (t : ℕ) (f : Bool) → time_of (mark t f) ≡ t
mark_time t false = refl
mark_time t true = refl

-- of an entry only its time and its kind matter to what follows it
pub marked : (e : Entry) (es : List Entry) → in_order (e ∷ es) ≡ in_order (mark (time_of e) (is_pf e) ∷ es)
marked e [] = refl
marked (ev t pages) (ev u qs ∷ es) = refl
marked (ev t pages) (pf u q ∷ es) = refl
marked (pf t page) (ev u qs ∷ es) = refl
marked (pf t page) (pf u q ∷ es) = refl

pub follows_time : (e e' : Entry) → follows e e' ≡ true → time_of e ≤ time_of e'
follows_time (ev t pages) (ev u qs) h = omega tests
follows_time (ev t pages) (pf u q) h = omega tests
follows_time (pf t page) (ev u qs) h = omega tests
follows_time (pf t page) (pf u q) h = omega tests

-- no entry stands before request t
abbrev pub from : ℕ → List Entry → Bool
from t [] = true
from t (e ∷ es) = leb t (time_of e) and from t es

pub from_less : (t u : ℕ) (es : List Entry) → t ≤ u → from u es ≡ true → from t es ≡ true
from_less t u [] h f = refl
from_less t u (e ∷ es) h f =
    let d = and_l _ _ f in
    and_i _ _ (omega tests) (from_less t u es h (and_r _ _ f))

pub ordered_from : (e : Entry) (es : List Entry) → in_order (e ∷ es) ≡ true → from (time_of e) es ≡ true
ordered_from e [] h = refl
ordered_from e (e' ∷ es) h =
    let d = follows_time e e' (and_l _ _ h) in
    and_i _ _ (omega tests) (from_less (time_of e) (time_of e') es d (ordered_from e' es (and_r _ _ h)))

-- no entry that is yet to come belongs to a request before it
pub none_at : (t : ℕ) (es : List Entry) → from (suc t) es ≡ true → (bundles_at t es ≡ []) × (fetches_at t es ≡ [])
none_at t [] h = (refl, refl)
none_at t (ev u pages ∷ es) h =
    let d = and_l _ _ h in
    let n : eqb u t ≡ false = omega tests in
    rw n (none_at t es (and_r _ _ h))
none_at t (pf u page ∷ es) h =
    let d = and_l _ _ h in
    let n : eqb u t ≡ false = omega tests in
    rw n (none_at t es (and_r _ _ h))

-- behind a PF at t there is no EV at t
pub no_bundle : (t page : ℕ) (es : List Entry) → in_order (pf t page ∷ es) ≡ true → bundles_at t es ≡ []
no_bundle t page [] h = refl
no_bundle t page (ev u pages ∷ es) h =
    let d = and_l _ _ h in
    let n : eqb u t ≡ false = omega tests in
    let f = from_less (suc t) u es (omega tests) (ordered_from (ev u pages) es (and_r _ _ h)) in
    rw n (none_at t es f).0
no_bundle t page (pf u q ∷ es) h =
    let d = and_l _ _ h in
    cases (eqb u t)
    (λ m. let i = and_r _ _ h in let w = eqb_true' u t m in no_bundle t q es (subst (λ x. in_order (pf x q ∷ es) ≡ true) w i))
    (λ m. let f = from_less (suc t) u es (omega tests) (ordered_from (pf u q) es (and_r _ _ h)) in (none_at t es f).0)
  where
    eqb_true' : (u t : ℕ) → eqb u t ≡ true → u ≡ t
    eqb_true' u t m = omega tests

-- an entry before the requests that are left makes no turn of theirs
pub past_turn : (t n : ℕ) (e : Entry) (es : List Entry) → time_of e < t → turns_from t n (e ∷ es) ≡ turns_from t n es
past_turn t zero e es h = refl
past_turn t (suc n) (ev u pages) es h =
    let m : eqb u t ≡ false = omega tests in
    rw (m, past_turn (suc t) n (ev u pages) es (omega arith))
past_turn t (suc n) (pf u page) es h =
    let m : eqb u t ≡ false = omega tests in
    rw (m, past_turn (suc t) n (pf u page) es (omega arith))
