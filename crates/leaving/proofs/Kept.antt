-- Entries that stay, place by place, and flags beside them.
use Prim.Native.Nat.{ℕ, zero, suc, ◌+◌, ◌≤◌, ◌<◌}
use native.Mathlib.Numerals.{add-one}
use native.Mathlib.Omega.{arith}
use mathlib.Core.Bool.{Bool}
use mathlib.Core.List.{List, [], ◌∷◌, ◌++◌, map, append-nil}
use mathlib.Core.Path.{◌≡◌, refl, sym, ap, ◌∙◌}
use lib.Dec.{eqb}
use lib.ListN.{length, take, drop, get_or, set, length-set, drop_of_length-le}
use lib.Seq.{get_or-set_same, get_or-set_other, drop-cons, take-suc-set, drop-set-lt, length-take-le}
use mir.Val.{bool_byte}
use borrow.Author.Tests.{eqb-true, eqb-false}
use Rattle.lists.specs.Choice.{pick, ◌or◌}
use Rattle.lists.specs.Pages.{mem, filter}
use Rattle.lists.proofs.Choice.{cases}
use Rattle.lists.proofs.Leaves.{byte_one}
use Rattle.leaving.specs.Buffer.{Fronted}
use Rattle.leaving.specs.Order.{flagged, kept_by}
use Rattle.leaving.proofs.Cached.{behind_on}

-- One entry more

kept_none {ℓ} : {A : Type ℓ} (flags : List ℕ) → kept_by {A = A} flags [] ≡ []
kept_none [] = refl
kept_none (f ∷ fs) = refl

kept_more : {A : Type 0} (d : A) (flags : List ℕ) (xs : List A) (i : ℕ) → i < length flags → i < length xs
    → kept_by flags (take (suc i) xs) ≡ kept_by flags (take i xs) ++ pick (eqb (get_or flags i 0) 0) (get_or xs i d ∷ []) []
kept_more d [] xs i h g = absurd (omega arith)
kept_more d (f ∷ fs) [] i h g = absurd (omega arith)
kept_more d (f ∷ fs) (x ∷ xs) zero h g = cases (eqb f 0) (λ e. rw (e, kept_none fs)) (λ e. rw (e, kept_none fs))
kept_more d (f ∷ fs) (x ∷ xs) (suc i) h g =
    cases (eqb f 0)
    (λ e. rw e (ap (λ l. x ∷ l) (kept_more d fs xs i (omega arith) (omega arith))))
    (λ e. rw e (kept_more d fs xs i (omega arith) (omega arith)))

-- a store at a place or behind it leaves what is before
take_set_past : {A : Type 0} (n at : ℕ) (v : A) (xs : List A) → n ≤ at → take n (set xs at v) ≡ take n xs
take_set_past zero at v xs h = refl
take_set_past (suc n) at v [] h = refl
take_set_past (suc n) zero v (x ∷ xs) h = absurd (omega arith)
take_set_past (suc n) (suc at) v (x ∷ xs) h = ap (λ l. x ∷ l) (take_set_past n at v xs (omega arith))

-- Entries moved to the front: of the first `from` entries those that stay are in the first `to` places

pub record Keeping {A : Type 0} (gone : List ℕ) (n : ℕ) (l₀ l : List A) (to from : ℕ) : Type 0 where
  pub within : from ≤ n
  pub low : to ≤ from
  pub long : length l ≡ length l₀
  pub front : take to l ≡ kept_by gone (take from l₀)
  pub behind : drop from l ≡ drop from l₀

pub keep_start : {A : Type 0} (gone : List ℕ) (n : ℕ) (l : List A) → Keeping gone n l l 0 0
keep_start gone n l = record { within = omega arith; low = omega arith; long = refl; front = sym (kept_none gone); behind = refl }

module _ {A : Type 0} {gone : List ℕ} {n : ℕ} {l₀ l : List A} {to from : ℕ} (flags : n ≤ length gone) (room : n ≤ length l₀) (K : Keeping gone n l₀ l to from) where
  module _ (d : A) (h : from < n) where
    here : get_or l from d ≡ get_or l₀ from d
    here =
        let long = K.long in
        ap (λ xs. get_or xs 0 d) (sym (drop-cons l from d (omega arith)) ∙ K.behind ∙ drop-cons l₀ from d (omega arith))

    more : kept_by gone (take (suc from) l₀) ≡ take to l ++ pick (eqb (get_or gone from 0) 0) (get_or l from d ∷ []) []
    more = rw (here, K.front) (kept_more d gone l₀ from (omega arith) (omega arith))

    front_next : take (to + bool_byte (eqb (get_or gone from 0) 0)) (set l to (get_or l from d)) ≡ kept_by gone (take (from + 1) l₀)
    front_next =
        let long = K.long in
        let low = K.low in
        let none : to + 0 ≡ to = omega arith in
        rw (add-one from, more) (cases (eqb (get_or gone from 0) 0)
        (λ e. rw (e, add-one to) (take-suc-set l to (get_or l from d) (omega arith)))
        (λ e. rw (e, none) (take_set_past to to (get_or l from d) l (omega arith) ∙ sym (append-nil (take to l)))))

    pub keep_turn : (x : A) → x ≡ get_or l from d → Keeping gone n l₀ (set l to x) (to + bool_byte (eqb (get_or gone from 0) 0)) (from + 1)
    keep_turn x is =
        let low = K.low in
        let one = byte_one (eqb (get_or gone from 0) 0) in
        rw is record {
          within = omega arith;
          low = omega arith;
          long = length-set l to (get_or l from d) ∙ K.long;
          front = front_next;
          behind = rw (add-one from) (drop-set-lt (suc from) l to (get_or l from d) (omega arith) ∙ behind_on from (suc from) l l₀ (omega arith) K.behind);
        }

  pub keep_end : n ≤ from → Fronted n (kept_by gone (take n l₀)) l₀ l
  keep_end h =
      let within = K.within in
      let same : from ≡ n = omega arith in
      let low = K.low in
      let long = K.long in
      let is : kept_by gone (take n l₀) ≡ take to l = rw same at (sym K.front) in
      record {
        front = rw (is, length-take-le to l (omega arith)) refl;
        behind = rw same at K.behind;
      }

-- Flags

pub set_past : (xs : List ℕ) (at v : ℕ) → length xs ≤ at → set xs at v ≡ xs
set_past [] at v h = refl
set_past (x ∷ xs) zero v h = absurd (omega arith)
set_past (x ∷ xs) (suc at) v h = ap (λ (l : List ℕ). x ∷ l) (set_past xs at v (omega arith))

get_set : (xs : List ℕ) (at v i : ℕ) → i < length xs → get_or (set xs at v) i 0 ≡ pick (eqb i at) v (get_or xs i 0)
get_set xs at v i h =
    cases (eqb i at)
    (λ e. let same : i ≡ at = eqb-true i at e in rw (e, ← same) (get_or-set_same xs i v 0 h))
    (λ e. rw e (get_or-set_other xs at i v 0 (eqb-false i at e)))

pub flag_next : (order list after target : List ℕ) (j : ℕ) → j < length order → after ≡ set list (get_or order j 0) 1 → flagged (drop j order) list ≡ target
    → flagged (drop (j + 1) order) after ≡ target
flag_next order list after target j h put e = rw (add-one j, put) (rw (drop-cons order j 0 h) at e)

pub flag_end : (order list target : List ℕ) (j : ℕ) → length order ≤ j → flagged (drop j order) list ≡ target → list ≡ target
flag_end order list target j h e = rw (drop_of_length-le order {i = j} h) at e

pub length_flagged : (places list : List ℕ) → length (flagged places list) ≡ length list
length_flagged [] list = refl
length_flagged (i ∷ is) list = length_flagged is (set list i 1) ∙ length-set list i 1

pub flag_at : (places list : List ℕ) (i : ℕ) → i < length list → get_or (flagged places list) i 0 ≡ pick (mem i places) 1 (get_or list i 0)
unfolding ◌or◌
flag_at [] list i h = refl
flag_at (o ∷ os) list i h =
    rw (flag_at os (set list o 1) i (rw (length-set list o 1) h), get_set list o 1 i h)
    (cases (mem i os) (λ e. rw e (cases (eqb i o) (λ f. rw f) (λ f. rw f))) (λ e. rw e (cases (eqb i o) (λ f. rw f) (λ f. rw f))))

-- What is kept is a filter, where each flag says what the test says

pub kept_filter {ℓ} : {A : Type ℓ} (d : A) (f : A → Bool) (flags : List ℕ) (xs : List A) → length xs ≤ length flags
    → ((i : ℕ) → i < length xs → eqb (get_or flags i 0) 0 ≡ f (get_or xs i d)) → kept_by flags xs ≡ filter f xs
kept_filter d f flags [] h e = kept_none flags
kept_filter d f [] (x ∷ xs) h e = absurd (omega arith)
kept_filter d f (g ∷ gs) (x ∷ xs) h e =
    rw (e 0 (omega arith), kept_filter d f gs xs (omega arith) (λ i l. e (suc i) (omega arith)))

pub kept_map {ℓ ℓ'} : {A : Type ℓ} {B : Type ℓ'} (f : A → B) (flags : List ℕ) (xs : List A) → map f (kept_by flags xs) ≡ kept_by flags (map f xs)
kept_map f [] xs = refl
kept_map f (g ∷ gs) [] = refl
kept_map f (g ∷ gs) (x ∷ xs) =
    cases (eqb g 0) (λ e. rw e (ap (λ l. f x ∷ l) (kept_map f gs xs))) (λ e. rw e (kept_map f gs xs))
