-- Laws behind the buffer: the pages held are the first n places of a list.
use Prim.Native.Nat.{ℕ, zero, suc, ◌+◌, ◌-◌, ◌*◌, ◌≤◌, ◌<◌}
use native.Mathlib.Omega.{arith}
use mathlib.Core.Bool.{true, false}
use mathlib.Core.List.{List, [], ◌∷◌, ◌++◌, append_assoc}
use mathlib.Core.Path.{◌≡◌, sym, ap, ◌∙◌}
use lib.Dec.{eqb, ltb}
use lib.ListN.{length, take, drop, length-append, length-drop}
use lib.Seq.{length-take-le, drop-drop, take_at}
use Rattle.lists.specs.Choice.{◌and◌}
use Rattle.lists.specs.Pages.{mem, erase, erase_all}
use Rattle.lists.specs.Places.{place, moved_to_end}
use Rattle.lists.proofs.Choice.{cases, tests}
use Rattle.lists.proofs.Leaves.{mem_place}
use Rattle.paging.specs.Schedule.{held_in_turn}
use Rattle.wire.specs.Numbers.{num32, nums32}

-- One page taken out

pub has_law : (p n r : ℕ) (held : List ℕ) → n ≤ length held → r ≡ place p (take n held) → ltb r n ≡ mem p (take n held)
has_law p n r held h e = rw (e, mem_place p (take n held), length-take-le n held h)

erase_gap : (p : ℕ) (xs : List ℕ) → place p xs < length xs → erase p xs ≡ take (place p xs) xs ++ drop (suc (place p xs)) xs
erase_gap p [] h = absurd (omega arith)
erase_gap p (x ∷ xs) h =
    cases (eqb p x)
    (λ m. rw m)
    (λ m. let l : suc (place p xs) < length (x ∷ xs) = rw m at h in rw m (ap (λ (l : List ℕ). x ∷ l) (erase_gap p xs (omega arith))))

-- a page that is not held
pub not_there : (p n r : ℕ) (held : List ℕ) → n ≤ length held → r ≡ place p (take n held) → n ≤ r → false ≡ mem p (take n held)
not_there p n r held h e l = let m : ltb r n ≡ false = omega tests in sym m ∙ has_law p n r held h e

pub was_there : (p n r : ℕ) (held : List ℕ) → n ≤ length held → r ≡ place p (take n held) → r < n → true ≡ mem p (take n held)
was_there p n r held h e l = let m : ltb r n ≡ true = omega tests in sym m ∙ has_law p n r held h e

-- a page that goes to the end of the pages held, and is then left out
pub taken_out : (p n r : ℕ) (held moved after : List ℕ) → n ≤ length held → r ≡ place p (take n held) → r < n → moved ≡ moved_to_end r (take n held)
    → after ≡ moved ++ drop n held → take (n - 1) after ≡ erase p (take n held)
taken_out p n r held moved after h e l q w =
    let size = length-take-le n held h in
    let gap = take r (take n held) ++ drop (suc r) (take n held) in
    let all : length gap ≡ n - 1 = simp (length-append, length-drop, length-take-le r (take n held) (omega arith), size) (omega arith) in
    let rest = take 1 (drop r (take n held)) in
    let same : erase p (take n held) ≡ gap = rw e (erase_gap p (take n held) (omega arith)) in
    rw (w, q, append_assoc gap rest (drop n held), take_at gap (rest ++ drop n held) (n - 1) all) (sym same)

-- A bundle's pages, one by one

pub next_page : (s : List ℕ) (at left : ℕ) → 0 < left → nums32 left (drop at s) ≡ num32 (drop at s) ∷ nums32 (left - 1) (drop (at + 4) s)
next_page s at zero h = absurd (omega arith)
next_page s at (suc left) h =
    let e : suc left - 1 ≡ left = omega arith in
    rw (e, drop-drop 4 at s)

-- what is left to take out from the pages held gives what the whole gives
pub record Evicts (s : List ℕ) (from count done : ℕ) (first held : List ℕ) : Type 0 where
  pub turns : held_in_turn (nums32 (count - done) (drop (from + 4 * done) s)) held ≡ held_in_turn (nums32 count (drop from s)) first
  pub pages : erase_all (nums32 (count - done) (drop (from + 4 * done) s)) held ≡ erase_all (nums32 count (drop from s)) first

module _ (s : List ℕ) (from count done page : ℕ) (first held : List ℕ) (h : done < count) (e : page ≡ num32 (drop (from + 4 * done) s))
    (c : Evicts s from count done first held) where
  next : nums32 (count - done) (drop (from + 4 * done) s) ≡ page ∷ nums32 (count - (done + 1)) (drop (from + 4 * (done + 1)) s)
  next =
      let a : from + 4 * done + 4 ≡ from + 4 * (done + 1) = omega arith in
      let b : count - done - 1 ≡ count - (done + 1) = omega arith in
      rw (e, ← a, ← b) (next_page s (from + 4 * done) (count - done) (omega arith))

  pub evicts_next : (after : List ℕ) → true ≡ mem page held → after ≡ erase page held → Evicts s from count (done + 1) first after
  unfolding ◌and◌
  evicts_next after m w =
      record { turns = rw w (sym (rw (next, ← m)) ∙ c.turns); pages = rw w (sym (rw next) ∙ c.pages) }

  pub evicts_missing : false ≡ mem page held → false ≡ held_in_turn (nums32 count (drop from s)) first
  unfolding ◌and◌
  evicts_missing m = sym (rw (next, ← m)) ∙ c.turns

-- what is left is no longer than what was held
shorter : (p : ℕ) (xs : List ℕ) → length (erase p xs) ≤ length xs
shorter p [] = omega arith
shorter p (x ∷ xs) = let l = shorter p xs in cases (eqb p x) (λ m. rw m (omega arith)) (λ m. rw m (omega arith))

pub shorter_all : (ps xs : List ℕ) → length (erase_all ps xs) ≤ length xs
shorter_all [] xs = omega arith
shorter_all (p ∷ ps) xs = let l = shorter p xs in let m = shorter_all ps (erase p xs) in omega arith
