-- The lists after a hit and after a load, as the code makes them: pages in front, zeros up to k, the places past k untouched.
use Prim.Native.Nat.{ℕ, ◌+◌, ◌-◌, ◌≤◌, ◌<◌, min}
use native.Mathlib.Numerals.{add-one}
use native.Mathlib.Omega.{arith}
use mathlib.Core.List.{List, ◌++◌, append_assoc}
use mathlib.Core.Path.{◌≡◌, refl, sym, ap, ◌∙◌}
use lib.ListN.{length, take, drop, set, replicate, length-append, length-drop, length-set}
use lib.Seq.{take_all, length-take-le, take_at, drop-drop, drop-append-add, drop-set-lt, take-suc-set}
use Rattle.lists.specs.Places.{moved_to_end, first_dropped, pasted, laid}
use Rattle.lists.proofs.Leaves.{length_moved, length_dropped}
use Rattle.lists.proofs.Laid.{laid_made}
use Rattle.queue.specs.inner.Cases.{loaded}

-- a front of n pages replaced by n others leaves the places from k on
past : (n k : ℕ) (y cache : List ℕ) → n ≤ k → length y ≡ n → drop k (y ++ drop n cache) ≡ drop k cache
past n k y cache h m =
    let e : k ≡ length y + (k - n) = omega arith in
    let s : n + (k - n) ≡ k = omega arith in
    ap (λ (x : ℕ). drop x (y ++ drop n cache)) e ∙ drop-append-add y (drop n cache) (k - n)
    ∙ drop-drop (k - n) n cache ∙ ap (λ (x : ℕ). drop x cache) s

front : (n : ℕ) (y cache : List ℕ) → n ≤ length cache → length y ≡ n → length (y ++ drop n cache) ≡ length cache
front n y cache h m = simp (length-append, length-drop) (omega arith)

pub hit_laid : (n k at : ℕ) (cache y z : List ℕ) → n ≤ k → k ≤ length cache → y ≡ moved_to_end at (take n cache)
    → z ≡ replicate (length (take (k - n) (drop n (y ++ drop n cache)))) 0
    → take n (y ++ drop n cache) ++ (z ++ drop (k - n) (drop n (y ++ drop n cache))) ≡ laid k (moved_to_end at (take n cache)) cache
hit_laid n k at cache y z h l e w =
    let m : length y ≡ n = rw (e, length_moved at (take n cache)) (length-take-le n cache (omega arith)) in
    let f : length (y ++ drop n cache) ≡ length cache = front n y cache (omega arith) m in
    laid_made n k (moved_to_end at (take n cache)) cache (y ++ drop n cache) z h (omega arith)
    (take_at y (drop n cache) n m ∙ e) (sym (ap length e) ∙ m) (past n k y cache h m) w

module _ (n k out page : ℕ) (cache : List ℕ) (h : n ≤ k) (l : k ≤ length cache) (o : out ≤ n) (b : n - out < k) where
  load_length : (y : List ℕ) → y ≡ first_dropped out (take n cache) → length y ≡ n
  load_length y e = rw (e, length_dropped out (take n cache)) (length-take-le n cache (omega arith))

  load_cache_length : (y : List ℕ) → y ≡ first_dropped out (take n cache) → length (y ++ drop n cache) ≡ length cache
  load_cache_length y e = front n y cache (omega arith) (load_length y e)

  pub load_laid : (y z : List ℕ) → y ≡ first_dropped out (take n cache)
      → z ≡ replicate (length (take (k - (n - out + 1)) (drop (n - out + 1) (set (y ++ drop n cache) (n - out) page)))) 0
      → take (n - out + 1) (set (y ++ drop n cache) (n - out) page)
      ++ (z ++ drop (k - (n - out + 1)) (drop (n - out + 1) (set (y ++ drop n cache) (n - out) page)))
      ≡ laid k (loaded out page (take n cache)) cache
  load_laid y z e w =
      let c = y ++ drop n cache in
      let t : length (take n cache) ≡ n = length-take-le n cache (omega arith) in
      let f : length c ≡ length cache = load_cache_length y e in
      let s : length (drop out (take n cache)) ≡ n - out = length-drop out (take n cache) ∙ ap (λ (x : ℕ). x - out) t in
      let head : take (n - out) c ≡ drop out (take n cache) =
      rw (e, append_assoc (drop out (take n cache)) (replicate (min out (length (take n cache))) 0) (drop n cache))
      (take_at (drop out (take n cache)) _ (n - out) s) in
      laid_made (n - out + 1) k (loaded out page (take n cache)) cache (set c (n - out) page) z (omega arith)
      (rw (length-set c (n - out) page) (omega arith))
      (rw (add-one (n - out), take-suc-set c (n - out) page (omega arith), head) refl)
      (simp length-append (omega arith))
      (drop-set-lt k c (n - out) page b ∙ past n k y cache h (load_length y e))
      w

-- the bundle copied over the front of the evicted list
pub bundle_copied : (a : ℕ) (cache evicted v : List ℕ) → a ≤ length cache → a ≤ length evicted → v ≡ pasted (take a cache) evicted
    → v ≡ take a cache ++ drop a evicted
bundle_copied a cache evicted v h g e =
    let t : length (take a cache) ≡ a = length-take-le a cache h in
    e ∙ rw (take_all (length evicted) (take a cache) (omega arith), t) refl
