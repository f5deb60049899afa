-- Pages laid into a lent list: in front, with zeros behind them up to k, and the places past k as they were.
use Prim.Native.Nat.{ℕ, ◌+◌, ◌-◌, ◌≤◌}
use native.Mathlib.Omega.{arith}
use mathlib.Core.List.{List, ◌++◌, append_assoc}
use mathlib.Core.Path.{◌≡◌, sym, ap, ◌∙◌}
use lib.ListN.{length, take, drop, replicate, length-append, length-drop, length-replicate}
use lib.Seq.{length-take-le, drop-drop}
use Rattle.lists.specs.Places.{laid}

-- the places from n up to k filled with zero
pub laid_made : (n k : ℕ) (held cache c z : List ℕ) → n ≤ k → k ≤ length c → take n c ≡ held → length held ≡ n → drop k c ≡ drop k cache
    → z ≡ replicate (length (take (k - n) (drop n c))) 0
    → take n c ++ (z ++ drop (k - n) (drop n c)) ≡ laid k held cache
laid_made n k held cache c z h l t m d e =
    let s : n + (k - n) ≡ k = omega arith in
    let r : drop (k - n) (drop n c) ≡ drop k cache = drop-drop (k - n) n c ∙ ap (λ (x : ℕ). drop x c) s ∙ d in
    let b : k - n ≤ length (drop n c) = rw (length-drop n c) (omega arith) in
    let z' : z ≡ replicate (k - n) 0 = rw (length-take-le (k - n) (drop n c) b) at e in
    rw (t, r, z', m) (sym (append_assoc held (replicate (k - n) 0) (drop k cache)))

pub length_laid : (k : ℕ) (held cache : List ℕ) → length held ≤ k → k ≤ length cache → length (laid k held cache) ≡ length cache
length_laid k held cache h l = simp (length-append, length-drop, length-replicate) (omega arith)
