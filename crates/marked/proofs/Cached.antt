-- The three lists of cached pages: marks cleared, a page put in, and zeros behind.
use Prim.Native.Nat.{ℕ, zero, suc, ◌+◌, ◌-◌, ◌≤◌, ◌<◌}
use native.Mathlib.Numerals.{add-one}
use native.Mathlib.Omega.{arith}
use mathlib.Core.Bool.{Bool, true, false}
use mathlib.Core.List.{List, [], ◌∷◌, ◌++◌, map, append_assoc}
use mathlib.Core.Path.{◌≡◌, refl, sym, ap, ◌∙◌}
use lib.ListN.{length, take, drop, get_or, replicate, length-append, length-drop}
use lib.Seq.{length-take-le, take-suc, take_at, take-append-le, drop-append-le, drop-drop}
use Rattle.lists.specs.Choice.{pick}
use Rattle.lists.specs.Places.{laid}
use Rattle.marking.specs.Marking.{Cached, cached_at, cleared}
use Rattle.marking.specs.Lists.{cached_of}
use Rattle.leaving.specs.Buffer.{Fronted}
use Rattle.leaving.proofs.Cached.{fronted_whole}
use Rattle.marked.specs.Inner.{inserted, wiped}

-- Marks cleared

cleared_of : (ps ms ns : List ℕ) → cached_of ps (replicate (length ms) 0) ns ≡ cleared true (cached_of ps ms ns)
cleared_of [] ms ns = refl
cleared_of (p ∷ ps) [] ns = refl
cleared_of (p ∷ ps) (m ∷ ms) [] = refl
cleared_of (p ∷ ps) (m ∷ ms) (n ∷ ns) = ap (λ (l : List Cached). cached_at p 0 n ∷ l) (cleared_of ps ms ns)

pub cached_cleared : (clear : Bool) (ps ms ns : List ℕ)
    → cached_of ps (pick clear (replicate (length ms) 0) ms) ns ≡ cleared clear (cached_of ps ms ns)
cached_cleared true ps ms ns = cleared_of ps ms ns
cached_cleared false ps ms ns = refl

-- A page put in

pub map_put : (f : Cached → ℕ) (c : ℕ) (x : Cached) (xs : List Cached) → map f (take c xs ++ (x ∷ drop c xs)) ≡ take c (map f xs) ++ (f x ∷ drop c (map f xs))
map_put f zero x xs = refl
map_put f (suc c) x [] = refl
map_put f (suc c) x (y ∷ xs) = ap (λ (l : List ℕ). f y ∷ l) (map_put f c x xs)

-- a list with a value put in
put_is : (n at v : ℕ) (d : List ℕ) → at ≤ n → n < length d → inserted at v (take (n + 1) d) ≡ take at (take n d) ++ (v ∷ drop at (take n d))
put_is n at v d h l =
    let w : List ℕ = get_or d n 0 ∷ [] in
    let t : length (take n d) ≡ n = length-take-le n d (omega arith) in
    let cut : take (n + 1) d ≡ take n d ++ w = rw (add-one n) (take-suc d n 0 l) in
    let m : length (take n d ++ w) ≡ suc n = rw (length-append (take n d) w) (omega arith) in
    let f : length (take at (take n d)) ≡ at = length-take-le at (take n d) (omega arith) in
    rw (cut, m, take-append-le at (take n d) w (omega arith), drop-append-le at (take n d) w (omega arith))
    (ap (take (suc n)) (sym (append_assoc (take at (take n d)) (v ∷ drop at (take n d)) w))
    ∙ take_at (take at (take n d) ++ (v ∷ drop at (take n d))) w (suc n)
    (rw (length-append (take at (take n d)) (v ∷ drop at (take n d)), f, length-drop at (take n d), t) (omega arith)))

pub put_fronted : (n at v : ℕ) (d y : List ℕ) → at ≤ n → n < length d → y ≡ inserted at v (take (n + 1) d)
    → Fronted (n + 1) (take at (take n d) ++ (v ∷ drop at (take n d))) d (y ++ drop (n + 1) d)
put_fronted n at v d y h l e =
    let t : length (take n d) ≡ n = length-take-le n d (omega arith) in
    let f : length (take at (take n d)) ≡ at = length-take-le at (take n d) (omega arith) in
    fronted_whole (n + 1) (take at (take n d) ++ (v ∷ drop at (take n d))) d y
    (rw (length-append (take at (take n d)) (v ∷ drop at (take n d)), f, length-drop at (take n d), t) (omega arith)) (e ∙ put_is n at v d h l)

-- zeros from n up to k
pub wiped_made : {n k : ℕ} (l : List ℕ) {z : List ℕ} → n ≤ k → k ≤ length l → z ≡ replicate (length (take (k - n) (drop n l))) 0
    → take n l ++ (z ++ drop (k - n) (drop n l)) ≡ wiped n k l
wiped_made {n = n} {k = k} l {z = z} h g e =
    let s : n + (k - n) ≡ k = omega arith in
    let r : drop (k - n) (drop n l) ≡ drop k l = drop-drop (k - n) n l ∙ ap (λ (x : ℕ). drop x l) s in
    let b : k - n ≤ length (drop n l) = rw (length-drop n l) (omega arith) in
    let z' : z ≡ replicate (k - n) 0 = rw (length-take-le (k - n) (drop n l) b) at e in
    rw (r, z')

-- zeros up to k behind what stands in front
pub wiped_laid : (n k : ℕ) (held list list' : List ℕ) → Fronted k held list list' → length held ≡ n → wiped n k list' ≡ laid k held list
wiped_laid n k held list list' F m =
    let t : take n list' ≡ held = rw (← m) F.front in
    rw (t, F.behind, m) (sym (append_assoc held (replicate (k - n) 0) (drop k list)))
