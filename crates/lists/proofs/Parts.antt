-- Parts of lists, of any entries: what the libraries do not have.
use Prim.Native.Nat.{ℕ, zero, suc, ◌-◌, ◌≤◌}
use native.Mathlib.Omega.{arith}
use mathlib.Core.List.{List, [], ◌∷◌, ◌++◌, map}
use mathlib.Core.Path.{◌≡◌, refl, sym, ap}
use lib.ListN.{take, drop, get_or, replicate}
use lib.Seq.{take-nil}

pub drop_take : {A : Type 0} (n m : ℕ) (xs : List A) → n ≤ m → drop n (take m xs) ≡ take (m - n) (drop n xs)
drop_take zero m xs h = let e : m - 0 ≡ m = omega arith in rw e
drop_take (suc n) zero xs h = absurd (omega arith)
drop_take (suc n) (suc m) [] h = sym (take-nil (suc m - suc n))
drop_take (suc n) (suc m) (x ∷ xs) h = let e : suc m - suc n ≡ m - n = omega arith in rw e (drop_take n m xs (omega arith))

pub map_snoc : {A B : Type 0} (f : A → B) (xs : List A) (z : A) → map f (xs ++ (z ∷ [])) ≡ map f xs ++ (f z ∷ [])
map_snoc f [] z = refl
map_snoc f (x ∷ xs) z = ap (λ l. f x ∷ l) (map_snoc f xs z)

-- a list of zeros has zero at every place, and beyond
pub zeros : (n i : ℕ) → ◌≡◌ {A = ℕ} (get_or (replicate n 0) i 0) 0
zeros zero i = refl
zeros (suc n) zero = refl
zeros (suc n) (suc i) = zeros n i
