-- Contracts between the functions of this crate: nothing here has to be believed.
use Rattle.std.specs.Prelude.{ℕ, ◌-◌, ◌<◌, true, List, ◌∷◌, ◌++◌, ◌≡◌, length, take, drop, replicate}
use Rattle.marking.specs.Lists.{rising}

-- a list with a value put in at a place: the later entries move up a place, and the last has none
abbrev pub inserted : {A : Type 0} → (at : ℕ) → (value : A) → List A → List A
inserted at value list = take (length list) (take at list ++ (value ∷ drop at list))

-- zeros in the places from n up to k
abbrev pub wiped : (n k : ℕ) → List ℕ → List ℕ
wiped n k list = take n list ++ (replicate (k - n) 0 ++ drop k list)

-- a page can be put among n
pub record LoadReady (n : ℕ) (cache marks priorities : List ℕ) : Type 0 where
  pub cache_room : n < length cache
  pub marks_room : n < length marks
  pub priorities_room : n < length priorities
  pub rises : rising (take n cache) ≡ true
