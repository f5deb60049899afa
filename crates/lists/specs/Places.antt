-- Places in a list of pages: what the operations on lent lists do.
use Rattle.std.specs.Prelude.{ℕ, suc, ◌-◌, min, List, [], ◌∷◌, ◌++◌, eqb, length, take, drop, replicate}
use Rattle.lists.specs.Choice.{pick}

-- the first place at which p stands, counted from 0; the length where it stands nowhere
abbrev pub place : ℕ → List ℕ → ℕ
place p [] = 0
place p (q ∷ qs) = pick (eqb p q) 0 (suc (place p qs))

-- the entry at a place moved to the end, the later ones one place down; nothing moves where there is no such place
abbrev pub moved_to_end : {A : Type 0} → (at : ℕ) → List A → List A
moved_to_end at xs = (take at xs ++ drop (suc at) xs) ++ take 1 (drop at xs)

-- the first n gone, the rest moved to the front, zeros behind it
abbrev pub first_dropped : (n : ℕ) → List ℕ → List ℕ
first_dropped n xs = drop n xs ++ replicate (min n (length xs)) 0

-- the second list with its first i entries those of the first
unfoldable pub over : (from to : List ℕ) → (i : ℕ) → List ℕ
over from to i = take i from ++ drop i to

-- as many entries of the first list as there is room for, over the front of the second
abbrev pub pasted : {A : Type 0} → (from to : List A) → List A
pasted from to = take (length to) from ++ drop (length from) to

-- the pages held, or what stands beside them, in a lent list: zeros from the count up to k, and the places past k keep their contents
abbrev pub laid : (k : ℕ) → (held cache : List ℕ) → List ℕ
laid k held cache = (held ++ replicate (k - length held) 0) ++ drop k cache
