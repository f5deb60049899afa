-- Lists of pages: membership, taking pages out, counting. A page is a number. Document 01's buffers are lists without repeats;
-- the definitions here ask for none.
use Rattle.std.specs.Prelude.{ℕ, ◌+◌, Bool, true, false, not, List, [], ◌∷◌, ◌++◌, eqb}
use Rattle.lists.specs.Choice.{pick, ◌and◌, ◌or◌}

-- whether p is in the list
abbrev pub mem : ℕ → List ℕ → Bool
mem p [] = false
mem p (q ∷ qs) = eqb p q or mem p qs

-- the list without p, wherever it stands
abbrev pub without : ℕ → List ℕ → List ℕ
without p [] = []
without p (q ∷ qs) = pick (eqb p q) (without p qs) (q ∷ without p qs)

-- the list with p as its last entry and nowhere else
abbrev pub to_end : ℕ → List ℕ → List ℕ
to_end p qs = without p qs ++ (p ∷ [])

-- the list without the first p
abbrev pub erase : ℕ → List ℕ → List ℕ
erase p [] = []
erase p (q ∷ qs) = pick (eqb p q) qs (q ∷ erase p qs)

-- the list without the pages of the first list, taken out one by one
abbrev pub erase_all : List ℕ → List ℕ → List ℕ
erase_all [] qs = qs
erase_all (p ∷ ps) qs = erase_all ps (erase p qs)

-- whether no page stands in the list twice
abbrev pub distinct : List ℕ → Bool
distinct [] = true
distinct (q ∷ qs) = not (mem q qs) and distinct qs

-- 1 for true, 0 for false
abbrev pub bit : Bool → ℕ
bit true = 1
bit false = 0

-- how many entries pass the test
abbrev pub count {ℓ} : {A : Type ℓ} → (A → Bool) → List A → ℕ
count f [] = 0
count f (x ∷ xs) = bit (f x) + count f xs

-- the entries that pass the test, in their order
abbrev pub filter {ℓ} : {A : Type ℓ} → (A → Bool) → List A → List A
filter f [] = []
filter f (x ∷ xs) = pick (f x) (x ∷ filter f xs) (filter f xs)
