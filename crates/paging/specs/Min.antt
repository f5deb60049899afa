-- Farthest next use (document 01, "MIN"; document 02, request 07; source documents 000 and 001), and the best count of a trace.
use Rattle.std.specs.Prelude.{ℕ, zero, suc, Bool, List, [], ◌∷◌, eqb, ltb, take}
use Rattle.lists.specs.Choice.{pick}
use Rattle.lists.specs.Sorting.{sort_by}
use Rattle.paging.specs.Policy.{Rule, bundle_count, load_count}

-- how many requests come before the next one of p; all of them, if p is never requested again
abbrev pub next_use : ℕ → (later : List ℕ) → ℕ
next_use p [] = zero
next_use p (q ∷ qs) = pick (eqb p q) zero (suc (next_use p qs))

-- p goes before q: its next request is farther. Two pages tie only where neither is requested again
unfoldable pub farther : (later : List ℕ) → (p q : ℕ) → Bool
farther later p q = ltb (next_use q later) (next_use p later)

-- the order in force: the a farthest pages go, farthest first. Sorting leaves pages that tie in the order in which they are held, and MIN holds them
-- from the least to the most recently requested (Policy.antt): so those never requested again go by age
abbrev pub min_rule : (a : ℕ) → Rule
min_rule a later held = take a (sort_by (farther later) held)

-- the best count of a trace (document 01, "What demand 3 compares"): the bundles that MIN's rule makes on it from an empty buffer
abbrev pub best_count : (k a : ℕ) → (trace : List ℕ) → ℕ
best_count k a trace = bundle_count (min_rule a) k trace

abbrev pub min_loads : (k a : ℕ) → (trace : List ℕ) → ℕ
min_loads k a trace = load_count (min_rule a) k trace
