-- Tests for tables of worked examples: the same pages, the same entries, every row right.
use Rattle.std.specs.Prelude.{ℕ, Bool, true, false, List, [], ◌∷◌, eqb}
use Rattle.lists.specs.Choice.{◌and◌}
use Rattle.paging.specs.Schedule.{Entry, ev, pf}

unfoldable pub same_pages : List ℕ → List ℕ → Bool
same_pages [] [] = true
same_pages [] (q ∷ qs) = false
same_pages (p ∷ ps) [] = false
same_pages (p ∷ ps) (q ∷ qs) = eqb p q and same_pages ps qs

unfoldable pub same_entries : List Entry → List Entry → Bool
same_entries [] [] = true
same_entries [] (e ∷ es) = false
same_entries (e ∷ es) [] = false
same_entries (ev t ps ∷ es) (ev u qs ∷ fs) = eqb t u and same_pages ps qs and same_entries es fs
same_entries (ev t ps ∷ es) (pf u q ∷ fs) = false
same_entries (pf t p ∷ es) (ev u qs ∷ fs) = false
same_entries (pf t p ∷ es) (pf u q ∷ fs) = eqb t u and eqb p q and same_entries es fs

unfoldable pub every : List Bool → Bool
every [] = true
every (b ∷ bs) = b and every bs

-- the eight-request shift of document 01, with k 3 and a 2
abbrev pub shift : List ℕ
shift = 1 ∷ 2 ∷ 3 ∷ 4 ∷ 2 ∷ 5 ∷ 6 ∷ 1 ∷ []
