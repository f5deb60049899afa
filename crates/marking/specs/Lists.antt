-- The lent lists of cached pages (document 02, request 09): pages, and beside each its mark and its priority.
use Rattle.std.specs.Prelude.{ℕ, Bool, true, List, [], ◌∷◌, leb, ltb, take}
use Rattle.lists.specs.Choice.{◌and◌}
use Rattle.marking.specs.Marking.{Cached, cached_at}

-- the cached pages of the places; a place past the end of a shorter list has none
abbrev pub cached_of : (pages marks priorities : List ℕ) → List Cached
cached_of [] marks priorities = []
cached_of (p ∷ pages) [] priorities = []
cached_of (p ∷ pages) (m ∷ marks) [] = []
cached_of (p ∷ pages) (m ∷ marks) (n ∷ priorities) = cached_at p m n ∷ cached_of pages marks priorities

-- those of the first `count` places
abbrev pub cached_in : (count : ℕ) → (cache marks priorities : List ℕ) → List Cached
cached_in count cache marks priorities = cached_of (take count cache) (take count marks) (take count priorities)

-- each page is below the next
abbrev pub rising_behind : ℕ → List ℕ → Bool
rising_behind p [] = true
rising_behind p (q ∷ qs) = ltb p q and rising_behind q qs

abbrev pub rising : List ℕ → Bool
rising [] = true
rising (p ∷ ps) = rising_behind p ps

-- each mark is 0 or 1
abbrev pub all_marks : List ℕ → Bool
all_marks [] = true
all_marks (m ∷ ms) = leb m 1 and all_marks ms
