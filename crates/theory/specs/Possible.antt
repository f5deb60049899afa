-- What a possible set is to mean (document 01, "What demand 3 compares"): pages can be put behind the trace so that the rule, on the whole,
-- holds just that set after the trace's last request; for an empty trace, at the start.
use Rattle.std.specs.Prelude.{ℕ, true, List, [], ◌≡◌}
use Rattle.lists.specs.Pages.{mem}
use Rattle.paging.specs.Policy.{Rule, holds}

-- the pages held are just those of the set, in any order
abbrev pub HoldsJust : (held set : List ℕ) → Type 0
HoldsJust held set = (q : ℕ) → mem q held ≡ mem q set

-- pages of the set alone, so pages of 32 bits where the set's are, can be put behind the trace so that just the set is held
abbrev pub CanHold : Rule → (k : ℕ) → (trace set : List ℕ) → Type 0
CanHold rule k trace set = (later : List ℕ) × ((q : ℕ) → mem q later ≡ true → mem q set ≡ true) × HoldsJust (holds rule k trace later []) set
