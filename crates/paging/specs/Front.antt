-- The rule of a policy that evicts from the front of its list: least recent use (document 01, "LRU"; source document 000), where the list runs
-- from the least to the most recently requested page, and oldest load first (document 02, request 01), where it runs from the oldest load to the
-- newest.
use Rattle.std.specs.Prelude.{ℕ, take}
use Rattle.paging.specs.Policy.{Rule}

-- the first a pages go, the first of them first
abbrev pub front_rule : (a : ℕ) → Rule
front_rule a later held = take a held

-- by name for LRU: the a least recent pages go, least recent first
abbrev pub lru_rule : (a : ℕ) → Rule
lru_rule = front_rule
