-- Chains of a list's places. A link is one more than a place, and 0 ends a chain; `before` has for each place the link to the place before it.
use Rattle.std.specs.Prelude.{ℕ, zero, suc, ◌≤◌, ◌<◌, Bool, false, List, ◌≡◌, eqb, length, get_or}
use Rattle.lists.specs.Choice.{◌or◌}

-- whether the page is among the next so many of the chain from a link on
abbrev pub chain_has : (steps : ℕ) → (pages before : List ℕ) → (link page : ℕ) → Bool
chain_has zero pages before link page = false
chain_has (suc n) pages before zero page = false
chain_has (suc n) pages before (suc j) page = eqb page (get_or pages j 0) or chain_has n pages before (get_or before j 0) page

-- whether the page is in the chain from a link on: links fall, so that a chain has no more places than its link says
unfoldable pub in_chain : (pages before : List ℕ) → (link page : ℕ) → Bool
in_chain pages before link page = chain_has link pages before link page

-- every link of a place below n falls
pub record Linked (n : ℕ) (pages before : List ℕ) : Type 0 where
  pub within : n ≤ length pages
  pub linked : n ≤ length before
  pub falls : (j : ℕ) → j < n → get_or before j 0 ≤ j

-- tables that fit the list, with no chain in them
pub record Unlinked (mask : ℕ) (pages heads before : List ℕ) : Type 0 where
  pub slots : mask < length heads
  pub places : length pages ≤ length before
  pub limit : length pages ≤ 65536
  pub none : (c : ℕ) → get_or heads c 0 ≡ 0
