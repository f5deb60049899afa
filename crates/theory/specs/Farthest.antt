-- What the theorems on MIN ask of its rule: only that a bundle's pages are farthest, not how pages that are never requested again are
-- ordered among themselves.
use Rattle.std.specs.Prelude.{ℕ, ◌≤◌, true, List, ◌≡◌, length}
use Rattle.lists.specs.Pages.{mem, erase_all}
use Rattle.paging.specs.Min.{next_use}
use Rattle.paging.specs.Policy.{Rule}
use Rattle.paging.specs.Schedule.{held_in_turn}

-- where at least a pages are held, a bundle has a pages, all held, and no page that stays is next requested later than one that goes
pub record Farthest (a : ℕ) (rule : Rule) : Type 0 where
  pub size : (later held : List ℕ) → a ≤ length held → length (rule later held) ≡ a
  pub in_hand : (later held : List ℕ) → a ≤ length held → held_in_turn (rule later held) held ≡ true
  pub far : (later held : List ℕ) → a ≤ length held → (goes stays : ℕ)
      → mem goes (rule later held) ≡ true → mem stays (erase_all (rule later held) held) ≡ true
      → next_use stays later ≤ next_use goes later
