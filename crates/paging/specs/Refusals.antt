-- Refusals (document 01, "Who can cause a refusal"): a call judges a list of conditions in order, and answers the number of the
-- first that holds; 0 stands for "no refusal". The limits are those of document 01, "Sizes".
use Rattle.std.specs.Prelude.{ℕ, ◌≤◌, Bool, List, eqb, ltb, length}
use Rattle.lists.specs.Choice.{pick, ◌or◌}

-- the largest k
abbrev pub largest_k : ℕ
largest_k = 256

-- the most requests of a trace that is handed to a call or to the judge
abbrev pub longest_trace : ℕ
longest_trace = 65536

-- a counter of 32 bits that is full: a further request is refused with 12
abbrev pub full_counter : ℕ
full_counter = 4294967295

-- one condition of such a list with its number, then the rest of the list
abbrev pub refuse : Bool → ℕ → ℕ → ℕ
refuse test number rest = pick test number rest

-- refusals 1 and 2, judged first by every call that has a k and an a
unfoldable pub sizes_refusal : ℕ → ℕ → ℕ → ℕ
sizes_refusal k a rest = refuse (eqb k 0 or ltb largest_k k) 1 (refuse (eqb a 0 or ltb k a) 2 rest)

-- and 3, judged behind them by every call over a lent trace
unfoldable pub trace_refusal : (k a : ℕ) → (trace : List ℕ) → ℕ → ℕ
trace_refusal k a trace rest = sizes_refusal k a (refuse (ltb longest_trace (length trace)) 3 rest)

-- sizes that are not refused: k is 1 to 256, a is 1 to k
pub record SizesRight (k a : ℕ) : Type 0 where
  pub a_low : 1 ≤ a
  pub a_high : a ≤ k
  pub k_high : k ≤ largest_k
