-- What the inner functions of src/lib.rt do to the rows: the definitions of the model, in the steps in which the code takes them.
use Rattle.std.specs.Prelude.{ℕ, ◌-◌, ◌≤◌, min, List, [], ◌∷◌, ◌++◌, map, Result, Ok, Err, is_err, IfOk, ◌≡◌, eqb, ltb, length}
use Rattle.paging.specs.Numbers.{rule_of}
use Rattle.lists.specs.Choice.{pick}
use Rattle.lists.specs.Pages.{filter}
use Rattle.lists.specs.Sorting.{Row, sort_rows}
use Rattle.paging.specs.Layers.{LayerRule, append, join, lift, top_after}
use Rattle.paging.specs.Refusals.{SizesRight}
use Rattle.paging.specs.Rows.{row_at, table_of}
use Rattle.paging.specs.Table.{above_zero, rule_in, rows_after}
use Rattle.paging.specs.declared.applied.RuleApplied.{RuleApplied}
use Rattle.table.specs.declared.Change.{Change}
use Rattle.table.specs.declared.Stepped.{Stepped}

-- sizes that were judged, and an s that they allow
pub record Sound (k a s : ℕ) : Type 0 where
  pub sizes : SizesRight k a
  pub s_high : s ≤ k

-- what each rule does to numbers, of which none is above 4,294,967,295
abbrev pub floor_for : LayerRule → (k a : ℕ) → ℕ
floor_for append k a = 4294967295
floor_for join k a = k - a
floor_for lift k a = 4294967295

abbrev pub above_for : LayerRule → (i : ℕ) → ℕ
above_for append i = 4294967295
above_for join i = 4294967295
above_for lift i = i - 1

abbrev pub change_for : LayerRule → (k a i p : ℕ) → Change
change_for rule k a i p = record { floor = floor_for rule k a; above = above_for rule i; page = p }

-- a number after a change
abbrev pub changed : Change → ℕ → ℕ
changed change n =
    let low = min n change.floor in
    pick (ltb change.above low) (low - 1) low

-- the numbers that become 0
pub record LostUpTo (change : Change) (most : ℕ) : Type 0 where
  pub told : (n : ℕ) → n ≤ 4294967295 → ltb most n ≡ ltb 0 (changed change n)

-- a row's number after a request; the requested page's rows go
abbrev pub number_after : Change → (number page : ℕ) → ℕ
number_after change number page = pick (eqb page change.page) 0 (changed change number)

abbrev pub row_moved : Change → Row → Row
row_moved change row = record { number = number_after change row.number row.page; page = row.page }

-- the rows that stay, renumbered, in their order
abbrev pub moved : Change → List Row → List Row
moved change rows = filter above_zero (map (row_moved change) rows)

-- the rows after the request: those that stay in order, and the requested page last
abbrev pub served : Change → (top : ℕ) → List Row → List Row
served change top rows = sort_rows (moved change rows) ++ (row_at top change.page ∷ [])

-- the rule in a step's answer: where the table has too few places, the one that would apply
abbrev pub rule_applied : Result Stepped RuleApplied → RuleApplied
rule_applied (Ok t) = t.rule
rule_applied (Err rule) = rule

-- what a step that was done answers
pub record DoneBy (k a s p : ℕ) (before : List Row) (t : Stepped) : Type 0 where
  pub rule_told : rule_of t.rule ≡ rule_in k s p before
  pub top_told : t.s ≡ top_after (rule_in k s p before) k a s
  pub used_told : t.used ≡ length (rows_after k a s p before)

-- what a step answers, and the rows that it leaves. A table with too few places is left as it was
pub record SteppedTo (k a s p places : ℕ) (before after : List Row) (r : Result Stepped RuleApplied) : Type 0 where
  pub full_told : is_err r ≡ ltb places (length (rows_after k a s p before))
  pub rule_told : rule_of (rule_applied r) ≡ rule_in k s p before
  pub rows_told : after ≡ pick (is_err r) before (table_of places (rows_after k a s p before))
  pub done_told : IfOk r (λ t. DoneBy k a s p before t)
