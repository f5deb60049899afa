-- One request on the layers' table with t0 of each page in a third list beside it, on a table in order.
use Rattle.std.specs.Prelude.{ℕ, ◌-◌, true, List, ◌++◌, Result, is_err, ◌≡◌, length, take, drop, replicate}
use Rattle.lists.specs.Choice.{pick}
use Rattle.lists.specs.Pages.{distinct}
use Rattle.lists.specs.Places.{place}
use Rattle.marking.specs.Rdm.{times_after}
use Rattle.paging.specs.Rows.{rows_of}
use Rattle.paging.specs.Table.{rows_after}
use Rattle.paging.specs.declared.applied.RuleApplied.{RuleApplied}
use Rattle.table.specs.Filling.{TableFilled}
use Rattle.table.specs.Serving.{Sound, SteppedTo}
use Rattle.table.specs.declared.Stepped.{Stepped}
use Rattle.timed.specs.declared.Asked.{Asked}

-- a table in order with a time for each place, 0 behind the used ones; no page has two rows, and p has the row `at`, or none and `at` is `used`
pub record TimedReady (k a s p at used : ℕ) (numbers pages times : List ℕ) : Type 0 where
  pub sound : Sound k a s
  pub filled : TableFilled used numbers pages
  pub beside : length times ≡ length pages
  pub once : distinct (take used pages) ≡ true
  pub found : at ≡ place p (take used pages)
  pub blank : drop used times ≡ replicate (length pages - used) 0

-- the table is as after any step, and beside each of its pages stands its t0; a table with too few places is left as it was
pub record TimedTo (k a s p t used : ℕ) (numbers pages times numbers' pages' times' : List ℕ) (r : Result Stepped RuleApplied) : Type 0 where
  pub table : SteppedTo k a s p (length pages) (rows_of numbers pages) (rows_of numbers' pages') r
  pub times_told : times' ≡ pick (is_err r) times
      (times_after t p (take used (rows_of numbers pages)) (rows_after k a s p (rows_of numbers pages)) times
      ++ replicate (length pages - length (rows_after k a s p (rows_of numbers pages))) 0)
  pub pages_length : length pages' ≡ length pages
  pub numbers_length : length numbers' ≡ length pages

-- both for a request as the code is handed it
abbrev pub ReadyFor : Asked → (numbers pages times : List ℕ) → Type 0
ReadyFor asked numbers pages times = TimedReady asked.k asked.a asked.s asked.page asked.at asked.used numbers pages times

abbrev pub ServedAs : Asked → (numbers pages times numbers' pages' times' : List ℕ) → Result Stepped RuleApplied → Type 0
ServedAs asked numbers pages times numbers' pages' times' r =
    TimedTo asked.k asked.a asked.s asked.page asked.time asked.used numbers pages times numbers' pages' times' r
