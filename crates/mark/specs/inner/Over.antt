-- What the function that serves a whole trace promises.
use Rattle.std.specs.Prelude.{ℕ, ◌≤◌, List, Option, is_none, IfSome, ◌≡◌, length, replicate}
use Rattle.paging.specs.Refusals.{SizesRight, longest_trace}
use Rattle.paging.specs.Table.{nothing_yet}
use Rattle.layers.specs.Traces.{overflows}
use Rattle.marking.specs.Marking.{mark_bundles, mark_loads}
use Rattle.marking.specs.Rdm.{rdm}
use Rattle.mark.specs.Traces.{Table, table_after}
use Rattle.paging.specs.declared.outcomes.Totals.{Totals}

-- sizes and a trace that are not refused, and a table that is all unused
pub record TraceReady (k a : ℕ) (trace : List ℕ) (x : Table) : Type 0 where
  pub sizes : SizesRight k a
  pub short : length trace ≤ longest_trace
  pub blank_pages : x.pages ≡ replicate (length x.pages) 0
  pub blank_numbers : x.numbers ≡ replicate (length x.pages) 0
  pub blank_times : x.times ≡ replicate (length x.pages) 0

-- where the table has room for all requests: what it holds then, and what the requests came to
pub record AllServed (k a : ℕ) (trace : List ℕ) (x left : Table) (totals : Totals) : Type 0 where
  pub table_told : left ≡ table_after k a trace (length x.pages)
  pub bundles_told : totals.bundles ≡ mark_bundles (rdm k a) k a trace
  pub loads_told : totals.loads ≡ mark_loads (rdm k a) k a trace

pub record ServedOver (k a : ℕ) (trace : List ℕ) (x left : Table) (r : Option Totals) : Type 0 where
  pub full_told : is_none r ≡ overflows k a (length x.pages) trace nothing_yet
  pub done_told : IfSome r (λ totals. AllServed k a trace x left totals)
