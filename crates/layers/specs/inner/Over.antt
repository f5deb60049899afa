-- What the inner functions of src/trace.rt promise: the table after requests served one after the other.
use Rattle.std.specs.Prelude.{ℕ, List, Option, is_none, IfSome, ◌≡◌}
use Rattle.lists.specs.Sorting.{Row}
use Rattle.paging.specs.Rows.{table_of}
use Rattle.paging.specs.Table.{nothing_yet, tabled_after}
use Rattle.layers.specs.Traces.{overflows}
use Rattle.layers.specs.declared.trace.Served.{Served}

-- the rows, s and bundles after a trace
pub record AllServed (k a : ℕ) (trace : List ℕ) (places : ℕ) (after : List Row) (t : Served) : Type 0 where
  pub rows_told : after ≡ table_of places (tabled_after k a trace nothing_yet).rows
  pub s_told : t.s ≡ (tabled_after k a trace nothing_yet).s
  pub joins_told : t.joins ≡ (tabled_after k a trace nothing_yet).joins

-- that, or None where the table was too small on the way
pub record ServedTo (k a : ℕ) (trace : List ℕ) (places : ℕ) (after : List Row) (r : Option Served) : Type 0 where
  pub full_told : is_none r ≡ overflows k a places trace nothing_yet
  pub served_told : IfSome r (λ t. AllServed k a trace places after t)
