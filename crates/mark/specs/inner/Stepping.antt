-- What a request asks of a state that was judged, or that a trace has led to, and what it then does.
use Rattle.std.specs.Prelude.{ℕ, ◌+◌, ◌-◌, ◌≤◌, ◌<◌, List, Option, is_none, IfSome, ◌≡◌, ltb, length, take, drop, get_or, replicate}
use Rattle.lists.specs.Choice.{pick}
use Rattle.lists.specs.Pages.{bit}
use Rattle.lists.specs.Sorting.{Row}
use Rattle.paging.specs.Numbers.{kind_of_outcome, rule_of}
use Rattle.paging.specs.Policy.{is_bundled, is_load}
use Rattle.paging.specs.Refusals.{full_counter}
use Rattle.paging.specs.Rows.{rows_of, numbers_of, pages_of, used_rows, table_of}
use Rattle.paging.specs.Table.{rule_in, revealed}
use Rattle.paging.proofs.Forming.{FormedRows}
use Rattle.table.specs.Serving.{Sound}
use Rattle.layers.specs.Calls as layers_calls
use Rattle.layers.specs.inner.Counting.{CountersFit}
use Rattle.marking.specs.Marking.{mark_kind}
use Rattle.marking.specs.Rdm.{Clock, clock_next, priority_next, Marking, marking_next}
use Rattle.marked.specs.Buffer.{BufferReady}
use Rattle.mark.specs.Lent.{Lent, rows_in, held_in, times_of, lent_served}
use Rattle.mark.specs.Traces.{Table, table_with}
use Rattle.mark.specs.declared.MarkReply.{MarkReply}
use Rattle.mark.specs.declared.MarkRun.{MarkRun}
use Rattle.mark.specs.declared.serving.Advanced.{Advanced}
use Rattle.mark.specs.declared.serving.Point.{Point}
use Rattle.mark.specs.declared.serving.Stepped.{Stepped}
use Rattle.mark.specs.declared.serving.TablePoint.{TablePoint}

-- The layer table

-- the used rows
abbrev pub rows_used : Table → List Row
rows_used x = used_rows (rows_of x.numbers x.pages)

pub record TableReady (k a : ℕ) (at : TablePoint) (x : Table) : Type 0 where
  pub sound : Sound k a at.s
  pub formed : FormedRows k a at.s (rows_used x)
  pub shape : rows_of x.numbers x.pages ≡ table_of (length x.pages) (rows_used x)
  pub counted : at.used ≡ length (rows_used x)
  pub fits : at.used ≤ length x.pages
  pub even : length x.pages ≡ length x.numbers
  pub beside : length x.times ≡ length x.pages
  pub blank : drop at.used x.times ≡ replicate (length x.pages - at.used) 0
  pub times_low : (i : ℕ) → get_or x.times i 0 ≤ at.t
  pub shown : at.revealed ≡ revealed at.s (rows_used x)
  pub further : at.t < full_counter

-- what it holds. The layers' bundles are counted elsewhere, and nothing looks at them here
abbrev pub clock_at : TablePoint → Table → Clock
clock_at at x =
    record {
      layers = record { rows = rows_used x; s = at.s; joins = 0 };
      t = at.t;
      times = take (length (rows_used x)) x.times;
    }

-- what stands beside it after a request for p
abbrev pub table_point_after : (k a p : ℕ) → TablePoint → Table → TablePoint
table_point_after k a p at x =
    let c = clock_next k a p (clock_at at x) in
    record {
      s = c.layers.s;
      t = c.t;
      revealed = revealed c.layers.s c.layers.rows;
      used = length c.layers.rows;
    }

-- the table then, where it has room
abbrev pub table_served : (k a p : ℕ) → TablePoint → Table → Table
table_served k a p at x =
    let c = clock_next k a p (clock_at at x) in
    let rows = c.layers.rows in
    let places = length x.pages in
    table_with (pages_of (table_of places rows)) (numbers_of (table_of places rows)) (times_of places rows c.times)

-- where it has room: what the request did
pub record AdvancedBy (k a p : ℕ) (at : TablePoint) (x : Table) (moved : Advanced) : Type 0 where
  pub rule_told : rule_of moved.rule ≡ rule_in k at.s p (rows_used x)
  pub point_told : moved.after ≡ table_point_after k a p at x
  pub priority_told : moved.priority ≡ priority_next p (clock_at at x)

pub record AdvancedTo (k a p : ℕ) (at : TablePoint) (x left : Table) (r : Option Advanced) : Type 0 where
  pub full_told : is_none r ≡ ltb (length x.pages) (length (clock_next k a p (clock_at at x)).layers.rows)
  pub table_told : left ≡ pick (is_none r) x (table_served k a p at x)
  pub done_told : IfSome r (λ moved. AdvancedBy k a p at x moved)

-- All seven lists

abbrev pub table_in : Lent → Table
table_in x = table_with x.pages x.numbers x.times

pub record StepReady (k a : ℕ) (at : Point) (x : Lent) : Type 0 where
  pub buffer : BufferReady k a at.count x.cache x.marks x.priorities x.evicted
  pub table : TableReady k a at.table (table_in x)

-- what the lists hold
abbrev pub held_at : Point → Lent → Marking
held_at at x = held_in at.table.s 0 at.table.t at.count x

-- the state after a request for p
abbrev pub point_after : (k a p : ℕ) → Point → Lent → Point
point_after k a p at x =
    let m = marking_next k a p (held_at at x) in
    record {
      table = record {
        s = m.clock.layers.s;
        t = m.clock.t;
        revealed = revealed m.clock.layers.s m.clock.layers.rows;
        used = length m.clock.layers.rows;
      };
      count = length m.cached;
    }

-- where the table has room: what the request did
pub record SteppedBy (k a p : ℕ) (at : Point) (x : Lent) (t : Stepped) : Type 0 where
  pub rule_told : rule_of t.rule ≡ rule_in k at.table.s p (rows_in x)
  pub point_told : t.after ≡ point_after k a p at x
  pub outcome_told : kind_of_outcome t.outcome ≡ mark_kind k p (held_at at x).cached

pub record SteppedTo (k a p : ℕ) (at : Point) (x left : Lent) (r : Option Stepped) : Type 0 where
  pub full_told : is_none r ≡ ltb (length x.pages) (length (marking_next k a p (held_at at x)).clock.layers.rows)
  pub lists_told : left ≡ pick (is_none r) x (lent_served k a p (held_at at x) x)
  pub done_told : IfSome r (λ t. SteppedBy k a p at x t)

-- the counters of a record can rise by one
pub record AnswerReady (run : MarkRun) : Type 0 where
  pub more : run.requests < full_counter
  pub loads_low : run.loads ≤ run.requests
  pub evictions_low : run.evictions ≤ run.loads
  pub layers : CountersFit run.layers

-- what a request that was served answers
abbrev pub answered_by : MarkRun → Stepped → MarkReply
answered_by run r =
    record {
      run = record {
        k = run.k;
        a = run.a;
        requests = run.requests + 1;
        loads = run.loads + bit (is_load (kind_of_outcome r.outcome));
        evictions = run.evictions + bit (is_bundled (kind_of_outcome r.outcome));
        t = r.after.table.t;
        layers = (layers_calls.reply_by (rule_of r.rule) r.after.table.s run.layers).run;
      };
      count = r.after.count;
      outcome = r.outcome;
    }
