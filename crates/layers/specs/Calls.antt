-- A request to the layers (document 01, "Layers"): its refusals in order, its answer and both lists afterwards.
use Rattle.std.specs.Prelude.{ℕ, ◌+◌, not, List, Result, Ok, Err, eqb, ltb, length}
use Rattle.lists.specs.Choice.{pick}
use Rattle.lists.specs.Pages.{bit}
use Rattle.lists.specs.Sorting.{Row}
use Rattle.paging.specs.Layers.{LayerRule, is_append, is_join, is_lift, top_after}
use Rattle.paging.specs.Numbers.{number_of, rule_number, rule_of}
use Rattle.paging.specs.Refusals.{refuse, sizes_refusal, full_counter}
use Rattle.paging.specs.Rows.{rows_of, numbers_of, pages_of, used_rows, table_of}
use Rattle.paging.specs.Table.{rule_in, rows_after}
use Rattle.paging.specs.declared.reasons.Refusal.{Refusal}
use Rattle.layers.specs.Formed.{layers_well_formed}
use Rattle.layers.specs.declared.LayersReply.{LayersReply}
use Rattle.layers.specs.declared.LayersRun.{LayersRun}

-- the empty state
abbrev pub empty_run : (k a : ℕ) → LayersRun
empty_run k a = record { k = k; a = a; requests = 0; evictions = 0; s = 0; appends = 0; joins = 0; lifts = 0 }

-- the refusals of every call that gets a record and a table, in order: 1, 2, 8, 9, then the call's own
unfoldable pub state_refusal : LayersRun → (pages numbers : List ℕ) → ℕ → ℕ
state_refusal run pages numbers rest =
    sizes_refusal run.k run.a
    (refuse (not (eqb (length pages) (length numbers))) 8
    (refuse (not (layers_well_formed run (rows_of numbers pages))) 9
    rest))

-- the used rows after a request for p
abbrev pub rows_next : LayersRun → (p : ℕ) → List Row → List Row
rows_next run p rows = rows_after run.k run.a run.s p (used_rows rows)

-- the rule that a request for p applies
abbrev pub rule_next : LayersRun → (p : ℕ) → List Row → LayerRule
rule_next run p rows = rule_in run.k run.s p (used_rows rows)

-- the record after one more request, which led to s and adds so many to the counts of the three rules (request 02). 1b counts one bundle
abbrev pub run_counted : LayersRun → (s appends joins lifts : ℕ) → LayersRun
run_counted run s appends joins lifts = record {
  k = run.k;
  a = run.a;
  requests = run.requests + 1;
  evictions = run.evictions + joins;
  s = s;
  appends = run.appends + appends;
  joins = run.joins + joins;
  lifts = run.lifts + lifts;
}

-- what a request answers: the new record and the number of the rule that applied, or a refusal's number beside zeros
pub record LayersReplyAnswer : Type 0 where
  pub refusal : ℕ
  pub run : LayersRun
  pub answer : ℕ

-- the reply to an accepted request that applied this rule and led to s
abbrev pub reply_by : LayerRule → (s : ℕ) → LayersRun → LayersReplyAnswer
reply_by rule s run = record {
  refusal = 0;
  run = run_counted run s (bit (is_append rule)) (bit (is_join rule)) (bit (is_lift rule));
  answer = rule_number rule;
}

-- the reply to an accepted request for p
abbrev pub reply_next : LayersRun → (p : ℕ) → List Row → LayersReplyAnswer
reply_next run p rows = reply_by (rule_next run p rows) (top_after (rule_next run p rows) run.k run.a run.s) run

-- the refusals of a request: behind those of the state 12 for the counter, and 10 where the pages after the request are more than the places
unfoldable pub request_refusal : LayersRun → (pages numbers : List ℕ) → (p : ℕ) → ℕ
request_refusal run pages numbers p =
    state_refusal run pages numbers
    (refuse (eqb run.requests full_counter) 12
    (refuse (ltb (length pages) (length (rows_next run p (rows_of numbers pages)))) 10
    0))

-- a refusal is its number, and zero in every other field
abbrev pub refused : ℕ → LayersReplyAnswer
refused number = record { refusal = number; run = empty_run 0 0; answer = 0 }

unfoldable pub request_reply : LayersRun → (pages numbers : List ℕ) → (p : ℕ) → LayersReplyAnswer
request_reply run pages numbers p =
    let number = request_refusal run pages numbers p in
    pick (eqb number 0) (reply_next run p (rows_of numbers pages)) (refused number)

-- what the code's answer says
abbrev pub layers_reply_answer : Result LayersReply Refusal → LayersReplyAnswer
layers_reply_answer (Ok reply) = record { refusal = 0; run = reply.run; answer = rule_number (rule_of reply.rule) }
layers_reply_answer (Err reason) = refused (number_of reason)

-- the table after an accepted request for p
abbrev pub table_next : LayersRun → (pages numbers : List ℕ) → (p : ℕ) → List Row
table_next run pages numbers p = table_of (length pages) (rows_next run p (rows_of numbers pages))

-- both lists after a request; a refusal leaves them as they are
unfoldable pub pages_next : LayersRun → (pages numbers : List ℕ) → (p : ℕ) → List ℕ
pages_next run pages numbers p =
    pick (eqb (request_refusal run pages numbers p) 0) (pages_of (table_next run pages numbers p)) pages

unfoldable pub numbers_next : LayersRun → (pages numbers : List ℕ) → (p : ℕ) → List ℕ
numbers_next run pages numbers p =
    pick (eqb (request_refusal run pages numbers p) 0) (numbers_of (table_next run pages numbers p)) numbers
