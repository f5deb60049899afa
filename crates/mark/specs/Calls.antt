-- One request of marking with RDM (document 02, request 09), for any record, count and lists: its refusals, and what it answers and leaves. A refusal is its
-- number with zeros elsewhere, and changes nothing.
use Rattle.std.specs.Prelude.{ℕ, ◌+◌, Bool, not, Result, Ok, Err, ◌≡◌, eqb, ltb, length}
use Rattle.lists.specs.Choice.{pick, ◌or◌}
use Rattle.lists.specs.Pages.{bit}
use Rattle.paging.specs.Numbers.{number_of, kind_of_outcome}
use Rattle.paging.specs.Policy.{kind_number, is_bundled, is_load}
use Rattle.paging.specs.Refusals.{full_counter, refuse, sizes_refusal}
use Rattle.paging.specs.Table.{rule_in}
use Rattle.paging.specs.declared.reasons.Refusal.{Refusal}
use Rattle.layers.specs.Calls as layers_calls
use Rattle.layers.specs.declared.LayersRun.{LayersRun}
use Rattle.marking.specs.Marking.{mark_kind}
use Rattle.marking.specs.Rdm.{Marking, marking_next}
use Rattle.mark.specs.Formed.{mark_well_formed}
use Rattle.mark.specs.Lent.{Lent, held_in, lent_served}
use Rattle.mark.specs.declared.MarkReply.{MarkReply}
use Rattle.mark.specs.declared.MarkRun.{MarkRun}

-- the empty start of a run
abbrev pub empty_run : (k a : ℕ) → MarkRun
empty_run k a = record { k = k; a = a; requests = 0; loads = 0; evictions = 0; t = 0; layers = layers_calls.empty_run k a }

-- what the record, the count and the lists hold
abbrev pub holding : MarkRun → (count : ℕ) → Lent → Marking
holding run count x = held_in run.layers.s run.layers.evictions run.t count x

-- what is there after a request for p
abbrev pub held : MarkRun → (count : ℕ) → Lent → (p : ℕ) → Marking
held run count x p = marking_next run.k run.a p (holding run count x)

-- "lists too short or unequal are 8": the lists of cached pages are of one length and have k places, the evicted list has a, and the three lists of the
-- layer table are of one length
unfoldable pub lists_refused : (k a : ℕ) → Lent → Bool
lists_refused k a x =
    ltb (length x.cache) k
    or not (eqb (length x.marks) (length x.cache))
    or not (eqb (length x.priorities) (length x.cache))
    or ltb (length x.evicted) a
    or not (eqb (length x.numbers) (length x.pages))
    or not (eqb (length x.times) (length x.pages))

-- the refusals of the state, in order: 1, 2, 8, 9, 12, then the rest
unfoldable pub state_refusal : MarkRun → (count : ℕ) → Lent → (rest : ℕ) → ℕ
state_refusal run count x rest =
    sizes_refusal run.k run.a
    (refuse (lists_refused run.k run.a x) 8
    (refuse (not (mark_well_formed run count x)) 9
    (refuse (eqb run.requests full_counter) 12
    rest)))

-- and 10 where the layers after the request have more pages than the table has places
unfoldable pub request_refusal : MarkRun → (count : ℕ) → Lent → (p : ℕ) → ℕ
request_refusal run count x p =
    state_refusal run count x (refuse (ltb (length x.pages) (length (held run count x p).clock.layers.rows)) 10 0)

-- the layers' record after a request for p, as a request to the layers leaves it
abbrev pub layers_served : LayersRun → (p : ℕ) → Marking → LayersRun
layers_served run p m =
    let rule = rule_in run.k run.s p m.clock.layers.rows in
    (layers_calls.reply_by rule (marking_next run.k run.a p m).clock.layers.s run).run

-- the record after an accepted request for p: one more request, with the load and the bundle that it made
abbrev pub run_served : MarkRun → (p : ℕ) → Marking → MarkRun
run_served run p m =
    let kind = mark_kind run.k p m.cached in
    record {
      k = run.k;
      a = run.a;
      requests = run.requests + 1;
      loads = run.loads + bit (is_load kind);
      evictions = run.evictions + bit (is_bundled kind);
      t = (marking_next run.k run.a p m).clock.t;
      layers = layers_served run.layers p m;
    }

-- what a request answers by number: a refusal, or the new record and count with 0 for a hit, 1 for a load and 2 for a load after a bundle, as for LRU
pub record MarkReplyAnswer : Type 0 where
  pub refusal : ℕ
  pub run : MarkRun
  pub count : ℕ
  pub answer : ℕ

abbrev pub reply_served : MarkRun → (count : ℕ) → Lent → (p : ℕ) → MarkReplyAnswer
reply_served run count x p =
    record {
      refusal = 0;
      run = run_served run p (holding run count x);
      count = length (held run count x p).cached;
      answer = kind_number (mark_kind run.k p (holding run count x).cached);
    }

abbrev pub refused : (number : ℕ) → MarkReplyAnswer
refused number = record { refusal = number; run = empty_run 0 0; count = 0; answer = 0 }

-- What the call answers, and the lists after it

unfoldable pub reply_of : MarkRun → (count : ℕ) → Lent → (p : ℕ) → MarkReplyAnswer
reply_of run count x p =
    pick (eqb (request_refusal run count x p) 0) (reply_served run count x p) (refused (request_refusal run count x p))

unfoldable pub lent_after : MarkRun → (count : ℕ) → Lent → (p : ℕ) → Lent
lent_after run count x p =
    pick (eqb (request_refusal run count x p) 0) (lent_served run.k run.a p (holding run count x) x) x

-- what the code's answer says
abbrev pub mark_reply_answer : Result MarkReply Refusal → MarkReplyAnswer
mark_reply_answer (Ok reply) = record { refusal = 0; run = reply.run; count = reply.count; answer = kind_number (kind_of_outcome reply.outcome) }
mark_reply_answer (Err reason) = refused (number_of reason)

-- the promise of a request: its answer, and the seven lists as it leaves them
abbrev pub Answered : MarkRun → (count : ℕ) → Lent → (p : ℕ) → Result MarkReply Refusal → Lent → Type 0
Answered run count x p reply left = (mark_reply_answer reply ≡ reply_of run count x p) × (left ≡ lent_after run count x p)
