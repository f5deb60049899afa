-- The fields of each answer that is a record, in the order in which a caller receives them: the refusal's number first, 0 for none.
use Rattle.std.specs.Prelude.{ℕ, List, [], ◌∷◌}
use Rattle.traces.specs.Calls.{TraceCountAnswer}
use Rattle.editions.specs.Calls.{ConvertedAnswer}
use Rattle.paging.specs.Numbers.{TotalsAnswer}
use Rattle.queue.specs.Answers.{ReplyAnswer}
use Rattle.min.specs.Answers.{ScheduledAnswer}
use Rattle.layers.specs.Calls.{LayersReplyAnswer}
use Rattle.layers.specs.Questions.{RevealedAnswer}
use Rattle.layers.specs.Traces.{LayersTotalsAnswer}
use Rattle.mark.specs.Calls.{MarkReplyAnswer}

abbrev pub queue_reply_fields : ReplyAnswer → List ℕ
queue_reply_fields r =
    r.refusal ∷ r.run.k ∷ r.run.a ∷ r.run.requests ∷ r.run.loads ∷ r.run.evictions ∷ r.count ∷ r.answer ∷ []

abbrev pub queue_totals_fields : TotalsAnswer → List ℕ
queue_totals_fields r = r.refusal ∷ r.bundles ∷ r.loads ∷ []

abbrev pub trace_count_fields : TraceCountAnswer → List ℕ
trace_count_fields r = r.refusal ∷ r.k ∷ r.a ∷ r.requests ∷ []

abbrev pub converted_fields : ConvertedAnswer → List ℕ
converted_fields r = r.refusal ∷ r.length ∷ []

abbrev pub counts_fields : TotalsAnswer → List ℕ
counts_fields r = r.refusal ∷ r.bundles ∷ r.loads ∷ []

abbrev pub scheduled_fields : ScheduledAnswer → List ℕ
scheduled_fields r = r.refusal ∷ r.bundles ∷ r.loads ∷ r.length ∷ []

abbrev pub layers_reply_fields : LayersReplyAnswer → List ℕ
layers_reply_fields r =
    r.refusal ∷ r.run.k ∷ r.run.a ∷ r.run.requests ∷ r.run.evictions ∷ r.run.s
    ∷ r.run.appends ∷ r.run.joins ∷ r.run.lifts ∷ r.answer ∷ []

abbrev pub revealed_fields : RevealedAnswer → List ℕ
revealed_fields r = r.refusal ∷ r.count ∷ []

abbrev pub layers_totals_fields : LayersTotalsAnswer → List ℕ
layers_totals_fields r = r.refusal ∷ r.bundles ∷ r.s ∷ r.revealed ∷ []

-- the record of marking, then the layers' record in it
abbrev pub mark_reply_fields : MarkReplyAnswer → List ℕ
mark_reply_fields r =
    r.refusal ∷ r.run.k ∷ r.run.a ∷ r.run.requests ∷ r.run.loads ∷ r.run.evictions ∷ r.run.t
    ∷ r.run.layers.k ∷ r.run.layers.a ∷ r.run.layers.requests ∷ r.run.layers.evictions ∷ r.run.layers.s
    ∷ r.run.layers.appends ∷ r.run.layers.joins ∷ r.run.layers.lifts ∷ r.count ∷ r.answer ∷ []

abbrev pub mark_totals_fields : TotalsAnswer → List ℕ
mark_totals_fields r = r.refusal ∷ r.bundles ∷ r.loads ∷ []
