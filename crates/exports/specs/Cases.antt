-- The fields of each answer that is an enum: the number of its case first, 0 for a refusal, then what the case holds, then zeros. A writer's
-- answer starts with the refusal's number instead, 0 for none, as an answer that is a record does.
use Rattle.std.specs.Prelude.{ℕ, List, [], ◌∷◌, Result}
use Rattle.reading.specs.Reading.{Answer, refused, ended, sizes, request, bundle, fetch}
use Rattle.records.specs.Answers.{written_answer}
use Rattle.records.specs.Writing as writing
use Rattle.reading.specs.Answers.{start_answer, trace_answer, schedule_answer}
use Rattle.paging.specs.declared.Sizes.{Sizes}
use Rattle.paging.specs.declared.reasons.Refusal.{Refusal}
use Rattle.reading.specs.declared.TraceRecord.{TraceRecord}
use Rattle.reading.specs.declared.ScheduleRecord.{ScheduleRecord}
use Rattle.layers.specs.Questions.{Verdict, refused_with, possible_set, count_differs, broken_at, verdict_of}
use Rattle.layers.specs.declared.PossibleAnswer.{PossibleAnswer}

-- what stands at an offset of a file
abbrev pub answer_fields : Answer → List ℕ
answer_fields (refused number) = 0 ∷ number ∷ 0 ∷ 0 ∷ 0 ∷ []
answer_fields ended = 1 ∷ 0 ∷ 0 ∷ 0 ∷ 0 ∷ []
answer_fields (sizes k a next) = 2 ∷ k ∷ a ∷ next ∷ 0 ∷ []
answer_fields (request page times next) = 3 ∷ page ∷ times ∷ next ∷ 0 ∷ []
answer_fields (bundle t n from next) = 4 ∷ t ∷ n ∷ from ∷ next ∷ []
answer_fields (fetch t page next) = 5 ∷ t ∷ page ∷ next ∷ 0 ∷ []

abbrev pub start_fields : Result Sizes Refusal → List ℕ
start_fields r = answer_fields (start_answer r)

abbrev pub trace_fields : Result TraceRecord Refusal → List ℕ
trace_fields r = answer_fields (trace_answer r)

abbrev pub schedule_fields : Result ScheduleRecord Refusal → List ℕ
schedule_fields r = answer_fields (schedule_answer r)

-- what a writer answers is as short as a record: the refusal's number, 0 for none, and the offset behind the record
abbrev pub wrote_fields : writing.Wrote → List ℕ
wrote_fields (writing.stored next) = 0 ∷ next ∷ []
wrote_fields (writing.refused number) = number ∷ 0 ∷ []

abbrev pub written_fields : Result ℕ Refusal → List ℕ
written_fields r = wrote_fields (written_answer r)

-- whether a set is possible
abbrev pub verdict_fields : Verdict → List ℕ
verdict_fields (refused_with number) = 0 ∷ number ∷ []
verdict_fields possible_set = 1 ∷ 0 ∷ []
verdict_fields count_differs = 2 ∷ 0 ∷ []
verdict_fields (broken_at layer) = 3 ∷ layer ∷ []

abbrev pub possible_fields : Result PossibleAnswer Refusal → List ℕ
possible_fields r = verdict_fields (verdict_of r)
