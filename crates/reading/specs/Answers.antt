-- For each type that a reader answers with: document 01's number and values of each of its cases.
use Rattle.std.specs.Prelude.{Result, Ok, Err}
use Rattle.paging.specs.Numbers.{number_of}
use Rattle.paging.specs.declared.Sizes.{Sizes}
use Rattle.paging.specs.declared.reasons.Refusal.{Refusal}
use Rattle.reading.specs.Reading.{Answer, refused, ended, sizes, request, bundle, fetch}
use Rattle.reading.specs.declared.ScheduleRecord.{ScheduleRecord}
use Rattle.reading.specs.declared.ScheduleRecord.TheVariants as schedule
use Rattle.reading.specs.declared.TraceRecord.{TraceRecord}
use Rattle.reading.specs.declared.TraceRecord.TheVariants as trace

abbrev pub start_answer : Result Sizes Refusal → Answer
start_answer (Ok found) = sizes found.k found.a 6
start_answer (Err reason) = refused (number_of reason)

abbrev pub trace_answer : Result TraceRecord Refusal → Answer
trace_answer (Ok (trace.Sizes k a next)) = sizes k a next
trace_answer (Ok (trace.Request page times next)) = request page times next
trace_answer (Ok trace.End) = ended
trace_answer (Err reason) = refused (number_of reason)

abbrev pub schedule_answer : Result ScheduleRecord Refusal → Answer
schedule_answer (Ok (schedule.Sizes k a next)) = sizes k a next
schedule_answer (Ok (schedule.Bundle t n from next)) = bundle t n from next
schedule_answer (Ok (schedule.Fetch t page next)) = fetch t page next
schedule_answer (Ok schedule.End) = ended
schedule_answer (Err reason) = refused (number_of reason)
