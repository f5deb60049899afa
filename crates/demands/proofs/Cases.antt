-- Every row of the two tables of cases is right.
use mathlib.Core.Bool.{true}
use mathlib.Core.List.{◌++◌}
use mathlib.Core.Path.{◌≡◌, refl}
use Rattle.lists.specs.Choice.{◌and◌, ◌or◌}
use Rattle.lists.specs.Sorting.{row_before}
use Rattle.paging.specs.Min.{farther}
use Rattle.paging.specs.Refusals.{sizes_refusal, trace_refusal}
use Rattle.paging.specs.Same.{same_pages, same_entries}
use Rattle.records.specs.Marks.{mark_of, mark_at}
use Rattle.reading.specs.Files.{requests_from}
use Rattle.reading.specs.Reading.{ka_read, rq_read, rr_read, request_read, read_trace}
use Rattle.traces.specs.Traces.{trace_file}
use Rattle.queue.specs.Calls.{run_refusal, well_formed}
use Rattle.layers.specs.Calls.{state_refusal, request_refusal, request_reply, pages_next, numbers_next}
use Rattle.layers.specs.Formed.{is_unused, follows, table_formed, counts_formed, layers_well_formed}
use Rattle.layers.specs.Questions.{verdict, possible_refusal}
use Rattle.layers.specs.Traces.{early_refusal, trace_totals}
use Rattle.marking.specs.Marking.{sooner}
use Rattle.mark.specs.Calls as mark_calls
use Rattle.mark.specs.Formed.{record_formed, buffer_formed, mark_well_formed}
use Rattle.mark.specs.Traces as mark_traces
use Rattle.report.specs.Calls.{figures, report_of}
use Rattle.demands.specs.Cases.{all_right, marked_cases, requested_cases}

pub marked_cases_hold : all_right (marked_cases ++ requested_cases) ≡ true
unfolding same_entries same_pages ◌and◌ ◌or◌ row_before farther sizes_refusal trace_refusal mark_of mark_at ka_read rq_read rr_read request_read read_trace requests_from trace_file figures
    report_of run_refusal well_formed is_unused follows table_formed counts_formed layers_well_formed state_refusal request_refusal request_reply pages_next numbers_next
    verdict possible_refusal early_refusal trace_totals sooner mark_calls.lists_refused mark_calls.state_refusal mark_calls.request_refusal mark_calls.reply_of mark_calls.lent_after
    record_formed buffer_formed mark_well_formed mark_traces.early_refusal mark_traces.totals_of
marked_cases_hold = refl
