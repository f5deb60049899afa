-- The ten cases that document 01 marks for proof ("The eight-request shift"), and cases of document 02's requests, as tables of inputs and results.
-- A row's result is computed by the definitions that the promises cite.
use Rattle.std.specs.Prelude.{ℕ, Bool, true, List, [], ◌∷◌, eqb, take, replicate}
use Rattle.lists.specs.Choice.{◌and◌}
use Rattle.paging.specs.Schedule.{Entry, ev}
use Rattle.paging.specs.Same.{same_pages, same_entries, shift}
use Rattle.paging.specs.declared.Keeping.{Keeping}
use Rattle.paging.specs.declared.Keeping.TheVariants.{ByRequest, ByLoad}
use Rattle.records.specs.Bytes.{rq, rr, trace_bytes, singles, ev_length_answer}
use Rattle.queue.specs.Answers.{ReplyAnswer}
use Rattle.queue.specs.Calls.{reply_of, cache_of, evicted_of, totals_of}
use Rattle.queue.specs.Serving.{empty_run}
use Rattle.queue.specs.Standing.{Call, State, after_calls, empty_state}
use Rattle.queue.specs.declared.Run.{Run}
use Rattle.layers.specs.Calls.{LayersReplyAnswer, request_refusal, request_reply}
use Rattle.layers.specs.Questions.{Verdict, refused_with, possible_set, count_differs, broken_at, verdict}
use Rattle.layers.specs.Traces.{trace_totals}
use Rattle.layers.specs.declared.LayersRun.{LayersRun}
use Rattle.mark.specs.Calls as mark_calls
use Rattle.mark.specs.Standing as marking
use Rattle.mark.specs.Traces as mark_traces
use Rattle.min.specs.Calls.{counts_of}
use Rattle.report.specs.Calls.{ReportAnswer, counts, layers_counts, refused_report, report_of}
use Rattle.demands.specs.Demand3.{min_entries}
use Rattle.demands.specs.LayersCalls.{LayersCall, request, LayersState, layers_start, layers_next, layers_after_calls}

pub data Row : Type 0 where
  -- the bench's report on a file
  reports : (file : List ℕ) (report : ReportAnswer) → Row
  -- MIN's bundles
  min_evicts : (k a : ℕ) (pages : List ℕ) (entries : List Entry) → Row
  -- after some pages, a request to LRU (by request) or oldest load (by load) leaves this in an evicted list of a places
  evicts : Keeping → (k a : ℕ) (pages : List ℕ) (page : ℕ) (bundle : List ℕ) → Row
  -- a request on an empty record, with a cache list and its count, leaves this cache list
  leaves : Keeping → (k a count : ℕ) (cache : List ℕ) (page : ℕ) (left : List ℕ) → Row
  -- a request on a record, a count and lists answers these fields and leaves this evicted list; so does its preview
  shows : Keeping → (run : Run) (count : ℕ) (cache evicted : List ℕ) (page : ℕ) (fields left : List ℕ) → Row
  -- bundles and loads of either over a trace
  totals : Keeping → (k a : ℕ) (pages : List ℕ) (bundles loads : ℕ) → Row
  -- bundles of MIN, LRU and the layers over a trace, and s
  counted : (k a : ℕ) (pages : List ℕ) (by_min by_lru by_layers s : ℕ) → Row
  -- the table after requests to the layers
  tabled : (k a places : ℕ) (pages table_pages numbers : List ℕ) → Row
  -- after some requests, what is answered on a set
  asked : (k a places : ℕ) (pages set : List ℕ) (said : Verdict) → Row
  -- what the requests to the layers answer one after the other, from the empty record on, and the three counts of the record after them
  answers : (k a places : ℕ) (pages said counts : List ℕ) → Row
  -- a request to the layers on a record and a table answers these fields: the refusal, the record's eight, the rule
  replies : (run : LayersRun) (pages numbers : List ℕ) (page : ℕ) (fields : List ℕ) → Row
  -- after some requests, the refusal of a further one, 0 for none
  refuses : (k a places : ℕ) (pages : List ℕ) (page number : ℕ) → Row
  -- the length in bytes that is answered for an EV of n pages; 0 where no EV has so many
  measures : (n answered : ℕ) → Row
  -- bundles and loads of marking over a trace, with a table of so many places
  mark_counts : (k a places : ℕ) (pages : List ℕ) (bundles loads : ℕ) → Row
  -- a request to marking on a state leaves this in an evicted list of a places
  mark_evicts : marking.State → (page : ℕ) (bundle : List ℕ) → Row
  -- after requests to marking, the lists of cached pages, marks and priorities, and the pages of the layer table with t0 beside them
  mark_keeps : (k a places : ℕ) (pages cache marks priorities table_pages times : List ℕ) → Row
  -- the refusal of a request to marking on a state, 0 for none
  mark_refuses : marking.State → (page number : ℕ) → Row

-- Computed by the calls

-- calls for some pages, each lent an evicted list of so many places
abbrev pub calls_for : (places : ℕ) → List ℕ → List Call
calls_for places [] = []
calls_for places (p ∷ ps) = record { page = p; evicted = replicate places 0 } ∷ calls_for places ps

abbrev pub state_after : Keeping → (k a : ℕ) → List ℕ → State
state_after keeping k a pages = after_calls keeping (calls_for a pages) (empty_state k a (replicate k 0))

-- k 3, a 2, three loads in so many requests
abbrev pub three_loaded : (requests : ℕ) → Run
three_loaded requests = record { k = 3; a = 2; requests = requests; loads = 3; evictions = 0 }

abbrev pub layers_calls : List ℕ → List LayersCall
layers_calls [] = []
layers_calls (p ∷ ps) = request p ∷ layers_calls ps

abbrev pub layers_at : (k a places : ℕ) → List ℕ → LayersState
layers_at k a places pages = layers_after_calls (layers_calls pages) (layers_start k a places)

-- the answers to requests for some pages
abbrev pub rules_told : List ℕ → LayersState → List ℕ
rules_told [] x = []
rules_told (p ∷ ps) x = (request_reply x.run x.pages x.numbers p).answer ∷ rules_told ps (layers_next x (request p))

-- a call to marking, lent an evicted list of a places
abbrev pub mark_call : marking.State → (page : ℕ) → marking.Call
mark_call S page = record { page = page; evicted = replicate S.run.a 0 }

-- the state after requests to marking for some pages, on a state
abbrev pub marked_from : List ℕ → marking.State → marking.State
marked_from [] S = S
marked_from (p ∷ ps) S = marked_from ps (marking.called (mark_call S p) S)

-- from the empty buffer and a table of so many places, all unused
abbrev pub marked_after : (k a places : ℕ) → List ℕ → marking.State
marked_after k a places pages = marked_from pages (marking.empty_state k a (replicate k 0) (replicate k 0) (replicate k 0) places)

-- k 2, a 1, after the pages 1 and 2 in a table of three places, with this t, these lists of cached pages, and this t0 beside the table
abbrev pub two_marked : (t : ℕ) → (cache marks priorities times : List ℕ) → marking.State
two_marked t cache marks priorities times =
    record {
      run = record {
        k = 2;
        a = 1;
        requests = 2;
        loads = 2;
        evictions = 0;
        t = t;
        layers = record { k = 2; a = 1; requests = 2; evictions = 0; s = 2; appends = 2; joins = 0; lifts = 0 };
      };
      count = 2;
      cache = cache;
      marks = marks;
      priorities = priorities;
      pages = 1 ∷ 2 ∷ 0 ∷ [];
      numbers = 1 ∷ 2 ∷ 0 ∷ [];
      times = times;
    }

-- Compared

abbrev pub same_report : ReportAnswer → ReportAnswer → Bool
same_report x y =
    eqb x.refusal y.refusal and eqb x.k y.k and eqb x.a y.a and eqb x.requests y.requests
    and eqb x.min.bundles y.min.bundles and eqb x.min.loads y.min.loads
    and eqb x.lru.bundles y.lru.bundles and eqb x.lru.loads y.lru.loads
    and eqb x.fifo.bundles y.fifo.bundles and eqb x.fifo.loads y.fifo.loads
    and eqb x.mark.bundles y.mark.bundles and eqb x.mark.loads y.mark.loads
    and eqb x.layers.bundles y.layers.bundles and eqb x.layers.s y.layers.s and eqb x.layers.revealed y.layers.revealed

-- a verdict spelled as two numbers: its case, and the number that it holds
abbrev pub spelled : Verdict → List ℕ
spelled (refused_with number) = 0 ∷ number ∷ []
spelled possible_set = 1 ∷ 0 ∷ []
spelled count_differs = 2 ∷ 0 ∷ []
spelled (broken_at layer) = 3 ∷ layer ∷ []

-- the fields of a reply of LRU or oldest load, the record's after the refusal
abbrev pub queue_fields : ReplyAnswer → List ℕ
queue_fields r =
    r.refusal ∷ r.run.k ∷ r.run.a ∷ r.run.requests ∷ r.run.loads ∷ r.run.evictions ∷ r.count ∷ r.answer ∷ []

-- and of one of the layers
abbrev pub fields_of : LayersReplyAnswer → List ℕ
fields_of r =
    r.refusal ∷ r.run.k ∷ r.run.a ∷ r.run.requests ∷ r.run.evictions ∷ r.run.s
    ∷ r.run.appends ∷ r.run.joins ∷ r.run.lifts ∷ r.answer ∷ []

abbrev pub right : Row → Bool
right (reports file report) = same_report (report_of file) report
right (min_evicts k a pages entries) = same_entries (min_entries k a pages) entries
right (evicts keeping k a pages page bundle) =
    let S = state_after keeping k a pages in same_pages (evicted_of S.run S.count S.cache (replicate a 0) page) bundle
right (leaves keeping k a count cache page left) = same_pages (cache_of keeping (empty_run k a) count cache (replicate a 0) page) left
right (shows keeping run count cache evicted page fields left) =
    same_pages (queue_fields (reply_of keeping run count cache evicted page)) fields and same_pages (evicted_of run count cache evicted page) left
right (totals keeping k a pages bundles loads) =
    let T = totals_of keeping k a pages in eqb T.bundles bundles and eqb T.loads loads
right (counted k a pages by_min by_lru by_layers s) =
    let T = trace_totals k a pages (replicate 8 0) (replicate 8 0) in
    eqb (counts_of k a pages).bundles by_min and eqb (totals_of ByRequest k a pages).bundles by_lru and eqb T.bundles by_layers and eqb T.s s
right (tabled k a places pages table_pages numbers) =
    let x = layers_at k a places pages in same_pages x.pages table_pages and same_pages x.numbers numbers
right (asked k a places pages set said) =
    let x = layers_at k a places pages in same_pages (spelled (verdict x.run x.pages x.numbers set)) (spelled said)
right (answers k a places pages said counts) =
    let run = (layers_at k a places pages).run in
    same_pages (rules_told pages (layers_start k a places)) said and same_pages (run.appends ∷ run.joins ∷ run.lifts ∷ []) counts
right (replies run pages numbers page fields) = same_pages (fields_of (request_reply run pages numbers page)) fields
right (refuses k a places pages page number) =
    let x = layers_at k a places pages in eqb (request_refusal x.run x.pages x.numbers page) number
right (measures n answered) = eqb (ev_length_answer n) answered
right (mark_counts k a places pages bundles loads) =
    let T = mark_traces.totals_of k a pages (mark_traces.table_with (replicate places 0) (replicate places 0) (replicate places 0)) in
    eqb T.refusal 0 and eqb T.bundles bundles and eqb T.loads loads
right (mark_evicts S page bundle) = same_pages (mark_calls.lent_after S.run S.count (marking.lent_to (mark_call S page) S) page).evicted bundle
right (mark_keeps k a places pages cache marks priorities table_pages times) =
    let S = marked_after k a places pages in
    same_pages S.cache cache and same_pages S.marks marks and same_pages S.priorities priorities
    and same_pages S.pages table_pages and same_pages S.times times
right (mark_refuses S page number) = eqb (mark_calls.request_refusal S.run S.count (marking.lent_to (mark_call S page) S) page) number

-- The table

abbrev pub marked_cases : List Row
marked_cases =
    -- 1. the four lines' numbers, of the shift's 54 bytes, and since document 02's requests 01 and 09 the lines `fifo` and `mark`
    reports (trace_bytes 3 2 (singles shift))
    (record { refusal = 0; k = 3; a = 2; requests = 8; min = counts 2 7; lru = counts 3 8; fifo = counts 3 8; mark = counts 3 8; layers = layers_counts 2 3 2 })
    -- 2. MIN's bundles, since document 02's request 07 with 4 before 2
    ∷ min_evicts 3 2 shift (ev 3 (3 ∷ 1 ∷ []) ∷ ev 6 (4 ∷ 2 ∷ []) ∷ [])
    -- 3. LRU's
    ∷ evicts ByRequest 3 2 (take 3 shift) 4 (1 ∷ 2 ∷ [])
    ∷ evicts ByRequest 3 2 (take 5 shift) 5 (3 ∷ 4 ∷ [])
    ∷ evicts ByRequest 3 2 (take 7 shift) 1 (2 ∷ 5 ∷ [])
    -- 4. layers at the end
    ∷ tabled 3 2 5 shift (2 ∷ 4 ∷ 5 ∷ 6 ∷ 1 ∷ []) (1 ∷ 1 ∷ 1 ∷ 2 ∷ 3 ∷ [])
    -- 5. after seven requests {5,6} is possible
    ∷ asked 3 2 8 (take 7 shift) (5 ∷ 6 ∷ []) possible_set
    -- 6. there {2,4} breaks at layer 1; {1,6} at layer 0; {6} differs in count; {6,6} is 11
    ∷ asked 3 2 8 (take 7 shift) (2 ∷ 4 ∷ []) (broken_at 1)
    ∷ asked 3 2 8 (take 7 shift) (1 ∷ 6 ∷ []) (broken_at 0)
    ∷ asked 3 2 8 (take 7 shift) (6 ∷ []) count_differs
    ∷ asked 3 2 8 (take 7 shift) (6 ∷ 6 ∷ []) (refused_with 11)
    -- 7. k 2, a 2, pages 1 2 3: one bundle, s 1
    ∷ counted 2 2 (1 ∷ 2 ∷ 3 ∷ []) 1 1 1 1
    -- 8. k 1, a 1, pages 1 2 1: two bundles
    ∷ counted 1 1 (1 ∷ 2 ∷ 1 ∷ []) 2 2 2 1
    -- 9. k 2, a 1, table of 2: page 3 after 1 2 is 10; with a 2 it is accepted
    ∷ refuses 2 1 2 (1 ∷ 2 ∷ []) 3 10
    ∷ refuses 2 2 2 (1 ∷ 2 ∷ []) 3 0
    -- 10. k 2, a 1, table of 3: 1 2 3 1 4 is accepted throughout
    ∷ refuses 2 1 3 [] 1 0
    ∷ refuses 2 1 3 (1 ∷ []) 2 0
    ∷ refuses 2 1 3 (1 ∷ 2 ∷ []) 3 0
    ∷ refuses 2 1 3 (1 ∷ 2 ∷ 3 ∷ []) 1 0
    ∷ refuses 2 1 3 (1 ∷ 2 ∷ 3 ∷ 1 ∷ []) 4 0
    ∷ []

-- cases of document 02, request by request
abbrev pub requested_cases : List Row
requested_cases =
    -- 01. oldest load on the shift: its bundles are LRU's there
    evicts ByLoad 3 2 (take 3 shift) 4 (1 ∷ 2 ∷ [])
    ∷ evicts ByLoad 3 2 (take 5 shift) 5 (3 ∷ 4 ∷ [])
    ∷ evicts ByLoad 3 2 (take 7 shift) 1 (2 ∷ 5 ∷ [])
    ∷ totals ByLoad 3 2 shift 3 8
    -- an empty trace
    ∷ reports (trace_bytes 3 2 []) (record { refusal = 0; k = 3; a = 2; requests = 0; min = counts 0 0; lru = counts 0 0; fifo = counts 0 0; mark = counts 0 0; layers = layers_counts 0 0 0 })
    -- k 3, a 1, pages 1 2 3 1 4 1 tell the two apart: a hit moves no page
    ∷ evicts ByRequest 3 1 (1 ∷ 2 ∷ 3 ∷ 1 ∷ []) 4 (2 ∷ [])
    ∷ evicts ByLoad 3 1 (1 ∷ 2 ∷ 3 ∷ 1 ∷ []) 4 (1 ∷ [])
    ∷ totals ByRequest 3 1 (1 ∷ 2 ∷ 3 ∷ 1 ∷ 4 ∷ 1 ∷ []) 1 4
    ∷ totals ByLoad 3 1 (1 ∷ 2 ∷ 3 ∷ 1 ∷ 4 ∷ 1 ∷ []) 2 5
    -- and pages 1 2 3 1 4 2 the other way round
    ∷ totals ByRequest 3 1 (1 ∷ 2 ∷ 3 ∷ 1 ∷ 4 ∷ 2 ∷ []) 2 5
    ∷ totals ByLoad 3 1 (1 ∷ 2 ∷ 3 ∷ 1 ∷ 4 ∷ 2 ∷ []) 1 4
    -- a hit writes zeros from the count up to k, and keeps what stands past k
    ∷ leaves ByLoad 3 1 1 (5 ∷ 9 ∷ 9 ∷ 9 ∷ []) 5 (5 ∷ 0 ∷ 0 ∷ 9 ∷ [])
    ∷ leaves ByLoad 3 1 3 (1 ∷ 2 ∷ 3 ∷ []) 1 (1 ∷ 2 ∷ 3 ∷ [])
    ∷ leaves ByRequest 3 1 3 (1 ∷ 2 ∷ 3 ∷ []) 1 (2 ∷ 3 ∷ 1 ∷ [])
    -- 02. which rule applied at each request of the shift, 1 for 1a, 2 for 1b and 3 for 1c, and how often each did
    ∷ answers 3 2 8 shift (1 ∷ 1 ∷ 1 ∷ 2 ∷ 3 ∷ 1 ∷ 2 ∷ 1 ∷ []) (5 ∷ 2 ∷ 1 ∷ [])
    ∷ answers 3 2 8 (take 7 shift) (1 ∷ 1 ∷ 1 ∷ 2 ∷ 3 ∷ 1 ∷ 2 ∷ []) (4 ∷ 2 ∷ 1 ∷ [])
    -- k 2, a 2, pages 1 2 3 4 4 5: 1b where everything joins L0 is 2 all the same
    ∷ answers 2 2 3 (1 ∷ 2 ∷ 3 ∷ 4 ∷ 4 ∷ 5 ∷ []) (1 ∷ 1 ∷ 2 ∷ 1 ∷ 3 ∷ 2 ∷ []) (3 ∷ 2 ∷ 1 ∷ [])
    -- k 2, a 1, table of 2, pages 1 2 3 1: page 3 is refused with 10, answers 0 and is not counted
    ∷ answers 2 1 2 (1 ∷ 2 ∷ 3 ∷ 1 ∷ []) (1 ∷ 1 ∷ 0 ∷ 3 ∷ []) (2 ∷ 0 ∷ 1 ∷ [])
    -- a full counter is 12, with zero in every other field
    ∷ replies (record { k = 2; a = 1; requests = 4294967295; evictions = 0; s = 2; appends = 2; joins = 0; lifts = 4294967293 }) (1 ∷ 2 ∷ []) (1 ∷ 2 ∷ []) 1
    (12 ∷ replicate 9 0)
    -- one request before, the third count rises
    ∷ replies (record { k = 2; a = 1; requests = 4294967294; evictions = 0; s = 2; appends = 2; joins = 0; lifts = 4294967292 }) (1 ∷ 2 ∷ []) (1 ∷ 2 ∷ []) 1
    (0 ∷ 2 ∷ 1 ∷ 4294967295 ∷ 0 ∷ 2 ∷ 2 ∷ 0 ∷ 4294967293 ∷ 3 ∷ [])
    -- counts that add up to 2 to the 32nd and no requests, and joins apart from evictions, are 9
    ∷ replies (record { k = 2; a = 1; requests = 0; evictions = 0; s = 0; appends = 4294967295; joins = 0; lifts = 1 }) (0 ∷ []) (0 ∷ []) 1 (9 ∷ replicate 9 0)
    ∷ replies (record { k = 2; a = 1; requests = 1; evictions = 0; s = 1; appends = 0; joins = 1; lifts = 0 }) (1 ∷ []) (1 ∷ []) 1 (9 ∷ replicate 9 0)
    -- 03. k 2, a 1, pages 1 1 1 2 2 3 1, in runs and one by one: request numbers count single requests
    ∷ reports (trace_bytes 2 1 (rr 1 3 ∷ rr 2 2 ∷ rq 3 ∷ rr 1 1 ∷ []))
    (record { refusal = 0; k = 2; a = 1; requests = 7; min = counts 1 3; lru = counts 2 4; fifo = counts 2 4; mark = counts 2 4; layers = layers_counts 1 2 2 })
    ∷ reports (trace_bytes 2 1 (singles (1 ∷ 1 ∷ 1 ∷ 2 ∷ 2 ∷ 3 ∷ 1 ∷ [])))
    (record { refusal = 0; k = 2; a = 1; requests = 7; min = counts 1 3; lru = counts 2 4; fifo = counts 2 4; mark = counts 2 4; layers = layers_counts 1 2 2 })
    -- a run of no request is 13; the run that passes 4,096 requests is 3, whatever follows it, but one of none right behind them is 13
    ∷ reports (trace_bytes 3 2 (rq 5 ∷ rr 5 0 ∷ [])) (refused_report 13)
    ∷ reports (trace_bytes 3 2 (rr 5 4095 ∷ rr 5 2 ∷ rr 5 0 ∷ [])) (refused_report 3)
    ∷ reports (trace_bytes 3 2 (rr 5 4096 ∷ rr 5 0 ∷ [])) (refused_report 13)
    -- 04. an EV's length; no EV has 257 pages
    ∷ measures 0 8
    ∷ measures 1 12
    ∷ measures 256 1032
    ∷ measures 257 0
    -- 05. the record and count are those of serving a copy, and only a bundle changes the evicted list: a hit on the oldest page, a load of a page that stands
    -- past the count, a bundle
    ∷ shows ByRequest (three_loaded 3) 3 (1 ∷ 2 ∷ 3 ∷ []) (9 ∷ 9 ∷ 9 ∷ []) 1 (0 ∷ 3 ∷ 2 ∷ 4 ∷ 3 ∷ 0 ∷ 3 ∷ 0 ∷ []) (9 ∷ 9 ∷ 9 ∷ [])
    ∷ shows ByLoad (three_loaded 3) 3 (1 ∷ 2 ∷ 3 ∷ []) (9 ∷ 9 ∷ 9 ∷ []) 1 (0 ∷ 3 ∷ 2 ∷ 4 ∷ 3 ∷ 0 ∷ 3 ∷ 0 ∷ []) (9 ∷ 9 ∷ 9 ∷ [])
    ∷ shows ByRequest (three_loaded 3) 2 (1 ∷ 2 ∷ 3 ∷ []) (9 ∷ 9 ∷ []) 3 (0 ∷ 3 ∷ 2 ∷ 4 ∷ 4 ∷ 0 ∷ 3 ∷ 1 ∷ []) (9 ∷ 9 ∷ [])
    ∷ shows ByLoad (three_loaded 3) 2 (1 ∷ 2 ∷ 3 ∷ []) (9 ∷ 9 ∷ []) 3 (0 ∷ 3 ∷ 2 ∷ 4 ∷ 4 ∷ 0 ∷ 3 ∷ 1 ∷ []) (9 ∷ 9 ∷ [])
    ∷ shows ByRequest (three_loaded 3) 3 (1 ∷ 2 ∷ 3 ∷ []) (9 ∷ 9 ∷ 9 ∷ []) 4 (0 ∷ 3 ∷ 2 ∷ 4 ∷ 4 ∷ 1 ∷ 2 ∷ 2 ∷ []) (1 ∷ 2 ∷ 9 ∷ [])
    ∷ shows ByLoad (three_loaded 3) 3 (1 ∷ 2 ∷ 3 ∷ []) (9 ∷ 9 ∷ 9 ∷ []) 4 (0 ∷ 3 ∷ 2 ∷ 4 ∷ 4 ∷ 1 ∷ 2 ∷ 2 ∷ []) (1 ∷ 2 ∷ 9 ∷ [])
    -- a hit with an evicted list of one place is 8; a bundle with a full counter is 12
    ∷ shows ByRequest (three_loaded 3) 3 (1 ∷ 2 ∷ 3 ∷ []) (9 ∷ []) 1 (8 ∷ replicate 7 0) (9 ∷ [])
    ∷ shows ByLoad (three_loaded 3) 3 (1 ∷ 2 ∷ 3 ∷ []) (9 ∷ []) 1 (8 ∷ replicate 7 0) (9 ∷ [])
    ∷ shows ByRequest (three_loaded 4294967295) 3 (1 ∷ 2 ∷ 3 ∷ []) (9 ∷ 9 ∷ []) 4 (12 ∷ replicate 7 0) (9 ∷ 9 ∷ [])
    ∷ shows ByLoad (three_loaded 4294967295) 3 (1 ∷ 2 ∷ 3 ∷ []) (9 ∷ 9 ∷ []) 4 (12 ∷ replicate 7 0) (9 ∷ 9 ∷ [])
    -- 06. k 3, a 1, after 1 2 3: {7,8,9} breaks at the layers 0, 1 and 2, and {3,7,8}, in any order, at 0 and 1; the smallest is told
    ∷ asked 3 1 3 (1 ∷ 2 ∷ 3 ∷ []) (7 ∷ 8 ∷ 9 ∷ []) (broken_at 0)
    ∷ asked 3 1 3 (1 ∷ 2 ∷ 3 ∷ []) (8 ∷ 3 ∷ 7 ∷ []) (broken_at 0)
    -- the count is looked at first, and 11 before it
    ∷ asked 3 1 3 (1 ∷ 2 ∷ 3 ∷ []) (7 ∷ 8 ∷ []) count_differs
    ∷ asked 3 1 3 (1 ∷ 2 ∷ 3 ∷ []) (7 ∷ 8 ∷ 9 ∷ 10 ∷ []) count_differs
    ∷ asked 3 1 3 (1 ∷ 2 ∷ 3 ∷ []) (7 ∷ 8 ∷ 7 ∷ []) (refused_with 11)
    -- k 4, a 2, after 1 2 3 4 5, layers {1}, {2,3,4}, {5}: {2,3,9} breaks at 0 and 2 and holds at 1; {2,3,4} breaks at 2, the last below s
    ∷ asked 4 2 5 (1 ∷ 2 ∷ 3 ∷ 4 ∷ 5 ∷ []) (2 ∷ 3 ∷ 9 ∷ []) (broken_at 0)
    ∷ asked 4 2 5 (1 ∷ 2 ∷ 3 ∷ 4 ∷ 5 ∷ []) (2 ∷ 3 ∷ 4 ∷ []) (broken_at 2)
    -- k 4, a 3, after 1 2 3 4 5 6 7, layers {1,2,3,4}, {5}, {6}, {7}: {1,2,3,4} breaks at 1, 2 and 3
    ∷ asked 4 3 7 (1 ∷ 2 ∷ 3 ∷ 4 ∷ 5 ∷ 6 ∷ 7 ∷ []) (1 ∷ 2 ∷ 3 ∷ 4 ∷ []) (broken_at 1)
    -- no layers: the set of no page is possible, and no layer is named
    ∷ asked 3 1 0 [] [] possible_set
    ∷ asked 3 1 0 [] (7 ∷ []) count_differs
    -- 07. pages never requested again leave by age, not by number: the pages 9, 5 and 7 in the order of their requests
    ∷ min_evicts 3 2 (9 ∷ 5 ∷ 7 ∷ 1 ∷ []) (ev 3 (9 ∷ 5 ∷ []) ∷ [])
    ∷ min_evicts 2 2 (4294967295 ∷ 0 ∷ 1 ∷ []) (ev 2 (4294967295 ∷ 0 ∷ []) ∷ [])
    -- by the last request, not by the load: 1 is loaded first and requested again behind 2 and 3
    ∷ min_evicts 3 1 (1 ∷ 2 ∷ 3 ∷ 1 ∷ 4 ∷ 5 ∷ 6 ∷ []) (ev 4 (2 ∷ []) ∷ ev 5 (3 ∷ []) ∷ ev 6 (1 ∷ []) ∷ [])
    -- nor by an earlier request: 1 leaves, comes back, and is then younger than 3
    ∷ min_evicts 2 2 (1 ∷ 2 ∷ 3 ∷ 1 ∷ 4 ∷ 5 ∷ []) (ev 2 (2 ∷ 1 ∷ []) ∷ ev 4 (3 ∷ 1 ∷ []) ∷ [])
    -- and before the pages that are requested again, of which the farthest goes first: 7 and 8 before 2, and 2 before 1
    ∷ min_evicts 4 3 (7 ∷ 1 ∷ 8 ∷ 2 ∷ 3 ∷ 1 ∷ 2 ∷ []) (ev 4 (7 ∷ 8 ∷ 2 ∷ []) ∷ [])
    ∷ min_evicts 4 4 (7 ∷ 1 ∷ 8 ∷ 2 ∷ 3 ∷ 1 ∷ 2 ∷ []) (ev 4 (7 ∷ 8 ∷ 2 ∷ 1 ∷ []) ∷ [])
    -- 09. marking on the shift: no page is revealed when it is requested, so t is 1 to 8, and only page 2 has a lower t0, 2 at t 5. Of 2, 3 and 4 then 3 is
    -- unmarked and 4 has the lowest priority of the marked ones. The 1b of page 6 clears the marks of 2 and 5
    ∷ mark_counts 3 2 8 shift 3 8
    ∷ mark_evicts (marked_after 3 2 8 (take 3 shift)) 4 (1 ∷ 2 ∷ [])
    ∷ mark_evicts (marked_after 3 2 8 (take 5 shift)) 5 (3 ∷ 4 ∷ [])
    ∷ mark_evicts (marked_after 3 2 8 (take 7 shift)) 1 (2 ∷ 5 ∷ [])
    ∷ mark_keeps 3 2 8 shift (1 ∷ 6 ∷ 0 ∷ []) (1 ∷ 1 ∷ 0 ∷ []) (64 ∷ 56 ∷ 0 ∷ [])
    (2 ∷ 4 ∷ 5 ∷ 6 ∷ 1 ∷ 0 ∷ 0 ∷ 0 ∷ []) (2 ∷ 4 ∷ 6 ∷ 7 ∷ 8 ∷ 0 ∷ 0 ∷ 0 ∷ [])
    -- k 3, a 2, pages 1 2 3 1 2 4 1: 1 and 2 are revealed when they come again, so t stays 3, and they get 26 and 25 against 24 of page 3. LRU takes 3 and 1
    ∷ mark_evicts (marked_after 3 2 4 (1 ∷ 2 ∷ 3 ∷ 1 ∷ 2 ∷ [])) 4 (3 ∷ 2 ∷ [])
    ∷ evicts ByRequest 3 2 (1 ∷ 2 ∷ 3 ∷ 1 ∷ 2 ∷ []) 4 (3 ∷ 1 ∷ [])
    ∷ mark_counts 3 2 4 (1 ∷ 2 ∷ 3 ∷ 1 ∷ 2 ∷ 4 ∷ 1 ∷ []) 1 4
    ∷ totals ByRequest 3 2 (1 ∷ 2 ∷ 3 ∷ 1 ∷ 2 ∷ 4 ∷ 1 ∷ []) 1 5
    -- there 2 and 3 come to L0, and their t0 is gone
    ∷ mark_keeps 3 2 4 (1 ∷ 2 ∷ 3 ∷ 1 ∷ 2 ∷ 4 ∷ 1 ∷ []) (1 ∷ 4 ∷ 0 ∷ []) (1 ∷ 1 ∷ 0 ∷ []) (44 ∷ 32 ∷ 0 ∷ []) (4 ∷ 1 ∷ 0 ∷ 0 ∷ []) (4 ∷ 1 ∷ 0 ∷ 0 ∷ [])
    -- k 2, a 1, page 3 by 1b: marks are cleared first, lower priorities go before higher ones, and of equal ones the lower page
    ∷ mark_evicts (two_marked 2 (1 ∷ 2 ∷ []) (0 ∷ 1 ∷ []) (9 ∷ 7 ∷ []) (1 ∷ 2 ∷ 0 ∷ [])) 3 (2 ∷ [])
    ∷ mark_evicts (two_marked 2 (1 ∷ 2 ∷ []) (1 ∷ 1 ∷ []) (7 ∷ 7 ∷ []) (1 ∷ 2 ∷ 0 ∷ [])) 3 (1 ∷ [])
    -- marks of three places beside two pages, and t0 of two beside three rows, are 8
    ∷ mark_refuses (two_marked 2 (1 ∷ 2 ∷ []) (1 ∷ 1 ∷ 0 ∷ []) (8 ∷ 16 ∷ []) (1 ∷ 2 ∷ 0 ∷ [])) 3 8
    ∷ mark_refuses (two_marked 2 (1 ∷ 2 ∷ []) (1 ∷ 1 ∷ []) (8 ∷ 16 ∷ []) (1 ∷ 2 ∷ [])) 3 8
    -- pages that do not rise, a mark of 2, t0 above t, t0 in an unused place and t above the requests are 9
    ∷ mark_refuses (two_marked 2 (2 ∷ 1 ∷ []) (1 ∷ 1 ∷ []) (8 ∷ 16 ∷ []) (1 ∷ 2 ∷ 0 ∷ [])) 3 9
    ∷ mark_refuses (two_marked 2 (1 ∷ 2 ∷ []) (1 ∷ 2 ∷ []) (8 ∷ 16 ∷ []) (1 ∷ 2 ∷ 0 ∷ [])) 3 9
    ∷ mark_refuses (two_marked 2 (1 ∷ 2 ∷ []) (1 ∷ 1 ∷ []) (8 ∷ 16 ∷ []) (1 ∷ 3 ∷ 0 ∷ [])) 3 9
    ∷ mark_refuses (two_marked 2 (1 ∷ 2 ∷ []) (1 ∷ 1 ∷ []) (8 ∷ 16 ∷ []) (1 ∷ 2 ∷ 1 ∷ [])) 3 9
    ∷ mark_refuses (two_marked 3 (1 ∷ 2 ∷ []) (1 ∷ 1 ∷ []) (8 ∷ 16 ∷ []) (1 ∷ 2 ∷ 0 ∷ [])) 3 9
    ∷ mark_refuses (two_marked 2 (1 ∷ 2 ∷ []) (1 ∷ 1 ∷ []) (8 ∷ 16 ∷ []) (1 ∷ 2 ∷ 0 ∷ [])) 3 0
    -- as for the layers, page 3 after 1 2 in a table of two places is 10, and with a 2 it is accepted
    ∷ mark_refuses (marked_after 2 1 2 (1 ∷ 2 ∷ [])) 3 10
    ∷ mark_refuses (marked_after 2 2 2 (1 ∷ 2 ∷ [])) 3 0
    ∷ []

abbrev pub all_right : List Row → Bool
all_right [] = true
all_right (row ∷ rows) = right row and all_right rows
