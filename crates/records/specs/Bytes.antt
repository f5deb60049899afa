-- The bytes of the records and of the two files (document 01, "Files"; RR is document 02's, request 03). k, a, n and times have two bytes,
-- pages and t four. Both files start with a KA; requests follow it in a trace, one by one or in runs, bundles and pages fetched ahead in a schedule.
use Rattle.std.specs.Prelude.{ℕ, ◌+◌, ◌*◌, ◌<◌, ◌≤◌, List, [], ◌∷◌, ◌++◌, map, ◌≡◌, ltb, length, replicate}
use Rattle.lists.specs.Choice.{pick}
use Rattle.paging.specs.Refusals.{largest_k}
use Rattle.paging.specs.Schedule.{Entry, ev, pf}
use Rattle.wire.specs.Numbers.{bytes16, bytes32, all_bytes32}
use Rattle.records.specs.Marks.{mark_ka, mark_rq, mark_rr, mark_ev, mark_pf}

abbrev pub ka_bytes : ℕ → ℕ → List ℕ
ka_bytes k a = bytes16 mark_ka ++ (bytes16 k ++ bytes16 a)

abbrev pub rq_bytes : ℕ → List ℕ
rq_bytes page = bytes16 mark_rq ++ bytes32 page

abbrev pub rr_bytes : ℕ → ℕ → List ℕ
rr_bytes page times = bytes16 mark_rr ++ (bytes32 page ++ bytes16 times)

abbrev pub ev_bytes : ℕ → List ℕ → List ℕ
ev_bytes t pages = bytes16 mark_ev ++ (bytes32 t ++ (bytes16 (length pages) ++ all_bytes32 pages))

abbrev pub pf_bytes : ℕ → ℕ → List ℕ
pf_bytes t page = bytes16 mark_pf ++ (bytes32 t ++ bytes32 page)

abbrev pub entry_bytes : Entry → List ℕ
entry_bytes (ev t pages) = ev_bytes t pages
entry_bytes (pf t page) = pf_bytes t page

-- records of one kind one behind the other
abbrev pub joined : {A : Type 0} → (A → List ℕ) → List A → List ℕ
joined bytes [] = []
joined bytes (x ∷ xs) = bytes x ++ joined bytes xs

-- a record of a trace behind its KA: one request for a page (RQ), or so many requests for it in a row (RR, "a run")
pub data TraceEntry : Type 0 where
  rq : (page : ℕ) → TraceEntry
  rr : (page times : ℕ) → TraceEntry

abbrev pub trace_entry_bytes : TraceEntry → List ℕ
trace_entry_bytes (rq page) = rq_bytes page
trace_entry_bytes (rr page times) = rr_bytes page times

abbrev pub trace_bytes : ℕ → ℕ → List TraceEntry → List ℕ
trace_bytes k a entries = ka_bytes k a ++ joined trace_entry_bytes entries

-- the requests that records stand for: a run is its single requests
abbrev pub requests_of : TraceEntry → List ℕ
requests_of (rq page) = page ∷ []
requests_of (rr page times) = replicate times page

abbrev pub all_requests_of : List TraceEntry → List ℕ
all_requests_of [] = []
all_requests_of (e ∷ es) = requests_of e ++ all_requests_of es

-- entries that have a record: a run has at least one request. That it has at most 65,535 and that a page is below 2^32 is said by the bytes being bytes
abbrev pub RunWritable : TraceEntry → Type 0
RunWritable (rq page) = Unit {0}
RunWritable (rr page times) = 0 < times

abbrev pub RunsWritable : List TraceEntry → Type 0
RunsWritable [] = Unit {0}
RunsWritable (e ∷ es) = RunWritable e × RunsWritable es

-- a file of a trace: a KA, and records that stand for its requests. One trace has many files, since equal requests in a row may be written as
-- one run, as several, or one by one
pub record TraceFileOf (k a : ℕ) (pages file : List ℕ) : Type 0 where
  pub entries : List TraceEntry
  pub runs : RunsWritable entries
  pub bytes : file ≡ trace_bytes k a entries
  pub requests : all_requests_of entries ≡ pages

-- the records of the file that has one RQ for each request
abbrev pub singles : List ℕ → List TraceEntry
singles pages = map rq pages

abbrev pub schedule_bytes : ℕ → ℕ → List Entry → List ℕ
schedule_bytes k a entries = ka_bytes k a ++ joined entry_bytes entries

-- an EV's length in bytes
abbrev pub ev_length : ℕ → ℕ
ev_length n = 8 + 4 * n

-- the length for n pages, as a number. No EV has more than 256; 0 for more, where the library answers None
abbrev pub ev_length_answer : ℕ → ℕ
ev_length_answer n = pick (ltb largest_k n) 0 (ev_length n)

-- entries that have a record: an EV names 1 to 256 pages, and no more than a bound (a, for the judge)
abbrev pub Writable : ℕ → Entry → Type 0
Writable bound (ev t pages) = (0 < length pages) × ((length pages ≤ bound) × (length pages ≤ largest_k))
Writable bound (pf t page) = Unit {0}

abbrev pub AllWritable : ℕ → List Entry → Type 0
AllWritable bound [] = Unit {0}
AllWritable bound (e ∷ es) = Writable bound e × AllWritable bound es
