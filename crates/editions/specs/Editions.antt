-- The two editions of a trace (document 02, request 08): the bytes of a KA and of records that stand for its requests. The old edition has no RR.
use Rattle.std.specs.Prelude.{ℕ, zero, suc, ◌-◌, List, [], ◌∷◌, ◌++◌, eqb, ltb}
use Rattle.lists.specs.Choice.{pick}
use Rattle.records.specs.Bytes.{TraceEntry, rq, rr, trace_bytes, singles}

-- "the old edition has one RQ a request"
unfoldable pub old_bytes : (k a : ℕ) → (pages : List ℕ) → List ℕ
old_bytes k a pages = trace_bytes k a (singles pages)

-- a run: a page, and how many requests for it follow one another
pub record PageRun : Type 0 where
  pub page : ℕ
  pub times : ℕ

abbrev pub run : (page times : ℕ) → PageRun
run page times = record { page = page; times = times }

-- one request more in front of runs: the first run gets longer if its page is requested, else the request is a run of its own
abbrev pub in_front : (page : ℕ) → List PageRun → List PageRun
in_front page [] = run page 1 ∷ []
in_front page (r ∷ rs) = pick (eqb page r.page) (run page (suc r.times) ∷ rs) (run page 1 ∷ r ∷ rs)

-- the longest runs of a trace in order. They are runs of requests: how these stand in a file makes no difference
abbrev pub longest_runs : (pages : List ℕ) → List PageRun
longest_runs [] = []
longest_runs (page ∷ pages) = in_front page (longest_runs pages)

-- the most requests of an RR
abbrev pub longest_rr : ℕ
longest_rr = 65535

-- "RQ for a run of one, RR for a longer one"
abbrev pub run_record : (page times : ℕ) → TraceEntry
run_record page times = pick (eqb times 1) (rq page) (rr page times)

-- "a run above 65,535 gives an RR of 65,535 first, and its rest is written as a run"; there are not more records than requests
abbrev pub run_records : (most page times : ℕ) → List TraceEntry
run_records zero page times = []
run_records (suc most) page times =
    pick (ltb longest_rr times) (rr page longest_rr ∷ run_records most page (times - longest_rr)) (run_record page times ∷ [])

abbrev pub all_run_records : List PageRun → List TraceEntry
all_run_records [] = []
all_run_records (r ∷ rs) = run_records r.times r.page r.times ++ all_run_records rs

-- the new edition
unfoldable pub new_records : (pages : List ℕ) → List TraceEntry
new_records pages = all_run_records (longest_runs pages)

unfoldable pub new_bytes : (k a : ℕ) → (pages : List ℕ) → List ℕ
new_bytes k a pages = trace_bytes k a (new_records pages)
