-- What "longest run" means (document 02, request 08), said without working them out: runs that make up the trace, none empty, no two neighbours of one page.
use Rattle.std.specs.Prelude.{ℕ, ◌<◌, ◌≤◌, List, [], ◌∷◌, ◌++◌, ◌≡◌, replicate}
use Rattle.records.specs.Bytes.{TraceEntry, rq, rr}
use Rattle.editions.specs.Editions.{PageRun, longest_rr}

-- the requests of runs one behind the other
abbrev pub requests_of_runs : List PageRun → List ℕ
requests_of_runs [] = []
requests_of_runs (r ∷ rs) = replicate r.times r.page ++ requests_of_runs rs

-- the run behind is of another page: neither can be longer
abbrev pub Apart : (page : ℕ) → List PageRun → Type 0
Apart page [] = Unit {0}
Apart page (next ∷ rs) = page ≡ next.page → ⊥

abbrev pub Longest : List PageRun → Type 0
Longest [] = Unit {0}
Longest (r ∷ rs) = (0 < r.times) × (Apart r.page rs × Longest rs)

-- records of an old file: RQs alone
abbrev pub OnlySingles : List TraceEntry → Type 0
OnlySingles [] = Unit {0}
OnlySingles (rq page ∷ es) = OnlySingles es
OnlySingles (rr page times ∷ es) = ⊥

-- records as a file can have them: an RR has 1 to 65,535 requests
abbrev pub RecordFits : TraceEntry → Type 0
RecordFits (rq page) = Unit {0}
RecordFits (rr page times) = (0 < times) × (times ≤ longest_rr)

abbrev pub RecordsFit : List TraceEntry → Type 0
RecordsFit [] = Unit {0}
RecordsFit (e ∷ es) = RecordFits e × RecordsFit es
