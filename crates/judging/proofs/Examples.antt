-- The judge computed on the bytes of worked files, in one table with one theorem over it: each trap of document 01's order of refusals
-- has a row. An edit of a definition that document 01 rules out changes a row.
use Prim.Native.Nat.{ℕ}
use mathlib.Core.Bool.{Bool, true, false}
use mathlib.Core.List.{List, [], ◌∷◌, ◌++◌}
use mathlib.Core.Path.{◌≡◌, refl}
use lib.Dec.{eqb}
use lib.IntN.{ℤ, pos, negsuc}
use Rattle.lists.specs.Choice.{◌and◌, ◌or◌}
use Rattle.paging.specs.Refusals.{sizes_refusal}
use Rattle.paging.specs.Schedule.{Entry, ev, pf}
use Rattle.records.specs.Bytes.{TraceEntry, rq, rr, ka_bytes, rq_bytes, rr_bytes, trace_bytes, singles, schedule_bytes}
use Rattle.records.specs.Marks.{mark_of, mark_at}
use Rattle.reading.specs.Files.{requests_from, entries_from}
use Rattle.reading.specs.Reading.{ka_read, rq_read, rr_read, request_read, count_refused, ev_read, pf_read, entry_read, read_trace, read_schedule}
use Rattle.traces.specs.Traces.{trace_file}
use Rattle.judging.specs.Answer.{answer_number}
use Rattle.judging.specs.Files.{judged}

record Row : Type 0 where
  trace : List ℕ
  schedule : List ℕ
  answer : ℤ

abbrev same : ℤ → ℤ → Bool
same (pos m) (pos n) = eqb m n
same (pos m) (negsuc n) = false
same (negsuc m) (pos n) = false
same (negsuc m) (negsuc n) = eqb m n

abbrev every : List Row → Bool
every [] = true
every (row ∷ rows) = same (answer_number (judged row.trace row.schedule)) row.answer and every rows

-- a row of the eight-request shift, with k 3 and a 2: the entries, then some bytes behind them
abbrev shift : List Entry → List ℕ → ℤ → Row
shift entries behind answer =
    record { trace = trace_bytes 3 2 (singles (1 ∷ 2 ∷ 3 ∷ 4 ∷ 2 ∷ 5 ∷ 6 ∷ 1 ∷ [])); schedule = schedule_bytes 3 2 entries ++ behind; answer = answer }

-- a row of any trace
abbrev row : (k a : ℕ) → List ℕ → List Entry → ℤ → Row
row k a pages entries answer = record { trace = trace_bytes k a (singles pages); schedule = schedule_bytes k a entries; answer = answer }

-- a row of records with runs, some bytes behind them, and a schedule
abbrev runs : (k a : ℕ) → List TraceEntry → (behind : List ℕ) → List Entry → ℤ → Row
runs k a entries behind schedule answer = record { trace = trace_bytes k a entries ++ behind; schedule = schedule_bytes k a schedule; answer = answer }

abbrev table : List Row
table =
    -- MIN's schedule, and its KA alone
    shift (ev 3 (3 ∷ 1 ∷ []) ∷ ev 6 (4 ∷ 2 ∷ []) ∷ []) [] (pos 2)
    ∷ shift [] [] (negsuc 6)
    -- KA: 1, 2, and 6 where it differs
    ∷ record { trace = ka_bytes 0 0; schedule = []; answer = negsuc 0 }
    ∷ record { trace = ka_bytes 257 1; schedule = []; answer = negsuc 0 }
    ∷ record { trace = ka_bytes 3 4; schedule = []; answer = negsuc 1 }
    ∷ record { trace = ka_bytes 3 2; schedule = ka_bytes 3 0; answer = negsuc 1 }
    ∷ record { trace = ka_bytes 3 2; schedule = ka_bytes 3 1; answer = negsuc 5 }
    ∷ record { trace = ka_bytes 3 2; schedule = ka_bytes 2 2; answer = negsuc 5 }
    -- 4 and 5: an empty file, a file with no KA, one byte left over, a mark out of place and cut; the trace comes first
    ∷ record { trace = []; schedule = []; answer = negsuc 4 }
    ∷ record { trace = rq_bytes 1; schedule = []; answer = negsuc 3 }
    ∷ record { trace = ka_bytes 3 2 ++ (82 ∷ []); schedule = 90 ∷ 90 ∷ []; answer = negsuc 4 }
    ∷ record { trace = ka_bytes 3 2 ++ (75 ∷ 65 ∷ []); schedule = []; answer = negsuc 3 }
    ∷ record { trace = ka_bytes 3 2; schedule = ka_bytes 3 2 ++ (82 ∷ 81 ∷ []); answer = negsuc 3 }
    -- a damage at the end comes before 7 at requests that are not closed, and behind 6 and 7 of earlier records
    ∷ shift [] (69 ∷ []) (negsuc 4)
    ∷ shift [] (90 ∷ 90 ∷ []) (negsuc 3)
    ∷ shift (ev 7 (1 ∷ []) ∷ []) (90 ∷ 90 ∷ []) (negsuc 6)
    ∷ shift (ev 0 (1 ∷ []) ∷ []) (90 ∷ 90 ∷ []) (negsuc 5)
    -- n is judged against a, before its pages (5) and before 7
    ∷ shift (ev 7 (1 ∷ 2 ∷ 3 ∷ []) ∷ []) [] (negsuc 5)
    ∷ shift (ev 7 [] ∷ []) [] (negsuc 5)
    ∷ shift [] (69 ∷ 86 ∷ 7 ∷ 0 ∷ 0 ∷ 0 ∷ 3 ∷ 0 ∷ []) (negsuc 5)
    ∷ shift [] (69 ∷ 86 ∷ 7 ∷ 0 ∷ 0 ∷ 0 ∷ 2 ∷ 0 ∷ []) (negsuc 4)
    -- a page cut (5) comes before a t that is no request (6)
    ∷ shift [] (69 ∷ 86 ∷ 9 ∷ 0 ∷ 0 ∷ 0 ∷ 2 ∷ 0 ∷ []) (negsuc 4)
    -- a t that falls or is no request closes nothing: 6 and not 7
    ∷ shift (pf 8 9 ∷ []) [] (negsuc 5)
    ∷ shift (ev 3 (3 ∷ []) ∷ pf 2 9 ∷ []) [] (negsuc 5)
    -- 7 at the requests that a record closes comes before its own 6
    ∷ shift (ev 4 (9 ∷ []) ∷ []) [] (negsuc 6)
    ∷ shift (pf 4 4 ∷ []) [] (negsuc 6)
    -- EV after PF; a page not held, named twice, in two EVs of one t
    ∷ shift (pf 0 1 ∷ ev 0 (1 ∷ []) ∷ []) [] (negsuc 5)
    ∷ shift (ev 1 (2 ∷ []) ∷ []) [] (negsuc 5)
    ∷ shift (ev 3 (3 ∷ 3 ∷ []) ∷ []) [] (negsuc 5)
    ∷ shift (ev 3 (3 ∷ []) ∷ ev 3 (3 ∷ []) ∷ []) [] (negsuc 5)
    -- a PF of a page held, by an earlier PF too, also where more than k pages are held
    ∷ shift (pf 1 1 ∷ []) [] (negsuc 5)
    ∷ shift (pf 0 9 ∷ pf 0 9 ∷ []) [] (negsuc 5)
    ∷ shift (pf 0 6 ∷ pf 0 7 ∷ pf 0 8 ∷ pf 0 9 ∷ pf 0 6 ∷ []) [] (negsuc 5)
    ∷ shift (pf 0 6 ∷ pf 0 7 ∷ pf 0 8 ∷ pf 0 9 ∷ []) (90 ∷ 90 ∷ []) (negsuc 3)
    ∷ shift (pf 0 6 ∷ pf 0 7 ∷ pf 0 8 ∷ pf 0 9 ∷ []) [] (negsuc 6)
    -- an over_full last request
    ∷ row 2 1 (1 ∷ []) (pf 0 2 ∷ pf 0 3 ∷ []) (negsuc 6)
    -- legal: the requested page is evicted, is fetched ahead, is evicted and fetched at one t; a page 0; two EVs at one t
    ∷ row 2 1 (1 ∷ 1 ∷ []) (ev 1 (1 ∷ []) ∷ []) (pos 1)
    ∷ row 2 1 (1 ∷ 2 ∷ []) (pf 0 1 ∷ pf 0 2 ∷ []) (pos 0)
    ∷ row 2 1 (1 ∷ 1 ∷ []) (ev 1 (1 ∷ []) ∷ pf 1 1 ∷ []) (pos 1)
    ∷ row 1 1 (0 ∷ 5 ∷ 0 ∷ []) (ev 1 (0 ∷ []) ∷ ev 2 (5 ∷ []) ∷ []) (pos 2)
    ∷ row 2 2 (1 ∷ 2 ∷ 3 ∷ []) (ev 2 (1 ∷ []) ∷ ev 2 (2 ∷ []) ∷ []) (pos 2)
    -- no request: KA alone costs 0, an entry of right form is 6
    ∷ row 2 1 [] [] (pos 0)
    ∷ row 2 1 [] (pf 0 1 ∷ []) (negsuc 5)
    -- runs (document 02, request 03): 1 1 1 2 3, where t counts single requests: an EV inside a run, of its own page, which is loaded again
    ∷ runs 2 1 (rr 1 3 ∷ rq 2 ∷ rq 3 ∷ []) [] (ev 4 (1 ∷ []) ∷ []) (pos 1)
    ∷ runs 2 1 (rr 1 3 ∷ rq 2 ∷ rq 3 ∷ []) [] (ev 1 (1 ∷ []) ∷ ev 4 (2 ∷ []) ∷ []) (pos 2)
    ∷ runs 2 1 (rr 1 3 ∷ rq 2 ∷ rq 3 ∷ []) [] [] (negsuc 6)
    ∷ runs 2 1 (rr 1 3 ∷ rq 2 ∷ rq 3 ∷ []) [] (ev 5 (1 ∷ []) ∷ []) (negsuc 5)
    -- a PF inside a run; a run of one; two runs of one page
    ∷ runs 2 1 (rr 1 3 ∷ rq 2 ∷ []) [] (pf 2 2 ∷ []) (pos 0)
    ∷ runs 1 1 (rr 1 1 ∷ rr 1 2 ∷ rr 2 1 ∷ []) [] (ev 3 (1 ∷ []) ∷ []) (pos 1)
    -- a run of no request is 13; where it is cut, 5 comes before
    ∷ runs 2 1 (rq 1 ∷ []) (rr_bytes 1 0) [] (negsuc 12)
    ∷ runs 2 1 (rq 1 ∷ []) (82 ∷ 82 ∷ 1 ∷ 0 ∷ 0 ∷ 0 ∷ 0 ∷ []) [] (negsuc 4)
    ∷ runs 2 1 (rq 1 ∷ []) (82 ∷ 82 ∷ []) [] (negsuc 4)
    -- a run in front of the KA, whole or cut, and one in a schedule are 4
    ∷ record { trace = rr_bytes 1 3; schedule = ka_bytes 2 1; answer = negsuc 3 }
    ∷ record { trace = 82 ∷ 82 ∷ []; schedule = ka_bytes 2 1; answer = negsuc 3 }
    ∷ record { trace = trace_bytes 2 1 (rr 1 3 ∷ []); schedule = ka_bytes 2 1 ++ rr_bytes 1 3; answer = negsuc 3 }
    ∷ record { trace = trace_bytes 2 1 (rr 1 3 ∷ []); schedule = ka_bytes 2 1 ++ (82 ∷ 82 ∷ []); answer = negsuc 3 }
    ∷ []

table_holds : every table ≡ true
unfolding ◌and◌ ◌or◌ sizes_refusal mark_of mark_at ka_read rq_read rr_read request_read count_refused ev_read pf_read entry_read read_trace read_schedule requests_from entries_from trace_file judged
table_holds = refl
