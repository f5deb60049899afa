-- The definitions computed: the records of small traces by hand, files read and turned, and the long runs of document 02's request 08.
use Prim.Native.Nat.{ℕ, zero, suc, ◌<◌}
use native.Mathlib.Omega.{arith}
use mathlib.Core.Bool.{Bool, true}
use mathlib.Core.List.{List, [], ◌∷◌, ◌++◌, append-nil}
use mathlib.Core.Path.{◌≡◌, refl, sym, ap, ◌∙◌}
use lib.Dec.{eqb}
use lib.ListN.{replicate}
use Rattle.lists.specs.Choice.{◌and◌, ◌or◌}
use Rattle.paging.specs.Refusals.{sizes_refusal}
use Rattle.paging.specs.Same.{same_pages, every}
use Rattle.records.specs.Bytes.{rq, rr, ka_bytes, rq_bytes, rr_bytes, joined}
use Rattle.records.specs.Marks.{mark_of, mark_at}
use Rattle.reading.specs.Files.{requests_from}
use Rattle.reading.specs.Reading.{ka_read, rq_read, rr_read, request_read, read_trace}
use Rattle.traces.specs.Traces.{trace_file}
use Rattle.editions.specs.Calls.{Edition, converted_of, bytes_after}
use Rattle.editions.specs.Editions.{longest_runs, run_records, all_run_records, new_records, old_bytes, new_bytes}
use Rattle.editions.proofs.LongestRuns.{other_page}

-- ---- records

no_request : new_records [] ≡ []
unfolding new_records
no_request = refl

one_run_of_five : new_records (5 ∷ 5 ∷ 5 ∷ 5 ∷ 5 ∷ []) ≡ rr 5 5 ∷ []
unfolding new_records
one_run_of_five = refl

runs_of_one_and_two : new_records (1 ∷ 2 ∷ 2 ∷ 1 ∷ 1 ∷ 3 ∷ []) ≡ rq 1 ∷ rr 2 2 ∷ rr 1 2 ∷ rq 3 ∷ []
unfolding new_records
runs_of_one_and_two = refl

-- ---- equal requests, as many as wanted

equal_requests : (n page : ℕ) → 0 < n → new_records (replicate n page) ≡ run_records n page n
unfolding new_records
equal_requests zero page h = absurd (omega arith)
equal_requests (suc n) page h =
    ap (λ (l : List ℕ). all_run_records (longest_runs l)) (sym (append-nil (replicate (suc n) page)))
    ∙ ap all_run_records (other_page n page [] tt) ∙ append-nil (run_records (suc n) page (suc n))

longest_rr_lem : new_records (replicate 65535 7) ≡ rr 7 65535 ∷ []
longest_rr_lem = equal_requests 65535 7 (omega arith)

one_more : new_records (replicate 65536 7) ≡ rr 7 65535 ∷ rq 7 ∷ []
one_more = equal_requests 65536 7 (omega arith)

two_more : new_records (replicate 65537 7) ≡ rr 7 65535 ∷ rr 7 2 ∷ []
two_more = equal_requests 65537 7 (omega arith)

twice_and_one : new_records (replicate 131071 7) ≡ rr 7 65535 ∷ rr 7 65535 ∷ rq 7 ∷ []
twice_and_one = equal_requests 131071 7 (omega arith)

-- ---- files

-- KA 3 2; RQ 5, RR 5 three times, RQ 5
abbrev mixed : List ℕ
mixed = 75 ∷ 65 ∷ 3 ∷ 0 ∷ 2 ∷ 0 ∷ 82 ∷ 81 ∷ 5 ∷ 0 ∷ 0 ∷ 0 ∷ 82 ∷ 82 ∷ 5 ∷ 0 ∷ 0 ∷ 0 ∷ 3 ∷ 0 ∷ 82 ∷ 81 ∷ 5 ∷ 0 ∷ 0 ∷ 0 ∷ []

-- KA 3 2; RR 5 five times
abbrev one_run : List ℕ
one_run = 75 ∷ 65 ∷ 3 ∷ 0 ∷ 2 ∷ 0 ∷ 82 ∷ 82 ∷ 5 ∷ 0 ∷ 0 ∷ 0 ∷ 5 ∷ 0 ∷ []

abbrev singles_of_it : List ℕ
singles_of_it = 75 ∷ 65 ∷ 3 ∷ 0 ∷ 2 ∷ 0 ∷ joined rq_bytes (5 ∷ 5 ∷ 5 ∷ 5 ∷ 5 ∷ [])

abbrev refusal : Edition → (most : ℕ) → (file : List ℕ) → (lent : ℕ) → ℕ
refusal edition most file lent = (converted_of edition (trace_file most file) (replicate lent 9)).refusal

abbrev after : Edition → (file : List ℕ) → (lent : ℕ) → List ℕ
after edition file lent = bytes_after edition (trace_file 4096 file) (replicate lent 9)

examples : List Bool
examples =
    same_pages (after new_bytes mixed 16) (one_run ++ (9 ∷ 9 ∷ []))
    ∷ same_pages (after old_bytes mixed 36) singles_of_it
    ∷ same_pages (after old_bytes one_run 37) (singles_of_it ++ (9 ∷ []))
    ∷ same_pages (after new_bytes singles_of_it 14) one_run
    -- a byte short: 8, and nothing is changed
    ∷ eqb (refusal new_bytes 4096 mixed 13) 8
    ∷ same_pages (after new_bytes mixed 13) (replicate 13 9)
    ∷ eqb (refusal old_bytes 4096 mixed 35) 8
    -- the input's own refusals come first
    ∷ eqb (refusal old_bytes 4 mixed 0) 3
    ∷ eqb (refusal new_bytes 4096 (mixed ++ (82 ∷ [])) 0) 5
    ∷ eqb (refusal new_bytes 4096 [] 0) 5
    ∷ eqb (refusal old_bytes 4096 (ka_bytes 3 4) 0) 2
    ∷ eqb (refusal new_bytes 4096 (ka_bytes 3 2 ++ rr_bytes 5 0) 0) 13
    -- a KA alone
    ∷ same_pages (after new_bytes (ka_bytes 3 2) 7) (ka_bytes 3 2 ++ (9 ∷ []))
    ∷ same_pages (after old_bytes (ka_bytes 3 2) 6) (ka_bytes 3 2)
    -- a run of one
    ∷ same_pages (after new_bytes (ka_bytes 3 2 ++ rr_bytes 5 1) 12) (ka_bytes 3 2 ++ rq_bytes 5)
    ∷ []

examples_hold : every examples ≡ true
unfolding every examples same_pages ◌and◌ ◌or◌ sizes_refusal mark_of mark_at requests_from ka_read rq_read rr_read request_read read_trace trace_file new_records old_bytes new_bytes
examples_hold = refl
