-- The records of the new edition: those of one run, what they stand for, and what the requests of one record in front of a trace make of the whole.
use Prim.Native.Nat.{ℕ, zero, suc, ◌+◌, ◌-◌, ◌≤◌, ◌<◌}
use native.Mathlib.Omega.{arith}
use mathlib.Core.List.{List, [], ◌∷◌, ◌++◌, append_assoc, append-nil}
use mathlib.Core.Path.{◌≡◌, refl, sym, ap, ◌∙◌}
use lib.Dec.{eqb, ltb}
use lib.ListN.{replicate}
use borrow.Author.Tests.{le-ltb, lt-ltb, eqb-true, eqb-false}
use Rattle.lists.specs.Choice.{pick}
use Rattle.lists.proofs.Choice.{cases, by_test, tests}
use Rattle.records.specs.Bytes.{TraceEntry, rq, rr, requests_of, all_requests_of, RunsWritable}
use Rattle.editions.specs.Editions.{PageRun, run, longest_rr, longest_runs, run_record, run_records, all_run_records, new_records}
use Rattle.editions.specs.Longest.{requests_of_runs, Longest, RecordFits, RecordsFit}
use Rattle.editions.specs.inner.Turning.{Ends}
use Rattle.editions.proofs.LongestRuns.{first_run, same_page, Differs, other_page, runs_make_the_trace, runs_are_longest}

-- ---- the records of one run

abbrev pub records_of : (page times : ℕ) → List TraceEntry
records_of page times = run_records times page times

-- a higher bound on the records makes no difference
enough : (f g page times : ℕ) → 0 < times → times ≤ f → times ≤ g → run_records f page times ≡ run_records g page times
enough zero g page times some hf hg = absurd (omega arith)
enough (suc f) zero page times some hf hg = absurd (omega arith)
enough (suc f) (suc g) page times some hf hg =
    cases (ltb longest_rr times)
    (λ e. rw e (ap (λ (l : List TraceEntry). rr page longest_rr ∷ l) (enough f g page (times - longest_rr) (omega tests) (omega tests) (omega tests))))
    (λ e. rw e)

pub short_run : (page times : ℕ) → 0 < times → times ≤ longest_rr → records_of page times ≡ run_record page times ∷ []
short_run page zero some few = absurd (omega arith)
short_run page (suc n) some few = rw (le-ltb longest_rr (suc n) few)

pub long_run : (page times : ℕ) → longest_rr < times → records_of page times ≡ rr page longest_rr ∷ records_of page (times - longest_rr)
long_run page zero h = absurd (omega arith)
long_run page (suc n) h =
    rw (lt-ltb longest_rr (suc n) h)
    (ap (λ (l : List TraceEntry). rr page longest_rr ∷ l) (enough n (suc n - longest_rr) page (suc n - longest_rr) (omega arith) (omega arith) (omega arith)))

-- what holds of short runs, and of longer ones if of their rest, holds of all
pub each_run : (P : ℕ → Type 0) → ((times : ℕ) → 0 < times → times ≤ longest_rr → P times)
    → ((times : ℕ) → longest_rr < times → P (times - longest_rr) → P times) → (bound times : ℕ) → times ≤ bound → 0 < times → P times
each_run P short long zero times h some = absurd (omega arith)
each_run P short long (suc bound) times h some =
    cases (ltb longest_rr times)
    (λ e. long times (omega tests) (each_run P short long bound (times - longest_rr) (omega tests) (omega tests)))
    (λ e. short times some (omega tests))

-- ---- what they stand for

pub replicate_add : (m n page : ℕ) → replicate (m + n) page ≡ replicate m page ++ replicate n page
replicate_add zero n page = let e : 0 + n ≡ n = omega arith in rw e
replicate_add (suc m) n page =
    let e : suc m + n ≡ suc (m + n) = omega arith in
    rw e (ap (λ (l : List ℕ). page ∷ l) (replicate_add m n page))

pub replicate_parts : (m n page : ℕ) → m ≤ n → replicate n page ≡ replicate m page ++ replicate (n - m) page
replicate_parts m n page h =
    let e : n ≡ m + (n - m) = omega arith in
    ap (λ (x : ℕ). replicate x page) e ∙ replicate_add m (n - m) page

record_stands : (page times : ℕ) → requests_of (run_record page times) ≡ replicate times page
record_stands page times =
    by_test (λ t. requests_of (pick t (rq page) (rr page times)) ≡ replicate times page) (eqb times 1)
    (λ e. let one = eqb-true times 1 e in rw one) (λ e. refl)

stands_append : (xs ys : List TraceEntry) → all_requests_of (xs ++ ys) ≡ all_requests_of xs ++ all_requests_of ys
stands_append [] ys = refl
stands_append (e ∷ xs) ys =
    ap (λ (l : List ℕ). requests_of e ++ l) (stands_append xs ys) ∙ sym (append_assoc (requests_of e) (all_requests_of xs) (all_requests_of ys))

run_stands : (page times : ℕ) → 0 < times → all_requests_of (records_of page times) ≡ replicate times page
run_stands page times some =
    each_run (λ n. all_requests_of (records_of page n) ≡ replicate n page)
    (λ n s f. ap all_requests_of (short_run page n s f) ∙ append-nil (requests_of (run_record page n)) ∙ record_stands page n)
    (λ n h again. ap all_requests_of (long_run page n h) ∙ ap (λ (l : List ℕ). replicate longest_rr page ++ l) again
    ∙ sym (replicate_parts longest_rr n page (omega arith)))
    times times (omega arith) some

all_stand : (runs : List PageRun) → Longest runs → all_requests_of (all_run_records runs) ≡ requests_of_runs runs
all_stand [] l = refl
all_stand (r ∷ rs) l =
    stands_append (records_of r.page r.times) (all_run_records rs)
    ∙ ap (λ (xs : List ℕ). xs ++ all_requests_of (all_run_records rs)) (run_stands r.page r.times l.0)
    ∙ ap (λ (xs : List ℕ). replicate r.times r.page ++ xs) (all_stand rs l.1.1)

pub new_records_stand : (pages : List ℕ) → all_requests_of (new_records pages) ≡ pages
unfolding new_records
new_records_stand pages = all_stand (longest_runs pages) (runs_are_longest pages) ∙ runs_make_the_trace pages

-- ---- each has 1 to 65,535 requests

record_fits : (page times : ℕ) → 0 < times → times ≤ longest_rr → RecordFits (run_record page times)
record_fits page times some few =
    by_test (λ t. RecordFits (pick t (rq page) (rr page times))) (eqb times 1) (λ e. tt) (λ e. (some, few))

run_fits : (page times : ℕ) → 0 < times → RecordsFit (records_of page times)
run_fits page times some =
    each_run (λ n. RecordsFit (records_of page n)) (λ n s f. rw (short_run page n s f) (record_fits page n s f, tt))
    (λ n h again. rw (long_run page n h) ((omega arith, omega arith), again)) times times (omega arith) some

fits_append : (xs ys : List TraceEntry) → RecordsFit xs → RecordsFit ys → RecordsFit (xs ++ ys)
fits_append [] ys f g = g
fits_append (e ∷ xs) ys f g = (f.0, fits_append xs ys f.1 g)

all_fit : (runs : List PageRun) → Longest runs → RecordsFit (all_run_records runs)
all_fit [] l = tt
all_fit (r ∷ rs) l = fits_append (records_of r.page r.times) (all_run_records rs) (run_fits r.page r.times l.0) (all_fit rs l.1.1)

pub new_records_fit : (pages : List ℕ) → RecordsFit (new_records pages)
unfolding new_records
new_records_fit pages = all_fit (longest_runs pages) (runs_are_longest pages)

pub fits_writable : (es : List TraceEntry) → RecordsFit es → RunsWritable es
fits_writable [] f = tt
fits_writable (rq page ∷ es) f = (tt, fits_writable es f.1)
fits_writable (rr page times ∷ es) f = (f.0.0, fits_writable es f.1)

-- ---- where the requests of one record end

pub ends_at_other : (page times other n : ℕ) (rest : List ℕ) → 0 < n → (other ≡ page → ⊥) → Ends page times (replicate n other ++ rest)
ends_at_other page times other zero rest some differs = absurd (omega arith)
ends_at_other page times other (suc n) rest some differs = λ e. absurd (differs (sym e))

pub ends_full : (page : ℕ) (rest : List ℕ) → Ends page longest_rr rest
ends_full page [] = tt
ends_full page (next ∷ rest) = λ e. refl

-- ---- the requests of one record in front of a trace

-- the run ends with them
run_ends : (page n : ℕ) (rest : List ℕ) → suc n ≤ longest_rr → Differs page rest
    → new_records (replicate (suc n) page ++ rest) ≡ run_record page (suc n) ∷ new_records rest
unfolding new_records
run_ends page n rest few d =
    ap all_run_records (other_page n page rest d)
    ∙ ap (λ (l : List TraceEntry). l ++ all_run_records (longest_runs rest)) (short_run page (suc n) (omega arith) few)

-- the run goes on behind them, since no RR has more
run_goes_on : (page times : ℕ) (rest : List ℕ) → times ≡ longest_rr → new_records (replicate times page ++ (page ∷ rest)) ≡ run_record page times ∷ new_records (page ∷ rest)
unfolding new_records
run_goes_on page times rest full =
    let f = first_run page rest in
    let n = suc f.more in
    let same : times + n - longest_rr ≡ n = omega arith in
    let first : rr page longest_rr ≡ run_record page times = sym (ap (run_record page) full) in
    ap all_run_records (same_page times page n (page ∷ rest) f.others f.is)
    ∙ ap (λ (l : List TraceEntry). l ++ all_run_records f.others) (long_run page (times + n) (omega arith))
    ∙ ap (λ (m : ℕ). (rr page longest_rr ∷ records_of page m) ++ all_run_records f.others) same
    ∙ ap (λ (e : TraceEntry). e ∷ all_run_records (run page n ∷ f.others)) first
    ∙ ap (λ (l : List PageRun). run_record page times ∷ all_run_records l) (sym f.is)

pub one_record : (page times : ℕ) (rest : List ℕ) → 0 < times → times ≤ longest_rr → Ends page times rest
    → new_records (replicate times page ++ rest) ≡ run_record page times ∷ new_records rest
one_record page zero rest some few ends = absurd (omega arith)
one_record page (suc n) [] some few ends = run_ends page n [] few tt
one_record page (suc n) (next ∷ rest) some few ends =
    cases (eqb page next)
    (λ e. let same = eqb-true page next e in rw (← same) (run_goes_on page (suc n) rest (ends same)))
    (λ e. run_ends page n (next ∷ rest) few (eqb-false page next e))
