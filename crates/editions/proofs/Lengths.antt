-- The lengths of the two editions. No file of a trace is shorter than its new edition.
use Prim.Native.Nat.{ℕ, suc, ◌+◌, ◌*◌, ◌-◌, ◌≤◌, ◌<◌}
use native.Mathlib.Omega.{arith}
use mathlib.Core.List.{List, [], ◌∷◌, ◌++◌, append_assoc}
use mathlib.Core.Path.{◌≡◌, refl, sym, ap, ◌∙◌}
use lib.Dec.{eqb, ltb}
use lib.ListN.{length, replicate, length-append}
use borrow.Author.Tests.{eqb-true, eqb-false}
use Rattle.lists.specs.Choice.{pick}
use Rattle.lists.proofs.Choice.{cases, by_test, tests}
use Rattle.records.specs.Bytes.{TraceEntry, rq, rr, trace_entry_bytes, joined, requests_of, all_requests_of, singles}
use Rattle.records.proofs.Files.{singles_stand}
use Rattle.editions.specs.Editions.{PageRun, longest_rr, longest_runs, run_record, all_run_records, old_bytes, new_records, new_bytes}
use Rattle.editions.specs.Longest.{RecordFits, RecordsFit}
use Rattle.editions.specs.inner.Turning.{old_behind, new_behind, Ends}
use Rattle.editions.proofs.LongestRuns.{first_run, same_page}
use Rattle.editions.proofs.RunRecords.{records_of, short_run, long_run, each_run, one_record}

-- ---- records one behind the other

pub joined_append : {A : Type 0} (bytes : A → List ℕ) (xs ys : List A) → joined bytes (xs ++ ys) ≡ joined bytes xs ++ joined bytes ys
joined_append bytes [] ys = refl
joined_append bytes (x ∷ xs) ys =
    ap (λ (l : List ℕ). bytes x ++ l) (joined_append bytes xs ys) ∙ sym (append_assoc (bytes x) (joined bytes xs) (joined bytes ys))

abbrev size : List TraceEntry → ℕ
size es = length (joined trace_entry_bytes es)

size_append : (xs ys : List TraceEntry) → size (xs ++ ys) ≡ size xs + size ys
size_append xs ys = ap length (joined_append trace_entry_bytes xs ys) ∙ length-append (joined trace_entry_bytes xs) (joined trace_entry_bytes ys)

size_first : (e : TraceEntry) (es : List TraceEntry) → size (e ∷ es) ≡ length (trace_entry_bytes e) + size es
size_first e es = length-append (trace_entry_bytes e) (joined trace_entry_bytes es)

-- ---- the record of a run: 6 bytes for one request, 8 for more

abbrev pub cost : (times : ℕ) → ℕ
cost times = pick (eqb times 1) 6 8

pub record_length : (page times : ℕ) → length (trace_entry_bytes (run_record page times)) ≡ cost times
record_length page times =
    by_test (λ t. length (trace_entry_bytes (pick t (rq page) (rr page times))) ≡ pick t 6 8) (eqb times 1) (λ e. refl) (λ e. refl)

pub record CostIs (times : ℕ) : Type 0 where
  pub low : 6 ≤ cost times
  pub high : cost times ≤ 8
  pub one : times ≡ 1 → cost times ≡ 6
  pub more : (times ≡ 1 → ⊥) → cost times ≡ 8

pub cost_is : (times : ℕ) → CostIs times
cost_is times =
    cases (eqb times 1)
    (λ e. let one = eqb-true times 1 e in
    record { low = rw e (omega arith); high = rw e (omega arith); one = λ h. rw e; more = λ h. absurd (h one) })
    (λ e. let more = eqb-false times 1 e in
    record { low = rw e (omega arith); high = rw e (omega arith); one = λ h. absurd (more h); more = λ h. rw e })

-- ---- a run, and a longer one

abbrev run_size : (page times : ℕ) → ℕ
run_size page times = size (records_of page times)

short_size : (page times : ℕ) → 0 < times → times ≤ longest_rr → run_size page times ≡ cost times
short_size page times some few =
    ap size (short_run page times some few) ∙ size_first (run_record page times) [] ∙ (let l = record_length page times in omega arith)

long_size : (page times : ℕ) → longest_rr < times → run_size page times ≡ 8 + run_size page (times - longest_rr)
long_size page times h = ap size (long_run page times h) ∙ size_first (rr page longest_rr) (records_of page (times - longest_rr))

-- requests of one record more cost no more than that record: both runs fit one record each
both_short : (page times n : ℕ) → 0 < times → times ≤ longest_rr → 0 < n → n ≤ longest_rr → run_size page (times + n) ≤ cost times + run_size page n
both_short page times n some few some' few' =
    let own = short_size page n some' few' in
    let c = cost_is times in
    let d = cost_is n in
    cases (ltb longest_rr (times + n))
    (λ e. let more = times + n - longest_rr in
    let h : longest_rr < times + n = omega tests in
    let long = long_size page (times + n) h in
    let rest = short_size page more (omega arith) (omega arith) in
    let x = cost_is more in
    parted h long rest own)
    (λ e. let one = short_size page (times + n) (omega arith) (omega tests) in
    let x = (cost_is (times + n)).high in
    let l = c.low in
    let m = d.low in
    omega arith)
  where
    -- 8 and the rest, beside the two: a rest of one or both of them longer than one
    parted : longest_rr < times + n → run_size page (times + n) ≡ 8 + run_size page (times + n - longest_rr)
        → run_size page (times + n - longest_rr) ≡ cost (times + n - longest_rr) → run_size page n ≡ cost n → run_size page (times + n) ≤ cost times + run_size page n
    parted h long rest own =
        cases (eqb times 1)
        (λ e. let one : times ≡ 1 = omega tests in
        let left : times + n - longest_rr ≡ 1 = omega arith in
        let x = (cost_is (times + n - longest_rr)).one left in
        let y = (cost_is times).one one in
        let z = (cost_is n).more (λ w. omega arith) in
        omega arith)
        (λ e. let y = (cost_is times).more (λ w. omega tests) in
        cases (eqb n 1)
        (λ g. let one : n ≡ 1 = omega tests in
        let left : times + n - longest_rr ≡ 1 = omega arith in
        let x = (cost_is (times + n - longest_rr)).one left in
        let z = (cost_is n).one one in
        omega arith)
        (λ g. let z = (cost_is n).more (λ w. omega tests) in
        let x = (cost_is (times + n - longest_rr)).high in
        omega arith))

longer_run : (page times n : ℕ) → 0 < times → times ≤ longest_rr → 0 < n → run_size page (times + n) ≤ cost times + run_size page n
longer_run page times n some few some' =
    each_run (λ m. run_size page (times + m) ≤ cost times + run_size page m) (λ m s f. both_short page times m some few s f)
    (λ m h again. let one = long_size page m h in
    let both = long_size page (times + m) (omega arith) in
    let same : times + m - longest_rr ≡ times + (m - longest_rr) = omega arith in
    let moved = ap (run_size page) same in
    omega arith)
    n n (omega arith) some'

-- ---- the requests of one record in front of a trace

new_size : (pages : List ℕ) → length (new_behind pages) ≡ size (all_run_records (longest_runs pages))
unfolding new_records
new_size pages = refl

-- they lengthen the first run
same_costs : (page times : ℕ) (rest : List ℕ) → 0 < times → times ≤ longest_rr
    → length (new_behind (replicate times page ++ (page ∷ rest))) ≤ cost times + length (new_behind (page ∷ rest))
same_costs page times rest some few =
    let f = first_run page rest in
    let n = suc f.more in
    let before = new_size (page ∷ rest) ∙ ap (λ (l : List PageRun). size (all_run_records l)) f.is ∙ size_append (records_of page n) (all_run_records f.others) in
    let after = new_size (replicate times page ++ (page ∷ rest))
    ∙ ap (λ (l : List PageRun). size (all_run_records l)) (same_page times page n (page ∷ rest) f.others f.is)
    ∙ size_append (records_of page (times + n)) (all_run_records f.others) in
    let more = longer_run page times n some few (omega arith) in
    omega arith

-- or are a record of their own
pub in_front_lem : (page times : ℕ) (rest : List ℕ) → 0 < times → times ≤ longest_rr → Ends page times rest
    → length (new_behind (replicate times page ++ rest)) ≡ cost times + length (new_behind rest)
in_front_lem page times rest some few ends =
    let one = ap size (one_record page times rest some few ends) ∙ size_first (run_record page times) (new_records rest) in
    let c = record_length page times in
    omega arith

pub in_front_costs : (page times : ℕ) (rest : List ℕ) → 0 < times → times ≤ longest_rr
    → length (new_behind (replicate times page ++ rest)) ≤ cost times + length (new_behind rest)
in_front_costs page times [] some few = let l = in_front_lem page times [] some few tt in omega arith
in_front_costs page times (next ∷ rest) some few =
    cases (eqb page next)
    (λ e. let same = eqb-true page next e in rw (← same) (same_costs page times rest some few))
    (λ e. let l = in_front_lem page times (next ∷ rest) some few (λ same. absurd (eqb-false page next e same)) in omega arith)

pub no_run_left : new_behind [] ≡ []
unfolding new_records
no_run_left = refl

-- ---- no records of a trace are shorter

record_costs : (e : TraceEntry) (rest : List ℕ) → RecordFits e → length (new_behind (requests_of e ++ rest)) ≤ length (trace_entry_bytes e) + length (new_behind rest)
record_costs (rq page) rest f = in_front_costs page 1 rest (omega arith) (omega arith)
record_costs (rr page times) rest f =
    let c = (cost_is times).high in
    let l = in_front_costs page times rest f.0 f.1 in
    omega arith

pub none_shorter : (es : List TraceEntry) → RecordsFit es → length (new_behind (all_requests_of es)) ≤ length (joined trace_entry_bytes es)
unfolding new_records
none_shorter [] f = omega arith
none_shorter (e ∷ es) f =
    let first = record_costs e (all_requests_of es) f.0 in
    let again = none_shorter es f.1 in
    let l = size_first e es in
    omega arith

-- ---- the old edition

pub old_size : (pages : List ℕ) → length (old_behind pages) ≡ 6 * length pages
old_size [] = refl
old_size (page ∷ pages) = let again = old_size pages in omega arith

singles_fit : (pages : List ℕ) → RecordsFit (singles pages)
singles_fit [] = tt
singles_fit (page ∷ pages) = (tt, singles_fit pages)

pub new_behind_short : (pages : List ℕ) → length (new_behind pages) ≤ 6 * length pages
new_behind_short pages =
    let l = none_shorter (singles pages) (singles_fit pages) in
    let same = ap (λ (ps : List ℕ). length (new_behind ps)) (singles_stand pages) in
    let old = old_size pages in
    omega arith

pub old_length : (k a : ℕ) (pages : List ℕ) → length (old_bytes k a pages) ≡ 6 + 6 * length pages
unfolding old_bytes
old_length k a pages = let old = old_size pages in omega arith

pub new_length : (k a : ℕ) (pages : List ℕ) → length (new_bytes k a pages) ≡ 6 + length (new_behind pages)
unfolding new_bytes
new_length k a pages = omega arith

pub new_never_longer : (k a : ℕ) (pages : List ℕ) → length (new_bytes k a pages) ≤ length (old_bytes k a pages)
new_never_longer k a pages =
    let new = new_length k a pages in
    let old = old_length k a pages in
    let short = new_behind_short pages in
    omega arith
