-- The longest runs of a trace: they are what the definition's words say and nothing else is, and what a run in front of a trace makes of them.
use Prim.Native.Nat.{ℕ, zero, suc, ◌+◌, ◌<◌}
use native.Mathlib.Nat.{zero-add}
use native.Mathlib.Omega.{arith}
use mathlib.Core.List.{List, [], ◌∷◌, ◌++◌}
use mathlib.Core.Path.{◌≡◌, refl, sym, ap, ◌∙◌}
use lib.Dec.{eqb}
use lib.ListN.{replicate}
use borrow.Author.Tests.{ne_eqb, eqb-true, eqb-false}
use Rattle.lists.specs.Choice.{pick}
use Rattle.lists.proofs.Choice.{cases, by_test, eqb_self}
use Rattle.editions.specs.Editions.{PageRun, run, in_front, longest_runs}
use Rattle.editions.specs.Longest.{requests_of_runs, Apart, Longest}

-- ---- the first run is of the first request's page

pub record FirstRun (page : ℕ) (runs : List PageRun) : Type 0 where
  pub more : ℕ
  pub others : List PageRun
  pub is : runs ≡ run page (suc more) ∷ others

front_first : (page : ℕ) (runs : List PageRun) → FirstRun page (in_front page runs)
front_first page [] = record { more = 0; others = []; is = refl }
front_first page (r ∷ rs) =
    by_test (λ t. FirstRun page (pick t (run page (suc r.times) ∷ rs) (run page 1 ∷ r ∷ rs))) (eqb page r.page)
    (λ e. record { more = r.times; others = rs; is = refl }) (λ e. record { more = 0; others = r ∷ rs; is = refl })

pub first_run : (page : ℕ) (pages : List ℕ) → FirstRun page (longest_runs (page ∷ pages))
first_run page pages = front_first page (longest_runs pages)

-- ---- requests for one page in front

lengthened : (page times : ℕ) (rs : List PageRun) → in_front page (run page times ∷ rs) ≡ run page (suc times) ∷ rs
lengthened page times rs = rw (eqb_self page)

-- the first run is of this page: it gets longer
pub same_page : (times page n : ℕ) (rest : List ℕ) (rs : List PageRun) → longest_runs rest ≡ run page n ∷ rs
    → longest_runs (replicate times page ++ rest) ≡ run page (times + n) ∷ rs
same_page zero page n rest rs e = rw (zero-add n) e
same_page (suc times) page n rest rs e =
    let s : suc (times + n) ≡ suc times + n = omega arith in
    ap (in_front page) (same_page times page n rest rs e) ∙ lengthened page (times + n) rs ∙ ap (λ (m : ℕ). run page m ∷ rs) s

-- the trace behind starts with another page, or there is none
abbrev pub Differs : (page : ℕ) → (rest : List ℕ) → Type 0
Differs page [] = Unit {0}
Differs page (next ∷ rest) = page ≡ next → ⊥

alone : (page : ℕ) (rest : List ℕ) → Differs page rest → longest_runs (page ∷ rest) ≡ run page 1 ∷ longest_runs rest
alone page [] d = refl
alone page (next ∷ rest) d =
    let f = first_run next rest in
    ap (in_front page) f.is ∙ rw (ne_eqb page next d) (ap (λ (rs : List PageRun). run page 1 ∷ rs) (sym f.is))

pub other_page : (times page : ℕ) (rest : List ℕ) → Differs page rest
    → longest_runs (replicate (suc times) page ++ rest) ≡ run page (suc times) ∷ longest_runs rest
other_page zero page rest d = alone page rest d
other_page (suc times) page rest d = ap (in_front page) (other_page times page rest d) ∙ lengthened page (suc times) (longest_runs rest)

-- ---- they make up the trace, and no run can be longer

front_requests : (page : ℕ) (runs : List PageRun) → requests_of_runs (in_front page runs) ≡ page ∷ requests_of_runs runs
front_requests page [] = refl
front_requests page (r ∷ rs) =
    by_test (λ t. requests_of_runs (pick t (run page (suc r.times) ∷ rs) (run page 1 ∷ r ∷ rs)) ≡ page ∷ requests_of_runs (r ∷ rs)) (eqb page r.page)
    (λ e. let same = eqb-true page r.page e in rw same) (λ e. refl)

pub runs_make_the_trace : (pages : List ℕ) → requests_of_runs (longest_runs pages) ≡ pages
runs_make_the_trace [] = refl
runs_make_the_trace (page ∷ pages) = front_requests page (longest_runs pages) ∙ ap (λ (l : List ℕ). page ∷ l) (runs_make_the_trace pages)

front_longest : (page : ℕ) (runs : List PageRun) → Longest runs → Longest (in_front page runs)
front_longest page [] l = (omega arith, (tt, tt))
front_longest page (r ∷ rs) l =
    cases (eqb page r.page)
    (λ e. let same = eqb-true page r.page e in rw e (omega arith, (rw same l.1.0, l.1.1)))
    (λ e. rw e (omega arith, (eqb-false page r.page e, l)))

pub runs_are_longest : (pages : List ℕ) → Longest (longest_runs pages)
runs_are_longest [] = tt
runs_are_longest (page ∷ pages) = front_longest page (longest_runs pages) (runs_are_longest pages)

-- ---- there are no others

differs : (page : ℕ) (rs : List PageRun) → Apart page rs → Longest rs → Differs page (requests_of_runs rs)
differs page [] a l = tt
differs page (s ∷ rs) a l = some s.times l.0
  where
    some : (n : ℕ) → 0 < n → Differs page (replicate n s.page ++ requests_of_runs rs)
    some zero h = absurd (omega arith)
    some (suc n) h = a

found_again : (runs : List PageRun) → Longest runs → longest_runs (requests_of_runs runs) ≡ runs
found_again [] l = refl
found_again (r ∷ rs) l = some r.times l.0 ∙ ap (λ (xs : List PageRun). r ∷ xs) (found_again rs l.1.1)
  where
    some : (n : ℕ) → 0 < n → longest_runs (replicate n r.page ++ requests_of_runs rs) ≡ run r.page n ∷ longest_runs (requests_of_runs rs)
    some zero h = absurd (omega arith)
    some (suc n) h = other_page n r.page (requests_of_runs rs) (differs r.page rs l.1.0 l.1.1)

pub no_other_runs : (runs : List PageRun) (pages : List ℕ) → Longest runs → requests_of_runs runs ≡ pages → runs ≡ longest_runs pages
no_other_runs runs pages l e = sym (found_again runs l) ∙ ap longest_runs e
