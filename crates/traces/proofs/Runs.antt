-- Whoever writes a run as single records sees the same (document 02, request 03): for any bytes behind them, and for any in front that do not end inside a record.
use Prim.Native.Nat.{ℕ, zero, suc, ◌+◌, ◌-◌, ◌≤◌, ◌<◌}
use native.Mathlib.Omega.{arith}
use mathlib.Core.List.{List, [], ◌∷◌, ◌++◌}
use mathlib.Core.Logic.{◌⊎◌, inl, inr}
use mathlib.Core.Path.{◌≡◌, refl, sym, ap, ◌∙◌}
use lib.Dec.{eqb}
use lib.ListN.{length, replicate, length-append}
use lib.Seq.{drop-append_seam}
use Rattle.lists.proofs.Choice.{cases, tests}
use Rattle.wire.specs.Numbers.{bytes16, bytes32}
use Rattle.records.specs.Bytes.{rq_bytes, rr_bytes, joined}
use Rattle.records.specs.Marks.{RQ, RR, mark_of, mark_at, mark_rq, mark_rr}
use Rattle.reading.specs.Files.{File, before, requests_from}
use Rattle.reading.specs.Reading.{Answer, refused, ended, sizes, request, bundle, fetch, ka_read, read_trace}
use Rattle.reading.proofs.Facts.{trace_says}
use Rattle.reading.proofs.Reading.{trace_first}
use Rattle.reading.proofs.RoundTrip.{marked, rq_back, rr_back}
use Rattle.reading.proofs.Walk.{requests_refused, requests_sizes, requests_request}
use Rattle.traces.specs.Traces.{with_requests, from_start, trace_file, damaged, EndsBetween}
use Rattle.traces.proofs.More.{first_same, record_same}
use Rattle.traces.proofs.Moved.{moved_requests}

-- ---- the same behind bytes that end where a record ends, or that are damaged before

module _ (front x y : List ℕ) (behind : requests_from (front ++ x) (length front) ≡ requests_from (front ++ y) (length front)) where
  -- the two files read alike where the bytes in front do not end inside the record
  abbrev Alike : ℕ → Type 0
  Alike at = requests_from (front ++ x) at ≡ requests_from (front ++ y) at

  abbrev Uncut : ℕ → Type 0
  Uncut at = (requests_from front at).damage ≡ 5 → ⊥

  record_alike : (at : ℕ) → 0 < at → at < length front → read_trace (front ++ x) at ≡ read_trace front at → read_trace (front ++ y) at ≡ read_trace front at → Uncut at
      → ((next : ℕ) → at < next → next ≤ length front → Uncut next → Alike next) → (v : Answer) → read_trace front at ≡ v → Alike at
  record_alike at z h ex ey w again (refused m) e = requests_refused (front ++ x) at m (ex ∙ e) ∙ sym (requests_refused (front ++ y) at m (ey ∙ e))
  record_alike at z h ex ey w again ended e = let f = trace_says front at ended e in absurd (omega (arith, f.last))
  record_alike at z h ex ey w again (sizes k a next) e = let f = trace_says front at (sizes k a next) e in absurd (omega (arith, f.start))
  record_alike at z h ex ey w again (request page times next) e =
      let f = trace_says front at (request page times next) e in
      let damage = ap (λ (g : File ℕ). g.damage) (requests_request front at page times next e) in
      requests_request (front ++ x) at page times next (ex ∙ e)
      ∙ ap (before (replicate times page)) (again next f.onward f.inside (λ d. w (damage ∙ d)))
      ∙ sym (requests_request (front ++ y) at page times next (ey ∙ e))
  record_alike at z h ex ey w again (bundle t m from next) e = absurd (trace_says front at (bundle t m from next) e)
  record_alike at z h ex ey w again (fetch t page next) e = absurd (trace_says front at (fetch t page next) e)

  cut_damage : (at : ℕ) → read_trace front at ≡ refused 5 → (requests_from front at).damage ≡ 5
  cut_damage at e = ap (λ (g : File ℕ). g.damage) (requests_refused front at 5 e)

  -- n is above what is left of the bytes in front
  alike : (n at : ℕ) → 0 < at → at ≤ length front → length front - at < n → Uncut at → Alike at
  alike zero at z h l w = absurd (omega arith)
  alike (suc n) at z h l w =
      cases (eqb at (length front))
      (λ c. let same : at ≡ length front = omega tests in rw same behind)
      (λ c. let inside : at < length front = omega tests in
      both inside (record_same front x at z inside) (record_same front y at z inside)
      (λ next o i u. alike n next (omega arith) i (omega arith) u))
    where
      both : at < length front → (read_trace (front ++ x) at ≡ read_trace front at) ⊎ ((read_trace front at ≡ refused 5) × (length front < at + 8))
          → (read_trace (front ++ y) at ≡ read_trace front at) ⊎ ((read_trace front at ≡ refused 5) × (length front < at + 8))
          → ((next : ℕ) → at < next → next ≤ length front → Uncut next → Alike next) → Alike at
      both inside (inl ex) (inl ey) again = record_alike at z inside ex ey w again (read_trace front at) refl
      both inside (inl ex) (inr c) again = absurd (w (cut_damage at c.0))
      both inside (inr c) other again = absurd (w (cut_damage at c.0))

  module _ (limit : ℕ) (w : Uncut 0) where
    start_alike : (v : Answer) → read_trace front 0 ≡ v → from_start limit (front ++ x) v ≡ from_start limit (front ++ y) v
    start_alike (refused m) e = refl
    start_alike ended e = refl
    start_alike (sizes k a next) e =
        let f = trace_says front 0 (sizes k a next) e in
        let six = f.behind in
        let inside = f.inside in
        let damage = ap (λ (g : File ℕ). g.damage) (requests_sizes front 0 k a next e) in
        ap (with_requests limit k a) (alike (suc (length front - next)) next (omega arith) (omega arith) (omega arith) (λ d. w (damage ∙ d)))
    start_alike (request page times next) e = refl
    start_alike (bundle t m from next) e = refl
    start_alike (fetch t page next) e = refl

    files_alike : trace_file limit (front ++ x) ≡ trace_file limit (front ++ y)
    unfolding trace_file
    files_alike = both (first_same front x) (first_same front y)
      where
        both : (read_trace (front ++ x) 0 ≡ read_trace front 0) ⊎ ((read_trace front 0 ≡ refused 5) × (length front < 6))
            → (read_trace (front ++ y) 0 ≡ read_trace front 0) ⊎ ((read_trace front 0 ≡ refused 5) × (length front < 6))
            → from_start limit (front ++ x) (read_trace (front ++ x) 0) ≡ from_start limit (front ++ y) (read_trace (front ++ y) 0)
        both (inl ex) (inl ey) = rw (ex, ey) (start_alike (read_trace front 0) refl)
        both (inl ex) (inr c) = absurd (w (cut_damage 0 c.0))
        both (inr c) other = absurd (w (cut_damage 0 c.0))

-- ---- a run and its single records

longer : (xs ys : List ℕ) → 0 < length xs → 0 < length (xs ++ ys)
longer xs ys h = rw (length-append xs ys) (omega arith)

-- what is behind some bytes is read the same behind others
behind_any : (p q rest : List ℕ) → 0 < length p → 0 < length q → requests_from (p ++ rest) (length p) ≡ requests_from (q ++ rest) (length q)
behind_any p q rest h h' =
    let l = length-append p rest in
    let l' = length-append q rest in
    moved_requests (p ++ rest) (q ++ rest) (length p) (length q) h h' (omega arith) (omega arith) (drop-append_seam p rest ∙ sym (drop-append_seam q rest))

module _ (page : ℕ) (rest : List ℕ) where
  run_read : (front : List ℕ) → 0 < length front → (n : ℕ) → 0 < n
      → requests_from (front ++ (rr_bytes page n ++ rest)) (length front) ≡ before (replicate n page) (requests_from (front ++ rest) (length front))
  run_read front h n some = rr_back front h rest _ page n some (behind_any (front ++ rr_bytes page n) front rest (longer front (rr_bytes page n) h) h)

  singles_read : (n : ℕ) (front : List ℕ) → 0 < length front
      → requests_from (front ++ (joined rq_bytes (replicate n page) ++ rest)) (length front) ≡ before (replicate n page) (requests_from (front ++ rest) (length front))
  singles_read zero front h = refl
  singles_read (suc n) front h =
      rq_back front h (joined rq_bytes (replicate n page) ++ rest) _ page
      (singles_read n (front ++ rq_bytes page) (longer front (rq_bytes page) h)
      ∙ ap (before (replicate n page)) (behind_any (front ++ rq_bytes page) front rest (longer front (rq_bytes page) h) h))

  -- at the start of a file neither is a KA
  run_first : (n limit : ℕ) → trace_file limit (rr_bytes page n ++ rest) ≡ damaged 4
  unfolding trace_file mark_of ka_read
  run_first n limit =
      let e : mark_at (rr_bytes page n ++ rest) ≡ RR = marked mark_rr (bytes32 page ++ (bytes16 n ++ rest)) in
      let no : refused 4 ≡ ka_read (mark_at (rr_bytes page n ++ rest)) (rr_bytes page n ++ rest) = rw e in
      rw (← trace_first (rr_bytes page n ++ rest) 0 refl no)

  single_first : (more : List ℕ) (limit : ℕ) → trace_file limit (rq_bytes page ++ more) ≡ damaged 4
  unfolding trace_file mark_of ka_read
  single_first more limit =
      let e : mark_at (rq_bytes page ++ more) ≡ RQ = marked mark_rq (bytes32 page ++ more) in
      let no : refused 4 ≡ ka_read (mark_at (rq_bytes page ++ more)) (rq_bytes page ++ more) = rw e in
      rw (← trace_first (rq_bytes page ++ more) 0 refl no)

  singles_first : (n limit : ℕ) → 0 < n → trace_file limit (joined rq_bytes (replicate n page) ++ rest) ≡ damaged 4
  singles_first zero limit h = absurd (omega arith)
  singles_first (suc n) limit h = single_first (joined rq_bytes (replicate n page) ++ rest) limit

-- the theorem: the whole file is read the same, with any limit
pub run_is_its_requests : (front rest : List ℕ) (page n : ℕ) → EndsBetween front → 0 < n → (limit : ℕ)
    → trace_file limit (front ++ (rr_bytes page n ++ rest)) ≡ trace_file limit (front ++ (joined rq_bytes (replicate n page) ++ rest))
run_is_its_requests [] rest page n w some limit = run_first page rest n limit ∙ sym (singles_first page rest n limit some)
run_is_its_requests (b ∷ front) rest page n w some limit =
    let here : 0 < length (b ∷ front) = omega arith in
    files_alike (b ∷ front) (rr_bytes page n ++ rest) (joined rq_bytes (replicate n page) ++ rest)
    (run_read page rest (b ∷ front) here n some ∙ sym (singles_read page rest n (b ∷ front) here)) limit (λ d. none (w d))
  where
    none : b ∷ front ≡ [] → ⊥
    none e = let l = ap length e in omega arith
