-- What the writers write is read back: one law for each record, and the theorems over whole files.
use Prim.Native.Nat.{ℕ, ◌+◌, ◌*◌, ◌<◌}
use native.Mathlib.Omega.{arith}
use mathlib.Core.Bool.{false}
use mathlib.Core.List.{List, [], ◌∷◌, ◌++◌, append_assoc, append-nil}
use mathlib.Core.Path.{◌≡◌, refl, sym, ap, ◌∙◌}
use lib.ListN.{length, drop, replicate, length-append}
use lib.Seq.{drop-append_seam, drop-append-add}
use borrow.Author.Tests.{le-ltb}
use Rattle.paging.specs.Refusals.{sizes_refusal, SizesRight}
use Rattle.paging.specs.Schedule.{Entry, ev, pf}
use Rattle.paging.proofs.Refusals.{sizes_taken}
use Rattle.wire.specs.Numbers.{num16, num32, bytes16, bytes32, all_bytes32, nums32}
use Rattle.wire.proofs.Numbers.{num16_bytes16, num32_bytes32, nums32_all_bytes32, length_all_bytes32}
use Rattle.records.specs.Bytes.{ka_bytes, rq_bytes, rr_bytes, ev_bytes, pf_bytes, entry_bytes, joined, TraceEntry, rq, rr, trace_entry_bytes, trace_bytes, all_requests_of, RunsWritable}
use Rattle.records.specs.Bytes.{TraceFileOf, schedule_bytes, ev_length, Writable, AllWritable}
use Rattle.records.specs.Marks.{KA, RQ, RR, EV, PF, mark_of, mark_at, mark_ka, mark_rq, mark_rr, mark_ev, mark_pf}
use Rattle.records.proofs.Lengths.{length_ev_bytes}
use Rattle.reading.specs.Files.{File, before, requests_from, entries_from, ReadsAsTrace, ReadsAsSchedule}
use Rattle.reading.specs.Reading.{ended, sizes, request, bundle, fetch, ka_read, request_read, entry_read, count_refused, read_trace, read_schedule}
use Rattle.reading.proofs.Reading.{ka_taken, rq_taken, rr_taken, pf_taken, ev_taken, trace_first, trace_last, trace_later, schedule_first, schedule_last, schedule_later, count_fine}
use Rattle.reading.proofs.Walk.{requests_sizes, requests_request, requests_ended, entries_sizes, entries_bundle, entries_fetch, entries_ended}

-- ---- one law for each record. KA stands at the start, the others behind some bytes `pre`

-- a record's first bytes are judged as its mark
pub marked : (m : ℕ) (r : List ℕ) → mark_at (bytes16 m ++ r) ≡ mark_of (num16 (bytes16 m ++ r))
unfolding mark_at
marked m r = rw (le-ltb (length (bytes16 m ++ r)) 2 (omega arith))

ka_here : (k a : ℕ) (rest : List ℕ) → sizes_refusal k a 0 ≡ 0 → sizes k a 6 ≡ ka_read (mark_at (ka_bytes k a ++ rest)) (ka_bytes k a ++ rest)
unfolding mark_of
ka_here k a rest z =
    let e : mark_at (ka_bytes k a ++ rest) ≡ KA = marked mark_ka (bytes16 k ++ (bytes16 a ++ rest)) in
    let ek : k ≡ num16 (bytes16 k ++ (bytes16 a ++ rest)) = sym (num16_bytes16 k (bytes16 a ++ rest)) in
    let ea : a ≡ num16 (bytes16 a ++ rest) = sym (num16_bytes16 a rest) in
    rw e (ka_taken (ka_bytes k a ++ rest) k a (sizes_refusal k a 0) (omega arith) ek ea refl z)

pub trace_ka : (k a : ℕ) (rest : List ℕ) → sizes_refusal k a 0 ≡ 0 → read_trace (ka_bytes k a ++ rest) 0 ≡ sizes k a 6
trace_ka k a rest z = sym (trace_first (ka_bytes k a ++ rest) 0 refl (ka_here k a rest z))

pub schedule_ka : (bound k a : ℕ) (rest : List ℕ) → sizes_refusal k a 0 ≡ 0 → read_schedule bound (ka_bytes k a ++ rest) 0 ≡ sizes k a 6
schedule_ka bound k a rest z = sym (schedule_first bound (ka_bytes k a ++ rest) 0 refl (ka_here k a rest z))

module _ (pre : List ℕ) (some : 0 < length pre) where
  apart : length pre ≡ 0 → ⊥
  apart e = omega arith

  pub trace_end : read_trace (pre ++ []) (length pre) ≡ ended
  trace_end = rw (append-nil pre) (sym (trace_last pre (length pre) (omega arith) apart refl))

  pub schedule_end : (bound : ℕ) → read_schedule bound (pre ++ []) (length pre) ≡ ended
  schedule_end bound = rw (append-nil pre) (sym (schedule_last bound pre (length pre) (omega arith) apart refl))

  marked_here : (m : ℕ) (r : List ℕ) → mark_at (drop (length pre) (pre ++ (bytes16 m ++ r))) ≡ mark_of (num16 (bytes16 m ++ r))
  marked_here m r = ap mark_at (drop-append_seam pre (bytes16 m ++ r)) ∙ marked m r

  pub trace_rq : (page : ℕ) (rest : List ℕ) → read_trace (pre ++ (rq_bytes page ++ rest)) (length pre) ≡ request page 1 (length pre + 6)
  unfolding mark_of request_read
  trace_rq page rest =
      let l : length (pre ++ (rq_bytes page ++ rest)) ≡ length pre + length (rq_bytes page ++ rest) = length-append pre (rq_bytes page ++ rest) in
      let off : length pre ≡ length (pre ++ (rq_bytes page ++ rest)) → ⊥ = λ e. omega arith in
      let e : mark_at (drop (length pre) (pre ++ (rq_bytes page ++ rest))) ≡ RQ = marked_here mark_rq (bytes32 page ++ rest) in
      let p : page ≡ num32 (drop (length pre + 2) (pre ++ (rq_bytes page ++ rest)))
      = sym (ap num32 (drop-append-add pre (rq_bytes page ++ rest) 2) ∙ num32_bytes32 page rest) in
      let q : request page 1 (length pre + 6)
      ≡ request_read (mark_at (drop (length pre) (pre ++ (rq_bytes page ++ rest)))) (drop (length pre) (pre ++ (rq_bytes page ++ rest))) (length pre)
      = rw e (rq_taken (pre ++ (rq_bytes page ++ rest)) (length pre) (omega arith) p) in
      sym (trace_later (pre ++ (rq_bytes page ++ rest)) (length pre) (omega arith) apart off q)

  pub trace_rr : (page times : ℕ) (rest : List ℕ) → 0 < times
      → read_trace (pre ++ (rr_bytes page times ++ rest)) (length pre) ≡ request page times (length pre + 8)
  unfolding mark_of request_read
  trace_rr page times rest h =
      let l : length (pre ++ (rr_bytes page times ++ rest)) ≡ length pre + length (rr_bytes page times ++ rest) = length-append pre (rr_bytes page times ++ rest) in
      let off : length pre ≡ length (pre ++ (rr_bytes page times ++ rest)) → ⊥ = λ e. omega arith in
      let e : mark_at (drop (length pre) (pre ++ (rr_bytes page times ++ rest))) ≡ RR = marked_here mark_rr (bytes32 page ++ (bytes16 times ++ rest)) in
      let p : page ≡ num32 (drop (length pre + 2) (pre ++ (rr_bytes page times ++ rest)))
      = sym (ap num32 (drop-append-add pre (rr_bytes page times ++ rest) 2) ∙ num32_bytes32 page (bytes16 times ++ rest)) in
      let n : times ≡ num16 (drop (length pre + 6) (pre ++ (rr_bytes page times ++ rest)))
      = sym (ap num16 (drop-append-add pre (rr_bytes page times ++ rest) 6) ∙ num16_bytes16 times rest) in
      let q : request page times (length pre + 8)
      ≡ request_read (mark_at (drop (length pre) (pre ++ (rr_bytes page times ++ rest)))) (drop (length pre) (pre ++ (rr_bytes page times ++ rest))) (length pre)
      = rw e (rr_taken (pre ++ (rr_bytes page times ++ rest)) (length pre) times (omega arith) n (λ z. omega arith) p) in
      sym (trace_later (pre ++ (rr_bytes page times ++ rest)) (length pre) (omega arith) apart off q)

  pub schedule_pf : (bound t page : ℕ) (rest : List ℕ)
      → read_schedule bound (pre ++ (pf_bytes t page ++ rest)) (length pre) ≡ fetch t page (length pre + 10)
  unfolding mark_of entry_read
  schedule_pf bound t page rest =
      let l : length (pre ++ (pf_bytes t page ++ rest)) ≡ length pre + length (pf_bytes t page ++ rest) = length-append pre (pf_bytes t page ++ rest) in
      let off : length pre ≡ length (pre ++ (pf_bytes t page ++ rest)) → ⊥ = λ e. omega arith in
      let e : mark_at (drop (length pre) (pre ++ (pf_bytes t page ++ rest))) ≡ PF = marked_here mark_pf (bytes32 t ++ (bytes32 page ++ rest)) in
      let et : t ≡ num32 (drop (length pre + 2) (pre ++ (pf_bytes t page ++ rest)))
      = sym (ap num32 (drop-append-add pre (pf_bytes t page ++ rest) 2) ∙ num32_bytes32 t (bytes32 page ++ rest)) in
      let ep : page ≡ num32 (drop (length pre + 6) (pre ++ (pf_bytes t page ++ rest)))
      = sym (ap num32 (drop-append-add pre (pf_bytes t page ++ rest) 6) ∙ num32_bytes32 page rest) in
      let q : fetch t page (length pre + 10)
      ≡ entry_read (mark_at (drop (length pre) (pre ++ (pf_bytes t page ++ rest)))) bound (drop (length pre) (pre ++ (pf_bytes t page ++ rest)))
      (length pre)
      = rw e (pf_taken (pre ++ (pf_bytes t page ++ rest)) (length pre) (omega arith) et ep) in
      sym (schedule_later bound (pre ++ (pf_bytes t page ++ rest)) (length pre) (omega arith) apart off q)

  pub schedule_ev : (bound t : ℕ) (pages rest : List ℕ) → Writable bound (ev t pages)
      → read_schedule bound (pre ++ (ev_bytes t pages ++ rest)) (length pre) ≡ bundle t (length pages) (length pre + 8) (length pre + ev_length (length pages))
  unfolding mark_of entry_read
  schedule_ev bound t pages rest w =
      let l : length (pre ++ (ev_bytes t pages ++ rest)) ≡ length pre + length (ev_bytes t pages ++ rest) = length-append pre (ev_bytes t pages ++ rest) in
      let m : length (all_bytes32 pages ++ rest) ≡ length (all_bytes32 pages) + length rest = length-append (all_bytes32 pages) rest in
      let n : length (all_bytes32 pages) ≡ 4 * length pages = length_all_bytes32 pages in
      let off : length pre ≡ length (pre ++ (ev_bytes t pages ++ rest)) → ⊥ = λ e. omega arith in
      let e : mark_at (drop (length pre) (pre ++ (ev_bytes t pages ++ rest))) ≡ EV
      = marked_here mark_ev (bytes32 t ++ (bytes16 (length pages) ++ (all_bytes32 pages ++ rest))) in
      let et : t ≡ num32 (drop (length pre + 2) (pre ++ (ev_bytes t pages ++ rest)))
      = sym (ap num32 (drop-append-add pre (ev_bytes t pages ++ rest) 2) ∙ num32_bytes32 t (bytes16 (length pages) ++ (all_bytes32 pages ++ rest))) in
      let en : length pages ≡ num16 (drop (length pre + 6) (pre ++ (ev_bytes t pages ++ rest)))
      = sym (ap num16 (drop-append-add pre (ev_bytes t pages ++ rest) 6) ∙ num16_bytes16 (length pages) (all_bytes32 pages ++ rest)) in
      let c : count_refused bound (length pages) ≡ false = count_fine bound (length pages) (λ z. omega arith) w.1.0 w.1.1 in
      let q : bundle t (length pages) (length pre + 8) (length pre + ev_length (length pages))
      ≡ entry_read (mark_at (drop (length pre) (pre ++ (ev_bytes t pages ++ rest)))) bound (drop (length pre) (pre ++ (ev_bytes t pages ++ rest)))
      (length pre)
      = rw e (ev_taken (pre ++ (ev_bytes t pages ++ rest)) (length pre) bound (length pages) (omega arith) en c (omega arith) et) in
      sym (schedule_later bound (pre ++ (ev_bytes t pages ++ rest)) (length pre) (omega arith) apart off q)

-- an EV's pages are the part of the file behind its fixed fields
pub ev_pages : (pre : List ℕ) (t : ℕ) (pages rest : List ℕ)
    → nums32 (length pages) (drop (length pre + 8) (pre ++ (ev_bytes t pages ++ rest))) ≡ pages
ev_pages pre t pages rest =
    ap (nums32 (length pages)) (drop-append-add pre (ev_bytes t pages ++ rest) 8) ∙ nums32_all_bytes32 pages rest

-- ---- records one behind the other

-- reading on behind one more record: the record joins the bytes passed
passed : {A : Type 0} (f : List ℕ → ℕ → A) (pre b rest : List ℕ) (n : ℕ) (x : A) → length b ≡ n
    → f (pre ++ b ++ rest) (length (pre ++ b)) ≡ x → f (pre ++ (b ++ rest)) (length pre + n) ≡ x
passed f pre b rest n x e h =
    let l : length (pre ++ b) ≡ length pre + n = length-append pre b ∙ ap (λ (m : ℕ). length pre + m) e in
    ap (f (pre ++ (b ++ rest))) (sym l) ∙ (ap (λ (s : List ℕ). f s (length (pre ++ b))) (sym (append_assoc pre b rest)) ∙ h)

more : (pre b : List ℕ) → 0 < length pre → 0 < length (pre ++ b)
more pre b h = rw (length-append pre b) (omega arith)

-- what stands behind one more record of a trace: the record's requests come first
module _ (pre : List ℕ) (some : 0 < length pre) (rest : List ℕ) (x : File ℕ) where
  pub rq_back : (page : ℕ) → requests_from (pre ++ rq_bytes page ++ rest) (length (pre ++ rq_bytes page)) ≡ x
      → requests_from (pre ++ (rq_bytes page ++ rest)) (length pre) ≡ before (page ∷ []) x
  rq_back page h =
      requests_request (pre ++ (rq_bytes page ++ rest)) (length pre) page 1 (length pre + 6) (trace_rq pre some page rest)
      ∙ ap (before (page ∷ [])) (passed requests_from pre (rq_bytes page) rest 6 x refl h)

  pub rr_back : (page times : ℕ) → 0 < times → requests_from (pre ++ rr_bytes page times ++ rest) (length (pre ++ rr_bytes page times)) ≡ x
      → requests_from (pre ++ (rr_bytes page times ++ rest)) (length pre) ≡ before (replicate times page) x
  rr_back page times n h =
      requests_request (pre ++ (rr_bytes page times ++ rest)) (length pre) page times (length pre + 8) (trace_rr pre some page times rest n)
      ∙ ap (before (replicate times page)) (passed requests_from pre (rr_bytes page times) rest 8 x refl h)

pub requests_back : (entries : List TraceEntry) (pre : List ℕ) → RunsWritable entries → 0 < length pre
    → requests_from (pre ++ joined trace_entry_bytes entries) (length pre) ≡ record { held = all_requests_of entries; damage = 0 }
requests_back [] pre w h = requests_ended (pre ++ []) (length pre) (trace_end pre h)
requests_back (rq page ∷ entries) pre w h =
    rq_back pre h (joined trace_entry_bytes entries) _ page (requests_back entries (pre ++ rq_bytes page) w.1 (more pre (rq_bytes page) h))
requests_back (rr page times ∷ entries) pre w h =
    rr_back pre h (joined trace_entry_bytes entries) _ page times w.0 (requests_back entries (pre ++ rr_bytes page times) w.1 (more pre (rr_bytes page times) h))

pub entries_back : (bound : ℕ) (entries : List Entry) (pre : List ℕ) → AllWritable bound entries → 0 < length pre
    → entries_from bound (pre ++ joined entry_bytes entries) (length pre) ≡ record { held = entries; damage = 0 }
entries_back bound [] pre w h = entries_ended bound (pre ++ []) (length pre) (schedule_end pre h bound)
entries_back bound (ev t pages ∷ entries) pre w h =
    entries_bundle bound (pre ++ (ev_bytes t pages ++ joined entry_bytes entries)) (length pre) t (length pages) (length pre + 8) (length pre + ev_length (length pages))
    (schedule_ev pre h bound t pages (joined entry_bytes entries) w.0)
    ∙ (ap (λ (x : List ℕ). before (ev t x ∷ []) (entries_from bound (pre ++ (ev_bytes t pages ++ joined entry_bytes entries)) (length pre + ev_length (length pages))))
    (ev_pages pre t pages (joined entry_bytes entries))
    ∙ ap (before (ev t pages ∷ [])) (passed (entries_from bound) pre (ev_bytes t pages) (joined entry_bytes entries) (ev_length (length pages))
    (record { held = entries; damage = 0 }) (length_ev_bytes t pages)
    (entries_back bound entries (pre ++ ev_bytes t pages) w.1 (more pre (ev_bytes t pages) h))))
entries_back bound (pf t page ∷ entries) pre w h =
    entries_fetch bound (pre ++ (pf_bytes t page ++ joined entry_bytes entries)) (length pre) t page (length pre + 10)
    (schedule_pf pre h bound t page (joined entry_bytes entries))
    ∙ ap (before (pf t page ∷ [])) (passed (entries_from bound) pre (pf_bytes t page) (joined entry_bytes entries) 10
    (record { held = entries; damage = 0 }) refl
    (entries_back bound entries (pre ++ pf_bytes t page) w.1 (more pre (pf_bytes t page) h)))

-- ---- the theorems over whole files

-- the bytes of a trace's records read as KA, the requests that they stand for in order, and the end
pub records_read_back : (k a : ℕ) (entries : List TraceEntry) → SizesRight k a → RunsWritable entries → ReadsAsTrace k a (all_requests_of entries) (trace_bytes k a entries)
records_read_back k a entries right runs =
    let first : read_trace (trace_bytes k a entries) 0 ≡ sizes k a 6 = trace_ka k a (joined trace_entry_bytes entries) (sizes_taken k a right 0) in
    (first, requests_sizes (trace_bytes k a entries) 0 k a 6 first ∙ requests_back entries (ka_bytes k a) runs (omega arith))

-- so does every file of a trace
pub trace_reads_back : (k a : ℕ) (pages file : List ℕ) → SizesRight k a → TraceFileOf k a pages file → ReadsAsTrace k a pages file
trace_reads_back k a pages file right f = rw (f.bytes, ← f.requests) (records_read_back k a f.entries right f.runs)

-- a schedule's bytes read as KA, the same entries in the same order with the same pages, and the end
pub schedule_reads_back : (bound k a : ℕ) (entries : List Entry) → SizesRight k a → AllWritable bound entries
    → ReadsAsSchedule bound k a entries (schedule_bytes k a entries)
schedule_reads_back bound k a entries right w =
    let first : read_schedule bound (schedule_bytes k a entries) 0 ≡ sizes k a 6
    = schedule_ka bound k a (joined entry_bytes entries) (sizes_taken k a right 0) in
    (first, entries_sizes bound (schedule_bytes k a entries) 0 k a 6 first ∙ entries_back bound entries (ka_bytes k a) w (omega arith))
