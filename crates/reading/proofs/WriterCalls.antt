-- Files that calls to the writers wrote, record by record, read back. An accepted call puts its record's bytes where it was made and
-- answers the offset behind them; so accepted calls, one after the other, put the bytes of a file.
use Prim.Native.Nat.{ℕ, ◌+◌, ◌≤◌}
use native.Mathlib.Nat.{add-zero, zero-add}
use native.Mathlib.Omega.{arith}
use mathlib.Core.Bool.{true, false}
use mathlib.Core.List.{List, [], ◌∷◌, ◌++◌, map, append-nil}
use mathlib.Core.Path.{◌≡◌, refl, sym, ap, ◌∙◌}
use lib.Dec.{eqb}
use lib.ListN.{length, drop, replicate, length-append, take-append-drop, drop_of_length-le}
use lib.Seq.{take-append_seam, drop-append_seam}
use borrow.Author.Tests.{eqb-true, eqb-false}
use Rattle.lists.specs.Choice.{◌and◌, ◌or◌}
use Rattle.lists.proofs.Choice.{and_l, and_r}
use Rattle.paging.specs.Refusals.{largest_k, sizes_refusal, SizesRight}
use Rattle.paging.specs.Schedule.{Entry, ev, pf}
use Rattle.paging.proofs.Refusals.{zero_pass, sizes_rest}
use Rattle.wire.specs.Numbers.{placed}
use Rattle.wire.proofs.Numbers.{placed_join}
use Rattle.records.specs.Bytes.{ka_bytes, rr_bytes, ev_bytes, joined, TraceEntry, trace_bytes, all_requests_of, RunWritable, RunsWritable, schedule_bytes, Writable}
use Rattle.records.specs.Bytes.{AllWritable}
use Rattle.records.specs.Bytes as bytes
use Rattle.records.specs.Writing.{room_refusal, pages_refused, ka_refusal, rq_refusal, rr_refusal, ev_refusal, pf_refusal}
use Rattle.records.proofs.Writing.{pages_within, room_fits}
use Rattle.reading.specs.Files.{ReadsAsTrace, ReadsAsSchedule}
use Rattle.reading.specs.WriterCalls.{WriterCall, ka, asked, entry, call_bytes, call_refusal, WriterState, writer_start, writer_next, writer_after_calls, all_accepted}
use Rattle.reading.specs.WriterCalls.{trace_calls, schedule_calls, FileWritten}
use Rattle.reading.proofs.RoundTrip.{records_read_back, schedule_reads_back}

-- ---- one call that is accepted

-- what is right about a record that a writer accepts, and there is room for its bytes
abbrev Right : WriterCall → Type 0
Right (ka k a) = SizesRight k a
Right (asked e) = RunWritable e
Right (entry e) = Writable largest_k e

accepted : (call : WriterCall) (out : List ℕ) (at : ℕ) → call_refusal call out at ≡ 0 → Right call × (0 ≡ room_refusal (call_bytes call) out at)
unfolding ka_refusal rq_refusal rr_refusal ev_refusal pf_refusal
accepted (ka k a) out at e = let r = sizes_rest k a (room_refusal (ka_bytes k a) out at) e in (r.0, sym r.1)
accepted (asked (bytes.rq page)) out at e = (tt, sym e)
accepted (asked (bytes.rr page times)) out at e =
    let r = zero_pass (eqb times 0) 13 (room_refusal (rr_bytes page times) out at) (λ z. omega arith) e in
    let n = eqb-false times 0 r.0 in
    (omega arith, sym r.1)
accepted (entry (ev t pages)) out at e =
    let r = zero_pass (pages_refused (length pages)) 6 (room_refusal (ev_bytes t pages) out at) (λ z. omega arith) e in
    let n = pages_within (length pages) r.0 in
    ((n.0, (n.1, n.1)), sym r.1)
accepted (entry (pf t page)) out at e = (tt, sym e)

-- the lent bytes with b put at the offset, and the offset behind b
abbrev put : List ℕ → WriterState → WriterState
put b x = record { out = placed x.out x.at b; at = x.at + length b }

-- ---- calls one after the other

-- the first of accepted calls puts its bytes, and the others are accepted behind it
module _ (call : WriterCall) (calls : List WriterCall) (x : WriterState) (all : all_accepted (call ∷ calls) x ≡ true) where
  first_zero : call_refusal call x.out x.at ≡ 0
  first_zero = eqb-true _ 0 (and_l _ _ all)

  first_right : Right call
  first_right = (accepted call x.out x.at first_zero).0

  first_fits : x.at + length (call_bytes call) ≤ length x.out
  first_fits = room_fits (call_bytes call) x.out x.at (accepted call x.out x.at first_zero).1

  first_puts : writer_next call x ≡ put (call_bytes call) x
  first_puts = rw first_zero refl

  others_accepted : all_accepted calls (put (call_bytes call) x) ≡ true
  others_accepted = let others : all_accepted calls (writer_next call x) ≡ true = and_r _ _ all in rw first_puts at others

-- so do they all, whatever their records are
calls_put : (calls : List WriterCall) (x : WriterState) → all_accepted calls x ≡ true → writer_after_calls calls x ≡ put (joined call_bytes calls) x
calls_put [] x all = sym (simp (add-zero, append-nil, take-append-drop))
calls_put (call ∷ calls) x all =
    let b = call_bytes call in
    let later : writer_after_calls calls (put b x) ≡ put (joined call_bytes calls) (put b x) = calls_put calls (put b x) (others_accepted call calls x all) in
    let bytes : placed (placed x.out x.at b) (x.at + length b) (joined call_bytes calls) ≡ placed x.out x.at (b ++ joined call_bytes calls)
    = placed_join x.out x.at b (joined call_bytes calls) (first_fits call calls x all) in
    let offset : x.at + length b + length (joined call_bytes calls) ≡ x.at + length (b ++ joined call_bytes calls) = simp length-append (omega arith) in
    rw (first_puts call calls x all) (later ∙ rw (bytes, offset))

-- the bytes of calls of one kind
joined_map : {A : Type 0} (f : A → WriterCall) (xs : List A) → joined call_bytes (map f xs) ≡ joined (λ x. call_bytes (f x)) xs
joined_map f [] = refl
joined_map f (x ∷ xs) = rw (joined_map f xs)

runs_writable : (entries : List TraceEntry) (x : WriterState) → all_accepted (map asked entries) x ≡ true → RunsWritable entries
runs_writable [] x all = tt
runs_writable (e ∷ entries) x all =
    (first_right (asked e) (map asked entries) x all, runs_writable entries _ (others_accepted (asked e) (map asked entries) x all))

entries_writable : (entries : List Entry) (x : WriterState) → all_accepted (map entry entries) x ≡ true → AllWritable largest_k entries
entries_writable [] x all = tt
entries_writable (e ∷ entries) x all =
    (first_right (entry e) (map entry entries) x all, entries_writable entries _ (others_accepted (entry e) (map entry entries) x all))

-- ---- from the start of lent bytes on

module _ (calls : List WriterCall) (file : List ℕ) (out : List ℕ) (is : joined call_bytes calls ≡ file) (all : all_accepted calls (writer_start out) ≡ true)
    (Reads : List ℕ → Type 0) (reads : Reads file) where
  file_put : writer_after_calls calls (writer_start out) ≡ record { out = file ++ drop (length file) out; at = length file }
  file_put = calls_put calls (writer_start out) all ∙ rw (is, zero-add (length file))

  file_written : FileWritten file Reads out (writer_after_calls calls (writer_start out))
  file_written =
      let whole : length out ≡ length file → file ++ drop (length file) out ≡ file = λ e. rw (drop_of_length-le out {i = length file} (omega arith)) (append-nil file) in
      rw file_put
      (record {
        offset = refl;
        front = take-append_seam file (drop (length file) out);
        rest = drop-append_seam file (drop (length file) out);
        reads_back = rw (take-append_seam file (drop (length file) out)) reads;
        whole_reads_back = λ e. rw (whole e) reads;
      })

-- ---- the theorems

-- a trace that was written by accepted calls reads back as the requests that its records stand for
pub written_trace_reads_back : (k a : ℕ) (entries : List TraceEntry) (out : List ℕ) → all_accepted (trace_calls k a entries) (writer_start out) ≡ true
    → FileWritten (trace_bytes k a entries) (ReadsAsTrace k a (all_requests_of entries)) out (writer_after_calls (trace_calls k a entries) (writer_start out))
written_trace_reads_back k a entries out all =
    let right : SizesRight k a = first_right (ka k a) (map asked entries) (writer_start out) all in
    let runs : RunsWritable entries = runs_writable entries _ (others_accepted (ka k a) (map asked entries) (writer_start out) all) in
    file_written (trace_calls k a entries) (trace_bytes k a entries) out (ap (λ (b : List ℕ). ka_bytes k a ++ b) (joined_map asked entries)) all
    (ReadsAsTrace k a (all_requests_of entries)) (records_read_back k a entries right runs)

-- a schedule that was written by accepted calls reads back as the same bundles and fetches, with the bound of a reader that has no a
pub written_schedule_reads_back : (k a : ℕ) (entries : List Entry) (out : List ℕ) → all_accepted (schedule_calls k a entries) (writer_start out) ≡ true
    → FileWritten (schedule_bytes k a entries) (ReadsAsSchedule largest_k k a entries) out (writer_after_calls (schedule_calls k a entries) (writer_start out))
written_schedule_reads_back k a entries out all =
    let right : SizesRight k a = first_right (ka k a) (map entry entries) (writer_start out) all in
    let writable : AllWritable largest_k entries = entries_writable entries _ (others_accepted (ka k a) (map entry entries) (writer_start out) all) in
    file_written (schedule_calls k a entries) (schedule_bytes k a entries) out (ap (λ (b : List ℕ). ka_bytes k a ++ b) (joined_map entry entries)) all
    (ReadsAsSchedule largest_k k a entries) (schedule_reads_back largest_k k a entries right writable)

-- the calls that write the schedule of the eight-request shift are accepted with 38 lent bytes, and not with 37
shift_calls : List WriterCall
shift_calls = schedule_calls 3 2 (ev 3 (3 ∷ 1 ∷ []) ∷ ev 6 (4 ∷ 2 ∷ []) ∷ [])

shift_needs_38 : (all_accepted shift_calls (writer_start (replicate 38 0)) ≡ true) × (all_accepted shift_calls (writer_start (replicate 37 0)) ≡ false)
unfolding shift_calls ◌and◌ ◌or◌ sizes_refusal room_refusal pages_refused ka_refusal ev_refusal
shift_needs_38 = (refl, refl)
