-- The claims of `TwoEditions`: both editions are files of the trace, so they are read as the input is; and any other file of it is at least as long as the new one.
use Prim.Native.Nat.{ℕ, ◌≤◌}
use native.Mathlib.Omega.{arith}
use mathlib.Core.Bool.{true}
use mathlib.Core.List.{List, [], ◌∷◌, ◌++◌}
use mathlib.Core.Path.{◌≡◌, refl, sym, ap, ◌∙◌}
use lib.Dec.{ltb}
use lib.ListN.{length, drop}
use lib.Seq.{take_at}
use Rattle.lists.proofs.Choice.{cases}
use Rattle.wire.specs.Numbers.{Bytes}
use Rattle.wire.proofs.Numbers.{bytes_drop}
use Rattle.records.specs.Bytes.{TraceEntry, rq, rr, rq_bytes, rr_bytes, ka_bytes, trace_entry_bytes, joined, TraceFileOf, RunsWritable, singles, trace_bytes, all_requests_of}
use Rattle.records.proofs.Files.{one_by_one}
use Rattle.reading.specs.Files.{File}
use Rattle.reading.proofs.Exact.{trace_exact}
use Rattle.reading.proofs.Walk.{requests_sizes}
use Rattle.traces.specs.Traces.{TraceFile, whole, damaged, trace_file}
use Rattle.traces.proofs.Whole.{file_says, file_of_a_trace}
use Rattle.editions.specs.Calls.{Edition, converted_of, output}
use Rattle.editions.specs.Editions.{new_records, old_bytes, new_bytes}
use Rattle.editions.specs.Longest.{OnlySingles, RecordsFit}
use Rattle.editions.specs.TwoEditions.{TwoEditions}
use Rattle.editions.proofs.Lengths.{none_shorter, new_length, new_never_longer}
use Rattle.editions.proofs.LongestRuns.{runs_make_the_trace, runs_are_longest, no_other_runs}
use Rattle.editions.proofs.RunRecords.{new_records_stand, new_records_fit, fits_writable}

-- ---- both are files of the trace

abbrev Stands : Edition → Type 0
Stands edition = (k a : ℕ) (pages : List ℕ) → TraceFileOf k a pages (edition k a pages)

old_file : Stands old_bytes
unfolding old_bytes
old_file k a pages = one_by_one k a pages

new_file : Stands new_bytes
unfolding new_bytes
new_file k a pages =
    record { entries = new_records pages; runs = fits_writable (new_records pages) (new_records_fit pages); bytes = refl; requests = new_records_stand pages }

-- records of RQs alone are those of the old edition
only_singles : (es : List TraceEntry) → OnlySingles es → es ≡ singles (all_requests_of es)
only_singles [] o = refl
only_singles (rq page ∷ es) o = ap (λ (l : List TraceEntry). rq page ∷ l) (only_singles es o)
only_singles (rr page times ∷ es) o = absurd o

old_files : (k a : ℕ) (entries : List TraceEntry) → OnlySingles entries → trace_bytes k a entries ≡ old_bytes k a (all_requests_of entries)
unfolding old_bytes
old_files k a entries o = ap (trace_bytes k a) (only_singles entries o)

-- ---- the output of a call

-- where nothing is refused it is the edition
output_is : (edition : Edition) (k a : ℕ) (pages out : List ℕ) → (converted_of edition (whole k a pages) out).refusal ≡ 0 → output edition (whole k a pages) out ≡ edition k a pages
output_is edition k a pages out h =
    cases (ltb (length out) (length (edition k a pages)))
    (λ short. absurd (no_eight (sym (eight short) ∙ h)))
    (λ room. rw room (take_at (edition k a pages) (drop (length (edition k a pages)) out) (length (edition k a pages)) refl))
  where
    eight : ltb (length out) (length (edition k a pages)) ≡ true → (converted_of edition (whole k a pages) out).refusal ≡ 8
    eight short = rw short

    no_eight : ◌≡◌ {A = ℕ} 8 0 → ⊥
    no_eight q = omega arith

module _ (limit : ℕ) (edition : Edition) (stands : Stands edition) where
  reads_back : (input : List ℕ) (k a : ℕ) (pages : List ℕ) → trace_file limit input ≡ whole k a pages → trace_file limit (edition k a pages) ≡ whole k a pages
  reads_back input k a pages e =
      let w = file_says limit input (whole k a pages) e in
      file_of_a_trace limit k a pages (edition k a pages) w.right (stands k a pages) w.few

  -- what stands for a file, by what the file is read as
  stands_for : (input out : List ℕ) (x : TraceFile) → trace_file limit input ≡ x → (converted_of edition x out).refusal ≡ 0 → trace_file limit (output edition x out) ≡ x
  stands_for input out (damaged number) e h = absurd ((file_says limit input (damaged number) e).0 h)
  stands_for input out (whole k a pages) e h = ap (trace_file limit) (output_is edition k a pages out h) ∙ reads_back input k a pages e

-- ---- there and back

old_new_old : (limit k a : ℕ) (pages old out other : List ℕ) → old ≡ old_bytes k a pages → trace_file limit old ≡ whole k a pages
    → (converted_of new_bytes (trace_file limit old) out).refusal ≡ 0 → (converted_of old_bytes (trace_file limit (output new_bytes (trace_file limit old) out)) other).refusal ≡ 0
    → output old_bytes (trace_file limit (output new_bytes (trace_file limit old) out)) other ≡ old
old_new_old limit k a pages old out other is e there back =
    let new : trace_file limit (output new_bytes (trace_file limit old) out) ≡ whole k a pages
    = stands_for limit new_bytes new_file old out (trace_file limit old) refl there ∙ e in
    let taken = rw new at back in
    ap (λ (x : TraceFile). output old_bytes x other) new ∙ output_is old_bytes k a pages other taken ∙ sym is

-- ---- no file is shorter

-- records that are bytes have no more than 65,535 requests
bytes_fit : (es : List TraceEntry) → RunsWritable es → Bytes (joined trace_entry_bytes es) → RecordsFit es
bytes_fit [] w b = tt
bytes_fit (rq page ∷ es) w b = (tt, bytes_fit es w.1 (bytes_drop (rq_bytes page ++ joined trace_entry_bytes es) 6 b))
bytes_fit (rr page times ∷ es) w b =
    let high = b 7 in
    ((w.0, omega arith), bytes_fit es w.1 (bytes_drop (rr_bytes page times ++ joined trace_entry_bytes es) 8 b))

shorter_than_files : (k a : ℕ) (pages file : List ℕ) → Bytes file → TraceFileOf k a pages file → length (new_bytes k a pages) ≤ length file
shorter_than_files k a pages file b f =
    let es = f.entries in
    let bytes = rw f.bytes at b in
    let fit = bytes_fit es f.runs (bytes_drop (ka_bytes k a ++ joined trace_entry_bytes es) 6 bytes) in
    let l = ap length f.bytes in
    let same = ap (λ (ps : List ℕ). length (joined trace_entry_bytes (new_records ps))) f.requests in
    let n = new_length k a pages in
    let m = none_shorter es fit in
    omega arith

new_is_shortest : (limit : ℕ) (file : List ℕ) (k a : ℕ) (pages : List ℕ) → Bytes file → trace_file limit file ≡ whole k a pages → length (new_bytes k a pages) ≤ length file
new_is_shortest limit file k a pages b e =
    let w = file_says limit file (whole k a pages) e in
    let read = requests_sizes file 0 k a 6 w.starts ∙ w.read in
    let f = trace_exact file b k a 6 w.starts (ap (λ (x : File ℕ). x.damage) read) in
    let held = ap (λ (x : File ℕ). x.held) read in
    shorter_than_files k a pages file b (rw held at f)

-- ---- all of it

pub two_editions : (limit : ℕ) → TwoEditions limit
two_editions limit =
    record {
      old_stands = λ input out h. stands_for limit old_bytes old_file input out (trace_file limit input) refl h;
      new_stands = λ input out h. stands_for limit new_bytes new_file input out (trace_file limit input) refl h;
      old_files = old_files;
      old_new_old = old_new_old limit;
      runs_make_the_trace = runs_make_the_trace;
      runs_are_longest = runs_are_longest;
      no_other_runs = no_other_runs;
      new_records_fit = new_records_fit;
      new_never_longer = new_never_longer;
      new_is_shortest = new_is_shortest limit;
    }
