-- What MIN writes (document 01, "MIN" and "What demand 3 compares"): as many EVs as the best count, a pages in each, so that the
-- schedule's length is known from the count; and read back they are MIN's bundles. That they are a legal schedule is the theory's.
use Prim.Native.Nat.{ℕ, suc, ◌+◌, ◌*◌, ◌≤◌, ◌<◌}
use native.Mathlib.Nat.{zero-add, zero-mul, one-mul, add-mul}
use native.Mathlib.Omega.{arith}
use mathlib.Core.List.{List, [], ◌∷◌, ◌++◌}
use mathlib.Core.Path.{◌≡◌, sym, ◌∙◌, ap}
use lib.ListN.{length, length-append}
use lib.Seq.{length-take-le, take-append_seam}
use Rattle.lists.specs.Choice.{pick}
use Rattle.lists.specs.Pages.{bit, count}
use Rattle.lists.specs.Sorting.{sort_by}
use Rattle.lists.proofs.Sorting.{length_sort}
use Rattle.paging.specs.Min.{farther, min_rule, best_count}
use Rattle.paging.specs.Policy.{is_bundled, serve, kinds, bundles}
use Rattle.paging.specs.Schedule.{ev, entries_cost}
use Rattle.paging.proofs.Refusals.{trace_right}
use Rattle.paging.proofs.Runs.{kind_of_cases, bundles_cost}
use Rattle.records.specs.Bytes.{ev_bytes, entry_bytes, joined, ev_length, schedule_bytes, AllWritable}
use Rattle.records.proofs.Lengths.{length_ev_bytes}
use Rattle.reading.specs.Files.{ReadsAsSchedule}
use Rattle.reading.proofs.RoundTrip.{schedule_reads_back}
use Rattle.min.specs.Calls.{min_schedule, bytes_refusal, schedule_refusal, schedule_written}

-- a bundle takes a pages
bundle_many : (k a : ℕ) (later held : List ℕ) → a ≤ k → k ≤ length held → length (min_rule a later held) ≡ a
bundle_many k a later held h g = length-take-le a (sort_by (farther later) held) (omega (arith, length_sort (farther later) held))

-- MIN's bundles, from any buffer
module _ (bound k a : ℕ) (pos : 0 < a) (fits : a ≤ k) (within : a ≤ bound) (small : a ≤ 256) where
  pub bundles_writable : (t : ℕ) (trace later held : List ℕ) → AllWritable bound (bundles (min_rule a) k t trace later held)
  bundles_writable t [] later held = tt
  bundles_writable t (p ∷ ps) later held =
      kind_of_cases
      (λ kind. AllWritable bound
      (pick (is_bundled kind) (ev t (min_rule a (ps ++ later) held) ∷ bundles (min_rule a) k (suc t) ps later (serve (min_rule a) k p (ps ++ later) held))
      (bundles (min_rule a) k (suc t) ps later (serve (min_rule a) k p (ps ++ later) held))))
      k p held
      (bundles_writable (suc t) ps later (serve (min_rule a) k p (ps ++ later) held))
      (bundles_writable (suc t) ps later (serve (min_rule a) k p (ps ++ later) held))
      (λ g.
      let n = bundle_many k a (ps ++ later) held fits g in
      ((omega arith, (omega arith, omega arith)), bundles_writable (suc t) ps later (serve (min_rule a) k p (ps ++ later) held)))

pub bundles_length : (k a t : ℕ) (trace later held : List ℕ) → a ≤ k
    → length (joined entry_bytes (bundles (min_rule a) k t trace later held)) ≡ count is_bundled (kinds (min_rule a) k trace later held) * ev_length a
bundles_length k a t [] later held h = sym (zero-mul (ev_length a))
bundles_length k a t (p ∷ ps) later held h =
    let after = serve (min_rule a) k p (ps ++ later) held in
    let bundle = min_rule a (ps ++ later) held in
    let rest = joined entry_bytes (bundles (min_rule a) k (suc t) ps later after) in
    let c = count is_bundled (kinds (min_rule a) k ps later after) in
    let i : length rest ≡ c * ev_length a = bundles_length k a (suc t) ps later after h in
    kind_of_cases
    (λ kind. length (joined entry_bytes (pick (is_bundled kind) (ev t bundle ∷ bundles (min_rule a) k (suc t) ps later after) (bundles (min_rule a) k (suc t) ps later after)))
    ≡ (bit (is_bundled kind) + c) * ev_length a)
    k p held
    (i ∙ ap (λ (m : ℕ). m * ev_length a) (sym (zero-add c)))
    (i ∙ ap (λ (m : ℕ). m * ev_length a) (sym (zero-add c)))
    (λ g.
    let l : length (ev_bytes t bundle) ≡ ev_length a = length_ev_bytes t bundle ∙ ap ev_length (bundle_many k a (ps ++ later) held h g) in
    let d : (1 + c) * ev_length a ≡ ev_length a + c * ev_length a
    = add-mul 1 c (ev_length a) ∙ ap (λ (m : ℕ). m + c * ev_length a) (one-mul (ev_length a)) in
    length-append (ev_bytes t bundle) rest ∙ ap (λ (m : ℕ). m + length rest) l ∙ ap (λ (m : ℕ). ev_length a + m) i ∙ sym d)

-- The theorems

-- the EVs written are as many as the best count, which is what the call reports
pub evs_are_best : (k a : ℕ) (trace : List ℕ) → entries_cost (bundles (min_rule a) k 0 trace [] []) ≡ best_count k a trace
evs_are_best k a trace = bundles_cost (min_rule a) k 0 trace [] []

-- the schedule's length is 6 for KA and 8 + 4a for each bundle
pub schedule_long : (k a : ℕ) (trace : List ℕ) → a ≤ k → length (min_schedule k a trace) ≡ 6 + best_count k a trace * (8 + 4 * a)
unfolding min_schedule
schedule_long k a trace h =
    let l = bundles_length k a 0 trace [] [] h in
    let s : length (schedule_bytes k a (bundles (min_rule a) k 0 trace [] [])) ≡ 6 + length (joined entry_bytes (bundles (min_rule a) k 0 trace [] [])) = omega arith in
    s ∙ ap (λ (m : ℕ). 6 + m) l

-- what the call leaves in the lent bytes is a KA and an EV for each bundle
pub schedule_written_lem : (k a : ℕ) (trace out : List ℕ) → schedule_refusal k a trace out ≡ 0
    → schedule_written k a trace out ≡ schedule_bytes k a (bundles (min_rule a) k 0 trace [] [])
unfolding min_schedule
schedule_written_lem k a trace out e = rw e (take-append_seam (schedule_bytes k a (bundles (min_rule a) k 0 trace [] [])) _)

-- read back, it is the KA and MIN's bundles, with no damage, for any bound on n from a on: the judge's is a, that of a reader without an a is 256
pub min_reads_back : (bound k a : ℕ) (trace out : List ℕ) → schedule_refusal k a trace out ≡ 0 → a ≤ bound
    → ReadsAsSchedule bound k a (bundles (min_rule a) k 0 trace [] []) (schedule_written k a trace out)
min_reads_back bound k a trace out e within =
    let right = (trace_right k a trace (bytes_refusal k a trace out) e).0 in
    let small = right.k_high in
    let writable = bundles_writable bound k a right.a_low right.a_high within (omega arith) 0 trace [] [] in
    rw (schedule_written_lem k a trace out e) (schedule_reads_back bound k a (bundles (min_rule a) k 0 trace [] []) right writable)
