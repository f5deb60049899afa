-- For sizes that are right and a trace that is short enough no call refuses, and the answers are the figures.
use Prim.Native.Nat.{ℕ, ◌≤◌}
use native.Mathlib.Omega.{arith}
use mathlib.Core.List.{List}
use mathlib.Core.Path.{◌≡◌, refl, sym, ap, ◌∙◌}
use lib.ListN.{length, take, drop, replicate, length-replicate}
use lib.Seq.{take-append_seam}
use Rattle.std.specs.Prelude.{Err}
use Rattle.paging.specs.Numbers.{TotalsAnswer, totals_answer}
use Rattle.paging.proofs.Numbers.{number_above}
use Rattle.paging.specs.declared.reasons.Refusal.{Refusal}
use Rattle.paging.specs.Layers.{no_layers, layers_after, join_count}
use Rattle.paging.specs.Refusals.{trace_refusal, SizesRight}
use Rattle.paging.proofs.Refusals.{trace_taken}
use Rattle.paging.proofs.Table.{tabled_top}
use Rattle.paging.specs.declared.Keeping.TheVariants.{ByRequest, ByLoad}
use Rattle.traces.specs.Calls.{TraceCountAnswer, count_of, pages_after}
use Rattle.traces.specs.Traces.{TraceFile, trace_file}
use Rattle.traces.proofs.CallLaws.{CountedWhole, count_refused_lem, count_whole}
use Rattle.queue.specs.Calls.{totals_of}
use Rattle.layers.specs.Traces.{LayersTotalsAnswer, layers_totals_answer, trace_totals}
use Rattle.layers.proofs.Steps.{trace_accepted, trace_counts}
use Rattle.marking.specs.Marking.{mark_bundles, mark_loads}
use Rattle.marking.specs.Rdm.{rdm}
use Rattle.mark.specs.Traces.{Table, table_with}
use Rattle.mark.specs.Traces as mark_totals
use Rattle.mark.proofs.Blank.{trace_marked}
use Rattle.min.specs.Calls.{counts_of}
use Rattle.report.specs.Calls.{ReportAnswer, report_answer, counts, layers_counts, figures, revealed_after, refused_report, reported, report_of}

module _ (k a : ℕ) (trace : List ℕ) (right : SizesRight k a) (short : length trace ≤ 4096) where
  accepted : trace_refusal k a trace 0 ≡ 0
  accepted = trace_taken k a trace right (omega arith) 0

  abbrev blank : List ℕ
  blank = replicate 4096 0

  layers_take : trace_totals k a trace blank blank
      ≡ record { refusal = 0; bundles = join_count k a trace; s = (layers_after k a trace no_layers).top; revealed = revealed_after k a trace }
  layers_take =
      trace_counts k a trace blank blank (trace_accepted k a right.a_low right.a_high right.k_high trace (omega arith) 4096 short)
      ∙ rw (tabled_top k a trace) refl

  -- a table with a place for each request, all unused
  abbrev blank_table : Table
  blank_table = table_with blank blank blank

  marks_take : mark_totals.totals_of k a trace blank_table
      ≡ record { refusal = 0; bundles = mark_bundles (rdm k a) k a trace; loads = mark_loads (rdm k a) k a trace }
  marks_take = trace_marked k a trace 4096 right (omega arith) short

  pub figures_told : (m : TotalsAnswer) (l f : TotalsAnswer) (n : TotalsAnswer) (y : LayersTotalsAnswer)
      → m ≡ counts_of k a trace → l ≡ totals_of ByRequest k a trace → f ≡ totals_of ByLoad k a trace
      → n ≡ mark_totals.totals_of k a trace blank_table → y ≡ trace_totals k a trace blank blank
      → record {
        refusal = 0;
        k = k;
        a = a;
        requests = length trace;
        min = counts m.bundles m.loads;
        lru = counts l.bundles l.loads;
        fifo = counts f.bundles f.loads;
        mark = counts n.bundles n.loads;
        layers = layers_counts y.bundles y.s y.revealed;
      } ≡ figures k a trace
  unfolding figures
  figures_told m l f n y em el ef en ey =
      rw (em, el, ef, en ∙ marks_take, ey ∙ layers_take, accepted) refl

  -- so there is no reason for a refusal

  pub min_takes : (reason : Refusal) → totals_answer (Err reason) ≡ counts_of k a trace → report_answer (Err reason) ≡ figures k a trace
  min_takes reason e = absurd (number_above reason (ap (λ (x : TotalsAnswer). x.refusal) e ∙ rw accepted refl))

  pub mark_takes : (reason : Refusal) → totals_answer (Err reason) ≡ mark_totals.totals_of k a trace blank_table → report_answer (Err reason) ≡ figures k a trace
  mark_takes reason e = absurd (number_above reason (ap (λ (x : TotalsAnswer). x.refusal) (e ∙ marks_take)))

  pub layers_take_all : (reason : Refusal) → layers_totals_answer (Err reason) ≡ trace_totals k a trace blank blank
      → report_answer (Err reason) ≡ figures k a trace
  layers_take_all reason e = absurd (number_above reason (ap (λ (x : LayersTotalsAnswer). x.refusal) (e ∙ layers_take)))

-- The whole input

module _ (input : List ℕ) (told : TraceCountAnswer) where
  -- the list as it is lent
  abbrev lent : List ℕ
  lent = replicate 4096 0

  module _ (e : told ≡ count_of (trace_file (length lent) input)) where
    at_4096 : told ≡ count_of (trace_file 4096 input)
    at_4096 = e ∙ ap (λ (n : ℕ). count_of (trace_file n input)) (length-replicate {A = ℕ} 4096 0)

    pub input_refused : (x : ReportAnswer) → x ≡ refused_report told.refusal → (told.refusal ≡ 0 → ⊥) → x ≡ report_of input
    unfolding report_of
    input_refused x q n = q ∙ sym (ap reported (count_refused_lem 4096 input told at_4096 n))

    module _ (z : told.refusal ≡ 0) where
      counted : CountedWhole 4096 input told
      counted = count_whole 4096 input told at_4096 z

      pub input_right : SizesRight told.k told.a × (told.requests ≤ 4096)
      input_right = let few = counted.trace.few in (counted.trace.right, rw counted.all few)

      -- the first places of the list have the requests
      listed : (now : List ℕ) → now ≡ pages_after (trace_file (length lent) input) lent → take told.requests now ≡ counted.pages
      listed now q =
          let filled = q ∙ ap (λ (n : ℕ). pages_after (trace_file n input) lent) (length-replicate {A = ℕ} 4096 0) ∙ ap (λ (x : TraceFile). pages_after x lent) counted.is in
          ap (λ (n : ℕ). take n now) counted.all ∙ ap (take (length counted.pages)) filled ∙ take-append_seam counted.pages (drop (length counted.pages) lent)

      pub input_figures : (now : List ℕ) → now ≡ pages_after (trace_file (length lent) input) lent → (x : ReportAnswer)
          → x ≡ figures told.k told.a (take told.requests now) → x ≡ report_of input
      unfolding report_of
      input_figures now q x w = w ∙ ap (figures told.k told.a) (listed now q) ∙ sym (ap reported counted.is)
