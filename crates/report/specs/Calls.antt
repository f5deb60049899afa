-- What the bench says of an input (document 01, "The eight-request shift"; document 02, requests 01 and 09): the numbers of its six lines, or a
-- refusal's number with zeros beside it.
use Rattle.std.specs.Prelude.{ℕ, ◌+◌, ◌*◌, ◌≤◌, List, Result, Ok, Err, ◌++◌, ◌≡◌, length}
use Rattle.paging.specs.Layers.{join_count, layers_after, no_layers}
use Rattle.paging.specs.Front.{front_rule, lru_rule}
use Rattle.paging.specs.Min.{best_count, min_loads}
use Rattle.paging.specs.Numbers.{number_of}
use Rattle.paging.specs.Policy.{bundle_count, bundle_count_by, load_count, load_count_by}
use Rattle.paging.specs.Table.{revealed, tabled_after, nothing_yet}
use Rattle.paging.specs.declared.Keeping.TheVariants.{ByLoad}
use Rattle.paging.specs.declared.reasons.Refusal.{Refusal}
use Rattle.marking.specs.Marking.{mark_bundles, mark_loads}
use Rattle.marking.specs.Rdm.{rdm}
use Rattle.traces.specs.Traces.{TraceFile, whole, damaged, trace_file}
use Rattle.layers.specs.declared.LayersTotals.{LayersTotals}
use Rattle.paging.specs.declared.outcomes.Totals.{Totals}
use Rattle.report.specs.declared.Report.{Report}

abbrev pub counts : (bundles loads : ℕ) → Totals
counts bundles loads = record { bundles = bundles; loads = loads }

abbrev pub layers_counts : (bundles s revealed : ℕ) → LayersTotals
layers_counts bundles s shown = record { bundles = bundles; s = s; revealed = shown }

-- the numbers of the six lines; or a refusal's number, and zeros
pub record ReportAnswer : Type 0 where
  pub refusal : ℕ
  pub k : ℕ
  pub a : ℕ
  pub requests : ℕ
  pub min : Totals
  pub lru : Totals
  pub fifo : Totals
  pub mark : Totals
  pub layers : LayersTotals

abbrev pub refused_report : (number : ℕ) → ReportAnswer
refused_report number =
    record {
      refusal = number;
      k = 0;
      a = 0;
      requests = 0;
      min = counts 0 0;
      lru = counts 0 0;
      fifo = counts 0 0;
      mark = counts 0 0;
      layers = layers_counts 0 0 0;
    }

-- what the code's answer says
abbrev pub report_answer : Result Report Refusal → ReportAnswer
report_answer (Ok r) =
    record {
      refusal = 0;
      k = r.k;
      a = r.a;
      requests = r.requests;
      min = r.min;
      lru = r.lru;
      fifo = r.fifo;
      mark = r.mark;
      layers = r.layers;
    }
report_answer (Err reason) = refused_report (number_of reason)

-- revealed pages after a trace
abbrev pub revealed_after : (k a : ℕ) → (trace : List ℕ) → ℕ
revealed_after k a trace = revealed (tabled_after k a trace nothing_yet).s (tabled_after k a trace nothing_yet).rows

-- k, a, requests; MIN's, LRU's, oldest load's and marking's bundles and loads; the layers' bundles, s, and revealed pages
unfoldable pub figures : (k a : ℕ) → (trace : List ℕ) → ReportAnswer
figures k a trace =
    record {
      refusal = 0;
      k = k;
      a = a;
      requests = length trace;
      min = counts (best_count k a trace) (min_loads k a trace);
      lru = counts (bundle_count (lru_rule a) k trace) (load_count (lru_rule a) k trace);
      fifo = counts (bundle_count_by ByLoad (front_rule a) k trace) (load_count_by ByLoad (front_rule a) k trace);
      mark = counts (mark_bundles (rdm k a) k a trace) (mark_loads (rdm k a) k a trace);
      layers = layers_counts (join_count k a trace) (layers_after k a trace no_layers).top (revealed_after k a trace);
    }

abbrev pub reported : TraceFile → ReportAnswer
reported (whole k a pages) = figures k a pages
reported (damaged number) = refused_report number

-- the bench takes 4,096 requests
abbrev pub most_requests : ℕ
most_requests = 4096

unfoldable pub report_of : List ℕ → ReportAnswer
report_of input = reported (trace_file most_requests input)

-- the bytes in which a request too many is seen whole: a KA, and one record more than the bench takes requests. An RR, of 8 bytes, is the longest
abbrev pub input_bytes : ℕ
input_bytes = 6 + 8 * (most_requests + 1)

-- so many bytes of an input are enough: whatever follows them, the report is the same
abbrev pub ReadEnough : (bytes : ℕ) → (input : List ℕ) → ReportAnswer → Type 0
ReadEnough bytes input report = bytes ≤ length input → (more : List ℕ) → report ≡ report_of (input ++ more)
