-- The loop that serves a trace: the lists hold what the model has after the requests so far.
use Prim.Native.Nat.{ℕ, zero, suc, ◌+◌, ◌-◌, ◌≤◌, ◌<◌}
use native.Mathlib.Numerals.{add-one}
use native.Mathlib.Omega.{arith}
use mathlib.Core.Bool.{Bool, false, not}
use mathlib.Core.List.{List, [], ◌∷◌, ◌++◌}
use mathlib.Core.Path.{◌≡◌, refl, sym, ap, subst, ◌∙◌}
use lib.Dec.{ltb}
use lib.ListN.{length, take, drop, get_or, replicate, length-replicate, drop_of_length-le}
use lib.Seq.{drop-cons, take-suc, take_all}
use borrow.Author.Tests.{ltb-false}
use Rattle.std.proofs.Common.{Option, Some, None, is_none}
use Rattle.lists.specs.Choice.{◌or◌}
use Rattle.lists.specs.Pages.{bit}
use Rattle.lists.specs.Sorting.{Row}
use Rattle.lists.proofs.Choice.{bit_le, or_l}
use Rattle.paging.specs.Numbers.{kind_of_outcome}
use Rattle.paging.specs.Policy.{is_load, is_bundled}
use Rattle.paging.specs.Refusals.{SizesRight}
use Rattle.paging.specs.Rows.{rows_of, numbers_of, pages_of, unused, used_rows, table_of}
use Rattle.paging.specs.Table.{rows_after, Tabled, nothing_yet, tabled_next, tabled_after}
use Rattle.paging.proofs.Forming.{no_rows_formed}
use Rattle.paging.proofs.Rows.{pages_back, numbers_back}
use Rattle.paging.proofs.Table.{tabled_snoc}
use Rattle.layers.specs.Traces.{overflows}
use Rattle.marking.specs.Marking.{mark_kind, mark_bundles, mark_loads}
use Rattle.marking.specs.Rdm.{Marking, no_marking, no_clock, time_next, is_revealed, rdm, marking_next, marking_after, clock_after}
use Rattle.marking.proofs.Along.{marking_after_snoc, marking_layers, marking_clock, bundles_snoc, loads_snoc}
use Rattle.mark.specs.Lent.{Lent, lent, rows_in, held_in, times_of, lent_served}
use Rattle.mark.specs.Traces.{Table, table_with}
use Rattle.mark.specs.declared.serving.Point.{Point}
use Rattle.mark.specs.declared.serving.Stepped.{Stepped}
use Rattle.mark.specs.inner.Over.{TraceReady, ServedOver}
use Rattle.mark.specs.inner.Stepping.{StepReady, held_at, point_after, SteppedBy, SteppedTo}
use Rattle.mark.proofs.Onward.{held_served, ready_served, pages_places}

pub record SoFar (k a : ℕ) (trace : List ℕ) (places i bundles loads : ℕ) (at : Point) (x : Lent) : Type 0 where
  pub ready : StepReady k a at x
  pub within : i ≤ length trace
  pub size : length x.pages ≡ places
  pub holds : held_in at.table.s (marking_after k a (take i trace) no_marking).clock.layers.joins at.table.t at.count x ≡ marking_after k a (take i trace) no_marking
  pub bundles_are : bundles ≡ mark_bundles (rdm k a) k a (take i trace)
  pub loads_are : loads ≡ mark_loads (rdm k a) k a (take i trace)
  pub few_bundles : bundles ≤ i
  pub few_loads : loads ≤ i
  pub time_low : at.table.t ≤ i
  pub full_left : overflows k a places trace nothing_yet ≡ overflows k a places (drop i trace) (tabled_after k a (take i trace) nothing_yet)

or_pass : (b c : Bool) → b ≡ false → (b or c) ≡ c
unfolding ◌or◌
or_pass b c e = rw e refl

module _ (k a : ℕ) (trace : List ℕ) (places i bundles loads : ℕ) (at : Point) (x : Lent) (Y : SoFar k a trace places i bundles loads at x) where
  -- The counters

  pub bundles_fit : i < length trace → length trace ≤ 65536 → (b : ℕ) (c : Bool) → b ≡ bit c → bundles + b < 4294967296
  bundles_fit h few b c e = omega (arith, Y.few_bundles, bit_le c)

  pub loads_fit : i < length trace → length trace ≤ 65536 → (l : ℕ) (c : Bool) → l ≡ bit c → loads + l < 4294967296
  loads_fit h few l c e = omega (arith, Y.few_loads, bit_le c)

  -- At the end

  pub tracing_end : (lent_table : Table) → places ≡ length lent_table.pages → length trace ≤ i
      → ServedOver k a trace lent_table (table_with x.pages x.numbers x.times) (Some (record { bundles = bundles; loads = loads }))
  tracing_end lent_table count h =
      let all : take i trace ≡ trace = take_all i trace h in
      let none : drop i trace ≡ [] = drop_of_length-le trace h in
      let R = Y.ready in
      let layers : rows_in x ≡ (tabled_after k a trace nothing_yet).rows =
      ap (λ (y : Marking). y.clock.layers.rows) Y.holds ∙ ap (λ (T : Tabled). T.rows) (marking_layers k a (take i trace)) ∙ rw all refl in
      let clock : take (length (rows_in x)) x.times ≡ (clock_after k a trace no_clock).times =
      ap (λ (y : Marking). y.clock.times) Y.holds ∙ ap (λ c. c.times) (marking_clock k a (take i trace) no_marking) ∙ rw all refl in
      let shape : rows_of x.numbers x.pages ≡ table_of places (tabled_after k a trace nothing_yet).rows = R.table.shape ∙ rw (Y.size, layers) refl in
      let pages : x.pages ≡ pages_of (table_of places (tabled_after k a trace nothing_yet).rows) = sym (pages_back x.numbers x.pages R.table.even) ∙ ap pages_of shape in
      let numbers : x.numbers ≡ numbers_of (table_of places (tabled_after k a trace nothing_yet).rows) =
      sym (numbers_back x.numbers x.pages R.table.even) ∙ ap numbers_of shape in
      let times : x.times ≡ times_of places (tabled_after k a trace nothing_yet).rows (clock_after k a trace no_clock).times = times_whole layers clock in
      record {
        full_told = rw (← count, Y.full_left, none) refl;
        done_told = record {
          table_told = rw (← count) (λ j. table_with (pages j) (numbers j) (times j));
          bundles_told = rw all at Y.bundles_are;
          loads_told = rw all at Y.loads_are;
        };
      }
    where
      parts : (n : ℕ) (xs : List ℕ) → take n xs ++ drop n xs ≡ xs
      parts zero xs = refl
      parts (suc n) [] = refl
      parts (suc n) (y ∷ ys) = ap (λ (l : List ℕ). y ∷ l) (parts n ys)

      times_whole : rows_in x ≡ (tabled_after k a trace nothing_yet).rows → take (length (rows_in x)) x.times ≡ (clock_after k a trace no_clock).times
          → x.times ≡ times_of places (tabled_after k a trace nothing_yet).rows (clock_after k a trace no_clock).times
      times_whole layers clock =
          let R = Y.ready in
          let behind : drop (length (rows_in x)) x.times ≡ replicate (places - length (rows_in x)) 0 = rw (R.table.counted, Y.size) at R.table.blank in
          sym (parts (length (rows_in x)) x.times) ∙ rw (clock, behind, layers) refl

  -- A request more

  module _ (h : i < length trace) (left : Lent) where
    rows_are : rows_in x ≡ (tabled_after k a (take i trace) nothing_yet).rows
    rows_are = ap (λ (y : Marking). y.clock.layers.rows) Y.holds ∙ ap (λ (T : Tabled). T.rows) (marking_layers k a (take i trace))

    top_is : at.table.s ≡ (tabled_after k a (take i trace) nothing_yet).s
    top_is = ap (λ (y : Marking). y.clock.layers.s) Y.holds ∙ ap (λ (T : Tabled). T.s) (marking_layers k a (take i trace))

    full_is : (r : Option Stepped) → SteppedTo k a (get_or trace i 0) at x left r
        → is_none r ≡ ltb places (length (tabled_next k a (get_or trace i 0) (tabled_after k a (take i trace) nothing_yet)).rows)
    full_is r told = told.full_told ∙ rw (Y.size, rows_are, top_is) refl

    here : overflows k a places (drop i trace) (tabled_after k a (take i trace) nothing_yet)
        ≡ ltb places (length (tabled_next k a (get_or trace i 0) (tabled_after k a (take i trace) nothing_yet)).rows)
        or overflows k a places (drop (suc i) trace) (tabled_next k a (get_or trace i 0) (tabled_after k a (take i trace) nothing_yet))
    here = ap (λ (l : List ℕ). overflows k a places l (tabled_after k a (take i trace) nothing_yet)) (drop-cons trace i 0 h)

    pub tracing_full : SteppedTo k a (get_or trace i 0) at x left None → (lent_table after : Table) → places ≡ length lent_table.pages
        → ServedOver k a trace lent_table after None
    tracing_full told lent_table after count =
        record { full_told = rw (← count) (sym (Y.full_left ∙ here ∙ or_l _ _ (sym (full_is None told)))); done_told = tt }

    module _ (r : Stepped) (told : SteppedTo k a (get_or trace i 0) at x left (Some r)) (few : length trace ≤ 65536)
        (b l : ℕ) (b-is : b ≡ bit (is_bundled (kind_of_outcome r.outcome))) (l-is : l ≡ bit (is_load (kind_of_outcome r.outcome)))
        (kept : length left.evicted ≡ length x.evicted) where
      done : SteppedBy k a (get_or trace i 0) at x r
      done = told.done_told

      space : length (rows_after k a at.table.s (get_or trace i 0) (rows_in x)) ≤ length x.pages
      space = ltb-false _ _ (sym told.full_told)

      left_is : left ≡ lent_served k a (get_or trace i 0) (held_at at x) x
      left_is = told.lists_told

      next_is : marking_after k a (take (i + 1) trace) no_marking
          ≡ marking_next k a (get_or trace i 0) (held_in at.table.s (marking_after k a (take i trace) no_marking).clock.layers.joins at.table.t at.count x)
      next_is =
          rw (add-one i, take-suc trace i 0 h) (marking_after_snoc k a (take i trace) (get_or trace i 0) no_marking)
          ∙ ap (marking_next k a (get_or trace i 0)) (sym Y.holds)

      time_next_lem : time_next (get_or trace i 0) (held_at at x).clock ≤ i + 1
      time_next_lem = omega (arith, Y.time_low, bit_le (not (is_revealed (get_or trace i 0) (held_at at x).clock.layers)))

      cached_is : (held_at at x).cached ≡ (marking_after k a (take i trace) no_marking).cached
      cached_is = ap (λ (y : Marking). y.cached) Y.holds

      bundles_next : bundles + b ≡ mark_bundles (rdm k a) k a (take (i + 1) trace)
      bundles_next =
          let one : b ≡ bit (is_bundled (mark_kind k (get_or trace i 0) (marking_after k a (take i trace) no_marking).cached)) =
          b-is ∙ rw (done.outcome_told, cached_is) refl in
          rw (Y.bundles_are, one, add-one i, take-suc trace i 0 h) (sym (bundles_snoc k a (take i trace) (get_or trace i 0)))

      loads_next : loads + l ≡ mark_loads (rdm k a) k a (take (i + 1) trace)
      loads_next =
          let one : l ≡ bit (is_load (mark_kind k (get_or trace i 0) (marking_after k a (take i trace) no_marking).cached)) =
          l-is ∙ rw (done.outcome_told, cached_is) refl in
          rw (Y.loads_are, one, add-one i, take-suc trace i 0 h) (sym (loads_snoc k a (take i trace) (get_or trace i 0)))

      pub tracing_next : SoFar k a trace places (i + 1) (bundles + b) (loads + l) r.after left
      tracing_next =
          let after_is : r.after ≡ point_after k a (get_or trace i 0) at x = done.point_told in
          let kept' : length (lent_served k a (get_or trace i 0) (held_at at x) x).evicted ≡ length x.evicted = rw left_is at kept in
          rw (after_is, left_is) (record {
            ready = ready_served k a (get_or trace i 0) at x Y.ready space kept' (omega (arith, time_next_lem));
            within = omega arith;
            size = pages_places k a (get_or trace i 0) at x Y.ready space ∙ Y.size;
            holds = rw next_is (held_served k a (get_or trace i 0) at x Y.ready space (marking_after k a (take i trace) no_marking).clock.layers.joins);
            bundles_are = bundles_next;
            loads_are = loads_next;
            few_bundles = omega (arith, Y.few_bundles, bit_le (is_bundled (kind_of_outcome r.outcome)));
            few_loads = omega (arith, Y.few_loads, bit_le (is_load (kind_of_outcome r.outcome)));
            time_low = time_next_lem;
            full_left = Y.full_left ∙ here ∙ or_pass _ _ (sym (full_is (Some r) told)) ∙ rw (add-one i, take-suc trace i 0 h, tabled_snoc k a (take i trace) (get_or trace i 0) nothing_yet) refl;
          })

-- Before the first request

blank_rows : (n : ℕ) → rows_of (replicate n 0) (replicate n 0) ≡ replicate n unused
blank_rows zero = refl
blank_rows (suc n) = ap (λ (l : List Row). unused ∷ l) (blank_rows n)

none_used : (n : ℕ) → used_rows (replicate n unused) ≡ []
none_used zero = refl
none_used (suc n) = none_used n

zeros_low : (n i t : ℕ) → get_or (replicate n 0) i 0 ≤ t
zeros_low zero i t = omega arith
zeros_low (suc n) zero t = omega arith
zeros_low (suc n) (suc i) t = zeros_low n i t

pub tracing_start : (k a : ℕ) (trace : List ℕ) (places : ℕ) (cache marks priorities evicted : List ℕ) → SizesRight k a
    → 256 ≤ length cache → 256 ≤ length marks → 256 ≤ length priorities → 256 ≤ length evicted
    → SoFar k a trace places 0 0 0 (record { table = record { s = 0; t = 0; revealed = 0; used = 0 }; count = 0 })
    (lent cache marks priorities evicted (replicate places 0) (replicate places 0) (replicate places 0))
tracing_start k a trace places cache marks priorities evicted right c m p e =
    let none : used_rows (rows_of (replicate places 0) (replicate places 0)) ≡ [] = ap used_rows (blank_rows places) ∙ none_used places in
    let size : length (replicate {A = ℕ} places 0) ≡ places = length-replicate places 0 in
    let whole : places - 0 ≡ places = omega arith in
    record {
      ready = record {
        buffer = record {
          a_low = right.a_low;
          a_high = right.a_high;
          k_high = right.k_high;
          count_most = omega arith;
          cache_room = omega (arith, right.k_high);
          marks_room = omega (arith, right.k_high);
          priorities_room = omega (arith, right.k_high);
          evicted_room = omega (arith, right.k_high, right.a_high);
          rises = refl;
        };
        table = record {
          sound = record { sizes = right; s_high = omega arith };
          formed = rw none (no_rows_formed k a);
          shape = rw (none, size, whole) (blank_rows places);
          counted = rw none refl;
          fits = omega arith;
          even = refl;
          beside = refl;
          blank = rw (size, whole) refl;
          times_low = λ i. zeros_low places i 0;
          shown = refl;
          further = omega arith;
        };
      };
      within = omega arith;
      size = size;
      holds = rw none refl;
      bundles_are = refl;
      loads_are = refl;
      few_bundles = omega arith;
      few_loads = omega arith;
      time_low = omega arith;
      full_left = refl;
    }

-- on a table that is all unused
pub tracing_begin : (k a : ℕ) (trace : List ℕ) (x : Table) (cache marks priorities evicted : List ℕ) → TraceReady k a trace x
    → length cache ≡ 256 → length marks ≡ 256 → length priorities ≡ 256 → length evicted ≡ 256
    → SoFar k a trace (length x.pages) 0 0 0 (record { table = record { s = 0; t = 0; revealed = 0; used = 0 }; count = 0 })
    (lent cache marks priorities evicted x.pages x.numbers x.times)
tracing_begin k a trace x cache marks priorities evicted R c m p e =
    let places = length x.pages in
    let same : lent cache marks priorities evicted x.pages x.numbers x.times
    ≡ lent cache marks priorities evicted (replicate places 0) (replicate places 0) (replicate places 0) =
    λ i. lent cache marks priorities evicted (R.blank_pages i) (R.blank_numbers i) (R.blank_times i) in
    subst (SoFar k a trace places 0 0 0 (record { table = record { s = 0; t = 0; revealed = 0; used = 0 }; count = 0 })) (sym same)
    (tracing_start k a trace places cache marks priorities evicted R.sizes (omega arith) (omega arith) (omega arith) (omega arith))
