-- The loop that serves a trace where a = k. It keeps no buffer. But there are lists that a buffer would be in, and with them all holds that holds of the loop
-- with a buffer; the rule by which the layers serve a request says what the request is.
use Prim.Native.Nat.{ℕ, ◌+◌, ◌≤◌, ◌<◌}
use native.Mathlib.Omega.{arith}
use mathlib.Core.Bool.{Bool}
use mathlib.Core.List.{List, ◌++◌}
use mathlib.Core.Path.{◌≡◌, refl, sym, ap, subst, ◌∙◌}
use lib.ListN.{length, take, drop, get_or, replicate, length-append, length-drop, length-map, length-replicate}
use lib.Seq.{length-take-le}
use Rattle.std.proofs.Common.{Option, Some, None}
use Rattle.lists.specs.Choice.{pick}
use Rattle.lists.specs.Pages.{bit}
use Rattle.lists.specs.Places.{laid}
use Rattle.lists.specs.Sorting.{sort_by}
use Rattle.lists.proofs.Sorting.{length_sort}
use Rattle.paging.specs.Layers.{is_join}
use Rattle.paging.specs.Numbers.{kind_of_outcome, rule_of}
use Rattle.paging.specs.Policy.{Kind, is_bundled, is_load}
use Rattle.paging.specs.Table.{rule_in}
use Rattle.paging.specs.declared.outcomes.Outcome.{Outcome}
use Rattle.paging.proofs.Runs.{kind_of_cases}
use Rattle.marking.specs.Marking.{Cached, pages_in, marks_in, priorities_in, sooner, cleared, mark_bundle, mark_kind, mark_served}
use Rattle.marking.specs.Rdm.{Marking}
use Rattle.marking.proofs.Cached.{cleared_length}
use Rattle.marking.proofs.Whole.{whole_kind, marking_whole}
use Rattle.mark.specs.Lent.{lent}
use Rattle.mark.specs.Traces.{Table, table_with}
use Rattle.mark.specs.declared.serving.Advanced.{Advanced}
use Rattle.mark.specs.declared.serving.Point.{Point}
use Rattle.mark.specs.declared.serving.TablePoint.{TablePoint}
use Rattle.paging.specs.declared.outcomes.Totals.{Totals}
use Rattle.mark.specs.inner.Over.{TraceReady, ServedOver}
use Rattle.mark.specs.inner.Stepping.{TableReady, AdvancedBy, AdvancedTo, held_at}
use Rattle.mark.proofs.Stepping.{stepped_full, stepped_served}
use Rattle.mark.proofs.Tracing.{SoFar, tracing_begin, tracing_full, tracing_next, tracing_end}
use Rattle.mark.proofs.Tracing as tracing

abbrev pub with_count : TablePoint → (count : ℕ) → Point
with_count at count = record { table = at; count = count }

-- there are such lists
pub record Unkept (k : ℕ) (trace : List ℕ) (places i bundles loads : ℕ) (at : TablePoint) (x : Table) : Type 0 where
  pub count : ℕ
  pub cache : List ℕ
  pub marks : List ℕ
  pub priorities : List ℕ
  pub evicted : List ℕ
  pub so_far : SoFar k k trace places i bundles loads (with_count at count) (lent cache marks priorities evicted x.pages x.numbers x.times)

-- before the first request
pub unkept_begin : (k : ℕ) (trace : List ℕ) (x : Table) → TraceReady k k trace x
    → Unkept k trace (length x.pages) 0 0 0 (record { s = 0; t = 0; revealed = 0; used = 0 }) x
unkept_begin k trace x R =
    let zeros = replicate {A = ℕ} 256 0 in
    let long = length-replicate {A = ℕ} 256 0 in
    record {
      count = 0;
      cache = zeros;
      marks = zeros;
      priorities = zeros;
      evicted = zeros;
      so_far = tracing_begin k k trace x zeros zeros zeros zeros R long long long long;
    }

-- a bundle's pages take the place of as many of the evicted list
evicted_length : (k a p : ℕ) (joins : Bool) (xs : List Cached) (evicted : List ℕ) → a ≤ k → a ≤ length evicted
    → length (pick (is_bundled (mark_kind k p xs)) (pages_in (mark_bundle a (cleared joins xs)) ++ drop a evicted) evicted) ≡ length evicted
evicted_length k a p joins xs evicted high room =
    let P : Kind → Type 0 = λ kind. length (pick (is_bundled kind) (pages_in (mark_bundle a (cleared joins xs)) ++ drop a evicted) evicted) ≡ length evicted in
    kind_of_cases P k p (pages_in xs) refl refl
    (λ h. let many = length-map xs (λ (x : Cached). x.page) in
    let sorted = length_sort sooner (cleared joins xs) in
    let bundle : length (mark_bundle a (cleared joins xs)) ≡ a = length-take-le a (sort_by sooner (cleared joins xs)) (omega (arith, cleared_length joins xs)) in
    omega (
      arith,
      length-append (pages_in (mark_bundle a (cleared joins xs))) (drop a evicted),
      length-map (mark_bundle a (cleared joins xs)) (λ (x : Cached). x.page),
      length-drop a evicted,
    ))

module _ (k : ℕ) (trace : List ℕ) (places i bundles loads : ℕ) (at : TablePoint) (x : Table) (Y : Unkept k trace places i bundles loads at x) where
  pub unkept_ready : TableReady k k at x
  unkept_ready = Y.so_far.ready.table

  pub bundles_fit : i < length trace → length trace ≤ 65536 → (b : ℕ) (c : Bool) → b ≡ bit c → bundles + b < 4294967296
  bundles_fit = tracing.bundles_fit k k trace places i bundles loads _ _ Y.so_far

  pub loads_fit : i < length trace → length trace ≤ 65536 → (l : ℕ) (c : Bool) → l ≡ bit c → loads + l < 4294967296
  loads_fit = tracing.loads_fit k k trace places i bundles loads _ _ Y.so_far

  pub unkept_end : (lent_table : Table) → places ≡ length lent_table.pages → length trace ≤ i
      → ServedOver k k trace lent_table x (Some (record { bundles = bundles; loads = loads }))
  unkept_end = tracing_end k k trace places i bundles loads _ _ Y.so_far

  pub unkept_full : i < length trace → (pages' numbers' times' : List ℕ)
      → AdvancedTo k k (get_or trace i 0) at x (table_with pages' numbers' times') None
      → (lent_table after : Table) → places ≡ length lent_table.pages → ServedOver k k trace lent_table after None
  unkept_full h pages' numbers' times' told lent_table after size =
      let step = stepped_full k k (get_or trace i 0) (with_count at Y.count)
      (lent Y.cache Y.marks Y.priorities Y.evicted x.pages x.numbers x.times) pages' numbers' times' told in
      tracing_full k k trace places i bundles loads _ _ Y.so_far h _ step lent_table after size

  module _ (h : i < length trace) (pages' numbers' times' : List ℕ) (moved : Advanced)
      (told : AdvancedTo k k (get_or trace i 0) at x (table_with pages' numbers' times') (Some moved)) where
    done : AdvancedBy k k (get_or trace i 0) at x moved
    done = told.done_told

    -- the rule says what the request is
    kind_is : mark_kind k (get_or trace i 0)
        (held_at (with_count at Y.count) (lent Y.cache Y.marks Y.priorities Y.evicted x.pages x.numbers x.times)).cached
        ≡ whole_kind (rule_of moved.rule)
    kind_is =
        let p = get_or trace i 0 in
        let holds = Y.so_far.holds in
        ap (λ (m : Marking). mark_kind k p m.cached) holds ∙ marking_whole k (take i trace) p Y.so_far.ready.table.sound.sizes.a_low
        ∙ ap (λ (m : Marking). whole_kind (rule_in k m.clock.layers.s p m.clock.layers.rows)) (sym holds) ∙ ap whole_kind (sym done.rule_told)

    -- the lists after the request are those that the buffer's definition gives
    pub unkept_next : length trace ≤ 65536 → (outcome : Outcome) (b l : ℕ) → kind_of_outcome outcome ≡ whole_kind (rule_of moved.rule)
        → b ≡ bit (is_bundled (kind_of_outcome outcome)) → l ≡ bit (is_load (kind_of_outcome outcome))
        → Unkept k trace places (i + 1) (bundles + b) (loads + l) moved.after (table_with pages' numbers' times')
    unkept_next few outcome b l outcome_is b-is l-is =
        let p = get_or trace i 0 in
        let y = lent Y.cache Y.marks Y.priorities Y.evicted x.pages x.numbers x.times in
        let joins = is_join (rule_of moved.rule) in
        let xs = (held_at (with_count at Y.count) y).cached in
        let after = mark_served k k joins p moved.priority xs in
        let evicted' = pick (is_bundled (mark_kind k p xs)) (pages_in (mark_bundle k (cleared joins xs)) ++ drop k Y.evicted) Y.evicted in
        let step = stepped_served k k p (with_count at Y.count) y pages' numbers' times' moved told joins refl
        (laid k (pages_in after) Y.cache) (laid k (marks_in after) Y.marks) (laid k (priorities_in after) Y.priorities) evicted'
        (record { outcome = outcome; count = length after })
        (record { outcome_told = outcome_is ∙ sym kind_is; count_told = refl; cache_told = refl; marks_told = refl; priorities_told = refl; evicted_told = refl }) in
        record {
          count = length after;
          cache = laid k (pages_in after) Y.cache;
          marks = laid k (marks_in after) Y.marks;
          priorities = laid k (priorities_in after) Y.priorities;
          evicted = evicted';
          so_far = tracing_next k k trace places i bundles loads _ _ Y.so_far h _ _ step few b l b-is l-is
              (evicted_length k k p joins xs Y.evicted (omega arith) Y.so_far.ready.buffer.evicted_room);
        }

-- As the code asks for it, where a is k

pub whole_ready : (k a : ℕ) (trace : List ℕ) (x : Table) → a ≡ k → TraceReady k a trace x → TraceReady k k trace x
whole_ready k a trace x e R = subst (λ n. TraceReady k n trace x) e R

pub whole_served : (k a : ℕ) (trace : List ℕ) (x left : Table) (r : Option Totals) → a ≡ k → ServedOver k k trace x left r → ServedOver k a trace x left r
whole_served k a trace x left r e told = subst (λ n. ServedOver k n trace x left r) (sym e) told
