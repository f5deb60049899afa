-- Calls one after the other: the state that stands for a trace, from the empty one on. An accepted request leads to a state that stands for the trace with
-- its page behind it, and no such state is refused with 1, 2 or 9.
use Prim.Native.Nat.{ℕ, zero, suc, ◌+◌, ◌-◌, ◌≤◌}
use native.Mathlib.Omega.{arith}
use mathlib.Core.Bool.{true, false, not}
use mathlib.Core.List.{List, [], ◌∷◌, ◌++◌, append_assoc, append-nil}
use mathlib.Core.Path.{◌≡◌, refl, sym, ap, ◌∙◌}
use lib.Dec.{eqb, ltb}
use lib.ListN.{length, take, drop, get_or, replicate, length-append, length-replicate, length-map}
use lib.Seq.{take_at}
use borrow.Author.Tests.{eqb-true, le-leb, ltb-false}
use Rattle.lists.specs.Choice.{pick}
use Rattle.lists.specs.Pages.{bit}
use Rattle.lists.specs.Places.{laid}
use Rattle.lists.specs.Sorting.{Row}
use Rattle.lists.proofs.Choice.{tests, cases, by_test, and_i, or_l, or_r, bit_true}
use Rattle.lists.proofs.Pages.{count_mono, count_length}
use Rattle.paging.specs.Layers.{Layers, no_layers, layered}
use Rattle.paging.specs.Policy.{Kind, hit, load, bundled, is_load, is_bundled}
use Rattle.paging.specs.Refusals.{refuse, SizesRight, full_counter}
use Rattle.paging.specs.Rows.{rows_of, numbers_of, unused, used_rows, table_of}
use Rattle.paging.specs.Table.{Tabled, nothing_yet, tabled_after, rows_after, size_of}
use Rattle.paging.proofs.Refusals.{zero_pass, sizes_rest, sizes_taken}
use Rattle.paging.proofs.Rows.{pages_length, numbers_back}
use Rattle.paging.proofs.Table.{tabled_top, tabled_joins}
use Rattle.layers.specs.Calls.{request_reply, pages_next, numbers_next, request_refusal as layers_refusal}
use Rattle.layers.specs.declared.LayersRun.{LayersRun}
use Rattle.layers.proofs.Steps.{run_after, tabled_formed, used_is, start_stands, request_stands, Stands as LayersStand, never_ill_formed as layers-taken}
use Rattle.marking.specs.Lists.{cached_in, rising, all_marks}
use Rattle.marking.specs.Marking.{Cached, PriorityRule, pages_in, marks_in, joins_at, mark_kind, mark_served, mark_kinds, mark_bundles, mark_loads}
use Rattle.marking.specs.Rdm.{Marking, no_marking, priority_next, joins_next, rdm, marking_next, marking_after}
use Rattle.marking.proofs.Along.{marking_after_snoc, marking_layers, bundles_snoc, loads_snoc, time_most, times_most, times_length}
use Rattle.marked.proofs.Kept.{laid_back, served_rises, served_marks, served_most}
use Rattle.mark.specs.Calls.{holding, lists_refused, state_refusal, request_refusal, layers_served, run_served, reply_of, lent_after}
use Rattle.mark.specs.Formed.{record_formed, buffer_formed, times_formed, mark_well_formed}
use Rattle.mark.specs.Lent.{rows_in, times_of, lent_served}
use Rattle.mark.specs.Standing.{Call, State, lent_to, empty_state, accepts, after_call, called, after_calls, accepted_pages}
use Rattle.mark.specs.declared.MarkRun.{MarkRun}
use Rattle.mark.proofs.Formed.{record_well}

-- the record after a trace
abbrev pub run_over : (k a : ℕ) → (trace : List ℕ) → MarkRun
run_over k a trace =
    record {
      k = k;
      a = a;
      requests = length trace;
      loads = mark_loads (rdm k a) k a trace;
      evictions = mark_bundles (rdm k a) k a trace;
      t = (marking_after k a trace no_marking).clock.t;
      layers = run_after k a trace;
    }

-- record, count and lists are those of the model over the trace
pub record Stands (k a : ℕ) (trace : List ℕ) (S : State) : Type 0 where
  pub sizes : SizesRight k a
  pub run_is : S.run ≡ run_over k a trace
  pub count_is : S.count ≡ length (marking_after k a trace no_marking).cached
  pub cached_is : cached_in S.count S.cache S.marks S.priorities ≡ (marking_after k a trace no_marking).cached
  pub pages_are : take S.count S.cache ≡ pages_in (marking_after k a trace no_marking).cached
  pub marks_are : take S.count S.marks ≡ marks_in (marking_after k a trace no_marking).cached
  pub layers : LayersStand k a trace S.run.layers S.pages S.numbers
  pub times_are : S.times ≡ times_of (length S.pages) (marking_after k a trace no_marking).clock.layers.rows (marking_after k a trace no_marking).clock.times

-- The model keeps what "well formed" asks

record Kept (k : ℕ) (xs : List Cached) : Type 0 where
  rises : rising (pages_in xs) ≡ true
  marks : all_marks (marks_in xs) ≡ true
  most : length xs ≤ k

kept_from : (k a : ℕ) → 1 ≤ a → a ≤ k → (trace : List ℕ) (x : Marking) → Kept k x.cached → Kept k (marking_after k a trace x).cached
kept_from k a low high [] x K = K
kept_from k a low high (p ∷ ps) x K =
    let clear = joins_next k p x.clock in
    let n = priority_next p x.clock in
    kept_from k a low high ps (marking_next k a p x) (record {
      rises = served_rises k a clear p n x.cached K.rises;
      marks = served_marks k a clear p n x.cached K.marks;
      most = served_most k a clear p n x.cached low high K.most;
    })

kept : (k a : ℕ) → 1 ≤ a → a ≤ k → (trace : List ℕ) → Kept k (marking_after k a trace no_marking).cached
kept k a low high trace = kept_from k a low high trace no_marking (record { rises = refl; marks = refl; most = omega arith })

-- a bundle comes with a load, and there are as many kinds as requests
bundle_loads : (kind : Kind) → is_bundled kind ≡ true → is_load kind ≡ true
bundle_loads hit e = e
bundle_loads load e = refl
bundle_loads bundled e = refl

kinds_length : (rule : PriorityRule) (k a : ℕ) (before trace : List ℕ) (L : Layers) (xs : List Cached) → length (mark_kinds rule k a before trace L xs) ≡ length trace
kinds_length rule k a before [] L xs = refl
kinds_length rule k a before (p ∷ ps) L xs =
    ap suc (kinds_length rule k a (before ++ (p ∷ [])) ps (layered k a p L) (mark_served k a (joins_at k p L) p (rule before p) xs))

pub bundles_most : (rule : PriorityRule) (k a : ℕ) (trace : List ℕ) → mark_bundles rule k a trace ≤ mark_loads rule k a trace
bundles_most rule k a trace = count_mono is_bundled is_load (mark_kinds rule k a [] trace no_layers []) bundle_loads

pub loads_most : (rule : PriorityRule) (k a : ℕ) (trace : List ℕ) → mark_loads rule k a trace ≤ length trace
loads_most rule k a trace =
    omega (arith, count_length is_load (mark_kinds rule k a [] trace no_layers []), kinds_length rule k a [] trace no_layers [])

-- what was laid into a list stands in front of it
take_laid : (k n : ℕ) (held list : List ℕ) → length held ≡ n → take n (laid k held list) ≡ held
take_laid k n held list e =
    rw (append_assoc held (replicate (k - length held) 0) (drop k list)) (take_at held (replicate (k - length held) 0 ++ drop k list) n e)

-- t0 beside used rows, with zeros behind them
times_well : (t : ℕ) (rows : List Row) (ts : List ℕ) (n : ℕ) → length ts ≡ length rows → size_of 0 rows ≡ 0 → ((i : ℕ) → get_or ts i 0 ≤ t)
    → times_formed t (numbers_of (rows ++ replicate n unused)) (ts ++ replicate n 0) ≡ true
times_well t [] [] zero e z h = refl
times_well t [] [] (suc n) e z h = and_i _ _ (le-leb 0 t (omega arith)) (and_i _ _ (or_r _ _ refl) (times_well t [] [] n e z h))
times_well t [] (x ∷ ts) n e z h = absurd (omega arith)
times_well t (row ∷ rows) [] n e z h = absurd (omega arith)
times_well t (row ∷ rows) (x ∷ ts) n e z h =
    let up : ltb 0 row.number ≡ true = cases (eqb row.number 0) (λ g. absurd (omega (arith, bit_true _ g))) (λ g. omega tests) in
    and_i _ _ (le-leb x t (h 0)) (and_i _ _ (or_l _ _ up) (times_well t rows ts n (omega arith) (omega arith) (λ i. h (suc i))))

-- The start

pub stands_empty : (k a : ℕ) (cache marks priorities : List ℕ) (places : ℕ) → 1 ≤ a → a ≤ k → k ≤ 256 → Stands k a [] (empty_state k a cache marks priorities places)
stands_empty k a cache marks priorities places low high top =
    let whole : places ≡ length (replicate {A = ℕ} places 0) - 0 = omega (arith, length-replicate {A = ℕ} places 0) in
    record {
      sizes = record { a_low = low; a_high = high; k_high = top };
      run_is = refl;
      count_is = refl;
      cached_is = refl;
      pages_are = refl;
      marks_are = refl;
      layers = start_stands k a low high top places;
      times_are = ap (λ (n : ℕ). replicate n 0) whole;
    }

module _ {k a : ℕ} {trace : List ℕ} {S : State} (s : Stands k a trace S) where
  k_is : S.run.k ≡ k
  k_is = ap (λ (r : MarkRun). r.k) s.run_is

  a_is : S.run.a ≡ a
  a_is = ap (λ (r : MarkRun). r.a) s.run_is

  time_is : S.run.t ≡ (marking_after k a trace no_marking).clock.t
  time_is = ap (λ (r : MarkRun). r.t) s.run_is

  layers_is : S.run.layers ≡ run_after k a trace
  layers_is = ap (λ (r : MarkRun). r.layers) s.run_is

  model_rows : (marking_after k a trace no_marking).clock.layers.rows ≡ (tabled_after k a trace nothing_yet).rows
  model_rows = ap (λ (T : Tabled). T.rows) (marking_layers k a trace)

  rows_are : used_rows (rows_of S.numbers S.pages) ≡ (marking_after k a trace no_marking).clock.layers.rows
  rows_are = used_is k a trace S.run.layers S.pages S.numbers s.layers ∙ sym model_rows

  -- what the record, the count and the lists hold is the model's
  pub holds : (call : Call) → holding S.run S.count (lent_to call S) ≡ marking_after k a trace no_marking
  holds call =
      let m = marking_after k a trace no_marking in
      let s-is : S.run.layers.s ≡ m.clock.layers.s =
      ap (λ (r : LayersRun). r.s) layers_is ∙ sym (tabled_top k a trace) ∙ sym (ap (λ (T : Tabled). T.s) (marking_layers k a trace)) in
      let joins_is : S.run.layers.evictions ≡ m.clock.layers.joins =
      ap (λ (r : LayersRun). r.evictions) layers_is ∙ sym (tabled_joins k a trace) ∙ sym (ap (λ (T : Tabled). T.joins) (marking_layers k a trace)) in
      let zeros : List ℕ = replicate (length S.pages - length m.clock.layers.rows) 0 in
      let times_is : take (length (rows_in (lent_to call S))) S.times ≡ m.clock.times =
      rw (rows_are, s.times_are) (take_at m.clock.times zeros (length m.clock.layers.rows) (times_length k a trace)) in
      λ i. record {
        cached = s.cached_is i;
        clock = record { layers = record { rows = rows_are i; s = s-is i; joins = joins_is i }; t = time_is i; times = times_is i };
      }

  -- No refusal for the state: 8 is about the lent lists, 12 about the counter, 10 about the places of the table

  times_formed_lem : times_formed S.run.t S.numbers S.times ≡ true
  times_formed_lem =
      let m = marking_after k a trace no_marking in
      let rows = m.clock.layers.rows in
      let above : size_of 0 rows ≡ 0 = rw model_rows (tabled_formed k a s.sizes.a_low s.sizes.a_high trace).above in
      let numbers_are : S.numbers ≡ numbers_of (table_of (length S.pages) rows) =
      sym (numbers_back S.numbers S.pages s.layers.one_length) ∙ ap numbers_of s.layers.table_is
      ∙ ap (λ (l : List Row). numbers_of (table_of (length S.pages) l)) (sym model_rows) in
      rw (time_is, numbers_are, s.times_are)
      (times_well m.clock.t rows m.clock.times (length S.pages - length rows) (times_length k a trace) above (times_most k a trace))

  pub never_ill_formed : (call : Call) → mark_well_formed S.run S.count (lent_to call S) ≡ true
  unfolding mark_well_formed buffer_formed
  never_ill_formed call =
      let K = kept k a s.sizes.a_low s.sizes.a_high trace in
      let formed : record_formed S.run ≡ true = rw s.run_is (record_well (run_over k a trace) (record {
        evictions_low = bundles_most (rdm k a) k a trace;
        loads_low = loads_most (rdm k a) k a trace;
        time_low = time_most k a trace;
        one_k = refl;
        one_a = refl;
        one_count = refl;
      })) in
      let most : S.count ≤ S.run.k = rw (s.count_is, k_is) K.most in
      let rises : rising (take S.count S.cache) ≡ true = rw s.pages_are K.rises in
      let marks : all_marks (take S.count S.marks) ≡ true = rw s.marks_are K.marks in
      and_i _ _ formed (and_i _ _ (and_i _ _ (le-leb _ _ most) (and_i _ _ rises marks)) (and_i _ _ s.layers.well times_formed_lem))

  pub stands_refusal : (call : Call) (rest : ℕ) → state_refusal S.run S.count (lent_to call S) rest
      ≡ refuse (lists_refused k a (lent_to call S)) 8 (refuse (eqb (length trace) full_counter) 12 rest)
  unfolding state_refusal
  stands_refusal call rest =
      let right : SizesRight S.run.k S.run.a = rw (k_is, a_is) s.sizes in
      sizes_taken S.run.k S.run.a right _ ∙ rw (never_ill_formed call, s.run_is) refl

  -- An accepted request

  module _ (call : Call) (e : request_refusal S.run S.count (lent_to call S) call.page ≡ 0) where
    next_is : marking_next S.run.k S.run.a call.page (holding S.run S.count (lent_to call S)) ≡ marking_after k a (trace ++ (call.page ∷ [])) no_marking
    next_is = (λ i. marking_next (k_is i) (a_is i) call.page (holds call i)) ∙ sym (marking_after_snoc k a trace call.page no_marking)

    layers_k : S.run.layers.k ≡ S.run.k
    layers_k = ap (λ (r : LayersRun). r.k) layers_is ∙ sym k_is

    layers_a : S.run.layers.a ≡ S.run.a
    layers_a = ap (λ (r : LayersRun). r.a) layers_is ∙ sym a_is

    layers_count : S.run.layers.requests ≡ S.run.requests
    layers_count = ap (λ (r : LayersRun). r.requests) layers_is ∙ sym (ap (λ (r : MarkRun). r.requests) s.run_is)

    -- neither the counter nor the table is full
    not_full : (eqb S.run.requests full_counter ≡ false)
        × (ltb (length S.pages) (length (marking_next S.run.k S.run.a call.page (holding S.run S.count (lent_to call S))).clock.layers.rows) ≡ false)
    unfolding request_refusal state_refusal
    not_full =
        let first = sizes_rest S.run.k S.run.a _ e in
        let second = zero_pass (lists_refused S.run.k S.run.a (lent_to call S)) 8 _ (λ z. omega arith) first.1 in
        let third = zero_pass (not (mark_well_formed S.run S.count (lent_to call S))) 9 _ (λ z. omega arith) second.1 in
        let fourth = zero_pass (eqb S.run.requests full_counter) 12 _ (λ z. omega arith) third.1 in
        let after = marking_next S.run.k S.run.a call.page (holding S.run S.count (lent_to call S)) in
        (fourth.0, (zero_pass (ltb (length S.pages) (length after.clock.layers.rows)) 10 0 (λ z. omega arith) fourth.1).0)

    -- the layers accept the request too
    layers_accept : layers_refusal S.run.layers S.pages S.numbers call.page ≡ 0
    unfolding layers_refusal
    layers_accept =
        let counter : eqb S.run.layers.requests full_counter ≡ false = rw layers_count not_full.0 in
        let rows = rows_after S.run.layers.k S.run.layers.a S.run.layers.s call.page (used_rows (rows_of S.numbers S.pages)) in
        let space : ltb (length S.pages) (length rows) ≡ false = rw (layers_k, layers_a) not_full.1 in
        layers-taken k a trace S.run.layers S.pages S.numbers s.layers _ ∙ rw (counter, space) refl

    layers_stand : LayersStand k a (trace ++ (call.page ∷ []))
        (layers_served S.run.layers call.page (holding S.run S.count (lent_to call S)))
        (lent_served S.run.k S.run.a call.page (holding S.run S.count (lent_to call S)) (lent_to call S)).pages
        (lent_served S.run.k S.run.a call.page (holding S.run S.count (lent_to call S)) (lent_to call S)).numbers
    unfolding request_reply pages_next numbers_next
    layers_stand =
        let on = request_stands k a trace S.run.layers S.pages S.numbers s.layers call.page layers_accept in
        rw (layers_k, layers_a) (rw (layers_accept, layers_k, layers_a) at on)

    -- the record, the count and the lists that the call leaves
    left : State
    left =
        let m = holding S.run S.count (lent_to call S) in
        let x = lent_served S.run.k S.run.a call.page m (lent_to call S) in
        record {
          run = run_served S.run call.page m;
          count = length (marking_next S.run.k S.run.a call.page m).cached;
          cache = x.cache;
          marks = x.marks;
          priorities = x.priorities;
          pages = x.pages;
          numbers = x.numbers;
          times = x.times;
        }

    left_is : after_call call S ≡ left
    unfolding reply_of lent_after left
    left_is = rw e refl

    run_left : run_served S.run call.page (holding S.run S.count (lent_to call S)) ≡ run_over k a (trace ++ (call.page ∷ []))
    run_left =
        let p = call.page in
        let kind : mark_kind S.run.k p (cached_in S.count S.cache S.marks S.priorities) ≡ mark_kind k p (marking_after k a trace no_marking).cached =
        λ i. mark_kind (k_is i) p (s.cached_is i) in
        let requests : S.run.requests + 1 ≡ length (trace ++ (p ∷ [])) = omega (arith, ap (λ (r : MarkRun). r.requests) s.run_is, length-append trace (p ∷ [])) in
        let loads = (λ i. (s.run_is i).loads + bit (is_load (kind i))) ∙ sym (loads_snoc k a trace p) in
        let bundles = (λ i. (s.run_is i).evictions + bit (is_bundled (kind i))) ∙ sym (bundles_snoc k a trace p) in
        λ i. record {
          k = k_is i;
          a = a_is i;
          requests = requests i;
          loads = loads i;
          evictions = bundles i;
          t = (next_is i).clock.t;
          layers = layers_stand.run_is i;
        }

    -- the table keeps its places
    places_left : length (lent_served S.run.k S.run.a call.page (holding S.run S.count (lent_to call S)) (lent_to call S)).pages ≡ length S.pages
    places_left =
        let rows = (marking_next S.run.k S.run.a call.page (holding S.run S.count (lent_to call S))).clock.layers.rows in
        let room : length rows ≤ length S.pages = ltb-false _ _ not_full.1 in
        pages_length (table_of (length S.pages) rows)
        ∙ omega (
          arith,
          length-append rows (replicate (length S.pages - length rows) unused),
          length-replicate (length S.pages - length rows) unused,
        )

    pub stands_accepted : Stands k a (trace ++ (call.page ∷ [])) (after_call call S)
    unfolding left
    stands_accepted =
        let next = (marking_next S.run.k S.run.a call.page (holding S.run S.count (lent_to call S))).cached in
        let after = marking_after k a (trace ++ (call.page ∷ [])) no_marking in
        rw left_is (record {
          sizes = s.sizes;
          run_is = run_left;
          count_is = ap (λ (m : Marking). length m.cached) next_is;
          cached_is = laid_back S.run.k next S.cache S.marks S.priorities ∙ ap (λ (m : Marking). m.cached) next_is;
          pages_are = take_laid S.run.k (length next) (pages_in next) S.cache (length-map next (λ (x : Cached). x.page))
              ∙ ap (λ (m : Marking). pages_in m.cached) next_is;
          marks_are = take_laid S.run.k (length next) (marks_in next) S.marks (length-map next (λ (x : Cached). x.mark))
              ∙ ap (λ (m : Marking). marks_in m.cached) next_is;
          layers = layers_stand;
          times_are = ap (λ (m : Marking). times_of (length S.pages) m.clock.layers.rows m.clock.times) next_is
              ∙ ap (λ (n : ℕ). times_of n after.clock.layers.rows after.clock.times) (sym places_left);
        })

-- Lists of calls

-- the state after a call stands: for the same trace if it was refused, for the trace with the page behind it if it was accepted
pub call_stands : (k a : ℕ) (call : Call) (trace : List ℕ) (S : State) → Stands k a trace S
    → Stands k a (trace ++ pick (accepts call S) (call.page ∷ []) []) (called call S)
call_stands k a call trace S s =
    by_test
    (λ b. Stands k a (trace ++ pick b (call.page ∷ []) []) (pick b (after_call call S) S))
    (accepts call S)
    (λ e. stands_accepted s call (eqb-true _ _ e))
    (λ e. rw (append-nil trace) s)

pub calls_stand : (k a : ℕ) (calls : List Call) (trace : List ℕ) (S : State) → Stands k a trace S
    → Stands k a (trace ++ accepted_pages calls S) (after_calls calls S)
calls_stand k a [] trace S s = rw (append-nil trace) s
calls_stand k a (call ∷ calls) trace S s =
    rw (← append_assoc trace (pick (accepts call S) (call.page ∷ []) []) (accepted_pages calls (called call S)))
    (calls_stand k a calls (trace ++ pick (accepts call S) (call.page ∷ []) []) (called call S) (call_stands k a call trace S s))

-- from the empty buffer and empty layers: after any calls, record, count and lists are those of the model over the accepted pages
pub calls_from_empty : (k a : ℕ) (calls : List Call) (cache marks priorities : List ℕ) (places : ℕ) → 1 ≤ a → a ≤ k → k ≤ 256
    → Stands k a (accepted_pages calls (empty_state k a cache marks priorities places)) (after_calls calls (empty_state k a cache marks priorities places))
calls_from_empty k a calls cache marks priorities places low high top =
    calls_stand k a calls [] (empty_state k a cache marks priorities places) (stands_empty k a cache marks priorities places low high top)
