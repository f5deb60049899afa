-- The refusals: each test of the code is a condition of the list, and where none holds the state is ready.
use Rattle.std.specs.Prelude.{Ok, Err}
use Prim.Native.Nat.{ℕ, ◌≤◌, ◌<◌}
use native.Mathlib.Omega.{arith}
use mathlib.Core.Bool.{Bool, true, false, not}
use mathlib.Core.List.{List}
use mathlib.Core.Path.{◌≡◌, refl, sym, ap, ◌∙◌}
use lib.Dec.{eqb, ltb}
use lib.ListN.{length, take}
use borrow.Author.Tests.{eq-eqb, ne_eqb, eqb-true, eqb-false, lt-ltb, le-ltb, le-leb, lt-leb, not-false}
use Rattle.lists.specs.Choice.{pick, ◌and◌, ◌or◌}
use Rattle.lists.specs.Pages.{distinct}
use Rattle.lists.proofs.Choice.{tests, by_test, and_l, and_r, and_false_l, and_false_r, or_none_l, or_none_r}
use Rattle.paging.specs.Refusals.{refuse, sizes_refusal, trace_refusal}
use Rattle.paging.proofs.Refusals.{zero_pass, sizes_pass, sizes_fall, sizes_rest, trace_right}
use Rattle.paging.specs.declared.Keeping.{Keeping}
use Rattle.paging.proofs.Numbers.{number_above}
use Rattle.paging.specs.Numbers.{number_of, totals_answer}
use Rattle.paging.specs.declared.reasons.Refusal.{Refusal}
use Rattle.queue.specs.Answers.{ReplyAnswer, accepted}
use Rattle.queue.specs.Calls.{well_formed, run_refusal, request_refusal, refused, Answered, Previewed, totals_of}
use Rattle.queue.specs.Serving.{cache_served, reply_served}
use Rattle.queue.specs.Standing.{run_over}
use Rattle.queue.specs.declared.Reply.{Reply}
use Rattle.queue.specs.declared.Run.{Run}
use Rattle.queue.specs.declared.serving.Found.{Found}
use Rattle.queue.specs.inner.Cases.{found_in, cache_for}
use Rattle.queue.specs.inner.Telling.{Told}
use Rattle.queue.specs.inner.Ready.{RequestReady, TraceReady}
use Rattle.queue.proofs.Served.{Tells, settled}

module _ (run : Run) (count : ℕ) (cache evicted : List ℕ) (ill : Bool) where
  -- no refusal, whatever else may be a reason for 9 and whatever the call's own refusals are
  pub run_ready : (rest : ℕ) → run_refusal run count cache evicted ill rest ≡ 0 → RequestReady run count cache evicted × (ill ≡ false) × (rest ≡ 0)
  unfolding run_refusal well_formed
  run_ready rest e =
      let sizes = sizes_rest run.k run.a _ e in
      let eight = zero_pass (ltb (length cache) run.k or ltb (length evicted) run.a) 8 _ (λ z. omega arith) sizes.1 in
      let nine = zero_pass (not (well_formed run count cache) or ill) 9 _ (λ z. omega arith) eight.1 in
      let twelve = zero_pass (eqb run.requests 4294967295) 12 rest (λ z. omega arith) nine.1 in
      let well : well_formed run count cache ≡ true = not-false _ (or_none_l _ _ nine.0) in
      let c = or_none_l _ _ eight.0 in
      let v = or_none_r _ _ eight.0 in
      let w1 = and_l _ _ well in
      let w2 = and_l _ _ (and_r _ _ well) in
      let w3 = and_l _ _ (and_r _ _ (and_r _ _ well)) in
      let w4 = and_r _ _ (and_r _ _ (and_r _ _ well)) in (
        record {
          sizes = sizes.0;
          cache_room = omega tests;
          evicted_room = omega tests;
          count_most = omega tests;
          evictions_most = omega tests;
          loads_most = omega tests;
          once = w4;
          further = eqb-false _ _ twelve.0;
        },
        or_none_r _ _ nine.0,
        twelve.1,
      )

  -- each refusal of the list

  pub number_sizes : (n : ℕ) → n ≡ sizes_refusal run.k run.a 0 → (n ≡ 0 → ⊥) → n ≡ run_refusal run count cache evicted ill 0
  unfolding run_refusal
  number_sizes n e z = sym (sizes_fall run.k run.a _ n e z)

  module _ (z : 0 ≡ sizes_refusal run.k run.a 0) where
    pub number_cache : length cache < run.k → 8 ≡ run_refusal run count cache evicted ill 0
    unfolding run_refusal ◌or◌
    number_cache h = sym (sizes_pass run.k run.a _ (sym z) ∙ rw (lt-ltb _ _ h) refl)

    module _ (hc : run.k ≤ length cache) where
      pub number_evicted : length evicted < run.a → 8 ≡ run_refusal run count cache evicted ill 0
      unfolding run_refusal ◌or◌
      number_evicted h = sym (sizes_pass run.k run.a _ (sym z) ∙ rw (le-ltb _ _ hc, lt-ltb _ _ h) refl)

      module _ (he : run.a ≤ length evicted) where
        rest_is : run_refusal run count cache evicted ill 0
            ≡ refuse (not (well_formed run count cache) or ill) 9 (refuse (eqb run.requests 4294967295) 12 0)
        unfolding run_refusal ◌or◌
        rest_is = sizes_pass run.k run.a _ (sym z) ∙ rw (le-ltb _ _ hc, le-ltb _ _ he) refl

        pub number_formed : false ≡ well_formed run count cache → 9 ≡ run_refusal run count cache evicted ill 0
        unfolding ◌or◌
        number_formed f = sym (rest_is ∙ rw (← f) refl)

        module _ (f : true ≡ well_formed run count cache) where
          pub number_ill : ill ≡ true → 9 ≡ run_refusal run count cache evicted ill 0
          unfolding ◌or◌
          number_ill i = sym (rest_is ∙ rw (← f, i) refl)

          pub number_last : ill ≡ false → run.requests ≡ 4294967295 → 12 ≡ run_refusal run count cache evicted ill 0
          unfolding ◌or◌
          number_last i h = sym (rest_is ∙ rw (← f, i, eq-eqb _ _ h) refl)

          pub number_none : ill ≡ false → (run.requests ≡ 4294967295 → ⊥) → 0 ≡ run_refusal run count cache evicted ill 0
          unfolding ◌or◌
          number_none i h = sym (rest_is ∙ rw (← f, i, ne_eqb _ _ h) refl)

pub ruleset number_rules =
    (number_sizes, number_cache, number_evicted, number_formed, number_ill, number_last, number_none)

pub ready_of : (run : Run) (count : ℕ) (cache evicted : List ℕ) → request_refusal run count cache evicted ≡ 0 → RequestReady run count cache evicted
ready_of run count cache evicted e = (run_ready run count cache evicted false 0 e).0

-- a request has no further reason: each return of the code
module _ (run : Run) (count : ℕ) (cache evicted : List ℕ) where
  pub check_sizes : (reason : Refusal) → number_of reason ≡ sizes_refusal run.k run.a 0 → number_of reason ≡ request_refusal run count cache evicted
  check_sizes reason e = number_sizes run count cache evicted false (number_of reason) e (number_above reason)

  module _ (z : 0 ≡ sizes_refusal run.k run.a 0) where
    pub check_cache : length cache < run.k → 8 ≡ request_refusal run count cache evicted
    check_cache h = number_cache run count cache evicted false z h

    module _ (hc : run.k ≤ length cache) where
      pub check_evicted : length evicted < run.a → 8 ≡ request_refusal run count cache evicted
      check_evicted h = number_evicted run count cache evicted false z hc h

      module _ (he : run.a ≤ length evicted) where
        pub check_formed : false ≡ well_formed run count cache → 9 ≡ request_refusal run count cache evicted
        check_formed f = number_formed run count cache evicted false z hc he f

        module _ (f : true ≡ well_formed run count cache) where
          pub check_counter : run.requests ≡ 4294967295 → 12 ≡ request_refusal run count cache evicted
          check_counter h = number_last run count cache evicted false z hc he f refl h

          pub check_none : (run.requests ≡ 4294967295 → ⊥) → 0 ≡ request_refusal run count cache evicted
          check_none h = number_none run count cache evicted false z hc he f refl h

pub ruleset check_rules =
    (check_sizes, check_cache, check_evicted, check_formed, check_counter, check_none)

module _ (run : Run) (count : ℕ) (cache : List ℕ) where
  -- well formed or not

  pub ill_count : run.k < count → well_formed run count cache ≡ false
  unfolding well_formed
  ill_count h = and_false_l _ _ (lt-leb _ _ h)

  pub ill_evictions : run.loads < run.evictions → well_formed run count cache ≡ false
  unfolding well_formed
  ill_evictions h = and_false_r _ _ (and_false_l _ _ (lt-leb _ _ h))

  pub ill_loads : run.requests < run.loads → well_formed run count cache ≡ false
  unfolding well_formed
  ill_loads h = and_false_r _ _ (and_false_r _ _ (and_false_l _ _ (lt-leb _ _ h)))

  -- where the record and the count are right, the pages held decide
  pub well_by : count ≤ run.k → run.evictions ≤ run.loads → run.loads ≤ run.requests → well_formed run count cache ≡ distinct (take count cache)
  unfolding well_formed ◌and◌
  well_by a b c = rw (le-leb _ _ a, le-leb _ _ b, le-leb _ _ c) refl

  pub well : count ≤ run.k → run.evictions ≤ run.loads → run.loads ≤ run.requests → distinct (take count cache) ≡ true
      → well_formed run count cache ≡ true
  well a b c d = well_by a b c ∙ d

pub ruleset formed_rules =
    (ill_count, ill_evictions, ill_loads, well_by)

-- The answer and the lists

module _ (run : Run) (count : ℕ) (cache evicted : List ℕ) (page : ℕ) where
  -- refused
  pub tell_refused : (reason : Refusal) → number_of reason ≡ request_refusal run count cache evicted
      → Told run count cache evicted page (Err reason) evicted
  tell_refused reason e =
      let z = number_above reason in (
        λ keeping. (rw (← e, ne_eqb (number_of reason) 0 z) refl, rw (← e, ne_eqb (number_of reason) 0 z) refl),
        λ none. z (e ∙ none),
      )

  pub tell_accepted : (reply : Reply) (found : Found) (v : List ℕ) → request_refusal run count cache evicted ≡ 0
      → found ≡ found_in run.k page (take count cache) → Tells run count cache evicted page (accepted reply) v
      → Told run count cache evicted page (Ok (reply, found)) v
  tell_accepted reply found v e f t = (λ keeping. rw e (t keeping), (e, f))

  -- the request itself: told, then settled
  module _ (keeping : Keeping) (answer : ReplyAnswer) (v : List ℕ) (p : Previewed run count cache evicted page answer v) where
    refusal_is : answer.refusal ≡ request_refusal run count cache evicted
    refusal_is =
        ap (λ (r : ReplyAnswer). r.refusal) (p keeping).0
        ∙ by_test
        (λ b. (pick b (reply_served keeping run count cache page) (refused (request_refusal run count cache evicted))).refusal ≡ request_refusal run count cache evicted)
        (eqb (request_refusal run count cache evicted) 0)
        (λ e. sym (eqb-true _ _ e))
        (λ e. refl)

    pub request_ready : answer.refusal ≡ 0 → RequestReady run count cache evicted
    request_ready e = ready_of run count cache evicted (sym refusal_is ∙ e)

    pub request_refused : (request_refusal run count cache evicted ≡ 0 → ⊥) → Answered keeping run count cache evicted page answer cache v
    request_refused z = ((p keeping).0, (rw (ne_eqb (request_refusal run count cache evicted) 0 z) refl, (p keeping).1))

    pub request_settled : (found : Found) (y : List ℕ) → request_refusal run count cache evicted ≡ 0 → found ≡ found_in run.k page (take count cache)
        → y ≡ cache_for keeping found count run.k run.a page cache → Answered keeping run count cache evicted page answer y v
    request_settled found y z f c =
        let s : y ≡ cache_served keeping run count cache page = c ∙ settled run count cache evicted page (ready_of run count cache evicted z) keeping found f in
        ((p keeping).0, (rw z s, (p keeping).1))

pub ruleset tell_rules =
    (tell_refused, tell_accepted)

-- A whole trace

module _ (k a : ℕ) (trace : List ℕ) where
  pub trace_ready : trace_refusal k a trace 0 ≡ 0 → TraceReady k a trace
  trace_ready e =
      let right = trace_right k a trace 0 e in
      record { sizes = right.0; trace_most = right.1 }

  pub totals_refused : (keeping : Keeping) (reason : Refusal) → number_of reason ≡ trace_refusal k a trace 0
      → totals_answer (Err reason) ≡ totals_of keeping k a trace
  totals_refused keeping reason e = rw (← e, ne_eqb (number_of reason) 0 (number_above reason)) refl

  pub totals_served : (keeping : Keeping) (run : Run) → trace_refusal k a trace 0 ≡ 0 → run ≡ run_over keeping k a trace
      → record { refusal = 0; bundles = run.evictions; loads = run.loads } ≡ totals_of keeping k a trace
  totals_served keeping run z e = rw (z, e) refl

pub ruleset totals_rules =
    (trace_ready, totals_refused, totals_served)
