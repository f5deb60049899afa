-- One step of a list of calls: a state that stands for a trace is never refused for what it is, and after an accepted request it
-- stands for the trace with that page behind it.
use Prim.Native.Nat.{ℕ, suc, ◌+◌, ◌-◌, ◌≤◌, ◌<◌}
use native.Mathlib.Nat.{add-zero}
use native.Mathlib.Numerals.{add-one}
use native.Mathlib.Omega.{arith}
use mathlib.Core.Bool.{Bool, true, false}
use mathlib.Core.List.{List, [], ◌∷◌, ◌++◌, append_assoc, append-nil}
use mathlib.Core.Path.{◌≡◌, refl, sym, ap, ◌∙◌}
use lib.Dec.{eqb, ltb}
use lib.ListN.{length, take, drop, get_or, replicate, length-append, length-drop}
use lib.Seq.{take_at, take-suc, take_all}
use borrow.Author.Tests.{eq-eqb, eqb-true, ltb-true, ltb-false, ne_eqb, le-ltb, leb-true}
use Rattle.lists.specs.Choice.{pick, ◌or◌}
use Rattle.lists.specs.Pages.{mem, to_end, erase_all, distinct, count, bit}
use Rattle.lists.proofs.Choice.{cases, clash, and_l, and_r, or_none, by_test}
use Rattle.lists.proofs.Laid.{length_laid}
use Rattle.lists.proofs.Pages.{count_append, Once, distinct_once, once_distinct, once_snoc, once_to_end, once_erase_all, mem_erase_all, to_end_same, length_same, erase_all_take}
use Rattle.paging.specs.Front.{front_rule}
use Rattle.paging.specs.Policy.{Kind, hit, load, bundled, kind_of, is_load, is_bundled, after_hit, serve_by, holds_by, kinds_by}
use Rattle.paging.specs.Refusals.{refuse, trace_refusal, SizesRight}
use Rattle.paging.proofs.Refusals.{sizes_taken}
use Rattle.paging.proofs.Runs.{holds_append, kinds_append, front_holds_any, front_kinds_any}
use Rattle.paging.specs.declared.Keeping.{Keeping}
use Rattle.paging.specs.declared.Keeping.TheVariants.{ByRequest, ByLoad}
use Rattle.queue.specs.Calls.{run_refusal, request_refusal, reply_of, cache_of, totals_of}
use Rattle.queue.specs.Answers.{ReplyAnswer}
use Rattle.queue.specs.Serving.{empty_run, held_after, kind_in, run_served, cache_served, reply_served}
use Rattle.queue.specs.Standing.{run_over, Stands, Call, State, empty_state, accepts, after_call, called, after_calls, accepted_pages, pages_of, roomy}
use Rattle.queue.specs.declared.Run.{Run}
use Rattle.queue.specs.inner.Ready.{RequestReady, TraceReady}
use Rattle.queue.proofs.Refusals.{ready_of, well, trace_ready, totals_served}

-- Serving keeps the pages held well formed

hit_once : (keeping : Keeping) (p : ℕ) (held : List ℕ) → Once held → Once (after_hit keeping p held)
hit_once ByRequest p held o = once_to_end p held o
hit_once ByLoad p held o = o

hit_length : (keeping : Keeping) (p : ℕ) (held : List ℕ) → mem p held ≡ true → Once held → length (after_hit keeping p held) ≡ length held
hit_length ByRequest p held m o = length_same (to_end p held) held (to_end_same p held m (o p))
hit_length ByLoad p held m o = refl

module _ (keeping : Keeping) (k a p : ℕ) (held : List ℕ) (d : distinct held ≡ true) (l : length held ≤ k) (least : 1 ≤ a) (most : a ≤ k) where
  serve_once : distinct (serve_by keeping (front_rule a) k p [] held) ≡ true
  serve_once =
      let o : Once held = distinct_once held d in
      cases (mem p held)
      (λ m. rw m (once_distinct (after_hit keeping p held) (hit_once keeping p held o)))
      (λ m. rw m (cases (ltb (length held) k)
      (λ t. rw t (once_distinct (held ++ (p ∷ [])) (once_snoc p held o m)))
      (λ t. rw t (once_distinct (erase_all (take a held) held ++ (p ∷ [])) (once_snoc p (erase_all (take a held) held) (once_erase_all (take a held) held o)
      (cases (mem p (erase_all (take a held) held)) (λ n. clash (mem p held) (mem_erase_all p (take a held) held n) m) (λ n. n)))))))

  serve_most : length (serve_by keeping (front_rule a) k p [] held) ≤ k
  serve_most =
      let o : Once held = distinct_once held d in
      cases (mem p held)
      (λ m. rw m (let s = hit_length keeping p held m o in omega arith))
      (λ m. rw m (cases (ltb (length held) k)
      (λ t. rw t (let b : length held < k = ltb-true _ _ t in simp length-append (omega arith)))
      (λ t. rw (t, erase_all_take a held) (let b : k ≤ length held = ltb-false _ _ t in simp (length-append, length-drop) (omega arith)))))

-- a bundle comes with a load, and a request with at most one
bundle_loads : (kind : Kind) → bit (is_bundled kind) ≤ bit (is_load kind)
bundle_loads hit = omega arith
bundle_loads load = omega arith
bundle_loads bundled = omega arith

loads_one : (kind : Kind) → bit (is_load kind) ≤ 1
loads_one hit = omega arith
loads_one load = omega arith
loads_one bundled = omega arith

-- The model over one more request

module _ (keeping : Keeping) (k a p : ℕ) (trace : List ℕ) where
  pub holds_snoc : holds_by keeping (front_rule a) k (trace ++ (p ∷ [])) [] [] ≡ serve_by keeping (front_rule a) k p [] (holds_by keeping (front_rule a) k trace [] [])
  holds_snoc =
      holds_append keeping (front_rule a) k trace (p ∷ []) [] []
      ∙ ap (λ (h : List ℕ). serve_by keeping (front_rule a) k p [] h) (front_holds_any keeping a k trace (p ∷ []) [] [])

  kinds_snoc : kinds_by keeping (front_rule a) k (trace ++ (p ∷ [])) [] []
      ≡ kinds_by keeping (front_rule a) k trace [] [] ++ (kind_of k p (holds_by keeping (front_rule a) k trace [] []) ∷ [])
  kinds_snoc =
      kinds_append keeping (front_rule a) k trace (p ∷ []) [] []
      ∙ rw (front_holds_any keeping a k trace (p ∷ []) [] [], front_kinds_any keeping a k trace (p ∷ []) [] []) refl

  counts_snoc : (f : Kind → Bool) → count f (kinds_by keeping (front_rule a) k (trace ++ (p ∷ [])) [] [])
      ≡ count f (kinds_by keeping (front_rule a) k trace [] []) + bit (f (kind_of k p (holds_by keeping (front_rule a) k trace [] [])))
  counts_snoc f =
      ap (count f) kinds_snoc
      ∙ count_append f (kinds_by keeping (front_rule a) k trace [] []) _
      ∙ ap (λ (x : ℕ). count f (kinds_by keeping (front_rule a) k trace [] []) + x) (add-zero _)

-- The start

pub stands_empty : (keeping : Keeping) (k a : ℕ) (cache : List ℕ) → 1 ≤ a → a ≤ k → k ≤ 256 → Stands keeping k a [] (empty_run k a) 0 cache
stands_empty keeping k a cache least most k-most =
    record {
      record_is = refl;
      held_is = refl;
      count_is = refl;
      sizes = record { a_low = least; a_high = most; k_high = k-most };
      count_most = omega arith;
      once = refl;
      evictions_most = omega arith;
      loads_most = omega arith;
    }

module _ {keeping : Keeping} {k a : ℕ} {trace : List ℕ} {run : Run} {count : ℕ} {cache : List ℕ} (s : Stands keeping k a trace run count cache) where
  pub k_is : run.k ≡ k
  k_is = ap (λ (r : Run). r.k) s.record_is

  pub a_is : run.a ≡ a
  a_is = ap (λ (r : Run). r.a) s.record_is

  -- No refusal for the state: 8 is about the lent lists, 12 about the counter

  pub stands_refusal : (evicted : List ℕ) → request_refusal run count cache evicted
      ≡ refuse (ltb (length cache) k or ltb (length evicted) a) 8 (refuse (eqb (length trace) 4294967295) 12 0)
  unfolding run_refusal ◌or◌
  stands_refusal evicted =
      let w = well run count cache (rw k_is s.count_most) s.evictions_most s.loads_most s.once in
      let z : SizesRight run.k run.a =
      rw (k_is, a_is) s.sizes in
      sizes_taken run.k run.a z _ ∙ rw (w, s.record_is) refl

  -- An accepted request

  pub stands_served : (p : ℕ) → k ≤ length cache
      → Stands keeping k a (trace ++ (p ∷ [])) (run_served (kind_in run count cache p) run) (length (held_after keeping run count cache p)) (cache_served keeping run count cache p)
  stands_served p room =
      let H = holds_by keeping (front_rule a) k trace [] [] in
      let after : held_after keeping run count cache p ≡ serve_by keeping (front_rule a) k p [] H = rw (k_is, a_is, s.held_is) refl in
      let kind : kind_in run count cache p ≡ kind_of k p H = rw (k_is, s.held_is) refl in
      let held : take (length (held_after keeping run count cache p)) (cache_served keeping run count cache p) ≡ held_after keeping run count cache p =
      rw (append_assoc (held_after keeping run count cache p) (replicate (run.k - length (held_after keeping run count cache p)) 0) (drop run.k cache))
      (take_at (held_after keeping run count cache p) _ _ refl) in
      let d : distinct H ≡ true = rw (← s.held_is) s.once in
      let n : length H ≤ k = rw (← s.count_is) s.count_most in
      record {
        record_is =
            rw kind
            (ap (λ (r : Run). run_served (kind_of k p H) r) s.record_is
            ∙ rw (length-append trace (p ∷ []), counts_snoc keeping k a p trace is_load, counts_snoc keeping k a p trace is_bundled) refl);
        held_is = held ∙ after ∙ sym (holds_snoc keeping k a p trace);
        count_is = ap length (after ∙ sym (holds_snoc keeping k a p trace));
        sizes = s.sizes;
        count_most = rw after (serve_most keeping k a p H d n s.sizes.a_low s.sizes.a_high);
        once = rw (held, after) (serve_once keeping k a p H d n s.sizes.a_low s.sizes.a_high);
        evictions_most = omega (arith, s.evictions_most, bundle_loads (kind_in run count cache p));
        loads_most = omega (arith, s.loads_most, loads_one (kind_in run count cache p));
      }

  -- the state after a call stands: for the same trace if it was refused, with the page behind it if it was accepted
  pub stands_accepted : (evicted : List ℕ) (p : ℕ) → request_refusal run count cache evicted ≡ 0
      → Stands keeping k a (trace ++ (p ∷ []))
      (reply_of keeping run count cache evicted p).run (reply_of keeping run count cache evicted p).count (cache_of keeping run count cache evicted p)
  stands_accepted evicted p e =
      let room : k ≤ length cache = rw (← k_is) (ready_of run count cache evicted e).cache_room in
      rw e (stands_served p room)

  -- the cache list keeps its length
  pub accepted_room : (evicted : List ℕ) (p : ℕ) → request_refusal run count cache evicted ≡ 0 → k ≤ length (cache_of keeping run count cache evicted p)
  accepted_room evicted p e =
      let room : run.k ≤ length cache = (ready_of run count cache evicted e).cache_room in
      let same : run.k ≡ k = k_is in
      let most : length (held_after keeping run count cache p) ≤ run.k = omega (arith, (stands_served p (omega arith)).count_most) in
      rw (e, length_laid run.k (held_after keeping run count cache p) cache most room) (omega arith)

  -- a state that stands is ready for a request, where the lists have room and the counter is not full
  pub stands_ready : (evicted : List ℕ) → k ≤ length cache → a ≤ length evicted → length trace < 4294967295 → RequestReady run count cache evicted
  stands_ready evicted room bundle_room more =
      record {
        sizes = rw (k_is, a_is) s.sizes;
        cache_room = rw k_is room;
        evicted_room = rw a_is bundle_room;
        count_most = rw k_is s.count_most;
        evictions_most = s.evictions_most;
        loads_most = s.loads_most;
        once = s.once;
        further = λ e. let r = ap (λ (r : Run). r.requests) s.record_is in omega arith;
      }

-- the first turn of a trace
pub stands_first_lem : (keeping : Keeping) (k a : ℕ) (trace : List ℕ) (run : Run) (cache : List ℕ) → TraceReady k a trace → run ≡ empty_run k a
    → Stands keeping k a [] run 0 cache
stands_first_lem keeping k a trace run cache t e = rw e (stands_empty keeping k a cache t.sizes.a_low t.sizes.a_high t.sizes.k_high)

-- one more request of a trace
pub stands_next : (keeping : Keeping) (k a : ℕ) (trace : List ℕ) (i : ℕ) (run : Run) (count : ℕ) (cache y : List ℕ) (reply : ReplyAnswer)
    → Stands keeping k a (take i trace) run count cache → i < length trace → k ≤ length cache
    → reply ≡ reply_served keeping run count cache (get_or trace i 0) → y ≡ cache_served keeping run count cache (get_or trace i 0)
    → Stands keeping k a (take (i + 1) trace) reply.run reply.count y
stands_next keeping k a trace i run count cache y reply s h room e f =
    rw (e, f, add-one i, take-suc trace i 0 h) (stands_served s (get_or trace i 0) room)

pub stands_whole : (keeping : Keeping) (k a : ℕ) (trace : List ℕ) (i : ℕ) (run : Run) (count : ℕ) (cache : List ℕ)
    → Stands keeping k a (take i trace) run count cache → length trace ≤ i → run ≡ run_over keeping k a trace
stands_whole keeping k a trace i run count cache s h = s.record_is ∙ ap (run_over keeping k a) (take_all i trace h)

-- Lists of calls

-- the state after a call stands: for the same trace if it was refused, for the trace with the page behind it if it was accepted
pub call_stands : (keeping : Keeping) (k a : ℕ) (call : Call) (trace : List ℕ) (S : State) → Stands keeping k a trace S.run S.count S.cache
    → Stands keeping k a (trace ++ pick (accepts call S) (call.page ∷ []) []) (called keeping call S).run (called keeping call S).count (called keeping call S).cache
call_stands keeping k a call trace S s =
    by_test
    (λ b. Stands keeping k a (trace ++ pick b (call.page ∷ []) [])
    (pick b (after_call keeping call S) S).run (pick b (after_call keeping call S) S).count (pick b (after_call keeping call S) S).cache)
    (accepts call S)
    (λ e. stands_accepted s call.evicted call.page (eqb-true _ _ e))
    (λ e. rw (append-nil trace) s)

pub calls_stand : (keeping : Keeping) (k a : ℕ) (calls : List Call) (trace : List ℕ) (S : State) → Stands keeping k a trace S.run S.count S.cache
    → Stands keeping k a (trace ++ accepted_pages keeping calls S) (after_calls keeping calls S).run (after_calls keeping calls S).count (after_calls keeping calls S).cache
calls_stand keeping k a [] trace S s = rw (append-nil trace) s
calls_stand keeping k a (call ∷ calls) trace S s =
    rw (← append_assoc trace (pick (accepts call S) (call.page ∷ []) []) (accepted_pages keeping calls (called keeping call S)))
    (calls_stand keeping k a calls (trace ++ pick (accepts call S) (call.page ∷ []) []) (called keeping call S) (call_stands keeping k a call trace S s))

length_pages : (calls : List Call) → length (pages_of calls) ≡ length calls
length_pages [] = refl
length_pages (call ∷ calls) = ap suc (length_pages calls)

-- where every evicted list has room and the counter does not fill, each call is accepted
pub calls_accepted : (keeping : Keeping) (k a : ℕ) (calls : List Call) (trace : List ℕ) (S : State) → Stands keeping k a trace S.run S.count S.cache
    → k ≤ length S.cache → roomy a calls ≡ true → length trace + length calls ≤ 4294967295 → accepted_pages keeping calls S ≡ pages_of calls
calls_accepted keeping k a [] trace S s room r n = refl
calls_accepted keeping k a (call ∷ calls) trace S s room r n =
    let b : a ≤ length call.evicted = leb-true _ _ (and_l _ _ r) in
    let z : request_refusal S.run S.count S.cache call.evicted ≡ 0 =
    stands_refusal s call.evicted
    ∙ rw (le-ltb _ _ room, le-ltb _ _ b, ne_eqb (length trace) 4294967295 (λ e. absurd (omega arith)), or_none false false refl refl) refl in
    let next = stands_accepted s call.evicted call.page z in
    let l : length (trace ++ (call.page ∷ [])) ≡ length trace + 1 = length-append trace (call.page ∷ []) in
    by_test
    (λ b. pick b (call.page ∷ []) [] ++ accepted_pages keeping calls (pick b (after_call keeping call S) S) ≡ call.page ∷ pages_of calls)
    (accepts call S)
    (λ e. ap (λ (r : List ℕ). call.page ∷ r)
    (calls_accepted keeping k a calls (trace ++ (call.page ∷ [])) (after_call keeping call S) next (accepted_room s call.evicted call.page z) (and_r _ _ r) (omega arith)))
    (λ e. clash (accepts call S) (eq-eqb _ _ z) e)

-- from document 01's start: record, count and list after the calls are those of the model over the accepted pages
pub calls_from_empty : (keeping : Keeping) (k a : ℕ) (calls : List Call) (cache : List ℕ) → 1 ≤ a → a ≤ k → k ≤ 256
    → Stands keeping k a (accepted_pages keeping calls (empty_state k a cache))
    (after_calls keeping calls (empty_state k a cache)).run (after_calls keeping calls (empty_state k a cache)).count (after_calls keeping calls (empty_state k a cache)).cache
calls_from_empty keeping k a calls cache least most k-most =
    calls_stand keeping k a calls [] (empty_state k a cache) (stands_empty keeping k a cache least most k-most)

-- a whole trace is answered with what the single calls give one after the other
pub totals_of_calls : (keeping : Keeping) (k a : ℕ) (calls : List Call) (cache : List ℕ) → trace_refusal k a (pages_of calls) 0 ≡ 0 → k ≤ length cache → roomy a calls ≡ true
    → totals_of keeping k a (pages_of calls)
    ≡ record {
      refusal = 0;
      bundles = (after_calls keeping calls (empty_state k a cache)).run.evictions;
      loads = (after_calls keeping calls (empty_state k a cache)).run.loads;
    }
totals_of_calls keeping k a calls cache e room r =
    let ready = trace_ready k a (pages_of calls) e in
    let S = empty_state k a cache in
    let start = stands_empty keeping k a cache ready.sizes.a_low ready.sizes.a_high ready.sizes.k_high in
    let all = calls_accepted keeping k a calls [] S start room r (omega (arith, ready.trace_most, length_pages calls)) in
    let end : Stands keeping k a (pages_of calls) (after_calls keeping calls S).run (after_calls keeping calls S).count (after_calls keeping calls S).cache =
    rw all at (calls_from_empty keeping k a calls cache ready.sizes.a_low ready.sizes.a_high ready.sizes.k_high) in
    sym (totals_served k a (pages_of calls) keeping (after_calls keeping calls S).run e end.record_is)
