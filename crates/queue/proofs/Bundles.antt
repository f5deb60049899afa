-- The evicted lists over calls: those of the calls that answered 2 are, one after the other, the bundles of the model.
use Prim.Native.Nat.{ℕ, suc, ◌≤◌}
use native.Mathlib.Numerals.{add-one}
use native.Mathlib.Omega.{arith}
use mathlib.Core.Bool.{Bool, true, false}
use mathlib.Core.List.{List, [], ◌∷◌, ◌++◌}
use mathlib.Core.Path.{◌≡◌, refl, ap, ◌∙◌}
use lib.Dec.{eqb}
use lib.ListN.{length, take, drop, length-append}
use lib.Seq.{length-take-le, take_at}
use borrow.Author.Tests.{eqb-true}
use Rattle.lists.specs.Choice.{pick}
use Rattle.lists.proofs.Choice.{by_test}
use Rattle.paging.specs.Front.{front_rule}
use Rattle.paging.specs.Policy.{kind_of, kind_number, is_bundled, serve_by, holds_by, bundles_by}
use Rattle.paging.specs.Schedule.{Entry, ev}
use Rattle.paging.proofs.Runs.{kind_of_cases}
use Rattle.paging.specs.declared.Keeping.{Keeping}
use Rattle.queue.specs.Calls.{request_refusal, refused}
use Rattle.queue.specs.Serving.{kind_in, evicted_served, reply_served}
use Rattle.queue.specs.Standing.{Stands, Call, State, empty_state, accepts, after_call, accepted_pages, bundles_left}
use Rattle.queue.specs.declared.Run.{Run}
use Rattle.queue.proofs.Steps.{k_is, a_is, holds_snoc, stands_empty, stands_accepted}

-- The bundle of one call

-- an accepted call answers 2 exactly where it makes a bundle, and the bundle is then in the first a places of its evicted list
left_is : (k a p t : ℕ) (held evicted : List ℕ) → a ≤ k
    → pick (eqb (kind_number (kind_of k p held)) 2)
    (ev t (take a (pick (is_bundled (kind_of k p held)) (take a held ++ drop a evicted) evicted)) ∷ [])
    []
    ≡ pick (is_bundled (kind_of k p held)) (ev t (take a held) ∷ []) []
left_is k a p t held evicted most =
    kind_of_cases
    (λ kind. pick (eqb (kind_number kind) 2) (ev t (take a (pick (is_bundled kind) (take a held ++ drop a evicted) evicted)) ∷ []) []
    ≡ pick (is_bundled kind) (ev t (take a held) ∷ []) [])
    k p held refl refl
    (λ full. ap (λ (bundle : List ℕ). ev t bundle ∷ []) (take_at (take a held) (drop a evicted) a (length-take-le a held (omega arith))))

pick_in_front : (b : Bool) (e : Entry) (es : List Entry) → pick b (e ∷ []) [] ++ es ≡ pick b (e ∷ es) es
pick_in_front true e es = refl
pick_in_front false e es = refl

-- Lists of calls

-- on a state that stands for a trace, the bundles are those of the model over the accepted pages, from that trace on
bundles_left_lem : (keeping : Keeping) (k a : ℕ) (calls : List Call) (trace : List ℕ) (S : State) → Stands keeping k a trace S.run S.count S.cache
    → bundles_left keeping calls S ≡ bundles_by keeping (front_rule a) k (length trace) (accepted_pages keeping calls S) [] (holds_by keeping (front_rule a) k trace [] [])
bundles_left_lem keeping k a [] trace S s = refl
bundles_left_lem keeping k a (call ∷ calls) trace S s =
    let H = holds_by keeping (front_rule a) k trace [] [] in
    let p = call.page in
    let run = S.run in
    by_test
    (λ b. pick (eqb (pick b (reply_served keeping run S.count S.cache p) (refused (request_refusal run S.count S.cache call.evicted))).answer 2)
    (ev run.requests (take run.a (pick b (evicted_served run S.count S.cache call.evicted p) call.evicted)) ∷ []) []
    ++ bundles_left keeping calls (pick b (after_call keeping call S) S)
    ≡ bundles_by keeping (front_rule a) k (length trace) (pick b (p ∷ []) [] ++ accepted_pages keeping calls (pick b (after_call keeping call S) S)) [] H)
    (accepts call S)
    (λ e.
    let requests_are : run.requests ≡ length trace = ap (λ (r : Run). r.requests) s.record_is in
    let left : pick (eqb (kind_number (kind_in run S.count S.cache p)) 2)
    (ev run.requests (take run.a (evicted_served run S.count S.cache call.evicted p)) ∷ []) []
    ≡ pick (is_bundled (kind_of k p H)) (ev (length trace) (take a H) ∷ []) []
    = rw (requests_are, k_is s, a_is s, s.held_is) (left_is k a p (length trace) H call.evicted s.sizes.a_high) in
    let more : length (trace ++ (p ∷ [])) ≡ suc (length trace) = length-append trace (p ∷ []) ∙ add-one (length trace) in
    let after : bundles_left keeping calls (after_call keeping call S)
    ≡ bundles_by keeping (front_rule a) k (suc (length trace)) (accepted_pages keeping calls (after_call keeping call S)) [] (serve_by keeping (front_rule a) k p [] H)
    = rw (← more, ← holds_snoc keeping k a p trace)
    (bundles_left_lem keeping k a calls (trace ++ (p ∷ [])) (after_call keeping call S) (stands_accepted s call.evicted p (eqb-true _ _ e))) in
    rw (left, after) (pick_in_front (is_bundled (kind_of k p H)) (ev (length trace) (take a H)) _))
    (λ e. bundles_left_lem keeping k a calls trace S s)

-- from document 01's start: the evicted lists of the calls that answered 2 are, one after the other, the model's bundles over the accepted pages
pub evicted_lists_are_bundles : (keeping : Keeping) (k a : ℕ) (calls : List Call) (cache : List ℕ) → 1 ≤ a → a ≤ k → k ≤ 256
    → bundles_left keeping calls (empty_state k a cache) ≡ bundles_by keeping (front_rule a) k 0 (accepted_pages keeping calls (empty_state k a cache)) [] []
evicted_lists_are_bundles keeping k a calls cache least most k-most =
    bundles_left_lem keeping k a calls [] (empty_state k a cache) (stands_empty keeping k a cache least most k-most)
