-- A preview tells what the request then does: of the evicted list a request looks only at its length, and that stays.
use Prim.Native.Nat.{ℕ, ◌≤◌}
use native.Mathlib.Omega.{arith}
use mathlib.Core.List.{List, [], ◌∷◌, ◌++◌}
use mathlib.Core.Path.{◌≡◌, refl, sym, ap, ◌∙◌}
use lib.Dec.{eqb, ltb}
use lib.ListN.{length, take, drop, length-append, length-drop}
use lib.Seq.{length-take-le, take_at, drop_at}
use borrow.Author.Tests.{eqb-true, le-ltb}
use Rattle.lists.specs.Choice.{pick}
use Rattle.lists.proofs.Choice.{by_test}
use Rattle.paging.specs.Policy.{kind_number, is_bundled}
use Rattle.paging.proofs.Runs.{kind_of_cases}
use Rattle.paging.specs.declared.Keeping.{Keeping}
use Rattle.queue.specs.Calls.{run_refusal, request_refusal, refused, reply_of, evicted_of}
use Rattle.queue.specs.Previews.{Ask, preview, request, call_for, evicted_after, after_asks, requests_in, PreviewsHold}
use Rattle.queue.specs.Answers.{ReplyAnswer}
use Rattle.queue.specs.Serving.{evicted_served, reply_served}
use Rattle.queue.specs.Standing.{State, called, after_calls}
use Rattle.queue.specs.declared.Run.{Run}
use Rattle.queue.specs.inner.Ready.{RequestReady}
use Rattle.queue.proofs.Refusals.{ready_of}

-- Of two evicted lists it only matters whether each has room for a bundle

module _ (run : Run) (count : ℕ) (cache evicted other : List ℕ) (room : ltb (length evicted) run.a ≡ ltb (length other) run.a) where
  same_refusal : request_refusal run count cache evicted ≡ request_refusal run count cache other
  unfolding run_refusal
  same_refusal = rw room refl

  same_reply : (keeping : Keeping) (page : ℕ) → reply_of keeping run count cache evicted page ≡ reply_of keeping run count cache other page
  same_reply keeping page = rw same_refusal refl

-- The evicted list afterwards

module _ (run : Run) (count : ℕ) (cache evicted : List ℕ) (page : ℕ) where
  module _ (ready : RequestReady run count cache evicted) where
    length_bundle : run.k ≤ length (take count cache) → length (take run.a (take count cache)) ≡ run.a
    length_bundle full = length-take-le run.a (take count cache) (omega (arith, ready.sizes.a_high))

    served_length : length (evicted_served run count cache evicted page) ≡ length evicted
    served_length =
        kind_of_cases
        (λ kind. length (pick (is_bundled kind) (take run.a (take count cache) ++ drop run.a evicted) evicted) ≡ length evicted)
        run.k page (take count cache) refl refl
        (λ full. simp (length-append, length-drop, length_bundle full) (omega (arith, ready.evicted_room)))

    -- a bundle put where it stands already
    served_again : evicted_served run count cache (evicted_served run count cache evicted page) page ≡ evicted_served run count cache evicted page
    served_again =
        let bundle = take run.a (take count cache) in
        let after = bundle ++ drop run.a evicted in
        kind_of_cases
        (λ kind. pick (is_bundled kind) (bundle ++ drop run.a (pick (is_bundled kind) after evicted)) (pick (is_bundled kind) after evicted)
        ≡ pick (is_bundled kind) after evicted)
        run.k page (take count cache) refl refl
        (λ full. ap (λ (rest : List ℕ). bundle ++ rest) (drop_at bundle (drop run.a evicted) run.a (length_bundle full)))

  evicted_length : length (evicted_of run count cache evicted page) ≡ length evicted
  evicted_length =
      by_test
      (λ b. length (pick b (evicted_served run count cache evicted page) evicted) ≡ length evicted)
      (eqb (request_refusal run count cache evicted) 0)
      (λ e. served_length (ready_of run count cache evicted (eqb-true _ _ e)))
      (λ e. refl)

  -- so there is room afterwards where there was before
  same_room : ltb (length (evicted_of run count cache evicted page)) run.a ≡ ltb (length evicted) run.a
  same_room = ap (λ (n : ℕ). ltb n run.a) evicted_length

  evicted_again : evicted_of run count cache (evicted_of run count cache evicted page) page ≡ evicted_of run count cache evicted page
  evicted_again =
      let after = evicted_of run count cache evicted page in
      rw (same_refusal run count cache after evicted same_room)
      (by_test
      (λ b. pick b (evicted_served run count cache (pick b (evicted_served run count cache evicted page) evicted) page) (pick b (evicted_served run count cache evicted page) evicted)
      ≡ pick b (evicted_served run count cache evicted page) evicted)
      (eqb (request_refusal run count cache evicted) 0)
      (λ e. served_again (ready_of run count cache evicted (eqb-true _ _ e)))
      (λ e. refl))

  -- where the answer is 2, the bundle stands in the first a places
  bundle_shown : (keeping : Keeping) → (reply_of keeping run count cache evicted page).answer ≡ 2
      → take run.a (evicted_of run count cache evicted page) ≡ take run.a (take count cache)
  bundle_shown keeping =
      let bundle = take run.a (take count cache) in
      by_test
      (λ b. (pick b (reply_served keeping run count cache page) (refused (request_refusal run count cache evicted))).answer ≡ 2
      → take run.a (pick b (evicted_served run count cache evicted page) evicted) ≡ bundle)
      (eqb (request_refusal run count cache evicted) 0)
      (λ e.
      let ready = ready_of run count cache evicted (eqb-true _ _ e) in
      kind_of_cases
      (λ kind. kind_number kind ≡ 2 → take run.a (pick (is_bundled kind) (bundle ++ drop run.a evicted) evicted) ≡ bundle)
      run.k page (take count cache) (λ z. absurd (omega arith)) (λ z. absurd (omega arith))
      (λ full z. take_at bundle (drop run.a evicted) run.a (length_bundle ready full)))
      (λ e z. absurd (omega arith))

-- Previews and requests in any order

called_alike : (keeping : Keeping) (page : ℕ) (S : State) (evicted other : List ℕ) → length evicted ≡ length other
    → called keeping (call_for page evicted) S ≡ called keeping (call_for page other) S
called_alike keeping page S evicted other l =
    rw (same_refusal S.run S.count S.cache evicted other (ap (λ (n : ℕ). ltb n S.run.a) l)) refl

-- the requests alone may be lent any list of the same length
asks_alike : (keeping : Keeping) (asks : List Ask) (S : State) (evicted other : List ℕ) → length evicted ≡ length other
    → after_asks keeping asks S evicted ≡ after_calls keeping (requests_in asks other) S
asks_alike keeping [] S evicted other l = refl
asks_alike keeping (preview page ∷ asks) S evicted other l =
    asks_alike keeping asks S (evicted_after page S evicted) other (evicted_length S.run S.count S.cache evicted page ∙ l)
asks_alike keeping (request page ∷ asks) S evicted other l =
    asks_alike keeping asks (called keeping (call_for page evicted) S) (evicted_after page S evicted) other
    (evicted_length S.run S.count S.cache evicted page ∙ l)
    ∙ ap (after_calls keeping (requests_in asks other)) (called_alike keeping page S evicted other l)

pub previews_hold : (keeping : Keeping) → PreviewsHold keeping
previews_hold keeping =
    record {
      then_served = λ run count cache evicted page told reply shown cache_left evicted_left p r.
          let shown_is = p.1 in
          let room = ap (λ (list : List ℕ). ltb (length list) run.a) shown_is ∙ same_room run count cache evicted page in (
            r.0 ∙ same_reply run count cache shown evicted room keeping page ∙ sym p.0,
            r.1.1 ∙ ap (λ (list : List ℕ). evicted_of run count cache list page) shown_is ∙ evicted_again run count cache evicted page ∙ sym shown_is,
          );
      then_served_elsewhere = λ run count cache evicted other page told reply shown cache_left evicted_left h g p r.
          let same : reply_of keeping run count cache other page ≡ reply_of keeping run count cache evicted page =
          same_reply run count cache other evicted (le-ltb _ _ g ∙ sym (le-ltb _ _ h)) keeping page in
          let told_is = p.0 in (
            r.0 ∙ same ∙ sym told_is,
            λ two.
                let two_here = sym (ap (λ (x : ReplyAnswer). x.answer) told_is) ∙ two in
                let two-there = ap (λ (x : ReplyAnswer). x.answer) same ∙ two_here in
                ap (take run.a) r.1.1 ∙ bundle_shown run count cache other page keeping two-there
                ∙ sym (ap (take run.a) p.1 ∙ bundle_shown run count cache evicted page keeping two_here),
          );
      counts_as_no_request = λ asks S evicted. asks_alike keeping asks S evicted evicted refl;
    }
