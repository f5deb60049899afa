-- MIN is optimal: no legal schedule, fetching ahead or not, costs less than a rule that takes farthest pages makes bundles. One invariant
-- along the trace: m ≤ d, and for every T, far T M + a m ≤ far T D + a d, where M is the rule's buffer with m bundles so far, D that of the
-- schedule with cost d, and far T counts the pages that are not among the next T requests.
use Prim.Native.Nat.{ℕ, suc, ◌+◌, ◌*◌, ◌≤◌, ◌<◌}
use native.Mathlib.Nat.{add-zero, mul-suc, mul-add, mul-one, mul-le-mul_left}
use native.Mathlib.Omega.{arith}
use mathlib.Core.Bool.{true, false, not}
use mathlib.Core.List.{List, [], ◌∷◌, ◌++◌}
use mathlib.Core.Path.{◌≡◌, refl, ◌∙◌}
use lib.Dec.{eqb, ltb}
use lib.ListN.{length, take}
use borrow.Author.Tests.{leb-true, ltb-false, not-true}
use Rattle.lists.specs.Choice.{◌and◌}
use Rattle.lists.specs.Pages.{mem, without, to_end, erase_all, bit, count}
use Rattle.lists.proofs.Choice.{tests, cases, split, clash, and_l, and_r, and_i, or_r, or_none, or_none_l, or_none_r, bit_true, bit_false, eqb_self, eqb_sym, same_test, not_i}
use Rattle.lists.proofs.Pages.{count_append, count_snoc, count_length, count_ext, count_by, count_some, count_all, count_none, count_without, without_absent, count_erase_all_le}
use Rattle.paging.specs.Policy.{Rule, is_bundled, kind_of, serve, kinds}
use Rattle.paging.specs.Schedule.{Turn, bundle_legal, bundles_legal, after_bundles, with_page, after_turn, turn_legal, legal, cost}
use Rattle.theory.specs.Farthest.{Farthest}
use Rattle.theory.proofs.Bundles.{count_taken, taken_held, not_absent, absent_after, farthest_cut}

-- how many of the pages held are not among the near ones
abbrev pub far : (near held : List ℕ) → ℕ
far near held = count (λ q. not (mem q near)) held

-- serving a page: what is far once the page is no longer counted as near, and the page itself

not_near : (p q : ℕ) (near : List ℕ) → (not (mem q near) and not (eqb p q)) ≡ not (mem q (p ∷ near))
not_near p q near = same_test _ _
    (λ e. not_i _ (or_none _ _ (eqb_sym q p ∙ not-true _ (and_r _ _ e)) (not-true _ (and_l _ _ e))))
    (λ e. let h = not-true _ e in and_i _ _ (not_i _ (or_none_r _ _ h)) (not_i _ (eqb_sym p q ∙ or_none_l _ _ h)))

far_to_end : (p : ℕ) (near held : List ℕ) → far near (to_end p held) ≡ far (p ∷ near) held + bit (not (mem p near))
far_to_end p near held =
    omega (
      arith,
      count_snoc (λ q. not (mem q near)) (without p held) p,
      count_without (λ q. not (mem q near)) p held,
      count_ext (λ q. not (mem q near) and not (eqb p q)) (λ q. not (mem q (p ∷ near))) held (λ q. not_near p q near),
    )

far_with_page : (p : ℕ) (near held : List ℕ) → far (p ∷ near) held + bit (not (mem p near)) ≤ far near (with_page p held)
far_with_page p near held =
    cases (mem p held)
    (λ m. rw m (omega (
      arith,
      count_by (λ q. not (mem q near)) (λ q. not (eqb p q)) held,
      own m,
      count_ext (λ q. not (mem q near) and not (eqb p q)) (λ q. not (mem q (p ∷ near))) held (λ q. not_near p q near),
    )))
    (λ m. let e : far near (held ++ (p ∷ [])) ≡ far (p ∷ near) held + bit (not (mem p near)) = rw without_absent at (far_to_end p near held) in
    rw m (omega arith))
  where
    own : mem p held ≡ true → bit (not (mem p near)) ≤ count (λ q. not (mem q near) and not (not (eqb p q))) held
    own m =
        cases (not (mem p near))
        (λ n. omega (
          arith,
          bit_true (not (mem p near)) n,
          count_some (λ q. not (mem q near) and not (not (eqb p q))) p held m (and_i _ _ n (rw (eqb_self p) refl)),
        ))
        (λ n. omega (arith, bit_false (not (mem p near)) n))

-- a schedule's bundles take at most a pages each
far_bundles : (a : ℕ) (near : List ℕ) (bs : List (List ℕ)) (held : List ℕ) → bundles_legal a bs held ≡ true
    → far near held ≤ far near (after_bundles bs held) + a * length bs
far_bundles a near [] held l = omega arith
far_bundles a near (b ∷ bs) held l =
    let one : bundle_legal a b held ≡ true = and_l _ _ l in
    let few : length b ≤ a = leb-true _ _ (and_l _ _ (and_r _ _ one)) in
    omega (arith, (count_erase_all_le (λ q. not (mem q near)) b held).1, far_bundles a near bs (erase_all b held) (and_r _ _ l), mul-suc a (length bs))

-- the invariant
pub record Ahead (a : ℕ) (σ M D : List ℕ) (m d : ℕ) : Type 0 where
  pub less : m ≤ d
  pub weighed : (T : ℕ) → far (take T σ) M + a * m ≤ far (take T σ) D + a * d

-- the schedule's turn, before the request is served
ahead_turn : (a : ℕ) (σ M D : List ℕ) (m d : ℕ) (bs : List (List ℕ)) (fetches : List ℕ) → bundles_legal a bs D ≡ true → Ahead a σ M D m d
    → Ahead a σ M (after_bundles bs D ++ fetches) m (d + length bs)
ahead_turn a σ M D m d bs fetches l A =
    record {
      less = omega (arith, A.less);
      weighed = λ T. omega (
        arith,
        A.weighed T,
        far_bundles a (take T σ) bs D l,
        mul-add a d (length bs),
        count_append (λ q. not (mem q (take T σ))) (after_bundles bs D) fetches,
      );
    }

-- a request without a bundle of the rule
ahead_load : (a p : ℕ) (σ M D : List ℕ) (m d : ℕ) → Ahead a (p ∷ σ) M D m d → Ahead a σ (to_end p M) (with_page p D) m d
ahead_load a p σ M D m d A =
    record {
      less = A.less;
      weighed = λ T. omega (arith, A.weighed (suc T), far_to_end p (take T σ) M, far_with_page p (take T σ) D);
    }

-- where the rule makes a bundle, the schedule has made more of them
ahead_strictly : (k a p : ℕ) (σ M D : List ℕ) (m d : ℕ) → Ahead a (p ∷ σ) M D m d → mem p M ≡ false → k ≤ length M
    → length (with_page p D) ≤ k → m < d
ahead_strictly k a p σ M D m d A absent full fits =
    let all : far (take 1 (p ∷ σ)) M ≡ length M = count_all (λ q. not (mem q (p ∷ []))) M
    (λ q i. not_i _ (or_none _ _ (not_absent p M absent q i) refl)) in
    let none = count_length (λ q. not (mem q [])) (with_page p D) in
    let weighed = A.weighed 1 in
    let served = far_with_page p [] D in
    cases (ltb m d) (λ e. omega tests) (λ e. absurd (omega (tests, mul-le-mul_left {m = d} {n = m} a (ltb-false _ _ e))))

ahead_bundle : (k a p : ℕ) (rule : Rule) → Farthest a rule → a ≤ k → (σ M D : List ℕ) (m d : ℕ) → Ahead a (p ∷ σ) M D m d
    → mem p M ≡ false → k ≤ length M → length (with_page p D) ≤ k
    → Ahead a σ (to_end p (erase_all (rule σ M) M)) (with_page p D) (m + 1) d
ahead_bundle k a p rule F le σ M D m d A absent full fits =
    let more = ahead_strictly k a p σ M D m d A absent full fits in
    let enough : a ≤ length M = omega arith in
    record {
      less = omega arith;
      weighed = λ T.
          let near = take T σ in
          let kept = erase_all (rule σ M) M in
          let weighed = A.weighed (suc T) in
          let served = far_with_page p near D in
          let now = far_to_end p near kept in
          let one = mul-add a m 1 in
          let unit = mul-one a in
          let paid = mul-le-mul_left {m = m + 1} {n = d} a (omega arith) in
          split (farthest_cut a rule F σ M enough T)
          (λ gone.
          let taken = count_taken (λ q. not (mem q (p ∷ near))) (rule σ M) M (F.in_hand σ M enough) in
          let all : far (p ∷ near) (rule σ M) ≡ length (rule σ M) = count_all (λ q. not (mem q (p ∷ near))) (rule σ M)
          (λ q i. not_i _ (or_none _ _ (not_absent p M absent q (taken_held (rule σ M) M (F.in_hand σ M enough) q i)) (gone q i))) in
          omega (arith, F.size σ M enough))
          (λ close.
          let none : far (p ∷ near) kept ≡ 0 = count_none (λ q. not (mem q (p ∷ near))) kept
          (λ q i. rw (or_r (eqb q p) (mem q near) (close q i))) in
          omega arith);
    }

module _ (k a : ℕ) (le : a ≤ k) (rule : Rule) (F : Farthest a rule) where
  ahead_step : (p : ℕ) (σ M D : List ℕ) (m d : ℕ) (turn : Turn) → Ahead a (p ∷ σ) M D m d → turn_legal k a turn p D ≡ true
      → Ahead a σ (serve rule k p σ M) (after_turn turn p D) (m + bit (is_bundled (kind_of k p M))) (d + length turn.bundles)
  ahead_step p σ M D m d turn A l =
      let fits : length (after_turn turn p D) ≤ k = leb-true _ _ (and_r _ _ (and_r _ _ l)) in
      let D' = after_bundles turn.bundles D ++ turn.fetches in
      let d' = d + length turn.bundles in
      let B : Ahead a (p ∷ σ) M D' m d' = ahead_turn a (p ∷ σ) M D m d turn.bundles turn.fetches (and_l _ _ l) A in
      let none = add-zero m in
      cases (mem p M)
      (λ i. rw (i, none) (ahead_load a p σ M D' m d' B))
      (λ i. cases (ltb (length M) k)
      (λ e. rw (i, e, none) (rw without_absent at (ahead_load a p σ M D' m d' B)))
      (λ e. let gone = absent_after p (rule σ M) M i in
      rw (i, e) (rw without_absent at (ahead_bundle k a p rule F le σ M D' m d' B i (ltb-false _ _ e) fits))))

  ahead_run : (trace later : List ℕ) (turns : List Turn) (M D : List ℕ) (m d : ℕ) → Ahead a (trace ++ later) M D m d
      → legal k a trace turns D ≡ true
      → m + count is_bundled (kinds rule k trace later M) ≤ d + cost turns
  ahead_run [] later [] M D m d A l = omega (arith, A.less)
  ahead_run [] later (turn ∷ turns) M D m d A l = clash false l refl
  ahead_run (p ∷ ps) later [] M D m d A l = clash false l refl
  ahead_run (p ∷ ps) later (turn ∷ turns) M D m d A l =
      omega (
        arith,
        ahead_run ps later turns (serve rule k p (ps ++ later) M) (after_turn turn p D) _ _
            (ahead_step p (ps ++ later) M D m d turn A (and_l _ _ l)) (and_r _ _ l),
      )

  -- every legal schedule of a trace costs at least the bundles that the rule makes on it, whatever follows
  pub farthest_is_optimal : (trace later : List ℕ) (turns : List Turn) → legal k a trace turns [] ≡ true
      → count is_bundled (kinds rule k trace later []) ≤ cost turns
  farthest_is_optimal trace later turns l =
      omega (arith, ahead_run trace later turns [] [] 0 0 (record { less = omega arith; weighed = λ T. omega arith }) l)
