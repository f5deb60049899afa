-- The factor: a policy that protects its pages makes at most k/a, rounded up, times the bundles of a rule that takes farthest pages.
use Prim.Native.Nat.{ℕ, ◌+◌, ◌*◌, ◌≤◌, ◌<◌}
use native.Mathlib.Nat.{zero-add, add-zero, add_assoc}
use native.Mathlib.Omega.{arith}
use mathlib.Core.Bool.{true, false}
use mathlib.Core.List.{List, [], ◌∷◌, ◌++◌, map}
use mathlib.Core.Logic.{inl}
use mathlib.Core.Path.{◌≡◌, refl, ap, ◌∙◌}
use lib.Dec.{eqb, ltb}
use lib.ListN.{length, length-append}
use borrow.Author.Tests.{eqb-true, ltb-true, ltb-false}
use Rattle.lists.specs.Choice.{pick}
use Rattle.lists.specs.Pages.{mem, without, to_end, erase_all, bit, count}
use Rattle.lists.proofs.Choice.{cases, split, clash, or_split, eqb_sym}
use Rattle.lists.proofs.Pages.{Same, Once, once_distinct, once_same, once_snoc, once_erase_all, length_same, mem_snoc, mem_append_l, mem_kept}
use Rattle.paging.specs.Policy.{Rule, is_bundled, kind_of, serve, kinds}
use Rattle.theory.specs.Factor.{Policy, policy_kinds, Step, Protects}
use Rattle.theory.specs.Farthest.{Farthest}
use Rattle.theory.proofs.Bundles.{length_taken, by_kind, Fits, fits_serve, fits_start, absent_after}
use Rattle.theory.proofs.Phases.{Phase, phase_paid, phase_clear, phase_hit, phase_load, phase_bundle}

-- Along the trace

module _ (k a Q : ℕ) (pos : 1 ≤ a) (le : a ≤ k) (covers : k ≤ a * Q) (P : Policy) (D : Protects P k a) where
  -- the rule holds M, and R since its last bundle; the policy stands at x
  record Standing (M R : List ℕ) (x : P.State) (e E : ℕ) : Type 0 where
    min : Fits k M
    own : Fits k (P.pages x)
    ok : D.stands x
    since : (q : ℕ) → mem q R ≡ true → mem q M ≡ true
    phase : Phase k a Q R (P.pages x) (P.guards x) e E

  step_of : (x : P.State) (p : ℕ) → D.stands x → Fits k (P.pages x) → Step P k a p x (P.served x p)
  step_of x p ok A = D.steps x p ok (once_distinct (P.pages x) A.once)

  fits_loaded : (p : ℕ) (x : P.State) (rest : List ℕ) → Once rest → mem p rest ≡ false → length rest < k
      → Same (P.pages (P.served x p)) (rest ++ (p ∷ [])) → Fits k (P.pages (P.served x p))
  fits_loaded p x rest o m l same =
      let after = P.pages (P.served x p) in
      record {
        once = once_same after (rest ++ (p ∷ [])) same (once_snoc p rest o m);
        most = omega (arith, length_same after (rest ++ (p ∷ [])) same, length-append rest (p ∷ []));
      }

  -- the policy serves p, where the rule holds M afterwards
  serve_policy : (p : ℕ) (M R : List ℕ) (x : P.State) (e E : ℕ) → Fits k M → Fits k (P.pages x) → D.stands x
      → ((q : ℕ) → mem q (p ∷ R) ≡ true → mem q M ≡ true)
      → Phase k a Q R (P.pages x) (P.guards x) e E
      → Standing M (p ∷ R) (P.served x p) (e + bit (is_bundled (kind_of k p (P.pages x)))) E
  serve_policy p M R x e E fits own ok since phase =
      let S = step_of x p ok own in
      let after = P.pages (P.served x p) in
      let on = D.goes_on x p ok (once_distinct (P.pages x) own.once) in
      let zero_more = add-zero e in
      cases (mem p (P.pages x))
      (λ m. let same = S.hit m in
      rw (m, zero_more) (record {
        min = fits;
        ok = on;
        since = since;
        own = record { once = once_same after (P.pages x) same own.once; most = omega (arith, own.most, length_same after (P.pages x) same) };
        phase = phase_hit k a Q pos covers P p x (P.served x p) S R e E own m phase;
      }))
      (λ m. cases (ltb (length (P.pages x)) k)
      (λ l. rw (m, l, zero_more) (record {
        min = fits;
        ok = on;
        since = since;
        own = fits_loaded p x (P.pages x) own.once m (ltb-true _ _ l) (S.load m (ltb-true _ _ l));
        phase = phase_load k a Q pos covers P p x (P.served x p) S R e E own m (ltb-true _ _ l) phase;
      }))
      (λ l. let t = S.bundle m (ltb-false _ _ l) in
      let rest = erase_all t.bundle (P.pages x) in
      rw (m, l) (record {
        min = fits;
        ok = on;
        since = since;
        own = fits_loaded p x rest (once_erase_all t.bundle (P.pages x) own.once) (absent_after p t.bundle (P.pages x) m)
            (omega (arith, own.most, length_taken t.bundle (P.pages x) t.in_hand, t.size)) t.after;
        phase = phase_bundle k a Q pos covers P p x (P.served x p) S R e E own M fits.most since m (ltb-false _ _ l) phase;
      })))

  module _ (rule : Rule) (F : Farthest a rule) where
    policy_step : (p : ℕ) (later M R : List ℕ) (x : P.State) (e E : ℕ) → Standing M R x e E
        → Standing (serve rule k p later M) (p ∷ pick (is_bundled (kind_of k p M)) [] R) (P.served (pick (is_bundled (kind_of k p M)) (P.cleared x) x) p)
        (e + bit (is_bundled (kind_of k p (P.pages (pick (is_bundled (kind_of k p M)) (P.cleared x) x))))) (E + bit (is_bundled (kind_of k p M)))
    policy_step p later M R x e E S =
        let fits = fits_serve k a pos le rule F p later M S.min in
        let stay : E + 0 ≡ E = add-zero E in
        by_kind (λ kind after. Fits k after → Standing after (p ∷ pick (is_bundled kind) [] R) (P.served (pick (is_bundled kind) (P.cleared x) x) p)
        (e + bit (is_bundled (kind_of k p (P.pages (pick (is_bundled kind) (P.cleared x) x))))) (E + bit (is_bundled kind)))
        rule k p later M
        (λ m after. rw stay (serve_policy p (to_end p M) R x e E after S.own S.ok
        (λ q i. cases (eqb q p) (λ h. rw (eqb-true q p h) (mem_snoc p (without p M)))
        (λ h. mem_append_l q (without p M) (p ∷ []) (mem_kept q p M (S.since q (split (or_split _ _ i) (λ g. clash _ g h) (λ g. g))) (eqb_sym p q ∙ h))))
        S.phase))
        (λ m l after. rw stay (serve_policy p (M ++ (p ∷ [])) R x e E after S.own S.ok
        (λ q i. split (or_split _ _ i) (λ h. rw (eqb-true q p h) (mem_snoc p M)) (λ h. mem_append_l q M (p ∷ []) (S.since q h)))
        S.phase))
        (λ m l after.
        let y = P.cleared x in
        let same = D.clears_pages x in
        serve_policy p (erase_all (rule later M) M ++ (p ∷ [])) [] y e (E + 1) after
        (record { once = once_same (P.pages y) (P.pages x) same S.own.once; most = omega (arith, S.own.most, length_same (P.pages y) (P.pages x) same) })
        (D.clears x S.ok)
        (λ q i. split (or_split _ _ i) (λ h. rw (eqb-true q p h) (mem_snoc p (erase_all (rule later M) M))) (λ h. clash false h refl))
        (phase_clear k a Q pos covers R (P.pages x) (P.pages y) (P.guards x) (P.guards y) e E same S.own.most (D.clears_guards x) S.phase))
        fits

    policy_run : (trace later M R : List ℕ) (x : P.State) (e E : ℕ) → Standing M R x e E
        → e + count is_bundled (policy_kinds P k trace (map is_bundled (kinds rule k trace later M)) x) ≤ Q * (E + count is_bundled (kinds rule k trace later M))
    policy_run [] later M R x e E S =
        omega (arith, phase_paid k a Q pos covers R (P.pages x) (P.guards x) e E S.phase, ap (λ (n : ℕ). Q * n) (add-zero E))
    policy_run (p ∷ ps) later M R x e E S =
        omega (
          arith,
          policy_run ps later (serve rule k p (ps ++ later) M) _ _ _ _ (policy_step p (ps ++ later) M R x e E S),
          ap (λ (n : ℕ). Q * n) (add_assoc E (bit (is_bundled (kind_of k p M))) (count is_bundled (kinds rule k ps later (serve rule k p (ps ++ later) M)))),
        )

    -- a policy that protects its pages makes at most Q times the rule's bundles, for any Q with k ≤ a Q
    pub bundles_within_factor : (trace later : List ℕ)
        → count is_bundled (policy_kinds P k trace (map is_bundled (kinds rule k trace later [])) P.start) ≤ Q * count is_bundled (kinds rule k trace later [])
    bundles_within_factor trace later =
        omega (
          arith,
          policy_run trace later [] [] P.start 0 0 (record {
            min = fits_start k;
            own = rw D.empty (fits_start k);
            ok = D.starts;
            since = λ q i. i;
            phase = inl (record { within = λ q i. rw D.empty at i; paid = omega arith });
          }),
          ap (λ (n : ℕ). Q * n) (zero-add (count is_bundled (kinds rule k trace later []))),
        )
