-- Marking protects the pages marked since MIN's last bundle, whatever the priorities: a bundle takes unmarked pages before marked ones. So the factor
-- holds for every rule of priorities.
use Prim.Native.Nat.{ℕ, ◌*◌, ◌≤◌}
use native.Mathlib.Omega.{arith}
use mathlib.Core.Bool.{Bool, true, false, not}
use mathlib.Core.List.{List, [], ◌∷◌, ◌++◌, map}
use mathlib.Core.Logic.{◌⊎◌, inl, inr}
use mathlib.Core.Path.{◌≡◌, refl, sym, ap, ◌∙◌}
use lib.Dec.{eqb, ltb}
use lib.ListN.{length, length-map}
use borrow.Author.Tests.{eqb-true}
use Rattle.lists.specs.Choice.{◌and◌}
use Rattle.lists.specs.Pages.{mem, erase_all, distinct, count}
use Rattle.lists.specs.Sorting.{insert_by}
use Rattle.lists.proofs.Choice.{tests, cases, by_test, split, clash, and_l, bit_false, eqb_self}
use Rattle.lists.proofs.Pages.{count_mono, count_some, mem_same, mem_snoc_split, find_some, distinct_once}
use Rattle.lists.proofs.Sorting.{count_insert}
use Rattle.paging.specs.Layers.{Layers, no_layers, is_join, layered, layer_rules}
use Rattle.paging.specs.Min.{min_rule, best_count}
use Rattle.paging.specs.Policy.{Kind, hit, bundled, is_bundled, kind_of}
use Rattle.marking.specs.Marking.{Cached, cached_at, pages_in, by_page, cleared, mark_bundle, spared, marked_by, mark_kind, mark_served}
use Rattle.marking.specs.Marking.{PriorityRule, joins_at, mark_kinds, mark_bundles}
use Rattle.marking.proofs.Cached.{hit_pages, cleared_pages}
use Rattle.theory.specs.Factor.{ceil_div, SamePages, Policy, policy_kinds, Taken, Step, Protects}
use Rattle.theory.proofs.Factor.{bundles_within_factor}
use Rattle.theory.proofs.Layers.{bundles_are_joins}
use Rattle.theory.proofs.Orders.{min_rule_is_farthest}
use Rattle.theory.proofs.Phases.{ceil_div_covers}
use Rattle.theory.proofs.Marked.{is_of, marked_of, guarded, count_pages, bundle_size, bundle_held, bundle_protects, spared_count, spared_gone, spared_kept, spared_same}
use Rattle.theory.proofs.Marked.{hit_keeps, hit_only, clear_marks, put_same, put_marks, put_keeps, put_only}

-- The policy: the requests so far, and the cached pages

pub record MarkState : Type 0 where
  pub requests : List ℕ
  pub cached : List Cached

abbrev pub marking_policy : PriorityRule → (k a : ℕ) → Policy
marking_policy rule k a =
    record {
      State = MarkState;
      start = record { requests = []; cached = [] };
      cleared = λ x. record { requests = x.requests; cached = cleared true x.cached };
      served = λ x p.
          record {
            requests = x.requests ++ (p ∷ []);
            cached = marked_by (mark_kind k p x.cached) a p (rule x.requests p) x.cached;
          };
      pages = λ x. pages_in x.cached;
      guards = λ x q. guarded x.cached q;
    }

-- what holds of the three kinds holds of the request
by_mark_kind : (P : List Cached → Type 0) (k a p n : ℕ) (xs : List Cached)
    → (mem p (pages_in xs) ≡ true → P (marked_by hit a p n xs))
    → (mem p (pages_in xs) ≡ false → P (insert_by by_page (cached_at p 1 n) xs))
    → (mem p (pages_in xs) ≡ false → P (insert_by by_page (cached_at p 1 n) (spared (mark_bundle a xs) xs)))
    → P (marked_by (mark_kind k p xs) a p n xs)
by_mark_kind P k a p n xs h l b =
    cases (mem p (pages_in xs))
    (λ m. rw m (h m))
    (λ m. cases (ltb (length (pages_in xs)) k) (λ e. rw (m, e) (l m)) (λ e. rw (m, e) (b m)))

-- It protects the marked pages

module _ (rule : PriorityRule) (k a : ℕ) (le : a ≤ k) where
  mark_taken : (x : MarkState) (p : ℕ) → distinct (pages_in x.cached) ≡ true → mem p (pages_in x.cached) ≡ false → k ≤ length (pages_in x.cached)
      → Taken (marking_policy rule k a) a p x ((marking_policy rule k a).served x p)
  mark_taken x p d m l =
      let xs = x.cached in
      let b = mark_bundle a xs in
      let e : ltb (length (pages_in xs)) k ≡ false = omega tests in
      let once = distinct_once (pages_in xs) d in
      let ys = marked_by bundled a p (rule x.requests p) xs in
      let left = erase_all (pages_in b) (pages_in xs) in
      let after : SamePages (pages_in ys) (left ++ (p ∷ [])) = put_same p (rule x.requests p) (spared b xs) left (spared_same b xs (bundle_held a xs) once) in
      record {
        bundle = pages_in b;
        size = bundle_size a xs (omega (arith, length-map xs (λ y. y.page)));
        in_hand = bundle_held a xs;
        after = rw (m, e) after;
        protects = split (find_some (guarded xs) (pages_in b))
            (λ s. inr (rw (m, e) (λ q i. split (mem_snoc_split q p left (sym (mem_same (pages_in ys) (left ++ (p ∷ [])) after q) ∙ i))
            (λ j. inl (bundle_protects a xs once s.0 s.1 s.2 q j)) (λ j. inr j))))
            (λ none. inl none);
      }

  mark_steps_lem : (x : MarkState) (p : ℕ) → distinct (pages_in x.cached) ≡ true → Step (marking_policy rule k a) k a p x ((marking_policy rule k a).served x p)
  mark_steps_lem x p d =
      let xs = x.cached in
      let n = rule x.requests p in
      let b = mark_bundle a xs in
      record {
        hit = λ m. rw m (λ f. ap (λ (l : List ℕ). count f l) (hit_pages p n xs));
        load = λ m l. let e : ltb (length (pages_in xs)) k ≡ true = omega tests in rw (m, e) (put_same p n xs (pages_in xs) (λ f. refl));
        bundle = mark_taken x p d;
        keeps = λ q i g. by_mark_kind (λ ys. mem q (pages_in ys) ≡ true → guarded ys q ≡ true) k a p n xs
            (λ m j. hit_keeps p n xs q g)
            (λ m j. put_keeps p n xs q g)
            (λ m j. cases (eqb q p)
            (λ e. rw (eqb-true q p e) (put_marks p n (spared b xs)))
            (λ e. put_keeps p n (spared b xs) q (spared_guards q g e j)))
            i;
        guards_loaded = λ m. by_mark_kind (λ ys. guarded ys p ≡ true) k a p n xs (λ h. clash _ h m) (λ h. put_marks p n xs) (λ h. put_marks p n (spared b xs));
        guards_only = λ q g. by_mark_kind (λ ys. guarded ys q ≡ true → (guarded xs q ≡ true) ⊎ (q ≡ p)) k a p n xs
            (λ m. hit_only p n xs q)
            (λ m. put_only p n xs q)
            (λ m h. split (put_only p n (spared b xs) q h) (λ s. inl (spared_guarded q s)) (λ s. inr s))
            g;
      }
    where
      -- a marked page that the bundle spares stays marked
      spared_guards : (q : ℕ) → guarded x.cached q ≡ true → eqb q p ≡ false
          → mem q (pages_in (insert_by by_page (cached_at p 1 (rule x.requests p)) (spared (mark_bundle a x.cached) x.cached))) ≡ true
          → guarded (spared (mark_bundle a x.cached) x.cached) q ≡ true
      spared_guards q g e j =
          let b = mark_bundle a x.cached in
          let put = insert_by by_page (cached_at p 1 (rule x.requests p)) (spared b x.cached) in
          cases (mem q (pages_in b))
          (λ m. absurd (omega (
            arith,
            count_some (eqb q) q (pages_in put) j (eqb_self q),
            count_pages (eqb q) put,
            count_insert by_page (is_of q) (cached_at p 1 (rule x.requests p)) (spared b x.cached),
            bit_false (eqb q p) e,
            spared_gone b x.cached q m,
          )))
          (λ m. rw (spared_kept b x.cached q (marked_of q) (λ y h. and_l _ _ h) m) g)

      spared_guarded : (q : ℕ) → guarded (spared (mark_bundle a x.cached) x.cached) q ≡ true → guarded x.cached q ≡ true
      spared_guarded q g =
          let b = mark_bundle a x.cached in
          let c = spared_count b x.cached (marked_of q) in
          let less = count_mono (λ y. marked_of q y and not (mem y.page (pages_in b))) (marked_of q) x.cached (λ y h. and_l _ _ h) in
          omega tests

  pub marking_protects : Protects (marking_policy rule k a) k a
  marking_protects =
      record {
        stands = λ x. Unit {0};
        starts = tt;
        empty = refl;
        clears = λ x s. tt;
        clears_pages = λ x f. ap (λ (l : List ℕ). count f l) (cleared_pages true x.cached);
        clears_guards = λ x q. clear_marks q x.cached;
        goes_on = λ x p s d. tt;
        steps = λ x p s d. mark_steps_lem x p d;
      }

  -- its requests are those of marking, where the layers join exactly where MIN makes a bundle
  mark_kinds_lem : (trace : List ℕ) (L : Layers) (x : MarkState)
      → policy_kinds (marking_policy rule k a) k trace (map is_join (layer_rules k a trace L)) x ≡ mark_kinds rule k a x.requests trace L x.cached
  mark_kinds_lem [] L x = refl
  mark_kinds_lem (p ∷ ps) L x =
      let xs = x.cached in
      let n = rule x.requests p in
      let P = marking_policy rule k a in
      let rest = layered k a p L in
      let same : mark_kind k p (cleared true xs) ≡ mark_kind k p xs = ap (λ (l : List ℕ). kind_of k p l) (cleared_pages true xs) in
      by_test
      (λ joins. policy_kinds P k (p ∷ ps) (joins ∷ map is_join (layer_rules k a ps rest)) x
      ≡ mark_kind k p xs ∷ mark_kinds rule k a (x.requests ++ (p ∷ [])) ps rest (mark_served k a joins p n xs))
      (joins_at k p L)
      (λ e. let on = mark_kinds_lem ps rest (P.served (P.cleared x) p)
      ∙ ap (λ (kind : Kind). mark_kinds rule k a (x.requests ++ (p ∷ [])) ps rest (marked_by kind a p n (cleared true xs))) same in
      λ i. same i ∷ on i)
      (λ e. ap (λ (ks : List Kind). mark_kind k p xs ∷ ks) (mark_kinds_lem ps rest (P.served x p)))

-- marking makes at most k/a, rounded up, times the best count of bundles, whatever the priorities
pub marking_within_factor : (rule : PriorityRule) (k a : ℕ) → 1 ≤ a → a ≤ k → (trace : List ℕ)
    → mark_bundles rule k a trace ≤ ceil_div k a * best_count k a trace
marking_within_factor rule k a pos le trace =
    let P = marking_policy rule k a in
    omega (
      arith,
      bundles_within_factor k a (ceil_div k a) pos le (ceil_div_covers k a pos) P (marking_protects rule k a le) (min_rule a) (min_rule_is_farthest a) trace [],
      ap (λ (bs : List Bool). count is_bundled (policy_kinds P k trace bs P.start)) (bundles_are_joins k a pos le (min_rule a) (min_rule_is_farthest a) trace []),
      ap (λ (ks : List Kind). count is_bundled ks) (mark_kinds_lem rule k a le trace no_layers P.start),
    )
