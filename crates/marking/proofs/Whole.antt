-- Where a = k, for any rule of priorities: a bundle takes all cached pages, so the cached pages are those of the layers above L0, which have one page each.
-- Then the rule by which the layers serve a request says what the request is: a hit by 1c, a load by 1a, a load after a bundle by 1b.
use Prim.Native.Nat.{ℕ, ◌+◌, ◌-◌, ◌≤◌, ◌<◌, min}
use native.Mathlib.Omega.{arith}
use mathlib.Core.Bool.{Bool, true, false, not}
use mathlib.Core.List.{List, [], ◌∷◌, ◌++◌, map}
use mathlib.Core.Path.{◌≡◌, refl, sym, ap, ◌∙◌}
use lib.Dec.{eqb, ltb}
use lib.ListN.{length, length-map}
use lib.Seq.{take_all}
use borrow.Author.Tests.{eqb-true, eq-eqb}
use Rattle.lists.specs.Choice.{pick, ◌or◌}
use Rattle.lists.specs.Pages.{mem, bit, count, filter}
use Rattle.lists.specs.Sorting.{insert_by, sort_by}
use Rattle.lists.proofs.Choice.{tests, cases, split, clash}
use Rattle.lists.proofs.Pages.{mem_here, mem_there}
use Rattle.lists.proofs.Sorting.{length_insert, length_sort}
use Rattle.paging.specs.Layers.{Layers, no_layers, LayerRule, append, join, lift, is_join, layer_rule, renumbered, layered, layers_after, layer_rules, join_count}
use Rattle.paging.specs.Policy.{Kind, hit, load, bundled, is_bundled}
use Rattle.paging.specs.Table.{rule_in, Tabled, nothing_yet, tabled_after}
use Rattle.paging.proofs.Forming.{lift_is}
use Rattle.paging.proofs.Table.{tabled_map, tabled_top}
use Rattle.marking.specs.Marking.{Cached, cached_at, pages_in, sooner, by_page, cleared, mark_bundle, spared, PriorityRule, joins_at, mark_kind, mark_served}
use Rattle.marking.specs.Marking.{mark_kinds, mark_holds, mark_bundles}
use Rattle.marking.specs.Rdm.{rdm, no_marking, marking_after}
use Rattle.marking.proofs.Along.{marking_holds, marking_layers}
use Rattle.marking.proofs.Cached.{hit_pages, cleared_pages, cleared_length}

-- what a request is, by the rule that serves it
abbrev pub whole_kind : LayerRule → Kind
whole_kind append = load
whole_kind join = bundled
whole_kind lift = hit

-- The pages of a list of cached pages

mem_insert : (before : Cached → Cached → Bool) (q : ℕ) (x : Cached) (ys : List Cached)
    → mem q (pages_in (insert_by before x ys)) ≡ eqb q x.page or mem q (pages_in ys)
mem_insert before q x [] = refl
mem_insert before q x (y ∷ ys) =
    cases (before y x)
    (λ e. rw (e, mem_insert before q x ys) (swapped (eqb q y.page) (eqb q x.page) (mem q (pages_in ys))))
    (λ e. rw e refl)
  where
    swapped : (a b c : Bool) → (a or (b or c)) ≡ (b or (a or c))
    swapped true true c = unfold ◌or◌ in refl
    swapped true false c = unfold ◌or◌ in refl
    swapped false true c = unfold ◌or◌ in refl
    swapped false false c = unfold ◌or◌ in refl

mem_sort : (before : Cached → Cached → Bool) (q : ℕ) (xs : List Cached) → mem q (pages_in (sort_by before xs)) ≡ mem q (pages_in xs)
mem_sort before q [] = refl
mem_sort before q (x ∷ xs) = mem_insert before q x (sort_by before xs) ∙ ap (λ (b : Bool). eqb q x.page or b) (mem_sort before q xs)

-- a bundle of all cached pages spares none
spared_none : (k : ℕ) (xs : List Cached) → length xs ≤ k → spared (mark_bundle k xs) xs ≡ []
spared_none k xs h =
    let all : mark_bundle k xs ≡ sort_by sooner xs = take_all k (sort_by sooner xs) (rw (length_sort sooner xs) h) in
    rw all (gone (pages_in (sort_by sooner xs)) xs (λ q m. mem_sort sooner q xs ∙ m))
  where
    gone : (qs : List ℕ) (ys : List Cached) → ((q : ℕ) → mem q (pages_in ys) ≡ true → mem q qs ≡ true) → filter (λ y. not (mem y.page qs)) ys ≡ []
    gone qs [] f = refl
    gone qs (y ∷ ys) f = rw (f y.page (mem_here y.page (pages_in ys))) (gone qs ys (λ q m. f q (mem_there q y.page (pages_in ys) m)))

-- What each request keeps: the cached pages are those above L0, one for each layer

pub record Whole (k : ℕ) (L : Layers) (xs : List Cached) : Type 0 where
  pub cached_are : (q : ℕ) → mem q (pages_in xs) ≡ ltb 0 (L.of q)
  pub size : length xs ≡ L.top
  pub most : L.top ≤ k
  pub below : (q : ℕ) → L.of q ≤ L.top
  pub single : (q r : ℕ) → 0 < L.of q → L.of q ≡ L.of r → q ≡ r

pub nothing_whole : (k : ℕ) → Whole k no_layers []
nothing_whole k = record {
  cached_are = λ q. refl;
  size = refl;
  most = omega arith;
  below = λ q. omega arith;
  single = λ q r h e. absurd (omega arith);
}

pub whole_kind_lem : (k p : ℕ) (L : Layers) (xs : List Cached) → Whole k L xs → mark_kind k p xs ≡ whole_kind (layer_rule k (L.of p) L.top)
whole_kind_lem k p L xs W =
    let many : length (pages_in xs) ≡ L.top = length-map xs (λ (x : Cached). x.page) ∙ W.size in
    cases (eqb (L.of p) 0)
    (λ e. let absent : ltb 0 (L.of p) ≡ false = omega tests in
    cases (ltb L.top k) (λ h. rw (W.cached_are p, many, absent, e, h) refl) (λ h. rw (W.cached_are p, many, absent, e, h) refl))
    (λ e. let here : ltb 0 (L.of p) ≡ true = omega tests in rw (W.cached_are p, here, e) refl)

module _ (k p : ℕ) (L : Layers) (xs : List Cached) (W : Whole k L xs) where
  -- 1a
  whole_append : (x : Cached) (ys : List Cached) → x.page ≡ p → pages_in ys ≡ pages_in xs → length ys ≡ length xs → L.of p ≡ 0 → L.top < k
      → Whole k (record { of = λ q. pick (eqb q p) (L.top + 1) (L.of q); top = L.top + 1 }) (insert_by by_page x ys)
  whole_append x ys own same long z h =
      record {
        cached_are = λ q. mem_insert by_page q x ys ∙ rw (own, same, W.cached_are q) (cases (eqb q p)
            (λ e. let up : ltb 0 (L.top + 1) ≡ true = omega tests in rw (e, up) (unfold ◌or◌ in refl))
            (λ e. rw e (unfold ◌or◌ in refl)));
        size = omega (arith, length_insert by_page x ys, W.size);
        most = omega arith;
        below = λ q. cases (eqb q p) (λ e. rw e (omega arith)) (λ e. rw e (omega (arith, W.below q)));
        single = λ q r. cases (eqb q p)
            (λ e. cases (eqb r p)
            (λ f. rw (e, f) (λ g d. omega tests))
            (λ f. rw (e, f) (λ g d. absurd (omega (arith, W.below r)))))
            (λ e. cases (eqb r p)
            (λ f. rw (e, f) (λ g d. absurd (omega (arith, W.below q))))
            (λ f. rw (e, f) (λ g d. W.single q r g d)));
      }

  -- 1b
  whole_join : (x : Cached) (ys : List Cached) → 1 ≤ k → x.page ≡ p → ys ≡ []
      → Whole k (record { of = λ q. pick (eqb q p) ((k - k) + 1) (min (L.of q) (k - k)); top = (k - k) + 1 }) (insert_by by_page x ys)
  whole_join x ys pos own none =
      record {
        cached_are = λ q. mem_insert by_page q x ys ∙ rw (own, none) (cases (eqb q p)
            (λ e. let up : ltb 0 ((k - k) + 1) ≡ true = omega tests in rw (e, up) (unfold ◌or◌ in refl))
            (λ e. let down : ltb 0 (min (L.of q) (k - k)) ≡ false = omega tests in rw (e, down) (unfold ◌or◌ in refl)));
        size = rw none (omega arith);
        most = omega arith;
        below = λ q. cases (eqb q p) (λ e. rw e (omega arith)) (λ e. rw e (omega arith));
        single = λ q r. cases (eqb q p)
            (λ e. cases (eqb r p)
            (λ f. rw (e, f) (λ g d. omega tests))
            (λ f. rw (e, f) (λ g d. absurd (omega arith))))
            (λ e. rw e (λ g d. absurd (omega arith)));
      }

  -- 1c
  module _ (up : 0 < L.of p) where
    -- another page's number, which is not that of p, and comes to be below s
    other_number : (q : ℕ) → eqb q p ≡ false → eqb (L.of q) (L.of p) ≡ false
    other_number q e =
        cases (eqb (L.of q) (L.of p))
        (λ f. let d : L.of q ≡ L.of p = eqb-true _ _ f in clash _ (eq-eqb q p (W.single q p (omega arith) d)) e)
        (λ f. f)

    other_low : (q : ℕ) → eqb q p ≡ false → renumbered lift k k (L.of p) (L.of q) < L.top
    other_low q e =
        let f = other_number q e in
        split (lift_is k k (L.of p) (L.of q)) (λ d. omega (tests, W.below q)) (λ d. omega (tests, W.below p))

    other_above : (q : ℕ) → eqb q p ≡ false → ltb 0 (L.of q) ≡ ltb 0 (renumbered lift k k (L.of p) (L.of q))
    other_above q e =
        let f = other_number q e in
        split (lift_is k k (L.of p) (L.of q))
        (λ d. let one : ltb 0 (L.of q) ≡ true = omega tests in
        let two : ltb 0 (renumbered lift k k (L.of p) (L.of q)) ≡ true = omega tests in one ∙ sym two)
        (λ d. ap (ltb 0) (sym d.1))

    other_single : (q r : ℕ) → eqb q p ≡ false → eqb r p ≡ false → 0 < renumbered lift k k (L.of p) (L.of q)
        → renumbered lift k k (L.of p) (L.of q) ≡ renumbered lift k k (L.of p) (L.of r) → q ≡ r
    other_single q r e f g d =
        let m = other_number q e in
        let n = other_number r f in
        split (lift_is k k (L.of p) (L.of q))
        (λ c. split (lift_is k k (L.of p) (L.of r)) (λ b. W.single q r (omega tests) (omega tests)) (λ b. absurd (omega tests)))
        (λ c. split (lift_is k k (L.of p) (L.of r)) (λ b. absurd (omega tests)) (λ b. W.single q r (omega tests) (omega tests)))

    whole_lift : (ys : List Cached) → pages_in ys ≡ pages_in xs → length ys ≡ length xs
        → Whole k (record { of = λ q. pick (eqb q p) L.top (renumbered lift k k (L.of p) (L.of q)); top = L.top }) ys
    whole_lift ys same long =
        record {
          cached_are = λ q. rw (same, W.cached_are q) (cases (eqb q p)
              (λ e. let own : L.of q ≡ L.of p = ap L.of (eqb-true q p e) in
              let one : ltb 0 (L.of q) ≡ true = omega tests in
              let two : ltb 0 L.top ≡ true = omega (tests, W.below p) in rw (e, one, two) refl)
              (λ e. rw e (other_above q e)));
          size = long ∙ W.size;
          most = W.most;
          below = λ q. cases (eqb q p) (λ e. rw e (omega arith)) (λ e. rw e (omega (arith, other_low q e)));
          single = λ q r. cases (eqb q p)
              (λ e. cases (eqb r p)
              (λ f. rw (e, f) (λ g d. omega tests))
              (λ f. rw (e, f) (λ g d. absurd (omega (arith, other_low r f)))))
              (λ e. cases (eqb r p)
              (λ f. rw (e, f) (λ g d. absurd (omega (arith, other_low q e))))
              (λ f. rw (e, f) (λ g d. other_single q r e f g d)));
        }

-- each request keeps it
pub whole_next : (k p n : ℕ) (joins : Bool) (L : Layers) (xs : List Cached) → 1 ≤ k → Whole k L xs → Whole k (layered k k p L) (mark_served k k joins p n xs)
whole_next k p n joins L xs pos W =
    let ys = cleared joins xs in
    let same = cleared_pages joins xs in
    let long = cleared_length joins xs in
    let kind = whole_kind_lem k p L xs W in
    cases (eqb (L.of p) 0)
    (λ e. cases (ltb L.top k)
    (λ h. rw (kind, e, h) (whole_append k p L xs W (cached_at p 1 n) ys refl same long (omega tests) (omega tests)))
    (λ h. rw (kind, e, h) (whole_join k p L xs W (cached_at p 1 n) (spared (mark_bundle k ys) ys) pos refl (spared_none k ys (omega (arith, W.size, W.most))))))
    (λ e. let hits : Cached → Cached = λ x. pick (eqb x.page p) (cached_at p 1 n) x in
    rw (kind, e) (whole_lift k p L xs W (omega tests) (map hits ys) (hit_pages p n ys ∙ same) (length-map ys hits ∙ long)))

-- Along a trace, for any rule of priorities

pub whole_holds : (rule : PriorityRule) (k : ℕ) (before trace : List ℕ) (L : Layers) (xs : List Cached) → 1 ≤ k → Whole k L xs
    → Whole k (layers_after k k trace L) (mark_holds rule k k before trace L xs)
whole_holds rule k before [] L xs pos W = W
whole_holds rule k before (p ∷ ps) L xs pos W =
    whole_holds rule k (before ++ (p ∷ [])) ps (layered k k p L) (mark_served k k (joins_at k p L) p (rule before p) xs) pos
    (whole_next k p (rule before p) (joins_at k p L) L xs pos W)

-- what each request is: what the layers' rule says
pub whole_kinds : (rule : PriorityRule) (k : ℕ) (before trace : List ℕ) (L : Layers) (xs : List Cached) → 1 ≤ k → Whole k L xs
    → mark_kinds rule k k before trace L xs ≡ map whole_kind (layer_rules k k trace L)
whole_kinds rule k before [] L xs pos W = refl
whole_kinds rule k before (p ∷ ps) L xs pos W =
    let next = whole_next k p (rule before p) (joins_at k p L) L xs pos W in
    let rest = whole_kinds rule k (before ++ (p ∷ [])) ps (layered k k p L) (mark_served k k (joins_at k p L) p (rule before p) xs) pos next in
    (λ i. whole_kind_lem k p L xs W i ∷ rest i)

-- the bundles are those that the layers count
pub whole_bundles : (rule : PriorityRule) (k : ℕ) (trace : List ℕ) → 1 ≤ k → mark_bundles rule k k trace ≡ join_count k k trace
whole_bundles rule k trace pos =
    ap (count is_bundled) (whole_kinds rule k [] trace no_layers [] pos (nothing_whole k)) ∙ counted (layer_rules k k trace no_layers)
  where
    one : (r : LayerRule) → bit (is_bundled (whole_kind r)) ≡ bit (is_join r)
    one append = refl
    one join = refl
    one lift = refl

    counted : (rs : List LayerRule) → count is_bundled (map whole_kind rs) ≡ count is_join rs
    counted [] = refl
    counted (r ∷ rs) = omega (arith, one r, counted rs)

-- For RDM, by the rows of the layer table
pub marking_whole : (k : ℕ) (trace : List ℕ) (p : ℕ) → 1 ≤ k
    → let m = marking_after k k trace no_marking in
    mark_kind k p m.cached ≡ whole_kind (rule_in k m.clock.layers.s p m.clock.layers.rows)
marking_whole k trace p pos =
    let L = layers_after k k trace no_layers in
    let T = tabled_after k k trace nothing_yet in
    let held = mark_holds (rdm k k) k k [] trace no_layers [] in
    let told : mark_kind k p held ≡ whole_kind (layer_rule k (L.of p) L.top) =
    whole_kind_lem k p L held (whole_holds (rdm k k) k [] trace no_layers [] pos (nothing_whole k)) in
    let rule : layer_rule k (L.of p) L.top ≡ rule_in k T.s p T.rows =
    λ i. layer_rule k (sym (tabled_map k k trace p) i) (sym (tabled_top k k trace) i) in
    ap (mark_kind k p) (sym (marking_holds k k trace)) ∙ told ∙ ap whole_kind rule
    ∙ ap (λ (t : Tabled). whole_kind (rule_in k t.s p t.rows)) (sym (marking_layers k k trace))
