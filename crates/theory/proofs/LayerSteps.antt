-- One request of the layers beside one of MIN: what joins them along a trace, and that each rule of source document 001, Figure 1, keeps it.
use Prim.Native.Nat.{ℕ, suc, ◌+◌, ◌-◌, ◌≤◌, ◌<◌, min}
use native.Mathlib.Omega.{arith}
use mathlib.Core.Bool.{Bool, true, false}
use mathlib.Core.List.{List, [], ◌∷◌, ◌++◌}
use mathlib.Core.Path.{◌≡◌, refl, ◌∙◌}
use lib.Dec.{eqb, leb, ltb}
use lib.ListN.{length, take, length-append}
use borrow.Author.Tests.{eqb-true, ltb-true, ltb-false, leb-true, le-leb}
use Rattle.lists.specs.Choice.{pick, ◌and◌}
use Rattle.lists.specs.Pages.{mem, without, to_end, erase_all, bit, count}
use Rattle.lists.proofs.Choice.{tests, cases, split, clash, and_l, and_r, and_i, and_false_l, or_l, or_r, or_split, bit_true, bit_false, bit_le, eqb_self, eqb_sym}
use Rattle.lists.proofs.Pages.{Once, count_snoc, count_length, count_mono, count_members, count_none, count_all, count_some, count_without_once, mem_snoc, mem_append_l, mem_kept}
use Rattle.lists.proofs.Pages.{mem_erase_all_kept, count_erase_all_le, once_snoc, once_to_end, once_erase_all, to_end_same, length_same, mem_erase_all, without_gone}
use Rattle.paging.specs.Layers.{Layers, no_layers, LayerRule, append, join, lift, layer_rule, renumbered, top_after, layered}
use Rattle.paging.specs.Policy.{Rule, Kind, hit, load, bundled, kind_of, serve}
use Rattle.paging.proofs.Forming.{lift_is}
use Rattle.theory.specs.Farthest.{Farthest}
use Rattle.theory.proofs.Bundles.{count_taken, length_taken, taken_held, not_absent, absent_after, farthest_cut}

-- the layers after a request for p to which this rule applies
abbrev pub layered_by : LayerRule → (k a p : ℕ) → Layers → Layers
layered_by rule k a p L =
    record { of = λ q. pick (eqb q p) (top_after rule k a L.top) (renumbered rule k a (L.of p) (L.of q)); top = top_after rule k a L.top }

-- a cut of the pages held at a layer: all `at` places below it are taken by near pages, and each near page above it is held
pub record Cut (L : Layers) (near held : List ℕ) : Type 0 where
  pub at : ℕ
  pub full : at ≤ count (λ q. leb (L.of q) at and mem q near) held
  pub inside : (q : ℕ) → mem q near ≡ true → at < L.of q → mem q held ≡ true

-- the layers and the pages that MIN holds, where σ follows
pub record Agree (k : ℕ) (L : Layers) (σ held : List ℕ) : Type 0 where
  pub size : length held ≡ L.top
  pub most : L.top ≤ k
  pub once : Once held
  pub below : (i : ℕ) → count (λ q. leb (L.of q) i) held ≤ i
  pub cut : (T : ℕ) → Cut L (take T σ) held

-- the next requested page is held exactly if its number is not 0
module _ (k : ℕ) (L : Layers) (p : ℕ) (σ held : List ℕ) (A : Agree k L (p ∷ σ) held) where
  number_of_held : mem p held ≡ true → 0 < L.of p
  number_of_held m =
      cases (leb (L.of p) 0)
      (λ e. absurd (omega (arith, A.below 0, count_some (λ q. leb (L.of q) 0) p held m e)))
      (λ e. omega tests)

  held_of_number : 0 < L.of p → mem p held ≡ true
  held_of_number h =
      let c = A.cut 1 in
      cases (ltb c.at (L.of p))
      (λ e. c.inside p (or_l _ _ (eqb_self p)) (omega tests))
      (λ e. cases (mem p held) (λ m. m)
      (λ m. let z : count (λ q. leb (L.of q) c.at and mem q (p ∷ [])) held ≡ 0 =
      count_none _ held (λ q i. cases (leb (L.of q) c.at and mem q (p ∷ []))
      (λ t. split (or_split _ _ (and_r _ _ t))
      (λ g. let i' : mem p held ≡ true = rw (eqb-true q p g) at i in clash _ i' m) (λ g. clash false g refl))
      (λ t. t)) in
      let f = c.full in absurd (omega tests)))

-- a cut moves to `at` when p is requested: `rest` stays of the pages held
cut_step : (L L' : Layers) (p : ℕ) (near held rest : List ℕ) (c : Cut L (p ∷ near) held) (at : ℕ)
    → ((q : ℕ) → mem q rest ≡ true → eqb q p ≡ false)
    → ((q : ℕ) → eqb q p ≡ false → L.of q ≤ c.at → L'.of q ≤ at)
    → ((q : ℕ) → eqb q p ≡ false → at < L'.of q → c.at < L.of q)
    → ((q : ℕ) → eqb q p ≡ false → mem q near ≡ true → mem q held ≡ true → mem q rest ≡ true)
    → at ≤ count (λ q. leb (L.of q) c.at and mem q (p ∷ near)) rest
    → Cut L' near (rest ++ (p ∷ []))
cut_step L L' p near held rest c at other low high stays enough =
    record {
      at = at;
      full = omega (
        arith,
        count_snoc (λ q. leb (L'.of q) at and mem q near) rest p,
        count_members (λ q. leb (L.of q) c.at and mem q (p ∷ near)) (λ q. leb (L'.of q) at and mem q near) rest
            (λ q i t. let n = other q i in
            and_i _ _ (le-leb _ _ (low q n (leb-true _ _ (and_l _ _ t)))) (split (or_split _ _ (and_r _ _ t)) (λ g. clash _ g n) (λ g. g))),
      );
      inside = λ q i h. cases (eqb q p)
          (λ e. rw (eqb-true q p e) (mem_snoc p rest))
          (λ e. mem_append_l q rest (p ∷ []) (stays q e i (c.inside q (or_r _ _ i) (high q e h))));
    }

-- 1a
agree_append : (k a : ℕ) (L : Layers) (p : ℕ) (σ held : List ℕ) → Agree k L (p ∷ σ) held → mem p held ≡ false → L.of p ≡ 0 → L.top < k
    → Agree k (layered_by append k a p L) σ (held ++ (p ∷ []))
agree_append k a L p σ held A m z s =
    record {
      size = length-append held (p ∷ []) ∙ omega (arith, A.size);
      most = omega arith;
      once = once_snoc p held A.once m;
      below = λ i. cases (ltb L.top i)
          (λ e. omega (tests, count_length (λ q. leb ((layered_by append k a p L).of q) i) (held ++ (p ∷ [])), length-append held (p ∷ []), A.size))
          (λ e. omega (
            tests,
            count_snoc (λ q. leb ((layered_by append k a p L).of q) i) held p,
            bit_false (leb ((layered_by append k a p L).of p) i) (rw (eqb_self p) (omega tests)),
            count_mono (λ q. leb ((layered_by append k a p L).of q) i) (λ q. leb (L.of q) i) held (λ q h. lower i q h),
            A.below i,
          ));
      cut = λ T. let c = A.cut (suc T) in
          cut_step L (layered_by append k a p L) p (take T σ) held held c c.at (not_absent p held m)
          (λ q e h. rw e h) (λ q e h. rw e at h) (λ q e i h. h) c.full;
    }
  where
    lower : (i q : ℕ) → leb ((layered_by append k a p L).of q) i ≡ true → leb (L.of q) i ≡ true
    lower i q h = cases (eqb q p) (λ e. rw (eqb-true q p e, z) (omega tests)) (λ e. rw e at h)

-- 1c

module _ (k a : ℕ) (L : Layers) (p : ℕ) (σ held : List ℕ) (A : Agree k L (p ∷ σ) held) (m : mem p held ≡ true) (pos : 0 < L.of p) where
  lift_below : (i : ℕ) → i < L.top → count (λ q. leb ((layered_by lift k a p L).of q) i) (to_end p held) ≤ i
  lift_below i h =
      let last : leb ((layered_by lift k a p L).of p) i ≡ false = rw (eqb_self p) (omega tests) in
      let all = count_snoc (λ q. leb ((layered_by lift k a p L).of q) i) (without p held) p in
      cases (leb (L.of p) (suc i))
      (λ e. omega (
        arith,
        bit_false _ last,
        A.below (suc i),
        bit_true (leb (L.of p) (suc i)) e,
        kept (suc i),
        count_members (λ q. leb ((layered_by lift k a p L).of q) i) (λ q. leb (L.of q) (suc i)) (without p held)
            (λ q j t. let u = fell q j t in split (lift_is k a (L.of p) (L.of q)) (λ d. omega tests) (λ d. omega tests)),
      ))
      (λ e. omega (
        arith,
        bit_false _ last,
        A.below i,
        kept i,
        count_members (λ q. leb ((layered_by lift k a p L).of q) i) (λ q. leb (L.of q) i) (without p held)
            (λ q j t. let u = fell q j t in split (lift_is k a (L.of p) (L.of q)) (λ d. omega tests) (λ d. omega tests)),
      ))
    where
      kept : (j : ℕ) → count (λ q. leb (L.of q) j) (without p held) + bit (leb (L.of p) j) ≡ count (λ q. leb (L.of q) j) held
      kept j = count_without_once (λ q. leb (L.of q) j) p held m (A.once p)

      fell : (q : ℕ) → mem q (without p held) ≡ true → leb ((layered_by lift k a p L).of q) i ≡ true
          → leb (renumbered lift k a (L.of p) (L.of q)) i ≡ true
      fell q j t = rw (not_absent p (without p held) (without_gone p held) q j) at t

  -- a cut falls by one where it is not below p
  lift_cut : (T : ℕ) → Cut (layered_by lift k a p L) (take T σ) (to_end p held)
  lift_cut T =
      cases (ltb c.at (L.of p))
      (λ e. moved c.at (λ q h. split (lift_is k a (L.of p) (L.of q)) (λ d. omega tests) (λ d. omega tests))
      (λ q h. split (lift_is k a (L.of p) (L.of q)) (λ d. omega tests) (λ d. omega tests))
      (omega (arith, c.full, kept, bit_false (leb (L.of p) c.at and mem p (take (suc T) (p ∷ σ))) (and_false_l _ _ (omega tests)))))
      (λ e. moved (c.at - 1) (λ q h. split (lift_is k a (L.of p) (L.of q)) (λ d. omega tests) (λ d. omega tests))
      (λ q h. split (lift_is k a (L.of p) (L.of q)) (λ d. omega tests) (λ d. omega tests))
      (omega (arith, c.full, kept, bit_le (leb (L.of p) c.at and mem p (take (suc T) (p ∷ σ))))))
    where
      c : Cut L (take (suc T) (p ∷ σ)) held
      c = A.cut (suc T)

      kept : count (λ q. leb (L.of q) c.at and mem q (take (suc T) (p ∷ σ))) (without p held) + bit (leb (L.of p) c.at and mem p (take (suc T) (p ∷ σ))) ≡ count
          (λ q. leb (L.of q) c.at and mem q (take (suc T) (p ∷ σ))) held
      kept = count_without_once (λ q. leb (L.of q) c.at and mem q (take (suc T) (p ∷ σ))) p held m (A.once p)

      moved : (at : ℕ) → ((q : ℕ) → L.of q ≤ c.at → renumbered lift k a (L.of p) (L.of q) ≤ at)
          → ((q : ℕ) → at < renumbered lift k a (L.of p) (L.of q) → c.at < L.of q)
          → at ≤ count (λ q. leb (L.of q) c.at and mem q (take (suc T) (p ∷ σ))) (without p held)
          → Cut (layered_by lift k a p L) (take T σ) (to_end p held)
      moved at low high enough =
          cut_step L (layered_by lift k a p L) p (take T σ) held (without p held) c at (not_absent p (without p held) (without_gone p held))
          (λ q e h. rw e (low q h)) (λ q e h. high q (rw e at h)) (λ q e i h. mem_kept q p held h (eqb_sym p q ∙ e)) enough

agree_lift : (k a : ℕ) (L : Layers) (p : ℕ) (σ held : List ℕ) → Agree k L (p ∷ σ) held → mem p held ≡ true → 0 < L.of p
    → Agree k (layered_by lift k a p L) σ (to_end p held)
agree_lift k a L p σ held A m pos =
    let same = length_same (to_end p held) held (to_end_same p held m (A.once p)) in
    record {
      size = same ∙ A.size;
      most = A.most;
      once = once_to_end p held A.once;
      below = λ i. cases (ltb i L.top)
          (λ e. lift_below k a L p σ held A m pos i (ltb-true _ _ e))
          (λ e. omega (tests, count_length (λ q. leb ((layered_by lift k a p L).of q) i) (to_end p held), A.size));
      cut = lift_cut k a L p σ held A m pos;
    }

-- 1b
module _ (k a : ℕ) (rule : Rule) (F : Farthest a rule) (L : Layers) (p : ℕ) (σ held : List ℕ) (A : Agree k L (p ∷ σ) held)
    (m : mem p held ≡ false) (z : L.of p ≡ 0) (full : k ≤ L.top) (le : a ≤ k) where
  enough_held : a ≤ length held
  enough_held = omega (arith, A.size)

  join_length : length (erase_all (rule σ held) held) ≡ k - a
  join_length = omega (arith, length_taken (rule σ held) held (F.in_hand σ held enough_held), F.size σ held enough_held, A.size, A.most)

  -- no page that goes is near: the cut stays, and it is not above k - a
  join_spared : (T : ℕ) → ((q : ℕ) → mem q (rule σ held) ≡ true → mem q (take T σ) ≡ false)
      → Cut (layered_by join k a p L) (take T σ) (erase_all (rule σ held) held ++ (p ∷ []))
  join_spared T gone =
      let c = A.cut (suc T) in
      let counted : ℕ → Bool = λ q. leb (L.of q) c.at and mem q (p ∷ take T σ) in
      let taken = count_taken counted (rule σ held) held (F.in_hand σ held enough_held) in
      let none : count counted (rule σ held) ≡ 0 = count_none counted (rule σ held)
      (λ q i. cases (counted q)
      (λ t. split (or_split _ _ (and_r _ _ t))
      (λ g. clash _ g (not_absent p held m q (taken_held (rule σ held) held (F.in_hand σ held enough_held) q i)))
      (λ g. clash _ g (gone q i)))
      (λ t. t)) in
      let low : c.at ≤ k - a = omega (arith, c.full, count_length counted (erase_all (rule σ held) held), join_length) in
      cut_step L (layered_by join k a p L) p (take T σ) held (erase_all (rule σ held) held) c c.at
      (λ q i. not_absent p held m q (mem_erase_all q (rule σ held) held i))
      (λ q e h. rw e (omega arith)) (λ q e h. let g : c.at < min (L.of q) (k - a) = rw e at h in omega arith)
      (λ q e i h. mem_erase_all_kept q (rule σ held) held h (cases (mem q (rule σ held)) (λ b. clash _ i (gone q b)) (λ b. b)))
      (omega (arith, c.full))

  -- each page that stays is near: the cut is k - a
  join_filled : (T : ℕ) → ((q : ℕ) → mem q (erase_all (rule σ held) held) ≡ true → mem q (take T σ) ≡ true)
      → Cut (layered_by join k a p L) (take T σ) (erase_all (rule σ held) held ++ (p ∷ []))
  join_filled T near =
      let L' = layered_by join k a p L in
      let counted : ℕ → Bool = λ q. leb (L'.of q) (k - a) and mem q (take T σ) in
      record {
        at = k - a;
        full = omega (
          arith,
          join_length,
          count_snoc counted (erase_all (rule σ held) held) p,
          count_all counted (erase_all (rule σ held) held)
              (λ q i. and_i _ _ (rw (not_absent p held m q (mem_erase_all q (rule σ held) held i)) (omega tests)) (near q i)),
        );
        inside = λ q i h. cases (eqb q p)
            (λ e. rw (eqb-true q p e) (mem_snoc p (erase_all (rule σ held) held)))
            (λ e. let g : k - a < min (L.of q) (k - a) = rw e at h in absurd (omega arith));
      }

  agree_join : 1 ≤ a → Agree k (layered_by join k a p L) σ (erase_all (rule σ held) held ++ (p ∷ []))
  agree_join pos =
      let rest = erase_all (rule σ held) held in
      let L' = layered_by join k a p L in
      let size = length-append rest (p ∷ []) in
      record {
        size = omega (arith, join_length);
        most = omega arith;
        once = once_snoc p rest (once_erase_all (rule σ held) held A.once) (absent_after p (rule σ held) held m);
        below = λ i. cases (ltb i (k - a))
            (λ e. omega (
              arith,
              A.below i,
              count_snoc (λ q. leb (L'.of q) i) rest p,
              bit_false (leb (L'.of p) i) (rw (eqb_self p) (omega tests)),
              count_members (λ q. leb (L'.of q) i) (λ q. leb (L.of q) i) rest
                  (λ q j t. let u : leb (min (L.of q) (k - a)) i ≡ true = rw (not_absent p held m q (mem_erase_all q (rule σ held) held j)) at t in omega tests),
              (count_erase_all_le (λ q. leb (L.of q) i) (rule σ held) held).0,
            ))
            (λ e. cases (eqb i (k - a))
            (λ g. omega (
              tests,
              count_snoc (λ q. leb (L'.of q) i) rest p,
              bit_false (leb (L'.of p) i) (rw (eqb_self p) (omega tests)),
              count_length (λ q. leb (L'.of q) i) rest,
              join_length,
            ))
            (λ g. omega (tests, count_length (λ q. leb (L'.of q) i) (rest ++ (p ∷ [])), join_length)));
        cut = λ T. split (farthest_cut a rule F σ held enough_held T) (λ gone. join_spared T gone) (λ near. join_filled T near);
      }

-- The invariant at the start and after a request

pub start_agrees : (k : ℕ) (σ : List ℕ) → Agree k no_layers σ []
start_agrees k σ =
    record {
      size = refl;
      most = omega arith;
      once = λ q. omega arith;
      below = λ i. omega arith;
      cut = λ T. record { at = 0; full = omega arith; inside = λ q i h. absurd (omega arith) };
    }

-- a request: the layers' rule and MIN's kind go together, and the invariant stays
pub data Together : Kind → LayerRule → Type 0 where
  appends : Together load append
  joins : Together bundled join
  lifts : Together hit lift

module _ (k a : ℕ) (pos : 1 ≤ a) (le : a ≤ k) (rule : Rule) (F : Farthest a rule) where
  pub step_agrees : (L : Layers) (p : ℕ) (σ held : List ℕ) → Agree k L (p ∷ σ) held
      → Agree k (layered k a p L) σ (serve rule k p σ held) × Together (kind_of k p held) (layer_rule k (L.of p) L.top)
  step_agrees L p σ held A =
      cases (mem p held)
      (λ m. let h = number_of_held k L p σ held A m in
      let e : eqb (L.of p) 0 ≡ false = omega tests in
      rw (m, e) (agree_lift k a L p σ held A m h, lifts))
      (λ m. let z : L.of p ≡ 0 = cases (ltb 0 (L.of p)) (λ h. clash _ (held_of_number k L p σ held A (ltb-true _ _ h)) m) (λ h. omega tests) in
      let e : eqb (L.of p) 0 ≡ true = omega tests in
      cases (ltb L.top k)
      (λ s. rw (m, e, A.size, s) (agree_append k a L p σ held A m z (ltb-true _ _ s), appends))
      (λ s. rw (m, e, A.size, s) (agree_join k a rule F L p σ held A m z (ltb-false _ _ s) le pos, joins)))
