-- How many pages are revealed, request by request (source document 001, proof of Lemma 2): one right after a 1b; otherwise a request of a page that is
-- not revealed reveals one more, and a request of a revealed page changes nothing.
use Prim.Native.Nat.{ℕ, ◌+◌, ◌-◌, ◌≤◌, ◌<◌}
use native.Mathlib.Omega.{arith}
use mathlib.Core.Bool.{false, not}
use mathlib.Core.List.{List}
use mathlib.Core.Logic.{inl, inr}
use mathlib.Core.Path.{◌≡◌, refl, sym, ap, ◌∙◌}
use lib.Dec.{eqb, leb, ltb}
use lib.ListN.{length}
use borrow.Author.Tests.{eqb-true}
use Rattle.lists.specs.Choice.{pick, ◌and◌}
use Rattle.lists.specs.Pages.{count}
use Rattle.lists.specs.Places.{place}
use Rattle.lists.specs.Sorting.{Row}
use Rattle.lists.proofs.Choice.{tests, cases, split}
use Rattle.lists.proofs.Pages.{count_length, count_not}
use Rattle.paging.specs.Layers.{append, join, lift, is_join, top_after}
use Rattle.paging.specs.Rows.{pages_of}
use Rattle.paging.specs.Table.{number_in, rows_by, rule_in, rows_after, size_of, revealed}
use Rattle.paging.proofs.Forming.{FormedRows, number_most, lift_is, last_single}
use Rattle.paging.proofs.LayerSizes.{others_elsewhere, others_own, size_from_one, size_from_two, size_most_two}
use Rattle.paging.proofs.Revealed.{revealed_singles, singles_revealed, high_place, above_revealed}

module _ (k a s : ℕ) (rows : List Row) (F : FormedRows k a s rows) where
  -- no more pages are revealed than there are layers, or rows
  pub revealed_most : (revealed s rows ≤ length rows) × (revealed s rows ≤ s)
  revealed_most =
      let top = (revealed_singles s rows).most in
      let all = above_revealed s rows in
      let most = count_length (λ row. ltb (s - revealed s rows) row.number) rows in
      (omega arith, omega arith)

  -- a page is revealed where its row is one of the last so many
  pub revealed_place : (p : ℕ)
      → ltb (s - revealed s rows) (number_in rows p) ≡ (leb (length rows - revealed s rows) (place p (pages_of rows)) and ltb (place p (pages_of rows)) (length rows))
  revealed_place p =
      let low : length rows - revealed s rows ≡ count (λ row. not (ltb (s - revealed s rows) row.number)) rows =
      omega (arith, F.below, above_revealed s rows, count_not (λ row. ltb (s - revealed s rows) row.number) rows) in
      rw low (high_place (s - revealed s rows) p rows F.sorted (F.once p))

-- Each rule, where the requested page is alone in the last layer afterwards

module _ (k a s p : ℕ) (rows : List Row) (F : FormedRows k a s rows) where
  -- 1a: the layers stay, and the new one is single
  next_append : number_in rows p ≡ 0 → size_of (s + 1) (rows_by append k a (number_in rows p) s p rows) ≡ 1
      → revealed (s + 1) (rows_by append k a (number_in rows p) s p rows) ≡ revealed s rows + 1
  next_append z last =
      let r = revealed s rows in
      let T = revealed_singles s rows in
      let gap : (s + 1) - (r + 1) ≡ s - r = omega arith in
      singles_revealed (s + 1) (r + 1) (rows_by append k a (number_in rows p) s p rows) (record {
        most = omega (arith, T.most);
        single = λ j h g. cases (eqb j (s + 1))
            (λ e. rw (eqb-true j (s + 1) e) last)
            (λ e. same j (omega arith) (omega tests) ∙ T.single j (omega arith) (omega tests));
        ends = λ h t. T.ends (omega arith) (sym (same (s - r) (omega arith) (omega arith)) ∙ rw gap at t);
      })
    where
      same : (j : ℕ) → 0 < j → j < s + 1 → size_of j (rows_by append k a (number_in rows p) s p rows) ≡ size_of j rows
      same j pos low = size_from_one append k a s p j rows pos low j (λ n e. e) refl ∙ others_elsewhere p rows (F.once p) j (λ e. omega arith)

  -- 1b: layer k - a has the pages of two layers at least, where it is not L0
  next_join : 1 ≤ a → a ≤ k → s ≡ k → number_in rows p ≡ 0 → size_of ((k - a) + 1) (rows_by join k a (number_in rows p) s p rows) ≡ 1
      → revealed ((k - a) + 1) (rows_by join k a (number_in rows p) s p rows) ≡ 1
  next_join pos le full z last =
      let gap : ((k - a) + 1) - 1 ≡ k - a = omega arith in
      singles_revealed ((k - a) + 1) 1 (rows_by join k a (number_in rows p) s p rows) (record {
        most = omega arith;
        single = λ j h g. let e : j ≡ (k - a) + 1 = omega arith in rw e last;
        ends = λ h t. let one : size_of (k - a) (rows_by join k a (number_in rows p) s p rows) ≡ 1 = rw gap at t in
            let up : 0 < k - a = omega arith in
            omega (
              arith,
              size_from_two join k a s p (k - a) rows up (omega arith) (k - a) ((k - a) + 1) (λ e. omega arith) (omega arith) (omega arith),
              others_elsewhere p rows (F.once p) (k - a) (λ e. omega arith),
              others_elsewhere p rows (F.once p) ((k - a) + 1) (λ e. omega arith),
              F.all_present (k - a) up (omega arith),
              F.all_present ((k - a) + 1) (omega arith) (omega arith),
            );
      })

  -- 1c, with p in layer i: layers from i on come from the layer above, the one below i gets what is left of i, and lower ones stay
  module _ (pos : 0 < number_in rows p) (low : number_in rows p ≤ s) where
    lift_high : (j : ℕ) → number_in rows p ≤ j → j < s → size_of j (rows_by lift k a (number_in rows p) s p rows) ≡ size_of (j + 1) rows
    lift_high j g l =
        let i = number_in rows p in
        size_from_one lift k a s p j rows (omega arith) l (j + 1)
        (λ n e. split (lift_is k a i n) (λ d. omega arith) (λ d. absurd (omega arith)))
        (split (lift_is k a i (j + 1)) (λ d. omega arith) (λ d. absurd (omega arith)))
        ∙ others_elsewhere p rows (F.once p) (j + 1) (λ e. omega arith)

    lift_low : (j : ℕ) → 0 < j → j + 1 < number_in rows p → size_of j (rows_by lift k a (number_in rows p) s p rows) ≡ size_of j rows
    lift_low j h g =
        let i = number_in rows p in
        size_from_one lift k a s p j rows h (omega arith) j
        (λ n e. split (lift_is k a i n) (λ d. absurd (omega arith)) (λ d. omega arith))
        (split (lift_is k a i j) (λ d. absurd (omega arith)) (λ d. d.1))
        ∙ others_elsewhere p rows (F.once p) j (λ e. omega arith)

    lift_below : (j : ℕ) → 0 < j → j + 1 ≡ number_in rows p
        → size_of j (rows_by lift k a (number_in rows p) s p rows) + 1 ≡ size_of j rows + size_of (number_in rows p) rows
    lift_below j h g =
        let i = number_in rows p in
        omega (
          arith,
          size_from_two lift k a s p j rows h (omega arith) j i (λ e. omega arith)
              (split (lift_is k a i j) (λ d. absurd (omega arith)) (λ d. d.1))
              (split (lift_is k a i i) (λ d. omega arith) (λ d. absurd (omega arith))),
          size_most_two lift k a s p j rows h (omega arith) j i
              (λ n e. split (lift_is k a i n) (λ d. inr (omega arith)) (λ d. inl (omega arith))),
          others_elsewhere p rows (F.once p) j (λ e. omega arith),
          others_own p rows (F.once p) pos,
        )

    -- p is revealed: as many stay revealed
    lift_revealed : s - revealed s rows < number_in rows p → size_of s (rows_by lift k a (number_in rows p) s p rows) ≡ 1
        → revealed s (rows_by lift k a (number_in rows p) s p rows) ≡ revealed s rows
    lift_revealed high last =
        let i = number_in rows p in
        let r = revealed s rows in
        let T = revealed_singles s rows in
        let own : size_of i rows ≡ 1 = T.single i high low in
        singles_revealed s r (rows_by lift k a i s p rows) (record {
          most = T.most;
          single = λ j h g. cases (eqb j s)
              (λ e. rw (eqb-true j s e) last)
              (λ e. cases (leb i j)
              (λ f. lift_high j (omega tests) (omega tests) ∙ T.single (j + 1) (omega arith) (omega tests))
              (λ f. under j (omega tests) (omega arith) own ∙ T.single j h g));
          ends = λ h t. T.ends h (sym (under (s - r) high h own) ∙ t);
        })
      where
        under : (j : ℕ) → j < number_in rows p → 0 < j → size_of (number_in rows p) rows ≡ 1
            → size_of j (rows_by lift k a (number_in rows p) s p rows) ≡ size_of j rows
        under j l h own =
            cases (eqb (j + 1) (number_in rows p))
            (λ e. omega (arith, lift_below j h (eqb-true _ _ e)))
            (λ e. lift_low j h (omega tests))

    -- p is not revealed: one more is
    lift_reveals : number_in rows p ≤ s - revealed s rows → size_of s (rows_by lift k a (number_in rows p) s p rows) ≡ 1
        → revealed s (rows_by lift k a (number_in rows p) s p rows) ≡ revealed s rows + 1
    lift_reveals deep last =
        let i = number_in rows p in
        let r = revealed s rows in
        let T = revealed_singles s rows in
        let j₀ = s - (r + 1) in
        let next : j₀ + 1 ≡ s - r = omega arith in
        let wide : size_of (j₀ + 1) rows ≡ 1 → ⊥ = λ t. T.ends (omega arith) (rw next at t) in
        singles_revealed s (r + 1) (rows_by lift k a i s p rows) (record {
          most = omega arith;
          single = λ j h g. cases (eqb j s)
              (λ e. rw (eqb-true j s e) last)
              (λ e. lift_high j (omega arith) (omega tests) ∙ T.single (j + 1) (omega arith) (omega tests));
          ends = λ h t. cases (leb i j₀)
              (λ f. wide (sym (lift_high j₀ (omega tests) (omega arith)) ∙ t))
              (λ f. let own : j₀ + 1 ≡ i = omega tests in
              wide (omega (
                arith,
                lift_below j₀ h own,
                ap (λ (n : ℕ). size_of n rows) own,
                F.all_present j₀ h (omega arith),
                F.all_present i pos low,
              )));
        })

-- the number of revealed pages after a request
pub revealed_next : (k a s p : ℕ) (rows : List Row) → 1 ≤ a → a ≤ k → FormedRows k a s rows
    → let r = revealed s rows in
    revealed (top_after (rule_in k s p rows) k a s) (rows_after k a s p rows)
    ≡ pick (is_join (rule_in k s p rows)) 1 (pick (ltb (s - r) (number_in rows p)) r (r + 1))
revealed_next k a s p rows pos le F =
    let i = number_in rows p in
    let r = revealed s rows in
    let last = last_single k a s p rows pos le F in
    let low = number_most s p rows F.below in
    let most = F.most in
    cases (eqb i 0)
    (λ e. cases (ltb s k)
    (λ h. let c : ltb (s - r) i ≡ false = omega tests in
    rw (e, h, c) (next_append k a s p rows F (eqb-true i 0 e) (rw (e, h) at last)))
    (λ h. rw (e, h) (next_join k a s p rows F pos le (omega tests) (eqb-true i 0 e) (rw (e, h) at last))))
    (λ e. cases (ltb (s - r) i)
    (λ h. rw (e, h) (lift_revealed k a s p rows F (omega tests) low (omega tests) (rw e at last)))
    (λ h. rw (e, h) (lift_reveals k a s p rows F (omega tests) low (omega tests) (rw e at last))))
