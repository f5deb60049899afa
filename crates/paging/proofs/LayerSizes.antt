-- How large the layers are after a request, by their sizes before it: a layer below the last has the pages of the layers whose numbers come to be its
-- number, without the requested page.
use Prim.Native.Nat.{ℕ, ◌+◌, ◌≤◌, ◌<◌}
use native.Mathlib.Omega.{arith}
use mathlib.Core.Bool.{Bool, true, false, not}
use mathlib.Core.List.{List}
use mathlib.Core.Logic.{◌⊎◌, inl, inr}
use mathlib.Core.Path.{◌≡◌, refl, sym, ◌∙◌}
use lib.Dec.{eqb}
use borrow.Author.Tests.{eqb-true, eq-eqb, ne_eqb, lt-ltb}
use Rattle.lists.specs.Choice.{◌and◌, ◌or◌}
use Rattle.lists.specs.Pages.{bit, count}
use Rattle.lists.specs.Sorting.{Row}
use Rattle.lists.proofs.Choice.{tests, split, and_l, and_r, and_i, or_split, not_i, bit_false}
use Rattle.lists.proofs.Pages.{count_sum, count_mono, count_cover, count_by}
use Rattle.paging.specs.Layers.{LayerRule, renumbered, top_after}
use Rattle.paging.specs.Table.{number_in, rows_by, size_of}
use Rattle.paging.proofs.Forming.{stays, after_count, own_row, own_only}

-- how many pages other than p layer m has
abbrev pub others_in : (p m : ℕ) → List Row → ℕ
others_in p m rows = count (λ row. eqb row.number m and not (eqb row.page p)) rows

module _ (p : ℕ) (rows : List Row) (once : count (λ row. eqb row.page p) rows ≤ 1) where
  -- all of them where p is in another layer, and all but one where p is in it
  pub others_elsewhere : (m : ℕ) → (m ≡ number_in rows p → ⊥) → others_in p m rows ≡ size_of m rows
  others_elsewhere m other =
      let i = number_in rows p in
      omega (
        arith,
        own_only p rows once,
        count_by (λ row. eqb row.number m) (λ row. eqb row.page p) rows,
        count_mono (λ row. eqb row.number m and eqb row.page p) (λ row. eqb row.page p and not (eqb row.number i)) rows
            (λ row t. and_i _ _ (and_r _ _ t) (not_i _ (ne_eqb _ _ (λ g. other (sym (eqb-true _ _ (and_l _ _ t)) ∙ g))))),
      )

  pub others_own : 0 < number_in rows p → others_in p (number_in rows p) rows + 1 ≡ size_of (number_in rows p) rows
  others_own pos =
      let i = number_in rows p in
      omega (
        arith,
        once,
        own_row p i rows refl pos,
        count_by (λ row. eqb row.number i) (λ row. eqb row.page p) rows,
        count_mono (λ row. eqb row.number i and eqb row.page p) (λ row. eqb row.page p) rows (λ row t. and_r _ _ t),
      )

-- Layer j after the request, below the last

module _ (rule : LayerRule) (k a s p j : ℕ) (rows : List Row) (pos : 0 < j) (low : j < top_after rule k a s) where
  size_is : size_of j (rows_by rule k a (number_in rows p) s p rows) ≡ count (stays rule k a (number_in rows p) p (λ row. eqb row.number j)) rows
  size_is =
      omega (
        arith,
        after_count rule k a (number_in rows p) s p (λ row. eqb row.number j) rows,
        bit_false (eqb (top_after rule k a s) j) (omega tests),
      )

  -- a row of another page whose number comes to be j
  comes : (row : Row) → renumbered rule k a (number_in rows p) row.number ≡ j → not (eqb row.page p) ≡ true
      → stays rule k a (number_in rows p) p (λ row. eqb row.number j) row ≡ true
  comes row to other = and_i _ _ (and_i _ _ (eq-eqb _ _ to) (lt-ltb 0 (renumbered rule k a (number_in rows p) row.number) (omega arith))) other

  -- one layer becomes it
  pub size_from_one : (m : ℕ) → ((n : ℕ) → renumbered rule k a (number_in rows p) n ≡ j → n ≡ m) → renumbered rule k a (number_in rows p) m ≡ j
      → size_of j (rows_by rule k a (number_in rows p) s p rows) ≡ others_in p m rows
  size_from_one m only to =
      let i = number_in rows p in
      omega (
        arith,
        size_is,
        count_mono (stays rule k a i p (λ row. eqb row.number j)) (λ row. eqb row.number m and not (eqb row.page p)) rows
            (λ row t. and_i _ _ (eq-eqb _ _ (only row.number (eqb-true _ _ (and_l _ _ (and_l _ _ t))))) (and_r _ _ t)),
        count_mono (λ row. eqb row.number m and not (eqb row.page p)) (stays rule k a i p (λ row. eqb row.number j)) rows
            (λ row t. comes row (rw (eqb-true row.number m (and_l _ _ t)) to) (and_r _ _ t)),
      )

  -- two layers come to it, and it has the pages of both at least
  pub size_from_two : (m n : ℕ) → (m ≡ n → ⊥) → renumbered rule k a (number_in rows p) m ≡ j → renumbered rule k a (number_in rows p) n ≡ j
      → others_in p m rows + others_in p n rows ≤ size_of j (rows_by rule k a (number_in rows p) s p rows)
  size_from_two m n differ from-m from-n =
      let i = number_in rows p in
      let both : Row → Bool = λ row. (eqb row.number m or eqb row.number n) and not (eqb row.page p) in
      omega (
        arith,
        size_is,
        count_sum both (λ row. eqb row.number m and not (eqb row.page p)) (λ row. eqb row.number n and not (eqb row.page p)) rows
            (λ row. apart (eqb row.number m) (eqb row.number n) (not (eqb row.page p))
            (λ d e. differ (sym (eqb-true _ _ d) ∙ eqb-true _ _ e))),
        count_mono both (stays rule k a i p (λ row. eqb row.number j)) rows
            (λ row t. comes row (split (or_split _ _ (and_l _ _ t))
            (λ d. rw (eqb-true row.number m d) from-m)
            (λ d. rw (eqb-true row.number n d) from-n)) (and_r _ _ t)),
      )
    where
      apart : (b c d : Bool) → (b ≡ true → c ≡ true → ⊥) → bit ((b or c) and d) ≡ bit (b and d) + bit (c and d)
      apart true true d no_both = absurd (no_both refl refl)
      apart true false d no_both = unfold ◌and◌ ◌or◌ in omega arith
      apart false true d no_both = unfold ◌and◌ ◌or◌ in omega arith
      apart false false d no_both = unfold ◌and◌ ◌or◌ in refl

  -- no other layer comes to it, and it has no more
  pub size_most_two : (m n : ℕ) → ((x : ℕ) → renumbered rule k a (number_in rows p) x ≡ j → (x ≡ m) ⊎ (x ≡ n))
      → size_of j (rows_by rule k a (number_in rows p) s p rows) ≤ others_in p m rows + others_in p n rows
  size_most_two m n only =
      let i = number_in rows p in
      omega (
        arith,
        size_is,
        count_cover (stays rule k a i p (λ row. eqb row.number j))
            (λ row. eqb row.number m and not (eqb row.page p)) (λ row. eqb row.number n and not (eqb row.page p)) rows
            (λ row t. split (only row.number (eqb-true _ _ (and_l _ _ (and_l _ _ t))))
            (λ d. inl (and_i _ _ (eq-eqb _ _ d) (and_r _ _ t)))
            (λ d. inr (and_i _ _ (eq-eqb _ _ d) (and_r _ _ t)))),
      )
