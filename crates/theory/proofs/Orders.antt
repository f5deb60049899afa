-- Rules that take farthest pages: the first a in any order in which no farther page comes behind a nearer one. MIN's rule is one of them, and so
-- are those that order pages which tie by a rank, whatever the rank.
use Prim.Native.Nat.{ℕ, ◌+◌, ◌≤◌}
use native.Mathlib.Omega.{arith}
use mathlib.Core.Bool.{Bool, true, false}
use mathlib.Core.List.{List}
use mathlib.Core.Path.{◌≡◌, sym, ap, ◌∙◌}
use lib.Dec.{eqb, ltb}
use lib.ListN.{take, drop, take-append-drop}
use lib.Seq.{length-take-le}
use Rattle.lists.specs.Choice.{◌and◌, ◌or◌}
use Rattle.lists.specs.Pages.{mem, erase_all, count}
use Rattle.lists.specs.Sorting.{sort_by}
use Rattle.lists.proofs.Choice.{tests, cases, clash, or_l, eqb_self, eqb_sym}
use Rattle.lists.proofs.Pages.{count_append, count_some, mem_of_count}
use Rattle.lists.proofs.Sorting.{Order, count_sort, length_sort, sorted_sort, take_before, by_then, falling, falling_order, falling_ties, order_then}
use Rattle.paging.specs.Min.{next_use, farther, min_rule}
use Rattle.paging.specs.Schedule.{held_in_turn}
use Rattle.theory.specs.Farthest.{Farthest}
use Rattle.theory.proofs.Bundles.{count_taken, counted_held}

-- p goes before q: its use is farther, or the uses tie and its rank is lower
abbrev pub farther_by : (use' rank : ℕ → ℕ) → (p q : ℕ) → Bool
farther_by use' rank p q = ltb (use' q) (use' p) or (eqb (use' q) (use' p) and ltb (rank p) (rank q))

module _ (use' rank : ℕ → ℕ) where
  -- it is an order by falling use, then by rising rank
  farther_by_is : (p q : ℕ) → farther_by use' rank p q ≡ by_then falling use' (λ x y. ltb (rank x) (rank y)) p q
  farther_by_is p q = rw (eqb_sym (use' q) (use' p))

  pub farther_by_order : Order (farther_by use' rank)
  farther_by_order =
      let o = order_then falling use' (λ x y. ltb (rank x) (rank y)) falling_order falling_ties
      (record { one_way = λ x y e. omega tests; onward = λ x y z e f. omega tests }) in
      record {
        one_way = λ p q e. farther_by_is q p ∙ o.one_way p q (sym (farther_by_is p q) ∙ e);
        onward = λ p q r e f. farther_by_is r p ∙ o.onward p q r (sym (farther_by_is q p) ∙ e) (sym (farther_by_is r q) ∙ f);
      }

  pub farther_by_far : (p q : ℕ) → farther_by use' rank q p ≡ false → use' q ≤ use' p
  farther_by_far p q e =
      cases (ltb (use' p) (use' q)) (λ h. clash _ (or_l _ _ h) e) (λ h. omega tests)

-- The first a pages held in some order

module _ (a : ℕ) (before : ℕ → ℕ → Bool) (held : List ℕ) where
  -- they and the others are the pages held
  pub first_parts : (f : ℕ → Bool) → count f (take a (sort_by before held)) + count f (drop a (sort_by before held)) ≡ count f held
  first_parts f =
      let sorted = sort_by before held in
      sym (count_append f (take a sorted) (drop a sorted)) ∙ ap (λ (l : List ℕ). count f l) (take-append-drop a sorted) ∙ count_sort before f held

  pub first_held : held_in_turn (take a (sort_by before held)) held ≡ true
  first_held = counted_held (take a (sort_by before held)) held (λ f. omega (arith, first_parts f))

  -- a page that stays is one of the others
  pub first_stays : (q : ℕ) → mem q (erase_all (take a (sort_by before held)) held) ≡ true → mem q (drop a (sort_by before held)) ≡ true
  first_stays q j =
      let b = take a (sort_by before held) in
      mem_of_count q (drop a (sort_by before held))
      (omega (arith, first_parts (eqb q), count_taken (eqb q) b held first_held, count_some (eqb q) q (erase_all b held) j (eqb_self q)))

-- the first a pages in an order, which may look at what is to come and at the pages held, in which no farther page comes behind a nearer one
pub first_are_farthest : (a : ℕ) (before : (later held : List ℕ) → ℕ → ℕ → Bool) → ((later held : List ℕ) → Order (before later held))
    → ((later held : List ℕ) (p q : ℕ) → before later held q p ≡ false → next_use q later ≤ next_use p later)
    → Farthest a (λ later held. take a (sort_by (before later held) held))
first_are_farthest a before order nearer =
    record {
      size = λ later held h. length-take-le a (sort_by (before later held) held) (omega (arith, length_sort (before later held) held));
      in_hand = λ later held h. first_held a (before later held) held;
      far = λ later held h p q i j. nearer later held p q
          (take_before (before later held) a (sort_by (before later held) held) (sorted_sort (before later held) (order later held) held) p q i
          (first_stays a (before later held) held q j));
    }

-- farther pages first, ties by any rank, which may look at what is to come and at the pages held
pub farthest_by_rank : (a : ℕ) (rank : (later held : List ℕ) → ℕ → ℕ)
    → Farthest a (λ later held. take a (sort_by (farther_by (λ p. next_use p later) (rank later held)) held))
farthest_by_rank a rank =
    first_are_farthest a (λ later held. farther_by (λ p. next_use p later) (rank later held))
    (λ later held. farther_by_order (λ p. next_use p later) (rank later held))
    (λ later held. farther_by_far (λ p. next_use p later) (rank later held))

-- MIN's order: pages that tie stay as they are held
pub farther_order : (later : List ℕ) → Order (farther later)
unfolding farther
farther_order later = record { one_way = λ p q e. omega tests; onward = λ p q r e f. omega tests }

pub min_rule_is_farthest : (a : ℕ) → Farthest a (min_rule a)
unfolding farther
min_rule_is_farthest a = first_are_farthest a (λ later held. farther later) (λ later held. farther_order later) (λ later held p q e. omega tests)
