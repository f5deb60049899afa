-- Pages never requested again leave by age: the pages held stand from the least to the most recently requested, for every rule, so that MIN's stable
-- sort orders them by their last requests; and by number there would be as many bundles and loads.
use Prim.Native.Nat.{ℕ, suc, ◌+◌, ◌≤◌, ◌<◌}
use native.Mathlib.Omega.{arith}
use mathlib.Core.Bool.{Bool, true, false, not}
use mathlib.Core.List.{List, [], ◌∷◌, ◌++◌, append_assoc, append-nil}
use mathlib.Core.Path.{◌≡◌, refl, sym, ap, ◌∙◌}
use lib.Dec.{eqb, ltb}
use lib.ListN.{length, take}
use lib.Seq.{take-length}
use borrow.Author.Tests.{lt-ltb}
use Rattle.lists.specs.Choice.{pick, ◌and◌, ◌or◌}
use Rattle.lists.specs.Pages.{mem, erase_all, without}
use Rattle.lists.specs.Places.{place}
use Rattle.lists.specs.Sorting.{sort_by, Sorted}
use Rattle.lists.proofs.Choice.{tests, cases, clash}
use Rattle.lists.proofs.Pages.{mem_snoc, mem_there, mem_same, without_gone}
use Rattle.lists.proofs.Sorting.{Order, count_sort, sorted_sort}
use Rattle.lists.proofs.Stable.{sort_same, sorted_erase_all, sorted_without, sorted_snoc, sorted_places}
use Rattle.paging.specs.Min.{next_use, farther, min_rule}
use Rattle.paging.specs.Policy.{Rule, is_bundled, kind_of, serve, holds, bundles}
use Rattle.paging.specs.Same.{same_pages, every, shift}
use Rattle.paging.specs.Schedule.{ev}
use Rattle.paging.specs.declared.Keeping.TheVariants.{ByRequest}
use Rattle.paging.proofs.Runs.{bundles_append}
use Rattle.theory.specs.Age.{last_use, leaves_before, min_holds, min_bundle, by_number_rule, LeavesByAge}
use Rattle.theory.specs.Farthest.{Farthest}
use Rattle.theory.proofs.Best.{farthest_kinds_agree, farthest_counts_agree, farthest_loads_agree}
use Rattle.theory.proofs.Bundles.{by_kind, absent_after, not_absent, near_use}
use Rattle.theory.proofs.Orders.{farthest_by_rank}

-- The definitions computed: the shift of document 01 before its request 6, where page 6 is requested and only page 1 follows. Of the pages held, 4, 2 and 5,
-- none is requested again; 2 was loaded before 4, but requested again since. By number 2 would go before 4
examples : List Bool
examples =
    same_pages (min_holds 3 2 (take 6 shift) 6 (1 ∷ [])) (4 ∷ 2 ∷ 5 ∷ [])
    ∷ eqb (last_use 4 (take 6 shift)) 4
    ∷ eqb (last_use 2 (take 6 shift)) 5
    ∷ eqb (last_use 5 (take 6 shift)) 6
    ∷ eqb (last_use 7 (take 6 shift)) 0
    ∷ leaves_before (take 6 shift) (1 ∷ []) 4 2
    ∷ not (leaves_before (take 6 shift) (1 ∷ []) 2 4)
    ∷ same_pages (min_bundle 3 2 (take 6 shift) 6 (1 ∷ [])) (4 ∷ 2 ∷ [])
    ∷ same_pages (by_number_rule 2 (1 ∷ []) (4 ∷ 2 ∷ 5 ∷ [])) (2 ∷ 4 ∷ [])
    -- a page requested again comes behind every other, and the farther before the nearer
    ∷ leaves_before (1 ∷ 2 ∷ 3 ∷ []) (1 ∷ 2 ∷ []) 3 1
    ∷ leaves_before (1 ∷ 2 ∷ 3 ∷ []) (1 ∷ 2 ∷ []) 2 1
    ∷ not (leaves_before (1 ∷ 2 ∷ 3 ∷ []) (1 ∷ 2 ∷ []) 2 3)
    ∷ []

examples_hold : every examples ≡ true
unfolding every examples same_pages ◌and◌ ◌or◌ farther
examples_hold = refl

-- Last requests

last_most : (p : ℕ) (past : List ℕ) → last_use p past ≤ length past
last_most p [] = omega arith
last_most p (q ∷ qs) =
    let h = last_most p qs in
    cases (mem p (q ∷ qs)) (λ e. rw e (omega arith)) (λ e. rw e (omega arith))

last_now : (p : ℕ) (past : List ℕ) → last_use p (past ++ (p ∷ [])) ≡ suc (length past)
last_now p [] = rw (mem_snoc p [])
last_now p (q ∷ qs) = rw (mem_there p q (qs ++ (p ∷ [])) (mem_snoc p qs), last_now p qs)

-- the request of p is none of q
mem_other : (p q : ℕ) (xs : List ℕ) → eqb q p ≡ false → mem q (xs ++ (p ∷ [])) ≡ mem q xs
unfolding ◌or◌
mem_other p q [] e = rw e
mem_other p q (x ∷ xs) e = rw (mem_other p q xs e)

last_other : (p q : ℕ) (past : List ℕ) → eqb q p ≡ false → last_use q (past ++ (p ∷ [])) ≡ last_use q past
last_other p q [] e = rw (mem_other p q [] e)
last_other p q (x ∷ xs) e = rw (mem_other p q (x ∷ xs) e, last_other p q xs e)

-- The pages held stand by age

-- x was requested less recently than y
abbrev older : (past : List ℕ) → (x y : ℕ) → Bool
older past x y = ltb (last_use x past) (last_use y past)

-- p is requested, and is the last from now on
page_ages : (past : List ℕ) (p : ℕ) (stays : List ℕ) → mem p stays ≡ false → Sorted (older past) stays
    → Sorted (older (past ++ (p ∷ []))) (stays ++ (p ∷ []))
page_ages past p stays absent s =
    sorted_snoc (older past) (older (past ++ (p ∷ []))) p stays
    (λ x y m n e. rw (last_other p x past (not_absent p stays absent x m), last_other p y past (not_absent p stays absent y n)) e)
    (λ x m. rw (last_now p past, last_other p x past (not_absent p stays absent x m)) (let h = last_most x past in omega tests))
    s

module _ (rule : Rule) (k : ℕ) where
  served_by_age : (past : List ℕ) (p : ℕ) (later held : List ℕ) → Sorted (older past) held
      → Sorted (older (past ++ (p ∷ []))) (serve rule k p later held)
  served_by_age past p later held s =
      by_kind (λ kind after. Sorted (older (past ++ (p ∷ []))) after) rule k p later held
      (λ m. page_ages past p (without p held) (without_gone p held) (sorted_without (older past) p held s))
      (λ m l. page_ages past p held m s)
      (λ m l. page_ages past p (erase_all (rule later held) held) (absent_after p (rule later held) held m)
      (sorted_erase_all (older past) (rule later held) held s))

  held_by_age_from : (past trace later held : List ℕ) → Sorted (older past) held → Sorted (older (past ++ trace)) (holds rule k trace later held)
  held_by_age_from past [] later held s = rw (append-nil past) s
  held_by_age_from past (p ∷ ps) later held s =
      let rest = held_by_age_from (past ++ (p ∷ [])) ps later (serve rule k p (ps ++ later) held) (served_by_age past p (ps ++ later) held s) in
      rw (sym (append_assoc past (p ∷ []) ps)) rest

  -- for every rule, LRU's and MIN's alike
  pub held_by_age : (trace later : List ℕ) → Sorted (older trace) (holds rule k trace later [])
  held_by_age trace later = held_by_age_from [] trace later [] tt

-- The order of request 07

again : (p : ℕ) (later : List ℕ) → mem p later ≡ true → next_use p later < length later
again p later m = (near_use p (length later) later (rw (take-length later) m)).1

never_again : (p : ℕ) (later : List ℕ) → mem p later ≡ false → next_use p later ≡ length later
unfolding ◌or◌
never_again p [] m = refl
never_again p (q ∷ qs) m =
    cases (eqb p q) (λ e. clash _ (rw e) m) (λ e. rw (e, never_again p qs (rw e at m)))

module _ (past later : List ℕ) where
  -- it is an order: by whether the pages are requested again, and then by one number or the other
  leaves_order : Order (leaves_before past later)
  leaves_order = record { one_way = one_way; onward = onward }
    where
      one_way : (p q : ℕ) → leaves_before past later p q ≡ true → leaves_before past later q p ≡ false
      one_way p q e =
          cases (mem p later)
          (λ x. cases (mem q later) (λ y. let f = rw (x, y) at e in rw (x, y) (omega tests)) (λ y. let f = rw (x, y) at e in clash false f refl))
          (λ x. cases (mem q later) (λ y. rw (x, y)) (λ y. let f = rw (x, y) at e in rw (x, y) (omega tests)))

      onward : (p q r : ℕ) → leaves_before past later q p ≡ false → leaves_before past later r q ≡ false → leaves_before past later r p ≡ false
      onward p q r e f =
          cases (mem p later)
          (λ x. cases (mem q later)
          (λ y. cases (mem r later)
          (λ z. let g = rw (x, y) at e in let h = rw (y, z) at f in rw (x, z) (omega tests))
          (λ z. let h = rw (y, z) at f in clash true refl h))
          (λ y. let g = rw (x, y) at e in clash true refl g))
          (λ x. cases (mem q later)
          (λ y. cases (mem r later) (λ z. rw (x, z)) (λ z. let h = rw (y, z) at f in clash true refl h))
          (λ y. cases (mem r later)
          (λ z. rw (x, z))
          (λ z. let g = rw (x, y) at e in let h = rw (y, z) at f in rw (x, z) (omega tests))))

  -- of a page and one that was requested no earlier, the test is MIN's
  farther_is : (x y : ℕ) → older past y x ≡ false → farther later y x ≡ leaves_before past later y x
  unfolding farther
  farther_is x y e =
      cases (mem y later)
      (λ m. cases (mem x later)
      (λ n. rw (m, n))
      (λ n. rw (m, n) (let h = again y later m in let g = never_again x later n in omega tests)))
      (λ m. cases (mem x later)
      (λ n. rw (m, n) (let h = again x later n in let g = never_again y later m in omega tests))
      (λ n. rw (m, n, e, never_again x later n, never_again y later m) (omega tests)))

-- MIN along a trace

module _ (k a : ℕ) where
  sorted_by_age : (past : List ℕ) (present : ℕ) (later : List ℕ)
      → sort_by (farther later) (min_holds k a past present later) ≡ sort_by (leaves_before past later) (min_holds k a past present later)
  sorted_by_age past present later =
      sort_same (older past) (farther later) (leaves_before past later) (farther_is past later)
      (min_holds k a past present later) (held_by_age (min_rule a) k past (present ∷ later))

  first_stands : (past : List ℕ) (present : ℕ) (later : List ℕ) (p q : ℕ) → leaves_before past later p q ≡ true
      → mem p (min_holds k a past present later) ≡ true → mem q (min_bundle k a past present later) ≡ true
      → place p (min_bundle k a past present later) < place q (min_bundle k a past present later)
  first_stands past present later p q e m i =
      let before = leaves_before past later in
      let held = min_holds k a past present later in
      let same = sorted_by_age past present later in
      let there : mem p (sort_by before held) ≡ true = mem_same (sort_by before held) held (λ f. count_sort before f held) p ∙ m in
      rw same (sorted_places before (leaves_order past later) p q e a (sort_by before held) (sorted_sort before (leaves_order past later) held) there (rw same at i))

  entry_stands : (past : List ℕ) (present : ℕ) (later : List ℕ)
      → let held = min_holds k a past present later in
      let behind = bundles (min_rule a) k (suc (length past)) later [] (serve (min_rule a) k present later held) in
      bundles (min_rule a) k 0 (past ++ (present ∷ later)) [] []
      ≡ bundles (min_rule a) k 0 past (present ∷ later) []
      ++ pick (is_bundled (kind_of k present held)) (ev (length past) (min_bundle k a past present later) ∷ behind) behind
  entry_stands past present later =
      let e : 0 + length past ≡ length past = omega arith in
      let whole = bundles_append ByRequest (min_rule a) k 0 past (present ∷ later) [] [] in
      rw (append-nil later, e) at whole

  pub leaves_by_age : 1 ≤ a → a ≤ k → LeavesByAge k a
  leaves_by_age pos le =
      let F : Farthest a (by_number_rule a) = farthest_by_rank a (λ later held p. p) in
      record {
        bundle_in_full = λ past present later. ap (take a) (sorted_by_age past present later);
        bundle_in_schedule = entry_stands;
        goes_first = first_stands;
        older_goes_first = λ past present later p q m n older.
            first_stands past present later p q (rw (m, n) (lt-ltb (last_use p past) (last_use q past) older));
        same_kinds = farthest_kinds_agree k a pos le (by_number_rule a) F;
        same_bundles = λ trace. farthest_counts_agree k a pos le (by_number_rule a) F trace [];
        same_loads = λ trace. farthest_loads_agree k a pos le (by_number_rule a) F trace [];
      }
