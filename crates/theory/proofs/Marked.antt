-- Cached pages with their marks, by counting: the order in which pages leave, the bundle and what it spares, and what serving a page does to
-- pages and marks.
use Prim.Native.Nat.{ℕ, zero, suc, ◌+◌, ◌≤◌, ◌<◌}
use native.Mathlib.Omega.{arith}
use mathlib.Core.Bool.{Bool, true, false, not}
use mathlib.Core.List.{List, [], ◌∷◌, ◌++◌}
use mathlib.Core.Logic.{◌⊎◌, inl, inr}
use mathlib.Core.Path.{◌≡◌, refl, sym, ap, ◌∙◌}
use lib.Dec.{eqb, ltb}
use lib.ListN.{length, take, drop, take-append-drop, length-map}
use lib.Seq.{length-take-le}
use borrow.Author.Tests.{eqb-true, lt-ltb, not-true}
use Rattle.lists.specs.Choice.{pick, ◌and◌}
use Rattle.lists.specs.Pages.{mem, erase_all, bit, count}
use Rattle.lists.specs.Sorting.{insert_by, sort_by, Least, Sorted}
use Rattle.lists.proofs.Choice.{tests, cases, clash, and_l, and_r, and_i, and_false_l, and_false_r, or_l, same_test, not_i, bit_true, bit_false, eqb_self}
use Rattle.lists.proofs.Pages.{Same, Once, count_append, count_snoc, count_mono, count_by, count_some, mem_of_count, count_absent}
use Rattle.lists.proofs.Pages.{once_erase_all, same_of_members}
use Rattle.lists.proofs.Sorting.{count_insert, count_sort, length_sort, sorted_sort}
use Rattle.paging.specs.Policy.{hit}
use Rattle.paging.specs.Schedule.{held_in_turn}
use Rattle.paging.proofs.Forming.{count_filter, count_over}
use Rattle.marking.specs.Marking.{Cached, cached_at, pages_in, sooner, by_page, cleared, mark_bundle, spared, marked_by}
use Rattle.marking.proofs.Cached.{sooner_order}
use Rattle.theory.proofs.Bundles.{count_taken, counted_held}

-- an entry of page q; one that is marked; and one that is both
abbrev pub is_of : ℕ → Cached → Bool
is_of q x = eqb q x.page

abbrev is_marked : Cached → Bool
is_marked x = ltb 0 x.mark

abbrev pub marked_of : ℕ → Cached → Bool
marked_of q x = is_of q x and is_marked x

-- q is cached and marked
abbrev pub guarded : List Cached → ℕ → Bool
guarded xs q = ltb 0 (count (marked_of q) xs)

-- a test of the pages is one of the entries
pub count_pages : (f : ℕ → Bool) (xs : List Cached) → count f (pages_in xs) ≡ count (λ x. f x.page) xs
count_pages f xs = count_over f (λ x. x.page) xs

-- The order in which pages leave

-- what does not leave before a marked page is marked
marked_behind : (x y : Cached) → is_marked x ≡ true → sooner y x ≡ false → is_marked y ≡ true
unfolding sooner
marked_behind x y m e = cases (ltb y.mark x.mark) (λ h. clash _ (or_l _ _ h) e) (λ h. omega tests)

-- where the first n of a list in order have one that passes, all behind them pass, if what does not go before one that passes does
module _ {A : Type 0} (before : A → A → Bool) (f : A → Bool) (up : (x y : A) → f x ≡ true → before y x ≡ false → f y ≡ true) where
  least_pass : (x : A) (ys : List A) → f x ≡ true → Least before x ys → count (λ y. not (f y)) ys ≡ 0
  least_pass x [] e l = refl
  least_pass x (y ∷ ys) e l = rw (up x y e l.0) (omega (arith, least_pass x ys e l.1))

  count_drop : (n : ℕ) (xs : List A) → count (λ y. not (f y)) (drop n xs) ≤ count (λ y. not (f y)) xs
  count_drop zero xs = omega arith
  count_drop (suc n) [] = omega arith
  count_drop (suc n) (x ∷ xs) = omega (arith, count_drop n xs)

  pass_behind : (n : ℕ) (xs : List A) → Sorted before xs → 0 < count f (take n xs) → count (λ y. not (f y)) (drop n xs) ≡ 0
  pass_behind zero xs s h = absurd (omega arith)
  pass_behind (suc n) [] s h = absurd (omega arith)
  pass_behind (suc n) (x ∷ xs) s h =
      cases (f x)
      (λ e. omega (arith, count_drop n xs, least_pass x xs e s.0))
      (λ e. pass_behind n xs s.1 (omega (arith, bit_false (f x) e)))

-- The bundle

module _ (a : ℕ) (xs : List Cached) where
  -- the cached pages are those of the bundle and the others
  bundle_parts : (f : Cached → Bool) → count f (mark_bundle a xs) + count f (drop a (sort_by sooner xs)) ≡ count f xs
  bundle_parts f =
      let sorted = sort_by sooner xs in
      sym (count_append f (take a sorted) (drop a sorted)) ∙ ap (λ (l : List Cached). count f l) (take-append-drop a sorted) ∙ count_sort sooner f xs

  -- the same of their pages
  bundle_pages : (f : ℕ → Bool) → count f (pages_in (mark_bundle a xs)) + count f (pages_in (drop a (sort_by sooner xs))) ≡ count f (pages_in xs)
  bundle_pages f =
      omega (
        arith,
        bundle_parts (λ x. f x.page),
        count_pages f (mark_bundle a xs),
        count_pages f (drop a (sort_by sooner xs)),
        count_pages f xs,
      )

  -- it has a pages, where so many are cached, and each is cached
  pub bundle_size : a ≤ length xs → length (pages_in (mark_bundle a xs)) ≡ a
  bundle_size h = length-map (mark_bundle a xs) (λ x. x.page) ∙ length-take-le a (sort_by sooner xs) (omega (arith, length_sort sooner xs))

  pub bundle_held : held_in_turn (pages_in (mark_bundle a xs)) (pages_in xs) ≡ true
  bundle_held = counted_held (pages_in (mark_bundle a xs)) (pages_in xs) (λ f. omega (arith, bundle_pages f))

  -- where it has a marked page, each page that stays is marked
  pub bundle_protects : Once (pages_in xs) → (p : ℕ) → mem p (pages_in (mark_bundle a xs)) ≡ true → guarded xs p ≡ true
      → (q : ℕ) → mem q (erase_all (pages_in (mark_bundle a xs)) (pages_in xs)) ≡ true → guarded xs q ≡ true
  bundle_protects once p i g q j =
      let b = mark_bundle a xs in
      let rest = drop a (sort_by sooner xs) in
      let some : 0 < count is_marked b = omega (
        tests,
        once p,
        count_some (eqb p) p (pages_in b) i (eqb_self p),
        bundle_pages (eqb p),
        count_pages (eqb p) rest,
        bundle_parts (marked_of p),
        count_mono (marked_of p) (is_of p) rest (λ x e. and_l _ _ e),
        count_mono (marked_of p) is_marked b (λ x e. and_r _ _ e),
      ) in
      lt-ltb 0 (count (marked_of q) xs) (omega (
        arith,
        pass_behind sooner is_marked marked_behind a (sort_by sooner xs) (sorted_sort sooner sooner_order xs) some,
        bundle_pages (eqb q),
        count_taken (eqb q) (pages_in b) (pages_in xs) bundle_held,
        count_some (eqb q) q (erase_all (pages_in b) (pages_in xs)) j (eqb_self q),
        count_pages (eqb q) rest,
        count_by (is_of q) is_marked rest,
        count_mono (λ x. is_of q x and not (is_marked x)) (λ x. not (is_marked x)) rest (λ x e. and_r _ _ e),
        bundle_parts (marked_of q),
      ))

-- What a bundle spares

module _ (b xs : List Cached) where
  pub spared_count : (f : Cached → Bool) → count f (spared b xs) ≡ count (λ x. f x and not (mem x.page (pages_in b))) xs
  spared_count f = count_filter f (λ x. not (mem x.page (pages_in b))) xs

  -- no entry of a page that the bundle has stays
  pub spared_gone : (q : ℕ) → mem q (pages_in b) ≡ true → count (is_of q) (spared b xs) ≡ 0
  spared_gone q m =
      omega (
        arith,
        spared_count (is_of q),
        count_mono (λ x. is_of q x and not (mem x.page (pages_in b))) (λ x. false) xs
            (λ x e. let same : mem q (pages_in b) ≡ mem x.page (pages_in b) = ap (λ (r : ℕ). mem r (pages_in b)) (eqb-true _ _ (and_l _ _ e)) in
            clash (mem x.page (pages_in b)) (sym same ∙ m) (not-true _ (and_r _ _ e))),
        none xs,
      )
    where
      none : (ys : List Cached) → count (λ y. false) ys ≡ 0
      none [] = refl
      none (y ∷ ys) = omega (arith, none ys)

  -- entries of a page that the bundle does not have stay
  pub spared_kept : (q : ℕ) (f : Cached → Bool) → ((x : Cached) → f x ≡ true → is_of q x ≡ true) → mem q (pages_in b) ≡ false → count f (spared b xs) ≡ count f xs
  spared_kept q f of m =
      omega (
        arith,
        spared_count f,
        count_mono (λ x. f x and not (mem x.page (pages_in b))) f xs (λ x e. and_l _ _ e),
        count_mono f (λ x. f x and not (mem x.page (pages_in b))) xs
            (λ x e. and_i _ _ e (not_i _ (ap (λ (r : ℕ). mem r (pages_in b)) (sym (eqb-true q x.page (of x e))) ∙ m))),
      )

  -- the pages are those left when the bundle's pages are taken out one by one, where no page stands twice
  pub spared_same : held_in_turn (pages_in b) (pages_in xs) ≡ true → Once (pages_in xs) → Same (pages_in (spared b xs)) (erase_all (pages_in b) (pages_in xs))
  spared_same held once =
      same_of_members (pages_in (spared b xs)) left
      (λ q. omega (arith, one q, once_left q))
      once_left
      (λ q. same_test _ _
      (λ m. mem_of_count q left (omega (arith, one q, count_some (eqb q) q (pages_in (spared b xs)) m (eqb_self q))))
      (λ m. mem_of_count q (pages_in (spared b xs)) (omega (arith, one q, count_some (eqb q) q left m (eqb_self q)))))
    where
      left : List ℕ
      left = erase_all (pages_in b) (pages_in xs)

      once_left : Once left
      once_left = once_erase_all (pages_in b) (pages_in xs) once

      one : (q : ℕ) → count (eqb q) (pages_in (spared b xs)) ≡ count (eqb q) left
      one q =
          let all = count_taken (eqb q) (pages_in b) (pages_in xs) held in
          let kept = count_pages (eqb q) (spared b xs) in
          cases (mem q (pages_in b))
          (λ m. omega (arith, once q, spared_gone q m, count_some (eqb q) q (pages_in b) m (eqb_self q)))
          (λ m. omega (arith, count_pages (eqb q) xs, spared_kept q (is_of q) (λ x e. e) m, count_absent q (pages_in b) m))

-- What serving a page does to pages and marks

-- clearing leaves no mark
pub clear_marks : (q : ℕ) (xs : List Cached) → guarded (cleared true xs) q ≡ false
clear_marks q xs = let z = none xs in omega tests
  where
    none : (ys : List Cached) → count (marked_of q) (cleared true ys) ≡ 0
    none [] = refl
    none (y ∷ ys) = omega (arith, none ys, bit_false (is_of q y and false) (and_false_r (is_of q y) false refl))

-- p put among the pages: it comes to them
pub put_same : (p n : ℕ) (xs : List Cached) (left : List ℕ) → Same (pages_in xs) left → Same (pages_in (insert_by by_page (cached_at p 1 n) xs)) (left ++ (p ∷ []))
put_same p n xs left same f =
    omega (
      arith,
      count_pages f (insert_by by_page (cached_at p 1 n) xs),
      count_insert by_page (λ x. f x.page) (cached_at p 1 n) xs,
      count_pages f xs,
      same f,
      count_snoc f left p,
    )

module _ (p n : ℕ) (xs : List Cached) where
  -- it marks p, keeps the other marks, and makes no other
  put_count : (q : ℕ) → count (marked_of q) (insert_by by_page (cached_at p 1 n) xs) ≡ bit (eqb q p and true) + count (marked_of q) xs
  put_count q = count_insert by_page (marked_of q) (cached_at p 1 n) xs

  pub put_marks : guarded (insert_by by_page (cached_at p 1 n) xs) p ≡ true
  put_marks = lt-ltb 0 (count (marked_of p) (insert_by by_page (cached_at p 1 n) xs)) (omega (arith, put_count p, bit_true (eqb p p and true) (and_i _ _ (eqb_self p) refl)))

  pub put_keeps : (q : ℕ) → guarded xs q ≡ true → guarded (insert_by by_page (cached_at p 1 n) xs) q ≡ true
  put_keeps q g = let c = put_count q in omega tests

  pub put_only : (q : ℕ) → guarded (insert_by by_page (cached_at p 1 n) xs) q ≡ true → (guarded xs q ≡ true) ⊎ (q ≡ p)
  put_only q g =
      cases (eqb q p)
      (λ e. inr (eqb-true q p e))
      (λ e. let c = put_count q in let z = bit_false (eqb q p and true) (and_false_l _ _ e) in inl (omega tests))

  -- so does a hit
  hit_count : (q : ℕ)
      → count (marked_of q) (marked_by hit 0 p n xs)
      ≡ count (λ x. marked_of q (pick (eqb x.page p) (cached_at p 1 n) x)) xs
  hit_count q = count_over (marked_of q) (λ x. pick (eqb x.page p) (cached_at p 1 n) x) xs

  pub hit_keeps : (q : ℕ) → guarded xs q ≡ true → guarded (marked_by hit 0 p n xs) q ≡ true
  hit_keeps q g =
      let c = hit_count q in
      let more = count_mono (marked_of q)
      (λ x. marked_of q (pick (eqb x.page p) (cached_at p 1 n) x)) xs
      (λ x e. cases (eqb x.page p)
      (λ h. rw h (and_i _ _ (rw (← eqb-true x.page p h) (and_l _ _ e)) refl))
      (λ h. rw h e)) in
      omega tests

  pub hit_only : (q : ℕ) → guarded (marked_by hit 0 p n xs) q ≡ true → (guarded xs q ≡ true) ⊎ (q ≡ p)
  hit_only q g =
      cases (eqb q p)
      (λ e. inr (eqb-true q p e))
      (λ e. let c = hit_count q in
      let less = count_mono (λ x. marked_of q (pick (eqb x.page p) (cached_at p 1 n) x))
      (marked_of q) xs
      (λ x t. cases (eqb x.page p)
      (λ h. let u : eqb q p and true ≡ true = rw h at t in clash _ (and_l _ _ u) e)
      (λ h. rw h at t)) in
      inl (omega tests))
