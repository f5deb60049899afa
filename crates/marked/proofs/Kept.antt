-- What a request keeps, for whoever makes one after another: pages that rise, marks of 0 and 1, at most k pages, and lists that are ready again.
use Prim.Native.Nat.{ℕ, ◌+◌, ◌-◌, ◌≤◌, ◌<◌}
use native.Mathlib.Omega.{arith}
use mathlib.Core.Bool.{Bool, true, false, not}
use mathlib.Core.List.{List, [], ◌∷◌, ◌++◌, map, append_assoc}
use mathlib.Core.Path.{◌≡◌, refl, sym, ap, ◌∙◌}
use lib.Dec.{eqb, ltb}
use lib.ListN.{length, take, drop, replicate, length-map, take-append-drop}
use lib.Seq.{length-take-le, take_at}
use borrow.Author.Tests.{ltb-true, ltb-false, le-leb}
use Rattle.lists.specs.Choice.{pick}
use Rattle.lists.specs.Pages.{mem, distinct, count, filter}
use Rattle.lists.specs.Places.{laid}
use Rattle.lists.specs.Sorting.{insert_by, sort_by}
use Rattle.lists.proofs.Choice.{cases, clash, and_l, and_r, and_i, bit_true}
use Rattle.lists.proofs.Laid.{length_laid}
use Rattle.lists.proofs.Pages.{count_append, count_not, mem_here, mem_there}
use Rattle.lists.proofs.Sorting.{length_insert, length_sort, count_sort}
use Rattle.marking.specs.Marking.{Cached, cached_at, pages_in, marks_in, priorities_in, sooner, by_page, cleared, mark_bundle, spared, mark_served}
use Rattle.marking.specs.Lists.{cached_in, rising, all_marks}
use Rattle.marking.proofs.Cached.{hit_pages, cleared_pages, cleared_length}
use Rattle.leaving.proofs.Cached.{cached_back, pages_in_lem, length_cached}
use Rattle.leaving.proofs.Taken.{length_filter}
use Rattle.marked.specs.Buffer.{BufferReady, ServedTo}
use Rattle.marked.specs.declared.Served.{Served}
use Rattle.marked.proofs.Requests.{ready_roomy}
use Rattle.marked.proofs.Rising.{rising_distinct, rising_filter, rising_insert, mem_filter}

-- no page stands twice among pages that rise
pub rises_distinct : (pages : List ℕ) → rising pages ≡ true → distinct pages ≡ true
rises_distinct pages r = rising_distinct pages r

-- A property of what is left, shown for each kind of request

served_by : (P : List Cached → Type 0) (k a : ℕ) (clear : Bool) (p n : ℕ) (xs : List Cached)
    → P (map (λ x. pick (eqb x.page p) (cached_at p 1 n) x) (cleared clear xs))
    → (mem p (pages_in xs) ≡ false → length xs < k → P (insert_by by_page (cached_at p 1 n) (cleared clear xs)))
    → (mem p (pages_in xs) ≡ false → k ≤ length xs → P (insert_by by_page (cached_at p 1 n) (spared (mark_bundle a (cleared clear xs)) (cleared clear xs))))
    → P (mark_served k a clear p n xs)
served_by P k a clear p n xs x y z =
    cases (mem p (pages_in xs))
    (λ m. rw m x)
    (λ m. cases (ltb (length (pages_in xs)) k)
    (λ l. let h : length (pages_in xs) < k = ltb-true _ _ l in rw (m, l) (y m (omega (arith, long))))
    (λ l. let h : k ≤ length (pages_in xs) = ltb-false _ _ l in rw (m, l) (z m (omega (arith, long)))))
  where
    long : length (pages_in xs) ≡ length xs
    long = length-map xs (λ (x : Cached). x.page)

-- Pages rise

pub served_rises : (k a : ℕ) (clear : Bool) (p n : ℕ) (xs : List Cached) → rising (pages_in xs) ≡ true
    → rising (pages_in (mark_served k a clear p n xs)) ≡ true
served_rises k a clear p n xs r =
    let zs = cleared clear xs in
    let same = cleared_pages clear xs in
    let up : rising (pages_in zs) ≡ true = rw same r in
    let f : Cached → Bool = λ x. not (mem x.page (pages_in (mark_bundle a zs))) in
    served_by (λ ys. rising (pages_in ys) ≡ true) k a clear p n xs
    (rw (hit_pages p n zs) up)
    (λ m h. rising_insert (cached_at p 1 n) zs up (rw same m))
    (λ m h. rising_insert (cached_at p 1 n) (filter f zs) (rising_filter f zs up)
    (cases (mem p (pages_in (filter f zs))) (λ i. clash _ (rw same at (mem_filter f p zs i)) m) (λ i. i)))

-- Marks are 0 or 1

marks_cleared : (clear : Bool) (xs : List Cached) → all_marks (marks_in xs) ≡ true → all_marks (marks_in (cleared clear xs)) ≡ true
marks_cleared false xs e = e
marks_cleared true [] e = e
marks_cleared true (x ∷ xs) e = and_i _ _ (le-leb 0 1 (omega arith)) (marks_cleared true xs (and_r _ _ e))

marks_hit : (p n : ℕ) (xs : List Cached) → all_marks (marks_in xs) ≡ true → all_marks (marks_in (map (λ x. pick (eqb x.page p) (cached_at p 1 n) x) xs)) ≡ true
marks_hit p n [] e = e
marks_hit p n (x ∷ xs) e =
    cases (eqb x.page p)
    (λ h. rw h (and_i _ _ (le-leb 1 1 (omega arith)) (marks_hit p n xs (and_r _ _ e))))
    (λ h. rw h (and_i _ _ (and_l _ _ e) (marks_hit p n xs (and_r _ _ e))))

marks_insert : (p n : ℕ) (xs : List Cached) → all_marks (marks_in xs) ≡ true → all_marks (marks_in (insert_by by_page (cached_at p 1 n) xs)) ≡ true
marks_insert p n [] e = and_i _ _ (le-leb 1 1 (omega arith)) refl
marks_insert p n (x ∷ xs) e =
    cases (by_page x (cached_at p 1 n))
    (λ h. rw h (and_i _ _ (and_l _ _ e) (marks_insert p n xs (and_r _ _ e))))
    (λ h. rw h (and_i _ _ (le-leb 1 1 (omega arith)) e))

marks_filter : (f : Cached → Bool) (xs : List Cached) → all_marks (marks_in xs) ≡ true → all_marks (marks_in (filter f xs)) ≡ true
marks_filter f [] e = e
marks_filter f (x ∷ xs) e =
    cases (f x) (λ h. rw h (and_i _ _ (and_l _ _ e) (marks_filter f xs (and_r _ _ e)))) (λ h. rw h (marks_filter f xs (and_r _ _ e)))

pub served_marks : (k a : ℕ) (clear : Bool) (p n : ℕ) (xs : List Cached) → all_marks (marks_in xs) ≡ true
    → all_marks (marks_in (mark_served k a clear p n xs)) ≡ true
served_marks k a clear p n xs e =
    let zs = cleared clear xs in
    let fine : all_marks (marks_in zs) ≡ true = marks_cleared clear xs e in
    let f : Cached → Bool = λ x. not (mem x.page (pages_in (mark_bundle a zs))) in
    served_by (λ ys. all_marks (marks_in ys) ≡ true) k a clear p n xs
    (marks_hit p n zs fine)
    (λ m h. marks_insert p n zs fine)
    (λ m h. marks_insert p n (filter f zs) (marks_filter f zs fine))

-- At most k pages are cached

count_pages : (f : ℕ → Bool) (ys : List Cached) → ((q : ℕ) → mem q (pages_in ys) ≡ true → f q ≡ true) → count (λ y. f y.page) ys ≡ length ys
count_pages f [] e = refl
count_pages f (y ∷ ys) e =
    omega (arith, bit_true (f y.page) (e y.page (mem_here y.page (pages_in ys))), count_pages f ys (λ q m. e q (mem_there q y.page (pages_in ys) m)))

-- a bundle takes a pages
spared_most : (a : ℕ) (xs : List Cached) → a ≤ length xs → length (spared (mark_bundle a xs) xs) + a ≤ length xs
spared_most a xs h =
    let S = sort_by sooner xs in
    let f : ℕ → Bool = λ q. mem q (pages_in (take a S)) in
    let g : Cached → Bool = λ x. f x.page in
    let long : length (take a S) ≡ a = length-take-le a S (rw (length_sort sooner xs) h) in
    let taken : count g (take a S) ≡ length (take a S) = count_pages f (take a S) (λ q m. m) in
    let parts : count g S ≡ count g (take a S) + count g (drop a S) =
    ap (count g) (sym (take-append-drop a S)) ∙ count_append g (take a S) (drop a S) in
    omega (arith, length_filter (λ x. not (g x)) xs, count_not g xs, count_sort sooner g xs)

pub served_most : (k a : ℕ) (clear : Bool) (p n : ℕ) (xs : List Cached) → 1 ≤ a → a ≤ k → length xs ≤ k → length (mark_served k a clear p n xs) ≤ k
served_most k a clear p n xs low high h =
    let zs = cleared clear xs in
    let same = cleared_length clear xs in
    served_by (λ ys. length ys ≤ k) k a clear p n xs
    (rw (length-map zs (λ x. pick (eqb x.page p) (cached_at p 1 n) x)) (omega arith))
    (λ m l. rw (length_insert by_page (cached_at p 1 n) zs) (omega arith))
    (λ m l. let t = spared_most a zs (omega arith) in rw (length_insert by_page (cached_at p 1 n) (spared (mark_bundle a zs) zs)) (omega arith))

-- The lists are ready again

take_laid : (k n : ℕ) (held list : List ℕ) → length held ≡ n → take n (laid k held list) ≡ held
take_laid k n held list e =
    rw (append_assoc held (replicate (k - length held) 0) (drop k list)) (take_at held (replicate (k - length held) 0 ++ drop k list) n e)

-- the lists that were left make the cached pages that they were laid for
pub laid_back : (k : ℕ) (after : List Cached) (cache marks priorities : List ℕ)
    → cached_in (length after) (laid k (pages_in after) cache) (laid k (marks_in after) marks) (laid k (priorities_in after) priorities) ≡ after
laid_back k after cache marks priorities =
    rw (
      take_laid k (length after) (pages_in after) cache (length-map after (λ (x : Cached). x.page)),
      take_laid k (length after) (marks_in after) marks (length-map after (λ (x : Cached). x.mark)),
      take_laid k (length after) (priorities_in after) priorities (length-map after (λ (x : Cached). x.priority)),
    ) (cached_back after)

module _ (k a n p priority : ℕ) (clear : Bool) (cache marks priorities evicted cache' marks' priorities' evicted' : List ℕ) (r : Served)
    (A : BufferReady k a n cache marks priorities evicted) (S : ServedTo k a n p priority clear cache marks priorities evicted cache' marks' priorities' evicted' r) where
  pub served_cached : cached_in r.count cache' marks' priorities' ≡ mark_served k a clear p priority (cached_in n cache marks priorities)
  served_cached =
      rw (S.count_told, S.cache_told, S.marks_told, S.priorities_told)
      (laid_back k (mark_served k a clear p priority (cached_in n cache marks priorities)) cache marks priorities)

  pub served_ready : length evicted' ≡ length evicted → BufferReady k a r.count cache' marks' priorities' evicted'
  served_ready e =
      let xs = cached_in n cache marks priorities in
      let after = mark_served k a clear p priority xs in
      let R = ready_roomy k a n cache marks priorities evicted A in
      let long : length xs ≡ n = length_cached n cache marks priorities R in
      let count = A.count_most in
      let most : length after ≤ k = served_most k a clear p priority xs A.a_low A.a_high (omega arith) in
      let up : rising (pages_in after) ≡ true = served_rises k a clear p priority xs (rw (pages_in_lem n cache marks priorities R) A.rises) in
      let lp = length-map after (λ (x : Cached). x.page) in
      let lm = length-map after (λ (x : Cached). x.mark) in
      let ln = length-map after (λ (x : Cached). x.priority) in
      let ec : length cache' ≡ length cache = ap length S.cache_told ∙ length_laid k (pages_in after) cache (omega arith) A.cache_room in
      let em : length marks' ≡ length marks = ap length S.marks_told ∙ length_laid k (marks_in after) marks (omega arith) A.marks_room in
      let en : length priorities' ≡ length priorities = ap length S.priorities_told ∙ length_laid k (priorities_in after) priorities (omega arith) A.priorities_room in
      let f = A.cache_room in
      let g = A.marks_room in
      let h = A.priorities_room in
      let i = A.evicted_room in
      record {
        a_low = A.a_low;
        a_high = A.a_high;
        k_high = A.k_high;
        count_most = rw S.count_told most;
        cache_room = omega arith;
        marks_room = omega arith;
        priorities_room = omega arith;
        evicted_room = omega arith;
        rises = rw (S.count_told, S.cache_told, take_laid k (length after) (pages_in after) cache lp) up;
      }
