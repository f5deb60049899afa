-- A request served: what it is, by the place of its page, and that the lists so left are those of the model.
use Prim.Native.Nat.{ℕ, ◌+◌, ◌-◌, ◌≤◌, ◌<◌}
use native.Mathlib.Omega.{arith}
use mathlib.Core.Bool.{Bool, true, false}
use mathlib.Core.List.{List, [], ◌∷◌, ◌++◌, map}
use mathlib.Core.Path.{◌≡◌, refl, sym, ap, ◌∙◌}
use lib.Dec.{eqb, ltb}
use lib.ListN.{length, take, drop, set, replicate, length-append, length-drop, length-set, length-map}
use lib.Seq.{length-take-le, take_at, drop_at}
use borrow.Author.Tests.{lt-ltb, le-ltb, eqb-true, not-true}
use Rattle.lists.specs.Choice.{pick}
use Rattle.lists.specs.Pages.{mem, distinct}
use Rattle.lists.specs.Places.{place}
use Rattle.lists.specs.Sorting.{insert_by}
use Rattle.lists.proofs.Choice.{cases, and_l, and_r, or_none_l, or_none_r, eqb_sym}
use Rattle.lists.proofs.Leaves.{mem_place}
use Rattle.lists.proofs.Sorting.{length_insert}
use Rattle.paging.specs.Numbers.{kind_of_outcome}
use Rattle.paging.specs.Policy.{hit, load, bundled, is_bundled}
use Rattle.paging.specs.declared.outcomes.Outcome.{Outcome}
use Rattle.paging.specs.declared.outcomes.Outcome.TheVariants.{Hit, Load, LoadAfterBundle}
use Rattle.marking.specs.Marking.{Cached, cached_at, pages_in, marks_in, priorities_in, by_page, cleared, mark_bundle, spared, marked_by, mark_kind, mark_served}
use Rattle.marking.specs.Lists.{cached_in, rising}
use Rattle.marked.specs.Buffer.{BufferReady, ServedTo}
use Rattle.marking.proofs.Cached.{hit_pages}
use Rattle.leaving.specs.Buffer.{Roomy, LeftWith, BundleReady, BundleLeft}
use Rattle.leaving.proofs.Cached.{pages_in_lem, marks_in_lem, priorities_in_lem, length_cached, behind_on, fronted_on, set_fronted, kept_fronted, cached_left}
use Rattle.marked.specs.Inner.{wiped, LoadReady}
use Rattle.marked.proofs.Cached.{cached_cleared, wiped_laid}
use Rattle.marked.proofs.Rising.{rising_distinct, rising_filter}

-- A hit in the three lists

hit_absent : (p n : ℕ) (xs : List Cached) → mem p (pages_in xs) ≡ false → map (λ x. pick (eqb x.page p) (cached_at p 1 n) x) xs ≡ xs
hit_absent p n [] m = refl
hit_absent p n (x ∷ xs) m = rw (eqb_sym x.page p, or_none_l _ _ m, hit_absent p n xs (or_none_r _ _ m))

-- a store at the page's place
hit_set : (f : Cached → ℕ) (p n : ℕ) (xs : List Cached) → distinct (pages_in xs) ≡ true
    → map f (map (λ x. pick (eqb x.page p) (cached_at p 1 n) x) xs) ≡ set (map f xs) (place p (pages_in xs)) (f (cached_at p 1 n))
hit_set f p n [] d = refl
hit_set f p n (x ∷ xs) d =
    cases (eqb p x.page)
    (λ e. let absent : mem p (pages_in xs) ≡ false = rw (eqb-true p x.page e) (not-true _ (and_l _ _ d)) in
    rw (eqb_sym x.page p, e, hit_absent p n xs absent))
    (λ e. rw (eqb_sym x.page p, e) (ap (λ (l : List ℕ). f x ∷ l) (hit_set f p n xs (and_r _ _ d))))

-- also after an earlier change, and with more of the lists left out
left_on : (n k : ℕ) (after : List Cached) (c m p c₁ m₁ p₁ c₂ m₂ p₂ : List ℕ) → n ≤ k → drop k c₁ ≡ drop k c → drop k m₁ ≡ drop k m → drop k p₁ ≡ drop k p
    → LeftWith n after c₁ m₁ p₁ c₂ m₂ p₂ → LeftWith k after c m p c₂ m₂ p₂
left_on n k after c m p c₁ m₁ p₁ c₂ m₂ p₂ h ec em ep L = record {
  pages_left = fronted_on n k (pages_in after) c c₁ c₂ h ec L.pages_left;
  marks_left = fronted_on n k (marks_in after) m m₁ m₂ h em L.marks_left;
  priorities_left = fronted_on n k (priorities_in after) p p₁ p₂ h ep L.priorities_left;
}

pub ready_roomy : (k a n : ℕ) (cache marks priorities evicted : List ℕ) → BufferReady k a n cache marks priorities evicted → Roomy n cache marks priorities
ready_roomy k a n cache marks priorities evicted A =
    let c = A.count_most in
    let f = A.cache_room in
    let g = A.marks_room in
    let h = A.priorities_room in
    record { cache_room = omega arith; marks_room = omega arith; priorities_room = omega arith }

module _ {k a n : ℕ} {cache marks priorities evicted : List ℕ} (A : BufferReady k a n cache marks priorities evicted) where
  roomy : Roomy n cache marks priorities
  roomy = ready_roomy k a n cache marks priorities evicted A

  -- what is told, for a request of a kind that leaves these cached pages
  told_as : {clear : Bool} {p pr : ℕ} (outcome : Outcome) (after : List Cached) (c m q e : List ℕ) (l : ℕ)
      → mark_kind k p (cached_in n cache marks priorities) ≡ kind_of_outcome outcome → marked_by (kind_of_outcome outcome) a p pr (cleared clear (cached_in n cache marks priorities)) ≡ after → LeftWith k after cache marks priorities c m q → length after ≡ l
      → e ≡ pick (is_bundled (kind_of_outcome outcome)) (pages_in (mark_bundle a (cleared clear (cached_in n cache marks priorities))) ++ drop a evicted) evicted
      → ServedTo k a n p pr clear cache marks priorities evicted (wiped l k c) (wiped l k m) (wiped l k q) e (record { outcome = outcome; count = l })
  told_as {clear = clear} {p = p} {pr = pr} outcome after c m q e l is made L long out =
      let all : mark_served k a clear p pr (cached_in n cache marks priorities) ≡ after = rw is made in
      record {
        outcome_told = sym is;
        count_told = rw all (sym long);
        cache_told = rw all (wiped_laid l k (pages_in after) cache c L.pages_left (length-map after (λ (x : Cached). x.page) ∙ long));
        marks_told = rw all (wiped_laid l k (marks_in after) marks m L.marks_left (length-map after (λ (x : Cached). x.mark) ∙ long));
        priorities_told = rw all (wiped_laid l k (priorities_in after) priorities q L.priorities_left (length-map after (λ (x : Cached). x.priority) ∙ long));
        evicted_told = rw is out;
      }

  -- What a request for p is, by the place at which it was found

  held : (p at : ℕ) → at ≡ place p (take n cache) → mem p (pages_in (cached_in n cache marks priorities)) ≡ ltb at n
  held p at found =
      rw (pages_in_lem n cache marks priorities roomy)
      (mem_place p (take n cache) ∙ rw (length-take-le n cache roomy.cache_room) (ap (λ (x : ℕ). ltb x n) (sym found)))

  long : length (pages_in (cached_in n cache marks priorities)) ≡ n
  long = length-map (cached_in n cache marks priorities) (λ (x : Cached). x.page) ∙ length_cached n cache marks priorities roomy

  kind_hit : (p at : ℕ) → at ≡ place p (take n cache) → at < n → mark_kind k p (cached_in n cache marks priorities) ≡ hit
  kind_hit p at found h = rw (held p at found, lt-ltb at n h)

  kind_load : (p at : ℕ) → at ≡ place p (take n cache) → n ≤ at → n < k → mark_kind k p (cached_in n cache marks priorities) ≡ load
  kind_load p at found h g = rw (held p at found, le-ltb at n h, long, lt-ltb n k g)

  kind_bundled : (p at : ℕ) → at ≡ place p (take n cache) → n ≤ at → k ≤ n → mark_kind k p (cached_in n cache marks priorities) ≡ bundled
  kind_bundled p at found h g = rw (held p at found, le-ltb at n h, long, le-ltb n k g)

  -- The marks that were cleared, or not, are as many as before

  module _ (y : List ℕ) (even : length y ≡ length (take n marks)) where
    y_long : length y ≡ n
    y_long = even ∙ length-take-le n marks roomy.marks_room

    pub marks_long : length (y ++ drop n marks) ≡ length marks
    marks_long = let m = y_long in let g = roomy.marks_room in simp (length-append, length-drop) (omega arith)

    marks_behind : drop k (y ++ drop n marks) ≡ drop k marks
    marks_behind = behind_on n k (y ++ drop n marks) marks A.count_most (drop_at y (drop n marks) n y_long)

    now_roomy : Roomy n cache (y ++ drop n marks) priorities
    now_roomy =
        let m = marks_long in
        let g = roomy.marks_room in
        record { cache_room = roomy.cache_room; marks_room = omega arith; priorities_room = roomy.priorities_room }

    pub wipe_ready : {l : ℕ} {c m q : List ℕ} → l ≤ k → length c ≡ length cache → length m ≡ length (y ++ drop n marks) → length q ≡ length priorities
        → (l ≤ k) × Roomy k c m q
    wipe_ready h ec em eq =
        let x = marks_long in
        let f = A.cache_room in
        let g = A.marks_room in
        let i = A.priorities_room in
        (h, record { cache_room = omega arith; marks_room = omega arith; priorities_room = omega arith })

    -- the stores of a hit keep the lengths
    pub hit_ready : (at v pr : ℕ) → (n ≤ k) × Roomy k cache (set (y ++ drop n marks) at v) (set priorities at pr)
    hit_ready at v pr = wipe_ready A.count_most refl (length-set (y ++ drop n marks) at v) (length-set priorities at pr)

    pub load_ready : n < k → LoadReady n cache (y ++ drop n marks) priorities
    load_ready h =
        let x = marks_long in
        let f = A.cache_room in
        let g = A.marks_room in
        let i = A.priorities_room in
        record { cache_room = omega arith; marks_room = omega arith; priorities_room = omega arith; rises = A.rises }

    pub bundle_ready : k ≤ n → BundleReady a n cache (y ++ drop n marks) priorities evicted
    bundle_ready g =
        let h = A.a_high in
        let l = A.count_most in
        let f = A.k_high in
        record { room = now_roomy; enough = omega arith; most = omega arith; evicted_room = A.evicted_room; once = rising_distinct (take n cache) A.rises }

    pub rest_ready : {c₁ m₁ q₁ e₁ : List ℕ} → k ≤ n → BundleLeft a n cache (y ++ drop n marks) priorities evicted c₁ m₁ q₁ e₁
        → length c₁ ≡ length cache → length m₁ ≡ length (y ++ drop n marks) → length q₁ ≡ length priorities → LoadReady (n - a) c₁ m₁ q₁
    rest_ready {c₁ = c₁} g B ec em eq =
        let x = marks_long in
        let f = A.cache_room in
        let i = A.marks_room in
        let j = A.priorities_room in
        let low = A.a_low in
        let high = A.a_high in
        let most = A.count_most in
        let zs = cached_in n cache (y ++ drop n marks) priorities in
        let ys = spared (mark_bundle a zs) zs in
        let front : take (n - a) c₁ ≡ pages_in ys = rw (length-map ys (λ (x : Cached). x.page), B.spared_count) at B.spared_left.pages_left.front in
        let up : rising (pages_in zs) ≡ true = rw (pages_in_lem n cache (y ++ drop n marks) priorities now_roomy) A.rises in
        record {
          cache_room = omega arith;
          marks_room = omega arith;
          priorities_room = omega arith;
          rises = rw front (rising_filter _ zs up);
        }

    -- What is told, with the marks cleared or not

    module _ (clear : Bool) (wiping : y ≡ pick clear (replicate (length (take n marks)) 0) (take n marks)) where
      -- the cached pages with their marks cleared, or not
      now_cached : cached_in n cache (y ++ drop n marks) priorities ≡ cleared clear (cached_in n cache marks priorities)
      now_cached = rw (take_at y (drop n marks) n y_long, wiping) (cached_cleared clear (take n cache) (take n marks) (take n priorities))

      pub hit_told : {p pr at : ℕ} → at ≡ place p (take n cache) → at < n → ServedTo k a n p pr clear cache marks priorities evicted
          (wiped n k cache) (wiped n k (set (y ++ drop n marks) at 1)) (wiped n k (set priorities at pr)) evicted (record { outcome = Hit; count = n })
      hit_told {p = p} {pr = pr} {at = at} found h =
          let zs = cached_in n cache (y ++ drop n marks) priorities in
          let most = A.count_most in
          let pages = pages_in_lem n cache (y ++ drop n marks) priorities now_roomy in
          let once : distinct (pages_in zs) ≡ true = rw pages (rising_distinct (take n cache) A.rises) in
          let seat : place p (pages_in zs) ≡ at = rw pages (sym found) in
          let after = map (λ x. pick (eqb x.page p) (cached_at p 1 pr) x) zs in
          let ep : pages_in after ≡ take n cache = hit_pages p pr zs ∙ pages in
          let em : marks_in after ≡ set (take n (y ++ drop n marks)) at 1 =
          hit_set (λ x. x.mark) p pr zs once ∙ rw (seat, marks_in_lem n cache (y ++ drop n marks) priorities now_roomy) in
          let en : priorities_in after ≡ set (take n priorities) at pr =
          hit_set (λ x. x.priority) p pr zs once ∙ rw (seat, priorities_in_lem n cache (y ++ drop n marks) priorities now_roomy) in
          told_as Hit after cache (set (y ++ drop n marks) at 1) (set priorities at pr) evicted n (kind_hit p at found h) (rw now_cached)
          (record {
            pages_left = rw ep (kept_fronted n k cache roomy.cache_room);
            marks_left = rw em (fronted_on k k (set (take n (y ++ drop n marks)) at 1) marks (y ++ drop n marks) (set (y ++ drop n marks) at 1) (omega arith) marks_behind
                (set_fronted n k at 1 (y ++ drop n marks) h most now_roomy.marks_room));
            priorities_left = rw en (set_fronted n k at pr priorities h most roomy.priorities_room);
          })
          (length-map zs (λ x. pick (eqb x.page p) (cached_at p 1 pr) x) ∙ length_cached n cache (y ++ drop n marks) priorities now_roomy)
          refl

      pub load_told : {p pr at : ℕ} {c m q : List ℕ} → at ≡ place p (take n cache) → n ≤ at → n < k
          → LeftWith (n + 1) (insert_by by_page (cached_at p 1 pr) (cached_in n cache (y ++ drop n marks) priorities)) cache (y ++ drop n marks) priorities c m q
          → ServedTo k a n p pr clear cache marks priorities evicted
          (wiped (n + 1) k c) (wiped (n + 1) k m) (wiped (n + 1) k q) evicted (record { outcome = Load; count = n + 1 })
      load_told {p = p} {pr = pr} {at = at} {c = c} {m = m} {q = q} found h g L =
          let zs = cached_in n cache (y ++ drop n marks) priorities in
          let after = insert_by by_page (cached_at p 1 pr) zs in
          let l = length_cached n cache (y ++ drop n marks) priorities now_roomy in
          told_as Load after c m q evicted (n + 1) (kind_load p at found h g) (rw now_cached)
          (left_on (n + 1) k after cache marks priorities cache (y ++ drop n marks) priorities c m q (omega arith) refl marks_behind refl L)
          (length_insert by_page (cached_at p 1 pr) zs ∙ omega arith)
          refl

      pub bundle_told : {p pr at : ℕ} {c₁ m₁ q₁ e₁ c m q : List ℕ} → k ≤ n → BundleLeft a n cache (y ++ drop n marks) priorities evicted c₁ m₁ q₁ e₁
          → at ≡ place p (take n cache) → n ≤ at
          → LeftWith (n - a + 1) (insert_by by_page (cached_at p 1 pr) (cached_in (n - a) c₁ m₁ q₁)) c₁ m₁ q₁ c m q
          → ServedTo k a n p pr clear cache marks priorities evicted
          (wiped (n - a + 1) k c) (wiped (n - a + 1) k m) (wiped (n - a + 1) k q) e₁ (record { outcome = LoadAfterBundle; count = n - a + 1 })
      bundle_told {p = p} {pr = pr} {at = at} {c₁ = c₁} {m₁ = m₁} {q₁ = q₁} {e₁ = e₁} {c = c} {m = m} {q = q} g B found h L =
          let low = A.a_low in
          let high = A.a_high in
          let most = A.count_most in
          let zs = cached_in n cache (y ++ drop n marks) priorities in
          let ys = spared (mark_bundle a zs) zs in
          let S = B.spared_left in
          let rest : cached_in (n - a) c₁ m₁ q₁ ≡ ys = cached_left n (n - a) ys cache (y ++ drop n marks) priorities c₁ m₁ q₁ B.spared_count S in
          let after = insert_by by_page (cached_at p 1 pr) ys in
          let L' : LeftWith (n - a + 1) after c₁ m₁ q₁ c m q = rw rest at L in
          let count = B.spared_count in
          told_as LoadAfterBundle after c m q e₁ (n - a + 1) (kind_bundled p at found h g) (rw now_cached)
          (left_on (n - a + 1) k after cache marks priorities c₁ m₁ q₁ c m q (omega arith)
          (behind_on n k c₁ cache most S.pages_left.behind)
          (behind_on n k m₁ (y ++ drop n marks) most S.marks_left.behind ∙ marks_behind)
          (behind_on n k q₁ priorities most S.priorities_left.behind)
          L')
          (length_insert by_page (cached_at p 1 pr) ys ∙ omega arith)
          (rw (← now_cached) B.evicted_told)
