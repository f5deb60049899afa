-- A request keeps the layers' rows as document 01 asks ("Well formed"), for each rule of Figure 1 of source document 001. Sizes of layers
-- are counts of rows; what a rule does to numbers is plain arithmetic, stated once for all rules.
use Prim.Native.Nat.{ℕ, zero, suc, ◌+◌, ◌-◌, ◌≤◌, ◌<◌, max}
use native.Mathlib.Omega.{arith}
use mathlib.Core.Bool.{Bool, true, false, not}
use mathlib.Core.List.{List, [], ◌∷◌, ◌++◌, map}
use mathlib.Core.Logic.{◌⊎◌, inl, inr}
use mathlib.Core.Path.{◌≡◌, refl, sym, ap, ◌∙◌}
use lib.Dec.{eqb, leb, ltb}
use lib.ListN.{length, replicate}
use borrow.Author.Tests.{eqb-true, ltb-true, ltb-false, lt-ltb, eq-eqb, ne_eqb, not-true}
use Rattle.lists.specs.Choice.{◌and◌}
use Rattle.lists.specs.Pages.{count, filter, bit}
use Rattle.lists.specs.Sorting.{Row, row_before, Least, Sorted}
use Rattle.lists.proofs.Choice.{tests, cases, split, clash, and_l, and_r, and_i, and_false_l, and_false_r, not_i, bit_true, bit_false, bit_le}
use Rattle.lists.proofs.Pages.{count_snoc, count_length, count_mono, count_cover, count_by}
use Rattle.lists.proofs.Sorting.{sorted_sort, count_sort, row_order, row_split}
use Rattle.paging.specs.Layers.{LayerRule, append, join, lift, layer_rule, renumbered, top_after}
use Rattle.paging.specs.Rows.{row_at, unused, used_rows, table_of}
use Rattle.paging.specs.Table.{number_in, renumbered_row, above_zero, others_after, rows_by, rule_in, rows_after, size_of}

-- The used rows of a well-formed table, by counting: each is in a layer from 1 to s, no page has two, they are in order, no layer from 1 to s
-- is empty, and layers above k - a are single, as are all where s is at most k - a

pub record FormedRows (k a s : ℕ) (rows : List Row) : Type 0 where
  pub above : size_of 0 rows ≡ 0
  pub below : count (λ row. ltb s row.number) rows ≡ 0
  pub once : (q : ℕ) → count (λ row. eqb row.page q) rows ≤ 1
  pub sorted : Sorted row_before rows
  pub all_present : (j : ℕ) → 0 < j → j ≤ s → 0 < size_of j rows
  pub most : s ≤ k
  pub single : (j : ℕ) → k - a < j → size_of j rows ≤ 1
  pub few_single : s ≤ k - a → (j : ℕ) → 0 < j → size_of j rows ≤ 1

pub no_rows_formed : (k a : ℕ) → FormedRows k a 0 []
no_rows_formed k a = record {
  above = refl;
  below = refl;
  once = λ q. omega arith;
  sorted = tt;
  all_present = λ j h g. absurd (omega arith);
  most = omega arith;
  single = λ j h. omega arith;
  few_single = λ h j g. omega arith;
}

-- Counting what a request leaves

pub count_filter {ℓ} : {A : Type ℓ} (f g : A → Bool) (xs : List A) → count f (filter g xs) ≡ count (λ x. f x and g x) xs
count_filter f g [] = refl
count_filter f g (x ∷ xs) =
    cases (g x)
    (λ e. rw e (omega (arith, count_filter f g xs, ap bit (both (f x)))))
    (λ e. rw e (omega (arith, count_filter f g xs, bit_false (f x and false) (and_false_r (f x) false refl))))
  where
    both : (b : Bool) → b ≡ b and true
    both true = unfold ◌and◌ in refl
    both false = unfold ◌and◌ in refl

pub count_over {ℓ} : {A B : Type ℓ} (f : B → Bool) (h : A → B) (xs : List A) → count f (map h xs) ≡ count (λ x. f (h x)) xs
count_over f h [] = refl
count_over f h (x ∷ xs) = omega (arith, count_over f h xs)

-- a row of another page that is not dropped, and then passes the test
abbrev pub stays : LayerRule → (k a i p : ℕ) → (Row → Bool) → Row → Bool
stays rule k a i p f row =
    (f (renumbered_row rule k a i row) and above_zero (renumbered_row rule k a i row)) and not (eqb row.page p)

others_count : (rule : LayerRule) (k a i p : ℕ) (f : Row → Bool) (rows : List Row) → count f (others_after rule k a i p rows) ≡ count (stays rule k a i p f) rows
others_count rule k a i p f rows =
    let rest = filter (λ row. not (eqb row.page p)) rows in
    count_sort row_before f (filter above_zero (map (renumbered_row rule k a i) rest))
    ∙ count_filter f above_zero (map (renumbered_row rule k a i) rest)
    ∙ count_over (λ row. f row and above_zero row) (renumbered_row rule k a i) rest
    ∙ count_filter (λ row. f (renumbered_row rule k a i row) and above_zero (renumbered_row rule k a i row)) (λ row. not (eqb row.page p)) rows

pub after_count : (rule : LayerRule) (k a i s p : ℕ) (f : Row → Bool) (rows : List Row)
    → count f (rows_by rule k a i s p rows) ≡ count (stays rule k a i p f) rows + bit (f (row_at (top_after rule k a s) p))
after_count rule k a i s p f rows =
    omega (arith, count_snoc f (others_after rule k a i p rows) (row_at (top_after rule k a s) p), others_count rule k a i p f rows)

-- a request leaves at most one row more
pub one_row_more : (k a s p : ℕ) (rows : List Row) → length (rows_after k a s p rows) ≤ length rows + 1
one_row_more k a s p rows =
    let rule = rule_in k s p rows in
    let i = number_in rows p in
    omega (
      arith,
      every (rows_after k a s p rows),
      after_count rule k a i s p (λ row. true) rows,
      count_length (stays rule k a i p (λ row. true)) rows,
    )
  where
    every : (xs : List Row) → count (λ row. true) xs ≡ length xs
    every [] = refl
    every (x ∷ xs) = omega (arith, every xs)

-- The requested page's own row

-- a page with a number has a row with it
pub own_row : (p n : ℕ) (rows : List Row) → number_in rows p ≡ n → 0 < n → 0 < count (λ row. eqb row.number n and eqb row.page p) rows
own_row p n [] e h = absurd (omega arith)
own_row p n (x ∷ xs) e h =
    cases (eqb x.number n and eqb x.page p)
    (λ t. omega (arith, bit_true _ t))
    (λ t. cases (eqb x.page p)
    (λ g. let other : eqb x.number n ≡ false = cases (eqb x.number n) (λ u. clash _ (and_i _ _ u g) t) (λ u. u) in
    let was : max x.number (number_in xs p) ≡ n = rw g at e in
    let rest : number_in xs p ≡ n = omega tests in
    omega (arith, own_row p n xs rest h))
    (λ g. let was : max 0 (number_in xs p) ≡ n = rw g at e in
    let rest : number_in xs p ≡ n = omega arith in
    omega (arith, own_row p n xs rest h)))

-- a page in L0 has no row with a number
no_row : (p : ℕ) (rows : List Row) → number_in rows p ≡ 0 → count (λ row. eqb row.page p and not (eqb row.number 0)) rows ≡ 0
no_row p [] e = refl
no_row p (x ∷ xs) e =
    cases (eqb x.page p)
    (λ g. let was : max x.number (number_in xs p) ≡ 0 = rw g at e in
    let z : not (eqb x.number 0) ≡ false = rw (eq-eqb x.number 0 (omega arith)) in
    omega (arith, bit_false _ (and_false_r (eqb x.page p) _ z), no_row p xs (omega arith)))
    (λ g. omega (arith, bit_false _ (and_false_l (eqb x.page p) (not (eqb x.number 0)) g), no_row p xs (omega arith)))

-- all rows of a page that is there once have its number
pub own_only : (p : ℕ) (rows : List Row) → count (λ row. eqb row.page p) rows ≤ 1
    → count (λ row. eqb row.page p and not (eqb row.number (number_in rows p))) rows ≡ 0
own_only p rows o =
    let i = number_in rows p in
    cases (eqb i 0)
    (λ e. let z : number_in rows p ≡ 0 = eqb-true i 0 e in
    rw z (no_row p rows z))
    (λ e. omega (
      tests,
      own_row p i rows refl (omega tests),
      count_mono (λ row. eqb row.number i and eqb row.page p) (λ row. eqb row.page p and eqb row.number i) rows (λ row t. and_i _ _ (and_r _ _ t) (and_l _ _ t)),
      count_by (λ row. eqb row.page p) (λ row. eqb row.number i) rows,
    ))

pub number_most : (s p : ℕ) (rows : List Row) → count (λ row. ltb s row.number) rows ≡ 0 → number_in rows p ≤ s
number_most s p rows b =
    let i = number_in rows p in
    cases (ltb s i)
    (λ e. absurd (omega (
      tests,
      own_row p i rows refl (omega tests),
      count_mono (λ row. eqb row.number i and eqb row.page p) (λ row. ltb s row.number) rows
          (λ row t. let n : row.number ≡ i = eqb-true _ _ (and_l _ _ t) in omega tests),
    )))
    (λ e. omega tests)

-- What a rule does to numbers, where the requested page has number i and s is the last layer

-- above the limit a layer gets the pages of one layer, and at most others of the requested page's own layer
abbrev Thin : LayerRule → (k a i s limit : ℕ) → Type 0
Thin rule k a i s limit =
    (j : ℕ) → limit < j → j < top_after rule k a s
    → (m : ℕ) × (limit < m) × ((n : ℕ) → renumbered rule k a i n ≡ j → (n ≡ m) ⊎ ((n ≡ i) × (limit < i)))

record Moves (rule : LayerRule) (k a i s : ℕ) : Type 0 where
  -- every other page comes below the requested one
  lower : (n : ℕ) → n ≤ s → renumbered rule k a i n < top_after rule k a s
  highest : top_after rule k a s ≤ k
  -- each layer below the last has the pages of a layer other than i
  source : (j : ℕ) → 0 < j → j < top_after rule k a s → (m : ℕ) × (0 < m) × (m ≤ s) × (m ≡ i → ⊥) × (renumbered rule k a i m ≡ j)
  thin : Thin rule k a i s (k - a)
  thin_few : top_after rule k a s ≤ k - a → (s ≤ k - a) × Thin rule k a i s 0

moves_append : (k a s : ℕ) → s < k → Moves append k a 0 s
moves_append k a s h = record {
  lower = λ n g. omega arith;
  highest = omega arith;
  source = λ j g l. (j, g, omega arith, λ e. omega arith, refl);
  thin = λ j g l. (j, g, λ n e. inl e);
  thin_few = λ t. (omega arith, λ j g l. (j, g, λ n e. inl e));
}

moves_join : (k a s : ℕ) → 1 ≤ a → a ≤ k → s ≡ k → Moves join k a 0 s
moves_join k a s pos le full = record {
  lower = λ n g. omega arith;
  highest = omega arith;
  source = λ j g l. (j, g, omega arith, λ e. omega arith, omega arith);
  thin = λ j g l. absurd (omega arith);
  thin_few = λ t. absurd (omega arith);
}

-- 1c: a number from i up falls by one
pub lift_is : (k a i n : ℕ) → ((i ≤ n) × (renumbered lift k a i n ≡ n - 1)) ⊎ ((n < i) × (renumbered lift k a i n ≡ n))
lift_is k a i n = cases (leb i n) (λ e. inl (omega tests, rw e)) (λ e. inr (omega tests, rw e))

lift_thin : (k a i s limit : ℕ) → 0 < i → i ≤ s → Thin lift k a i s limit
lift_thin k a i s limit pos le j g l =
    cases (ltb j i)
    (λ e. (j, g, λ n t. split (lift_is k a i n) (λ d. inr (omega tests, omega tests)) (λ d. inl (omega tests))))
    (λ e. (suc j, omega arith, λ n t. split (lift_is k a i n) (λ d. inl (omega tests)) (λ d. absurd (omega tests))))

moves_lift : (k a i s : ℕ) → 0 < i → i ≤ s → s ≤ k → Moves lift k a i s
moves_lift k a i s pos le most = record {
  lower = λ n g. split (lift_is k a i n) (λ d. omega arith) (λ d. omega arith);
  highest = most;
  source = λ j g l. cases (ltb j i)
      (λ e. (j, g, omega arith, λ t. omega tests, split (lift_is k a i j) (λ d. absurd (omega tests)) (λ d. d.1)))
      (λ e. (suc j, omega arith, omega arith, λ t. omega tests, split (lift_is k a i (suc j)) (λ d. omega arith) (λ d. absurd (omega tests))));
  thin = lift_thin k a i s (k - a) pos le;
  thin_few = λ t. (t, lift_thin k a i s 0 pos le);
}

moves : (k a i s : ℕ) → 1 ≤ a → a ≤ k → i ≤ s → s ≤ k → Moves (layer_rule k i s) k a i s
moves k a i s pos le low most =
    cases (eqb i 0)
    (λ e. let z : i ≡ 0 = eqb-true i 0 e in
    cases (ltb s k)
    (λ h. rw (z, h) (moves_append k a s (ltb-true s k h)))
    (λ h. rw (z, h) (moves_join k a s pos le (omega tests))))
    (λ e. rw e (moves_lift k a i s (omega tests) low most))

-- One request

sorted_snoc : (xs : List Row) (z : Row) → Sorted row_before xs → count (λ x. row_before z x) xs ≡ 0 → Sorted row_before (xs ++ (z ∷ []))
sorted_snoc [] z s c = (tt, tt)
sorted_snoc (x ∷ xs) z s c =
    let first : row_before z x ≡ false = cases (row_before z x) (λ e. absurd (omega (arith, bit_true _ e))) (λ e. e) in
    (least xs first s.0, sorted_snoc xs z s.1 (omega arith))
  where
    least : (ys : List Row) → row_before z x ≡ false → Least row_before x ys → Least row_before x (ys ++ (z ∷ []))
    least [] e l = (e, tt)
    least (y ∷ ys) e l = (l.0, least ys e l.1)

module _ (rule : LayerRule) (k a s p : ℕ) (rows : List Row) (F : FormedRows k a s rows) (M : Moves rule k a (number_in rows p) s) where
  -- no other page is as high as the requested one
  others_low : (f : Row → Bool) → ((row : Row) → f row ≡ true → top_after rule k a s ≤ row.number) → count (stays rule k a (number_in rows p) p f) rows ≡ 0
  others_low f high =
      omega (
        arith,
        F.below,
        count_mono (stays rule k a (number_in rows p) p f) (λ row. ltb s row.number) rows
            (λ row t. cases (ltb s row.number) (λ e. e)
            (λ e. let u = high (renumbered_row rule k a (number_in rows p) row) (and_l _ _ (and_l _ _ t)) in
            let l = M.lower row.number (ltb-false _ _ e) in
            absurd (omega arith))),
      )

  -- a layer above the limit has one page, if each was single
  others_single : (limit : ℕ) → Thin rule k a (number_in rows p) s limit → ((m : ℕ) → limit < m → size_of m rows ≤ 1)
      → (j : ℕ) → limit < j → size_of j (rows_by rule k a (number_in rows p) s p rows) ≤ 1
  others_single limit thin one j h =
      let i = number_in rows p in
      let top = top_after rule k a s in
      let is-j : Row → Bool = λ row. eqb row.number j in
      let all = after_count rule k a i s p is-j rows in
      cases (ltb j top)
      (λ e. let m = thin j h (ltb-true _ _ e) in
      let last = bit_false (eqb top j) (omega tests) in
      let moved : (row : Row) → stays rule k a i p is-j row ≡ true → (row.number ≡ m.0) ⊎ ((row.number ≡ i) × (limit < i)) =
      λ row t. m.2 row.number (eqb-true _ _ (and_l _ _ (and_l _ _ t))) in
      cases (ltb limit i)
      (λ g. omega (
        tests,
        one m.0 m.1,
        one i (ltb-true _ _ g),
        own_row p i rows refl (omega tests),
        count_by (λ row. eqb row.number i) (λ row. eqb row.page p) rows,
        count_cover (stays rule k a i p is-j) (λ row. eqb row.number m.0) (λ row. eqb row.number i and not (eqb row.page p)) rows
            (λ row t. split (moved row t) (λ d. inl (eq-eqb _ _ d)) (λ d. inr (and_i _ _ (eq-eqb _ _ d.0) (and_r _ _ t)))),
      ))
      (λ g. omega (
        tests,
        one m.0 m.1,
        count_mono (stays rule k a i p is-j) (λ row. eqb row.number m.0) rows
            (λ row t. split (moved row t) (λ d. eq-eqb _ _ d) (λ d. absurd (omega tests))),
      )))
      (λ e. omega (arith, bit_le (eqb top j), others_low is-j (λ row t. omega tests)))

  others_present : (j : ℕ) → 0 < j → j < top_after rule k a s → 0 < count (stays rule k a (number_in rows p) p (λ row. eqb row.number j)) rows
  others_present j h l =
      let i = number_in rows p in
      let m = M.source j h l in
      omega (
        arith,
        F.all_present m.0 m.1 m.2,
        own_only p rows (F.once p),
        count_cover (λ row. eqb row.number m.0) (stays rule k a i p (λ row. eqb row.number j)) (λ row. eqb row.page p and not (eqb row.number i)) rows
            (λ row t. let n : row.number ≡ m.0 = eqb-true _ _ t in
            let to : renumbered rule k a i row.number ≡ j = rw n m.4 in
            cases (eqb row.page p)
            (λ e. inr (and_i _ _ e (not_i _ (ne_eqb _ _ (λ g. m.3 (sym n ∙ g))))))
            (λ e. inl (and_i _ _ (and_i _ _ (eq-eqb _ _ to) (lt-ltb 0 (renumbered rule k a i row.number) (omega arith))) (not_i _ e)))),
      )

  formed_by : FormedRows k a (top_after rule k a s) (rows_by rule k a (number_in rows p) s p rows)
  formed_by =
      let i = number_in rows p in
      let top = top_after rule k a s in
      let last = row_at top p in
      let positive : 0 < top = let l = M.lower 0 (omega arith) in omega arith in
      record {
        above = omega (
          arith,
          after_count rule k a i s p (λ row. eqb row.number 0) rows,
          bit_false (eqb top 0) (omega tests),
          count_mono (stays rule k a i p (λ row. eqb row.number 0)) (λ row. ltb s row.number) rows
              (λ row t. let n : renumbered rule k a i row.number ≡ 0 = eqb-true _ _ (and_l _ _ (and_l _ _ t)) in
              let g : 0 < renumbered rule k a i row.number = ltb-true _ _ (and_r _ _ (and_l _ _ t)) in
              absurd (omega arith)),
          F.below,
        );
        below = omega (
          arith,
          after_count rule k a i s p (λ row. ltb top row.number) rows,
          bit_false (ltb top top) (omega tests),
          others_low (λ row. ltb top row.number) (λ row t. omega tests),
        );
        once = λ q. cases (eqb p q)
            (λ e. omega (
              arith,
              after_count rule k a i s p (λ row. eqb row.page q) rows,
              bit_le (eqb p q),
              count_mono (stays rule k a i p (λ row. eqb row.page q)) (λ row. ltb s row.number) rows
                  (λ row t. let n : row.page ≡ q = eqb-true _ _ (and_l _ _ (and_l _ _ t)) in
                  let g : eqb row.page p ≡ false = not-true _ (and_r _ _ t) in
                  absurd (omega tests)),
              F.below,
            ))
            (λ e. omega (
              arith,
              after_count rule k a i s p (λ row. eqb row.page q) rows,
              bit_false (eqb p q) e,
              F.once q,
              count_mono (stays rule k a i p (λ row. eqb row.page q)) (λ row. eqb row.page q) rows (λ row t. and_l _ _ (and_l _ _ t)),
            ));
        sorted = sorted_snoc (others_after rule k a i p rows) last
            (sorted_sort row_before row_order (filter above_zero (map (renumbered_row rule k a i) (filter (λ row. not (eqb row.page p)) rows))))
            (others_count rule k a i p (λ row. row_before last row) rows
            ∙ others_low (λ row. row_before last row) (λ row t. split (row_split last row t) (λ d. omega arith) (λ d. omega arith)));
        all_present = λ j h g. cases (ltb j top)
            (λ e. omega (arith, after_count rule k a i s p (λ row. eqb row.number j) rows, others_present j h (ltb-true _ _ e)))
            (λ e. omega (arith, after_count rule k a i s p (λ row. eqb row.number j) rows, bit_true (eqb top j) (omega tests)));
        most = M.highest;
        single = others_single (k - a) M.thin F.single;
        few_single = λ h j g. let few = M.thin_few h in others_single 0 few.1 (F.few_single few.0) j g;
      }

-- the requested page is alone in the last layer
pub last_single : (k a s p : ℕ) (rows : List Row) → 1 ≤ a → a ≤ k → FormedRows k a s rows
    → size_of (top_after (rule_in k s p rows) k a s) (rows_after k a s p rows) ≡ 1
last_single k a s p rows pos le F =
    let rule = rule_in k s p rows in
    let i = number_in rows p in
    let top = top_after rule k a s in
    omega (
      arith,
      after_count rule k a i s p (λ row. eqb row.number top) rows,
      bit_true (eqb top top) (eq-eqb top top refl),
      others_low rule k a s p rows F (moves k a i s pos le (number_most s p rows F.below) F.most) (λ row. eqb row.number top) (λ row t. omega tests),
    )

-- a request keeps the rows as document 01 asks
pub request_forms : (k a s p : ℕ) (rows : List Row) → 1 ≤ a → a ≤ k → FormedRows k a s rows
    → FormedRows k a (top_after (rule_in k s p rows) k a s) (rows_after k a s p rows)
request_forms k a s p rows pos le F =
    formed_by (rule_in k s p rows) k a s p rows F (moves k a (number_in rows p) s pos le (number_most s p rows F.below) F.most)

-- A table of such rows

used_none : (m : ℕ) → used_rows (replicate m unused) ≡ []
used_none zero = refl
used_none (suc m) = used_none m

used_front : (rows : List Row) (m : ℕ) → size_of 0 rows ≡ 0 → used_rows (rows ++ replicate m unused) ≡ rows
used_front [] m e = used_none m
used_front (x ∷ xs) m e =
    let u : ltb 0 x.number ≡ true = cases (eqb x.number 0) (λ g. absurd (omega (arith, bit_true _ g))) (λ g. omega tests) in
    rw u (ap (λ rows. x ∷ rows) (used_front xs m (omega arith)))

-- the used rows of a table are the rows that it holds
pub used_table : (places : ℕ) (rows : List Row) → size_of 0 rows ≡ 0 → used_rows (table_of places rows) ≡ rows
used_table places rows e = used_front rows (places - length rows) e
