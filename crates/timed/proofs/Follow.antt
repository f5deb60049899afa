-- Times that stand beside their pages: parts of both lists alike, t0 of each page as a function of it, and that a step whose times follow their
-- pages leaves the times of the model.
use Prim.Native.Nat.{ℕ, zero, suc, ◌+◌, ◌-◌, ◌≤◌, ◌<◌}
use native.Mathlib.Omega.{arith}
use mathlib.Core.Bool.{true, false}
use mathlib.Core.List.{List, [], ◌∷◌, ◌++◌, map, append_assoc}
use mathlib.Core.Path.{◌≡◌, refl, sym, ap, ◌∙◌}
use Rattle.std.specs.Prelude.{Result, is_err}
use lib.Dec.{eqb}
use lib.ListN.{length, take, drop, get_or, replicate, length-append, length-take}
use lib.Seq.{get_or-take, take-take, length-take-le, take-append-add, drop-append-add}
use borrow.Author.Tests.{eqb-true, eq-eqb, ne_eqb, not-true}
use Rattle.lists.specs.Choice.{◌and◌}
use Rattle.lists.specs.Pages.{mem, distinct}
use Rattle.lists.specs.Sorting.{Row}
use Rattle.lists.proofs.Choice.{tests, cases, split, clash, and_l, and_r, and_false_l, and_false_r, and_i, or_split, bit_true, eqb_self, pick_true}
use Rattle.lists.proofs.Pages.{mem_here, mem_there}
use Rattle.lists.proofs.Parts.{drop_take}
use Rattle.marking.specs.Rdm.{beside, t0_after, times_after}
use Rattle.paging.specs.Rows.{row_at, rows_of, pages_of}
use Rattle.paging.specs.Table.{number_in, rows_after, size_of}
use Rattle.paging.proofs.Rows.{rows_take, pages_back}
use Rattle.paging.specs.declared.applied.RuleApplied.{RuleApplied}
use Rattle.table.specs.Serving.{SteppedTo}
use Rattle.table.specs.declared.Stepped.{Stepped}
use Rattle.timed.specs.Timed.{TimedReady, TimedTo}

-- Parts of lists

pub map_append : {A B : Type 0} (f : A → B) (xs ys : List A) → map f (xs ++ ys) ≡ map f xs ++ map f ys
map_append f [] ys = refl
map_append f (x ∷ xs) ys = ap (λ l. f x ∷ l) (map_append f xs ys)

pub map_take : {A B : Type 0} (f : A → B) (n : ℕ) (xs : List A) → map f (take n xs) ≡ take n (map f xs)
map_take f zero xs = refl
map_take f (suc n) [] = refl
map_take f (suc n) (x ∷ xs) = ap (λ l. f x ∷ l) (map_take f n xs)

pub map_drop : {A B : Type 0} (f : A → B) (n : ℕ) (xs : List A) → map f (drop n xs) ≡ drop n (map f xs)
map_drop f zero xs = refl
map_drop f (suc n) [] = refl
map_drop f (suc n) (x ∷ xs) = map_drop f n xs

pub map_members : (f g : ℕ → ℕ) (xs : List ℕ) → ((q : ℕ) → mem q xs ≡ true → f q ≡ g q) → map f xs ≡ map g xs
map_members f g [] e = refl
map_members f g (x ∷ xs) e = rw (e x (mem_here x xs), map_members f g xs (λ q m. e q (mem_there q x xs m)))

pub take_past : {A : Type 0} (n m : ℕ) (xs ys : List A) → length xs ≡ m → m ≤ n → take n (xs ++ ys) ≡ xs ++ take (n - m) ys
take_past n m xs ys e h =
    let s : n ≡ length xs + (n - m) = omega arith in
    ap (λ (i : ℕ). take i (xs ++ ys)) s ∙ take-append-add xs ys (n - m)

pub drop_past : {A : Type 0} (n m : ℕ) (xs ys : List A) → length xs ≡ m → m ≤ n → drop n (xs ++ ys) ≡ drop (n - m) ys
drop_past n m xs ys e h =
    let s : n ≡ length xs + (n - m) = omega arith in
    ap (λ (i : ℕ). drop i (xs ++ ys)) s ∙ drop-append-add xs ys (n - m)

part_of : {A : Type 0} (m i n : ℕ) (xs : List A) → i + m ≤ n → take m (drop i (take n xs)) ≡ take m (drop i xs)
part_of m i n xs h = rw (drop_take i n xs (omega arith)) (take-take m (n - i) (drop i xs) (omega arith))

-- Where the first n times are a function of the pages, so is every part of them

module _ (f : ℕ → ℕ) (n : ℕ) (ps ts : List ℕ) (e : take n ts ≡ map f (take n ps)) where
  pub part_follows : (m i : ℕ) → i + m ≤ n → take m (drop i ts) ≡ map f (take m (drop i ps))
  part_follows m i h =
      sym (part_of m i n ts h)
      ∙ ap (λ (l : List ℕ). take m (drop i l)) e
      ∙ rw (← map_drop f i (take n ps), ← map_take f m (drop i (take n ps)), part_of m i n ps h)

  pub get_follows : (i : ℕ) → i < n → i < length ps → get_or ts i 0 ≡ f (get_or ps i 0)
  get_follows i h g =
      sym (get_or-take n ts i 0 h)
      ∙ ap (λ (l : List ℕ). get_or l i 0) e
      ∙ get_map (take n ps) i (rw (length-take n ps) (omega arith))
      ∙ ap f (get_or-take n ps i 0 h)
    where
      get_map : (xs : List ℕ) (j : ℕ) → j < length xs → get_or (map f xs) j 0 ≡ f (get_or xs j 0)
      get_map [] j l = absurd (omega arith)
      get_map (x ∷ xs) zero l = refl
      get_map (x ∷ xs) (suc j) l = get_map xs j (omega arith)

pub pages_append : (xs ys : List Row) → pages_of (xs ++ ys) ≡ pages_of xs ++ pages_of ys
pages_append [] ys = refl
pages_append (x ∷ xs) ys = ap (λ l. x.page ∷ l) (pages_append xs ys)

-- t0 as a function of the page

-- beside pages without repeats each time stands at its page's place
times_beside : (ps ts : List ℕ) → length ps ≤ length ts → distinct ps ≡ true → take (length ps) ts ≡ map (beside ps ts) ps
times_beside [] ts h d = refl
times_beside (p ∷ ps) [] h d = absurd (omega arith)
times_beside (p ∷ ps) (t ∷ ts) h d =
    let absent : mem p ps ≡ false = not-true _ (and_l _ _ d) in
    let rest : map (beside ps ts) ps ≡ map (beside (p ∷ ps) (t ∷ ts)) ps =
    map_members (beside ps ts) (beside (p ∷ ps) (t ∷ ts)) ps
    (λ q m. let other : eqb q p ≡ false = cases (eqb q p) (λ g. clash (mem p ps) (rw (eqb-true q p g) at m) absent) (λ g. g) in rw other) in
    rw (eqb_self p) (ap (λ (l : List ℕ). t ∷ l) (times_beside ps ts (omega arith) (and_r _ _ d) ∙ rest))

-- a page of a row that is not in L0 has a number
pub number_some : (p : ℕ) (rows : List Row) → size_of 0 rows ≡ 0 → mem p (pages_of rows) ≡ true → 0 < number_in rows p
number_some p [] z m = clash false m refl
number_some p (x ∷ xs) z m =
    split (or_split _ _ m)
    (λ e. let own : eqb x.page p ≡ true = eq-eqb _ _ (sym (eqb-true p x.page e)) in
    let above : 0 < x.number = cases (eqb x.number 0) (λ g. absurd (omega (arith, bit_true _ g))) (λ g. omega tests) in
    rw own (omega arith))
    (λ e. let rest = number_some p xs (omega arith) e in omega arith)

module _ (k a s p t at used : ℕ) (ns ps ts : List ℕ) (R : TimedReady k a s p at used ns ps ts) where
  pub used_pages : pages_of (take used (rows_of ns ps)) ≡ take used ps
  used_pages =
      let e = R.filled.even in
      let f = R.filled.fits in
      rw (← rows_take ns ps used) (pages_back (take used ns) (take used ps) (length-take-le used ps f ∙ sym (length-take-le used ns (omega arith))))

  -- t0 after the request is the time that stands beside a page that had a row
  pub t0_follows : take used ts ≡ map (t0_after t p (take used (rows_of ns ps)) ts) (take used ps)
  t0_follows =
      let U = take used (rows_of ns ps) in
      let b = R.beside in
      let f = R.filled.fits in
      let n : length (take used ps) ≡ used = length-take-le used ps f in
      let all : take used ts ≡ map (beside (take used ps) ts) (take used ps) = rw n at (times_beside (take used ps) ts (omega arith) R.once) in
      all
      ∙ map_members (beside (take used ps) ts) (t0_after t p U ts) (take used ps)
      (λ q m. let old : (eqb q p and eqb (number_in U p) 0) ≡ false =
      cases (eqb q p)
      (λ g. let here : mem p (pages_of U) ≡ true = rw (used_pages, ← eqb-true q p g) m in
      let some = number_some p U R.filled.above here in
      and_false_r _ _ (ne_eqb (number_in U p) 0 (λ z. omega arith)))
      (λ g. and_false_l _ _ g) in
      rw (old, used_pages))

  pub t0_new : mem p (take used ps) ≡ false → number_in (take used (rows_of ns ps)) p ≡ 0 → t0_after t p (take used (rows_of ns ps)) ts p ≡ t
  t0_new absent z = pick_true _ _ _ (and_i _ _ (eqb_self p) (eq-eqb _ _ z))

  module _ (ns' ps' ts' : List ℕ) (r : Result Stepped RuleApplied) (lp : length ps' ≡ length ps) (ln : length ns' ≡ length ps)
      (S : SteppedTo k a s p (length ps) (rows_of ns ps) (rows_of ns' ps') r) where
    -- a step that had no room
    pub timed_full : is_err r ≡ true → ts' ≡ ts → TimedTo k a s p t used ns ps ts ns' ps' ts' r
    timed_full f e = record { table = S; times_told = rw f e; pages_length = lp; numbers_length = ln }

    -- a step that had room and left the rows W and the requested page's: the times are those of its pages, zeros behind them
    pub timed_served : (top : ℕ) (W : List Row) → is_err r ≡ false → rows_after k a s p (rows_of ns ps) ≡ W ++ (row_at top p ∷ [])
        → ts' ≡ map (t0_after t p (take used (rows_of ns ps)) ts) (pages_of W)
        ++ (t0_after t p (take used (rows_of ns ps)) ts p ∷ replicate (length ps - suc (length W)) 0)
        → TimedTo k a s p t used ns ps ts ns' ps' ts' r
    timed_served top W f after told =
        let t0 : ℕ → ℕ = t0_after t p (take used (rows_of ns ps)) ts in
        let n : length (W ++ (row_at top p ∷ [])) ≡ suc (length W) = length-append W _ ∙ omega arith in
        let all : ts' ≡ times_after t p (take used (rows_of ns ps)) (W ++ (row_at top p ∷ [])) ts ++ replicate (length ps - length (W ++ (row_at top p ∷ []))) 0 =
        told ∙ rw (n, pages_append W (row_at top p ∷ []), map_append t0 (pages_of W) (p ∷ [])) (sym (append_assoc (map t0 (pages_of W)) (t0 p ∷ []) _)) in
        record { table = S; times_told = rw (f, after) all; pages_length = lp; numbers_length = ln }
