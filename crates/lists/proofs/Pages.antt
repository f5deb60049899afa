-- Laws of lists of pages. A set is a test, a size is a count: an argument about sets is an implication between tests, and counts add up.
use Prim.Native.Nat.{ℕ, zero, suc, ◌+◌, ◌≤◌}
use native.Mathlib.Omega.{arith}
use mathlib.Core.Bool.{Bool, true, false, not}
use mathlib.Core.List.{List, [], ◌∷◌, ◌++◌, map}
use mathlib.Core.Logic.{◌⊎◌, inl, inr}
use mathlib.Core.Path.{◌≡◌, refl, sym, ap, ◌∙◌}
use lib.Dec.{eqb}
use lib.ListN.{length, take, drop}
use borrow.Author.Tests.{eqb-true, not-true}
use Rattle.lists.specs.Choice.{◌and◌}
use Rattle.lists.specs.Pages.{mem, without, to_end, erase, erase_all, distinct, bit, count}
use Rattle.lists.proofs.Choice.{cases, split, clash, and_l, and_r, and_i, or_l, or_r, or_split, or_none, or_none_l, or_none_r, same_test, not_i, bit_true, bit_false, bit_le}
use Rattle.lists.proofs.Choice.{bit_mono, eqb_self}

-- no page stands in the list twice, by counting
abbrev pub Once : List ℕ → Type 0
Once xs = (q : ℕ) → count (eqb q) xs ≤ 1

-- two lists have the same pages, each as often, in any order
abbrev pub Same : List ℕ → List ℕ → Type 0
Same xs ys = (f : ℕ → Bool) → count f xs ≡ count f ys

-- Counting

pub count_append {ℓ} : {A : Type ℓ} (f : A → Bool) (xs ys : List A) → count f (xs ++ ys) ≡ count f xs + count f ys
count_append f [] ys = omega arith
count_append f (x ∷ xs) ys = omega (arith, count_append f xs ys)

pub count_snoc {ℓ} : {A : Type ℓ} (f : A → Bool) (xs : List A) (x : A) → count f (xs ++ (x ∷ [])) ≡ count f xs + bit (f x)
count_snoc f xs x = omega (arith, count_append f xs (x ∷ []))

pub count_length {ℓ} : {A : Type ℓ} (f : A → Bool) (xs : List A) → count f xs ≤ length xs
count_length f [] = omega arith
count_length f (x ∷ xs) = omega (arith, count_length f xs, bit_le (f x))

-- the tests' bits add up, so the counts do
pub count_sum {ℓ} : {A : Type ℓ} (f g h : A → Bool) (xs : List A) → ((x : A) → bit (f x) ≡ bit (g x) + bit (h x))
    → count f xs ≡ count g xs + count h xs
count_sum f g h [] e = omega arith
count_sum f g h (x ∷ xs) e = omega (arith, e x, count_sum f g h xs e)

pub count_ext {ℓ} : {A : Type ℓ} (f g : A → Bool) (xs : List A) → ((x : A) → f x ≡ g x) → count f xs ≡ count g xs
count_ext f g [] e = refl
count_ext f g (x ∷ xs) e = rw (e x, count_ext f g xs e)

pub count_mono {ℓ} : {A : Type ℓ} (f g : A → Bool) (xs : List A) → ((x : A) → f x ≡ true → g x ≡ true) → count f xs ≤ count g xs
count_mono f g [] e = omega arith
count_mono f g (x ∷ xs) e = omega (arith, bit_mono (f x) (g x) (e x), count_mono f g xs e)

-- each that passes f passes g or h
pub count_cover {ℓ} : {A : Type ℓ} (f g h : A → Bool) (xs : List A) → ((x : A) → f x ≡ true → (g x ≡ true) ⊎ (h x ≡ true))
    → count f xs ≤ count g xs + count h xs
count_cover f g h [] e = omega arith
count_cover f g h (x ∷ xs) e = omega (arith, one (f x) (g x) (h x) (e x), count_cover f g h xs e)
  where
    one : (a b c : Bool) → (a ≡ true → (b ≡ true) ⊎ (c ≡ true)) → bit a ≤ bit b + bit c
    one true b c i = split (i refl) (λ e. rw e (omega arith)) (λ e. rw e (omega arith))
    one false b c i = omega arith

-- what passes f and what does not
pub count_not {ℓ} : {A : Type ℓ} (f : A → Bool) (xs : List A) → count f xs + count (λ x. not (f x)) xs ≡ length xs
count_not f [] = refl
count_not f (x ∷ xs) = omega (arith, one (f x), count_not f xs)
  where
    one : (a : Bool) → bit a + bit (not a) ≡ 1
    one true = refl
    one false = refl

-- what passes f, by a second test
pub count_by {ℓ} : {A : Type ℓ} (f g : A → Bool) (xs : List A)
    → count f xs ≡ count (λ x. f x and g x) xs + count (λ x. f x and not (g x)) xs
count_by f g xs = count_sum f (λ x. f x and g x) (λ x. f x and not (g x)) xs (λ x. one (f x) (g x))
  where
    one : (a b : Bool) → bit a ≡ bit (a and b) + bit (a and not b)
    one true true = unfold ◌and◌ in refl
    one true false = unfold ◌and◌ in refl
    one false true = unfold ◌and◌ in refl
    one false false = unfold ◌and◌ in refl

pub count_map {ℓ} : {A : Type ℓ} (f : A → Bool) (xs : List A) → count f xs ≡ count (λ b. b) (map f xs)
count_map f [] = refl
count_map f (x ∷ xs) = rw (count_map f xs)

-- Members

pub mem_here : (p : ℕ) (xs : List ℕ) → mem p (p ∷ xs) ≡ true
mem_here p xs = or_l _ _ (eqb_self p)

pub mem_there : (p q : ℕ) (xs : List ℕ) → mem p xs ≡ true → mem p (q ∷ xs) ≡ true
mem_there p q xs m = or_r _ _ m

pub mem_append_l : (p : ℕ) (xs ys : List ℕ) → mem p xs ≡ true → mem p (xs ++ ys) ≡ true
mem_append_l p [] ys m = clash false m refl
mem_append_l p (x ∷ xs) ys m = split (or_split _ _ m) (λ e. or_l _ _ e) (λ e. or_r _ _ (mem_append_l p xs ys e))

pub mem_append_r : (p : ℕ) (xs ys : List ℕ) → mem p ys ≡ true → mem p (xs ++ ys) ≡ true
mem_append_r p [] ys m = m
mem_append_r p (x ∷ xs) ys m = or_r _ _ (mem_append_r p xs ys m)

pub mem_append_split : (p : ℕ) (xs ys : List ℕ) → mem p (xs ++ ys) ≡ true → (mem p xs ≡ true) ⊎ (mem p ys ≡ true)
mem_append_split p [] ys m = inr m
mem_append_split p (x ∷ xs) ys m =
    split (or_split _ _ m) (λ e. inl (or_l _ _ e)) (λ e. split (mem_append_split p xs ys e) (λ f. inl (or_r _ _ f)) (λ f. inr f))

pub mem_snoc : (p : ℕ) (xs : List ℕ) → mem p (xs ++ (p ∷ [])) ≡ true
mem_snoc p xs = mem_append_r p xs (p ∷ []) (mem_here p [])

pub mem_snoc_split : (q p : ℕ) (xs : List ℕ) → mem q (xs ++ (p ∷ [])) ≡ true → (mem q xs ≡ true) ⊎ (q ≡ p)
mem_snoc_split q p xs m =
    split (mem_append_split q xs (p ∷ []) m) (λ e. inl e)
    (λ e. split (or_split _ _ e) (λ f. inr (eqb-true q p f)) (λ f. clash false f refl))

-- a member that passes the test is counted
pub count_some : (f : ℕ → Bool) (p : ℕ) (xs : List ℕ) → mem p xs ≡ true → f p ≡ true → 1 ≤ count f xs
count_some f p [] m e = clash false m refl
count_some f p (x ∷ xs) m e =
    split (or_split _ _ m)
    (λ h. let g : f x ≡ true = rw (eqb-true p x h) at e in omega (arith, bit_true (f x) g))
    (λ h. omega (arith, count_some f p xs h e))

pub mem_of_count : (p : ℕ) (xs : List ℕ) → 1 ≤ count (eqb p) xs → mem p xs ≡ true
mem_of_count p [] h = absurd (omega arith)
mem_of_count p (x ∷ xs) h =
    cases (eqb p x) (λ e. or_l _ _ e) (λ e. or_r _ _ (mem_of_count p xs (omega (arith, bit_false (eqb p x) e))))

pub count_absent : (p : ℕ) (xs : List ℕ) → mem p xs ≡ false → count (eqb p) xs ≡ 0
count_absent p [] m = refl
count_absent p (x ∷ xs) m = omega (arith, bit_false (eqb p x) (or_none_l _ _ m), count_absent p xs (or_none_r _ _ m))

-- count_mono, where the implication holds for the list's members
pub count_members : (f g : ℕ → Bool) (xs : List ℕ) → ((q : ℕ) → mem q xs ≡ true → f q ≡ true → g q ≡ true) → count f xs ≤ count g xs
count_members f g [] e = omega arith
count_members f g (x ∷ xs) e =
    omega (arith, bit_mono (f x) (g x) (e x (mem_here x xs)), count_members f g xs (λ q m. e q (mem_there q x xs m)))

pub count_none : (f : ℕ → Bool) (xs : List ℕ) → ((q : ℕ) → mem q xs ≡ true → f q ≡ false) → count f xs ≡ 0
count_none f [] e = refl
count_none f (x ∷ xs) e =
    omega (arith, bit_false (f x) (e x (mem_here x xs)), count_none f xs (λ q m. e q (mem_there q x xs m)))

pub count_all : (f : ℕ → Bool) (xs : List ℕ) → ((q : ℕ) → mem q xs ≡ true → f q ≡ true) → count f xs ≡ length xs
count_all f [] e = refl
count_all f (x ∷ xs) e =
    omega (arith, bit_true (f x) (e x (mem_here x xs)), count_all f xs (λ q m. e q (mem_there q x xs m)))

-- where none is counted, a member does not pass
pub count_zero : (f : ℕ → Bool) (p : ℕ) (xs : List ℕ) → count f xs ≡ 0 → mem p xs ≡ true → f p ≡ false
count_zero f p xs z m = cases (f p) (λ e. absurd (omega (arith, count_some f p xs m e))) (λ e. e)

-- whether some page of the list passes the test, with the page
pub find_some : (f : ℕ → Bool) (xs : List ℕ) → ((q : ℕ) × (mem q xs ≡ true) × (f q ≡ true)) ⊎ ((q : ℕ) → mem q xs ≡ true → f q ≡ false)
find_some f [] = inr (λ q m. clash false m refl)
find_some f (x ∷ xs) =
    cases (f x) (λ e. inl (x, mem_here x xs, e))
    (λ e. split (find_some f xs) (λ s. inl (s.0, mem_there s.0 x xs s.1, s.2))
    (λ n. inr (λ q m. split (or_split _ _ m) (λ h. rw (eqb-true q x h) e) (λ h. n q h))))

-- Taking a page out

pub count_without : (f : ℕ → Bool) (p : ℕ) (xs : List ℕ) → count f (without p xs) ≡ count (λ q. f q and not (eqb p q)) xs
unfolding ◌and◌
count_without f p [] = refl
count_without f p (x ∷ xs) =
    cases (eqb p x)
    (λ e. rw e (count_without f p xs ∙ omega (arith, bit_false (f x and false) (no (f x)))))
    (λ e. rw e (omega (arith, count_without f p xs, ap bit (unit (f x)))))
  where
    no : (b : Bool) → b and false ≡ false
    no true = refl
    no false = refl

    unit : (b : Bool) → b and true ≡ b
    unit true = refl
    unit false = refl

pub without_absent : (p : ℕ) (xs : List ℕ) → mem p xs ≡ false → without p xs ≡ xs
without_absent p [] m = refl
without_absent p (x ∷ xs) m = rw (or_none_l (eqb p x) (mem p xs) m, without_absent p xs (or_none_r _ _ m))

pub mem_without : (q p : ℕ) (xs : List ℕ) → mem q (without p xs) ≡ true → mem q xs ≡ true
mem_without q p [] m = m
mem_without q p (x ∷ xs) m =
    cases (eqb p x)
    (λ e. or_r _ _ (mem_without q p xs (rw e at m)))
    (λ e. split (or_split (eqb q x) (mem q (without p xs)) (rw e at m)) (λ h. or_l _ _ h) (λ h. or_r _ _ (mem_without q p xs h)))

pub without_gone : (p : ℕ) (xs : List ℕ) → mem p (without p xs) ≡ false
without_gone p [] = refl
without_gone p (x ∷ xs) =
    cases (eqb p x) (λ e. rw e (without_gone p xs)) (λ e. rw e (or_none _ _ e (without_gone p xs)))

pub mem_kept : (q p : ℕ) (xs : List ℕ) → mem q xs ≡ true → eqb p q ≡ false → mem q (without p xs) ≡ true
mem_kept q p [] m n = m
mem_kept q p (x ∷ xs) m n =
    cases (eqb p x)
    (λ e. rw e (split (or_split _ _ m)
    (λ h. let z : eqb p q ≡ true = rw (eqb-true q x h) e in clash _ z n)
    (λ h. mem_kept q p xs h n)))
    (λ e. rw e (split (or_split _ _ m) (λ h. or_l _ _ h) (λ h. or_r _ _ (mem_kept q p xs h n))))

-- without p one is gone, where p stood once
pub count_without_once : (f : ℕ → Bool) (p : ℕ) (xs : List ℕ) → mem p xs ≡ true → count (eqb p) xs ≤ 1
    → count f (without p xs) + bit (f p) ≡ count f xs
count_without_once f p [] m o = clash false m refl
count_without_once f p (x ∷ xs) m o =
    cases (eqb p x)
    (λ e. let absent : mem p xs ≡ false = cases (mem p xs) (λ h. absurd (omega (arith, bit_true (eqb p x) e, count_some (eqb p) p xs h (eqb_self p)))) (λ h. h) in
    rw (e, without_absent p xs absent, eqb-true p x e) (omega arith))
    (λ e. let there : mem p xs ≡ true = split (or_split _ _ m) (λ h. clash _ h e) (λ h. h) in
    rw e (omega (arith, count_without_once f p xs there (omega (arith, bit_false (eqb p x) e)))))

-- moving p to the end keeps the pages
pub to_end_same : (p : ℕ) (xs : List ℕ) → mem p xs ≡ true → count (eqb p) xs ≤ 1 → Same (to_end p xs) xs
to_end_same p xs m o f = count_snoc f (without p xs) p ∙ count_without_once f p xs m o

pub count_erase : (f : ℕ → Bool) (p : ℕ) (xs : List ℕ) → mem p xs ≡ true → count f (erase p xs) + bit (f p) ≡ count f xs
count_erase f p [] m = clash false m refl
count_erase f p (x ∷ xs) m =
    cases (eqb p x)
    (λ e. rw (e, eqb-true p x e) (omega arith))
    (λ e. let there : mem p xs ≡ true = split (or_split _ _ m) (λ h. clash _ h e) (λ h. h) in
    rw e (omega (arith, count_erase f p xs there)))

pub erase_absent : (p : ℕ) (xs : List ℕ) → mem p xs ≡ false → erase p xs ≡ xs
erase_absent p [] m = refl
erase_absent p (x ∷ xs) m = rw (or_none_l (eqb p x) (mem p xs) m, erase_absent p xs (or_none_r _ _ m))

-- taking out a page takes at most one
pub count_erase_le : (f : ℕ → Bool) (p : ℕ) (xs : List ℕ) → (count f (erase p xs) ≤ count f xs) × (count f xs ≤ count f (erase p xs) + 1)
count_erase_le f p xs =
    cases (mem p xs)
    (λ m. (omega (arith, count_erase f p xs m), omega (arith, count_erase f p xs m, bit_le (f p))))
    (λ m. rw erase_absent (omega arith, omega arith))

pub count_erase_all_le : (f : ℕ → Bool) (ps xs : List ℕ)
    → (count f (erase_all ps xs) ≤ count f xs) × (count f xs ≤ count f (erase_all ps xs) + length ps)
count_erase_all_le f [] xs = (omega arith, omega arith)
count_erase_all_le f (p ∷ ps) xs =
    let one = count_erase_le f p xs in
    let rest = count_erase_all_le f ps (erase p xs) in
    (omega arith, omega arith)

pub mem_erase : (q p : ℕ) (xs : List ℕ) → mem q (erase p xs) ≡ true → mem q xs ≡ true
mem_erase q p xs m =
    mem_of_count q xs (omega (arith, count_some (eqb q) q (erase p xs) m (eqb_self q), (count_erase_le (eqb q) p xs).0))

pub mem_erase_all : (q : ℕ) (ps xs : List ℕ) → mem q (erase_all ps xs) ≡ true → mem q xs ≡ true
mem_erase_all q [] xs m = m
mem_erase_all q (p ∷ ps) xs m = mem_erase q p xs (mem_erase_all q ps (erase p xs) m)

-- a page that is not among those taken out stays
pub mem_erase_all_kept : (q : ℕ) (ps xs : List ℕ) → mem q xs ≡ true → mem q ps ≡ false → mem q (erase_all ps xs) ≡ true
mem_erase_all_kept q [] xs m n = m
mem_erase_all_kept q (p ∷ ps) xs m n = mem_erase_all_kept q ps (erase p xs) kept (or_none_r _ _ n)
  where
    kept : mem q (erase p xs) ≡ true
    kept =
        cases (mem p xs)
        (λ h. mem_of_count q (erase p xs) (omega (arith, count_erase (eqb q) p xs h, bit_false (eqb q p) (or_none_l _ _ n), count_some (eqb q) q xs m (eqb_self q))))
        (λ h. rw erase_absent m)

pub erase_first : (x : ℕ) (xs : List ℕ) → erase x (x ∷ xs) ≡ xs
erase_first x xs = rw (eqb_self x)

-- taking out the first n leaves the rest
pub erase_all_take : (n : ℕ) (xs : List ℕ) → erase_all (take n xs) xs ≡ drop n xs
erase_all_take zero xs = refl
erase_all_take (suc n) [] = refl
erase_all_take (suc n) (x ∷ xs) = ap (λ (l : List ℕ). erase_all (take n xs) l) (erase_first x xs) ∙ erase_all_take n xs

-- Lists without repeats

pub distinct_once : (xs : List ℕ) → distinct xs ≡ true → Once xs
distinct_once [] d q = omega arith
distinct_once (x ∷ xs) d q =
    let rest = distinct_once xs (and_r _ _ d) q in
    cases (eqb q x)
    (λ e. let absent : count (eqb q) xs ≡ 0 = rw (eqb-true q x e) (count_absent x xs (not-true _ (and_l _ _ d))) in
    omega (arith, bit_le (eqb q x)))
    (λ e. omega (arith, bit_false (eqb q x) e))

pub once_distinct : (xs : List ℕ) → Once xs → distinct xs ≡ true
once_distinct [] o = refl
once_distinct (x ∷ xs) o =
    and_i _ _
    (not_i _ (cases (mem x xs) (λ m. absurd (omega (arith, o x, bit_true (eqb x x) (eqb_self x), count_some (eqb x) x xs m (eqb_self x)))) (λ m. m)))
    (once_distinct xs (λ q. omega (arith, o q)))

pub once_same : (xs ys : List ℕ) → Same xs ys → Once ys → Once xs
once_same xs ys s o q = omega (arith, s (eqb q), o q)

pub once_snoc : (p : ℕ) (xs : List ℕ) → Once xs → mem p xs ≡ false → Once (xs ++ (p ∷ []))
once_snoc p xs o m q =
    cases (eqb q p)
    (λ e. let absent : count (eqb q) xs ≡ 0 = rw (eqb-true q p e) (count_absent p xs m) in
    omega (arith, count_snoc (eqb q) xs p, bit_le (eqb q p)))
    (λ e. omega (arith, count_snoc (eqb q) xs p, bit_false (eqb q p) e, o q))

pub once_without : (p : ℕ) (xs : List ℕ) → Once xs → Once (without p xs)
once_without p xs o q =
    omega (arith, o q, count_without (eqb q) p xs, count_mono (λ r. eqb q r and not (eqb p r)) (eqb q) xs (λ r e. and_l _ _ e))

pub once_to_end : (p : ℕ) (xs : List ℕ) → Once xs → Once (to_end p xs)
once_to_end p xs o = once_snoc p (without p xs) (once_without p xs o) (without_gone p xs)

pub once_erase_all : (ps xs : List ℕ) → Once xs → Once (erase_all ps xs)
once_erase_all ps xs o q = omega (arith, o q, (count_erase_all_le (eqb q) ps xs).0)

-- an inclusion of a list without repeats in another list is an inequality of counts
pub count_incl : (f g : ℕ → Bool) (xs ys : List ℕ) → Once xs
    → ((q : ℕ) → mem q xs ≡ true → f q ≡ true → (mem q ys ≡ true) × (g q ≡ true)) → count f xs ≤ count g ys
count_incl f g [] ys o i = omega arith
count_incl f g (x ∷ xs) ys o i =
    cases (f x)
    (λ e. let h = i x (mem_here x xs) e in
    omega (
      arith,
      bit_true (f x) e,
      bit_true (g x) h.1,
      count_erase g x ys h.0,
      count_incl f g xs (erase x ys) rest_once (λ q m eq. (kept q m (i q (mem_there q x xs m) eq).0, (i q (mem_there q x xs m) eq).1)),
    ))
    (λ e. omega (arith, bit_false (f x) e, count_incl f g xs ys rest_once (λ q m eq. i q (mem_there q x xs m) eq)))
  where
    rest_once : Once xs
    rest_once q = omega (arith, o q)

    kept : (q : ℕ) → mem q xs ≡ true → mem q ys ≡ true → mem q (erase x ys) ≡ true
    kept q m n =
        cases (eqb q x)
        (λ e. let twice : 1 ≤ count (eqb x) xs = rw (← eqb-true q x e) (count_some (eqb q) q xs m (eqb_self q)) in
        absurd (omega (arith, o x, bit_true (eqb x x) (eqb_self x))))
        (λ e. mem_erase_all_kept q (x ∷ []) ys n (or_none _ _ e refl))

-- the same members without repeats: the same pages
pub same_of_members : (xs ys : List ℕ) → Once xs → Once ys → ((q : ℕ) → mem q xs ≡ mem q ys) → Same xs ys
same_of_members xs ys ox oy e f =
    omega (
      arith,
      count_incl f f xs ys ox (λ q m h. (sym (e q) ∙ m, h)),
      count_incl f f ys xs oy (λ q m h. (e q ∙ m, h)),
    )

pub mem_same : (xs ys : List ℕ) → Same xs ys → (q : ℕ) → mem q xs ≡ mem q ys
mem_same xs ys s q =
    same_test _ _
    (λ m. mem_of_count q ys (omega (arith, s (eqb q), count_some (eqb q) q xs m (eqb_self q))))
    (λ m. mem_of_count q xs (omega (arith, s (eqb q), count_some (eqb q) q ys m (eqb_self q))))

pub length_same : (xs ys : List ℕ) → Same xs ys → length xs ≡ length ys
length_same xs ys s =
    sym (count_all (λ q. true) xs (λ q m. refl)) ∙ s (λ q. true) ∙ count_all (λ q. true) ys (λ q m. refl)
