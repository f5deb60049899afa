-- Laws behind the operations on lent lists: the first place of a page, a list that grows at its end, writing along a list.
use Prim.Native.Nat.{ℕ, suc, ◌+◌, ◌-◌, ◌≤◌, ◌<◌, min}
use native.Mathlib.Nat.{add-zero}
use native.Mathlib.Numerals.{add-one}
use native.Mathlib.Omega.{arith}
use mathlib.Core.Bool.{Bool, true, false, not, ◌||◌}
use mathlib.Core.List.{List, [], ◌∷◌, ◌++◌, append_assoc, append-nil}
use mathlib.Core.Path.{◌≡◌, refl, sym, ap, ◌∙◌}
use lib.Dec.{eqb, ltb, leb-suc-suc}
use lib.ListN.{length, take, drop, get_or, set, replicate, length-append, length-take, length-drop, length-replicate, get_or-replicate, drop_of_length-le, take-append-drop}
use lib.Seq.{paste, drop-drop, drop-cons, take-suc, take_all, length-take-le, set_at, get_or-append-add, get_or-drop, get_or-take}
use mir.Val.{bool_byte}
use borrow.Author.Tests.{eq-eqb, ne_eqb, eqb-true, lt-ltb, not-true}
use Rattle.lists.specs.Choice.{◌and◌, ◌or◌}
use Rattle.lists.specs.Pages.{mem, distinct, to_end}
use Rattle.lists.specs.Places.{place, moved_to_end, first_dropped, over, pasted}
use Rattle.lists.proofs.Choice.{cases, split, clash, and_l, and_r, and_false_r, or_split, eqb_sym}
use Rattle.lists.proofs.Pages.{without_absent}

-- The first place of a page

pub place_here : (p i : ℕ) (xs : List ℕ) → i < length xs → get_or xs i 0 ≡ p → i + place p (drop i xs) ≡ i
place_here p i xs h e = rw (drop-cons xs i 0 h, eq-eqb p (get_or xs i 0) (sym e)) (add-zero i)

pub place_next : (p i : ℕ) (xs : List ℕ) → i < length xs → (get_or xs i 0 ≡ p → ⊥) → i + place p (drop i xs) ≡ i + 1 + place p (drop (i + 1) xs)
place_next p i xs h e =
    rw (drop-cons xs i 0 h, ne_eqb p (get_or xs i 0) (λ q. e (sym q)), add-one i) (omega arith)

pub place_end : (p i : ℕ) (xs : List ℕ) → length xs ≤ i → i + place p (drop i xs) ≡ i
place_end p i xs h = rw (drop_of_length-le xs h) (add-zero i)

-- a page is in the list exactly if its place is below the length
pub mem_place : (p : ℕ) (xs : List ℕ) → mem p xs ≡ ltb (place p xs) (length xs)
unfolding ◌or◌
mem_place p [] = refl
mem_place p (x ∷ xs) =
    cases (eqb p x)
    (λ e. rw e (sym (lt-ltb 0 (suc (length xs)) (omega arith))))
    (λ e. rw e (mem_place p xs ∙ sym (leb-suc-suc (suc (place p xs)) (length xs))))

pub mem_append : (p : ℕ) (xs ys : List ℕ) → mem p (xs ++ ys) ≡ mem p xs or mem p ys
unfolding ◌or◌
mem_append p [] ys = refl
mem_append p (x ∷ xs) ys = cases (eqb p x) (λ e. rw e refl) (λ e. rw e (mem_append p xs ys))

-- a part without the page is passed over
place_behind : (p : ℕ) (ys zs : List ℕ) → mem p ys ≡ false → place p (ys ++ zs) ≡ length ys + place p zs
unfolding ◌or◌
place_behind p [] zs e = omega arith
place_behind p (y ∷ ys) zs e =
    cases (eqb p y)
    (λ s. clash true refl (rw s at e))
    (λ s. let e' : mem p ys ≡ false = rw s at e in rw (s, place_behind p ys zs e') (omega arith))

pub part_passed : (p i n : ℕ) (xs : List ℕ) → i + n ≤ length xs → mem p (take n (drop i xs)) ≡ false
    → i + place p (drop i xs) ≡ i + n + place p (drop (i + n) xs)
part_passed p i n xs h e =
    let l : length (take n (drop i xs)) ≡ n = length-take-le n (drop i xs) (rw (length-drop i xs) (omega arith)) in
    let d : drop n (drop i xs) ≡ drop (i + n) xs = drop-drop n i xs in
    let q : place p (drop i xs) ≡ n + place p (drop (i + n) xs) =
    ap (place p) (sym (take-append-drop n (drop i xs))) ∙ place_behind p (take n (drop i xs)) (drop n (drop i xs)) e ∙ rw (l, d) refl in
    omega arith

-- Whether a page stands in a list

pub has_turn : (p i : ℕ) (found : Bool) (xs : List ℕ) → i < length xs → found ≡ mem p (take i xs)
    → found || eqb (get_or xs i 0) p ≡ mem p (take (i + 1) xs)
unfolding ◌or◌
has_turn p i found xs h e =
    rw (add-one i, take-suc xs i 0 h, mem_append p (take i xs) (get_or xs i 0 ∷ []), e, eqb_sym (get_or xs i 0) p)
    (cases (mem p (take i xs)) (λ m. rw m refl)
    (λ m. rw m (cases (eqb p (get_or xs i 0)) (λ s. rw s refl) (λ s. rw s refl))))

-- a Boolean as a number
pub byte_one : (b : Bool) → bool_byte b ≤ 1
byte_one true = omega arith
byte_one false = omega arith

-- A list that grows at its end

pub distinct_snoc : (xs : List ℕ) (y : ℕ) → distinct (xs ++ (y ∷ [])) ≡ distinct xs and not (mem y xs)
unfolding ◌and◌ ◌or◌
distinct_snoc [] y = refl
distinct_snoc (x ∷ xs) y =
    rw (mem_append x xs (y ∷ []), distinct_snoc xs y, eqb_sym x y)
    (cases (mem x xs) (λ m. rw m refl)
    (λ m. rw m (cases (eqb y x) (λ e. rw e (sym (and_false_r (distinct xs) false refl))) (λ e. rw e refl))))

-- a page twice in a front is a page twice in the whole
pub distinct_front : (xs ys : List ℕ) → distinct xs ≡ false → distinct (xs ++ ys) ≡ false
unfolding ◌and◌ ◌or◌
distinct_front [] ys e = clash true refl e
distinct_front (x ∷ xs) ys e =
    rw (mem_append x xs ys)
    (cases (mem x xs) (λ m. rw m refl)
    (λ m. let e' : distinct xs ≡ false = rw m at e in
    rw (m, distinct_front xs ys e') (and_false_r (not (mem x ys)) false refl)))

-- a page that stands before its place too is a page twice
pub twice_at : (pages : List ℕ) (i : ℕ) → i < length pages → mem (get_or pages i 0) (take i pages) ≡ true → distinct pages ≡ false
unfolding ◌and◌
twice_at pages i h m =
    let front : distinct (take (suc i) pages) ≡ false =
    rw (take-suc pages i 0 h, distinct_snoc (take i pages) (get_or pages i 0), m) (and_false_r (distinct (take i pages)) false refl) in
    rw (take-append-drop (suc i) pages) at (distinct_front (take (suc i) pages) (drop (suc i) pages) front)

-- Writing along a list

pub over_none : (s d : List ℕ) → d ≡ over s d 0
unfolding over
over_none s d = refl

pub over_is : (s d : List ℕ) (i : ℕ) → over s d i ≡ take i s ++ drop i d
unfolding over
over_is s d i = refl

over_all : (s d : List ℕ) (i : ℕ) → length s ≤ i → length d ≤ i → over s d i ≡ s
unfolding over
over_all s d i hs hd = rw (take_all i s hs, drop_of_length-le d hd) (append-nil s)

pub over_turn : (s d : List ℕ) (i : ℕ) → i < length s → i < length d → set (over s d i) i (get_or s i 0) ≡ over s d (i + 1)
unfolding over
over_turn s d i hs hd =
    rw (drop-cons d i 0 hd, set_at (take i s) (get_or d i 0) (drop (suc i) d) (get_or s i 0) i (length-take-le i s (omega arith)), add-one i)
    (rw (take-suc s i 0 hs) (sym (append_assoc (take i s) (get_or s i 0 ∷ []) (drop (suc i) d))))

-- a turn that stores what s has at the place
pub over_stored : (s d xs : List ℕ) (i v : ℕ) → xs ≡ over s d i → i < length s → i < length d → v ≡ get_or s i 0
    → set xs i v ≡ over s d (i + 1)
over_stored s d xs i v e hs hd q = rw (e, q) (over_turn s d i hs hd)

-- what is not written yet is as it was
pub over_ahead : (s d xs : List ℕ) (i j : ℕ) → xs ≡ over s d i → i ≤ length s → i ≤ j → get_or xs j 0 ≡ get_or d j 0
unfolding over
over_ahead s d xs i j e hs h =
    let at : j ≡ length (take i s) + (j - i) = rw (length-take-le i s hs) (omega arith) in
    ap (λ (l : List ℕ). get_or l j 0) e
    ∙ ap (λ (x : ℕ). get_or (take i s ++ drop i d) x 0) at
    ∙ get_or-append-add (take i s) (drop i d) (j - i) 0
    ∙ get_or-drop i d (j - i) 0
    ∙ ap (λ (x : ℕ). get_or d x 0) (omega arith)

-- Zeros along a list

pub zero_turn : (d xs : List ℕ) (i : ℕ) → xs ≡ over (replicate (length d) 0) d i → i < length d
    → set xs i 0 ≡ over (replicate (length d) 0) d (i + 1)
zero_turn d xs i e l =
    let n = length-replicate {A = ℕ} (length d) 0 in
    over_stored (replicate (length d) 0) d xs i 0 e (omega arith) l (sym (get_or-replicate (length d) i 0 0 l))

pub zero_done : (d xs : List ℕ) (i : ℕ) → xs ≡ over (replicate (length d) 0) d i → length d ≤ i → xs ≡ replicate (length d) 0
zero_done d xs i e l =
    e ∙ over_all (replicate (length d) 0) d i (rw (length-replicate {A = ℕ} (length d) 0) l) l

pub ruleset zero_rules = (over_none, zero_turn, zero_done)

-- An entry moved to the end: the later ones copied down a place, and a store in the last

pub moved_by_copying : {A : Type 0} (at : ℕ) (e : A) (xs ys : List A) → at < length xs → e ≡ get_or xs at e
    → ys ≡ paste xs at (drop (at + 1) xs) (length xs - (at + 1)) → set ys (length xs - 1) e ≡ moved_to_end at xs
moved_by_copying at e xs ys h g told =
    let n : length (drop (suc at) xs) ≡ length xs - suc at = length-drop (suc at) xs in
    let whole : take (length xs - suc at) (drop (suc at) xs) ≡ drop (suc at) xs = take_all (length xs - suc at) (drop (suc at) xs) (omega arith) in
    let end : at + (length xs - suc at) ≡ length xs - 1 = omega arith in
    let z = get_or xs (length xs - 1) e in
    let none : drop (suc (length xs - 1)) xs ≡ [] = drop_of_length-le xs {i = suc (length xs - 1)} (omega arith) in
    let last : drop (length xs - 1) xs ≡ z ∷ [] = drop-cons xs (length xs - 1) e (omega arith) ∙ rw none refl in
    let others = take at xs ++ drop (suc at) xs in
    let many : length others ≡ length xs - 1 = simp (length-append, length-take, length-drop) (omega arith) in
    let shape : ys ≡ others ++ (z ∷ []) = told ∙ rw (add-one at, whole, end, last) refl in
    let moved : take 1 (drop at xs) ≡ e ∷ [] = rw (drop-cons xs at e h, ← g) refl in
    rw (shape, moved) (set_at others z [] e (length xs - 1) many)

-- nothing moves where there is no such place
pub moved_none : {A : Type 0} (at : ℕ) (xs : List A) → length xs ≤ at → xs ≡ moved_to_end at xs
moved_none at xs h =
    rw (take_all at xs h, drop_of_length-le xs {i = suc at} (omega arith), drop_of_length-le xs {i = at} h) (simp append-nil)

-- The first ones gone: where all of them go, zeros are left

pub dropped_all : (n : ℕ) (xs : List ℕ) → length xs ≤ n → replicate (length xs) 0 ≡ first_dropped n xs
dropped_all n xs h = let e : min n (length xs) ≡ length xs = omega arith in rw (drop_of_length-le xs h, e) refl

-- Entries copied over a front

pub pasted_whole : {A : Type 0} (from to : List A) → length from ≤ length to → take (length from) from ++ drop (length from) to ≡ pasted from to
pasted_whole from to h = rw (take_all (length from) from (omega arith), take_all (length to) from h) refl

pub pasted_part : {A : Type 0} (from to : List A) → length to ≤ length from → take (length to) from ++ drop (length to) to ≡ pasted from to
pasted_part from to h = rw (drop_of_length-le to {i = length to} (omega arith), drop_of_length-le to {i = length from} h) refl

pub put_done : (from to xs : List ℕ) (n i : ℕ) → xs ≡ over from to i → i ≤ n → n ≤ i → xs ≡ take n from ++ drop n to
put_done from to xs n i e h g = let same : n ≡ i = omega arith in e ∙ over_is from to i ∙ rw same refl

-- the same entry by entry
pub copied_none : {A : Type 0} (from to : List A) → to ≡ take 0 from ++ drop 0 to
copied_none from to = refl

pub copied_next : {A : Type 0} (from to xs : List A) (n i : ℕ) (entry : A) → xs ≡ take i from ++ drop i to → i < length (take n from) → i < length to
    → entry ≡ get_or (take n from) i entry → set xs i entry ≡ take (i + 1) from ++ drop (i + 1) to
copied_next from to xs n i entry e h room is =
    let front : i < length from = omega (arith, length-take n from) in
    let here : get_or from i entry ≡ entry = sym (is ∙ get_or-take n from i entry (omega (arith, length-take n from))) in
    let next : take (suc i) from ≡ take i from ++ (entry ∷ []) = take-suc from i entry front ∙ rw here refl in
    rw (e, add-one i, next, drop-cons to i entry room)
    (set_at (take i from) (get_or to i entry) (drop (suc i) to) entry i (length-take-le i from (omega arith)) ∙ sym (append_assoc (take i from) (entry ∷ []) (drop (suc i) to)))

pub copied_done : {A : Type 0} (from to xs : List A) (n i : ℕ) → xs ≡ take i from ++ drop i to → n ≤ length from
    → length (take n from) ≤ i → i ≤ length (take n from) → xs ≡ take n from ++ drop n to
copied_done from to xs n i e few least h = let all : i ≡ n = omega (arith, length-take n from) in e ∙ rw all refl

pub ruleset put_rules = (copied_none, copied_next, copied_done, length-take)

pub ruleset pasted_rules = (pasted_whole, pasted_part)

-- What these leave of the length

pub length_moved : (at : ℕ) (xs : List ℕ) → length (moved_to_end at xs) ≡ length xs
length_moved at xs = simp (length-append, length-take, length-drop) (omega arith)

pub length_dropped : (n : ℕ) (xs : List ℕ) → length (first_dropped n xs) ≡ length xs
length_dropped n xs = simp (length-append, length-drop, length-replicate) (omega arith)

-- LRU's words for them

-- the page moved from its first place is the page moved from wherever it stands
pub moved_to_end_lem : (p : ℕ) (xs : List ℕ) → distinct xs ≡ true → mem p xs ≡ true → moved_to_end (place p xs) xs ≡ to_end p xs
moved_to_end_lem p [] d m = clash false m refl
moved_to_end_lem p (x ∷ xs) d m =
    cases (eqb p x)
    (λ e. rw (e, without_absent p xs (rw (eqb-true p x e) (not-true (mem x xs) (and_l _ _ d))))
    (ap (λ (y : ℕ). xs ++ (y ∷ [])) (sym (eqb-true p x e))))
    (λ e. rw e (ap (λ (r : List ℕ). x ∷ r) (moved_to_end_lem p xs (and_r _ _ d) (or_right (eqb p x) (mem p xs) e m))))
  where
    or_right : (a b : Bool) → a ≡ false → a or b ≡ true → b ≡ true
    or_right a b e m = split (or_split a b m) (λ t. clash a t e) (λ t. t)
