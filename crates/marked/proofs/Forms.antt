-- The questions on pages and marks, and how many pages are below one, place by place.
use Prim.Native.Nat.{ℕ, zero, suc, ◌+◌, ◌-◌, ◌≤◌, ◌<◌}
use native.Mathlib.Numerals.{add-one}
use native.Mathlib.Omega.{arith}
use mathlib.Core.Bool.{Bool, true, false, ◌&&◌}
use mathlib.Core.List.{List, [], ◌∷◌}
use mathlib.Core.Path.{◌≡◌, refl, sym, ◌∙◌}
use lib.Dec.{leb, ltb}
use lib.ListN.{length, take, get_or}
use lib.Seq.{take-suc}
use mir.Val.{bool_byte}
use Rattle.lists.specs.Choice.{◌and◌}
use Rattle.lists.specs.Pages.{bit, count}
use Rattle.lists.proofs.Pages.{count_snoc}
use Rattle.marking.specs.Lists.{rising_behind, rising, all_marks}

and_is : (a b : Bool) → a && b ≡ a and b
unfolding ◌and◌
and_is true b = refl
and_is false b = refl

and_last : (a : Bool) → a and true ≡ a
unfolding ◌and◌
and_last true = refl
and_last false = refl

and_turned : (a b c d : Bool) → b ≡ c and d → a and b ≡ (a and c) and d
unfolding ◌and◌
and_turned true b c d e = e
and_turned false b c d e = refl

-- Pages that rise

pub rising_one : (xs : List ℕ) → true ≡ rising (take 1 xs)
rising_one [] = refl
rising_one (x ∷ xs) = refl

behind_turn : (x : ℕ) (xs : List ℕ) (i : ℕ) → i < length xs
    → rising_behind x (take (suc i) xs) ≡ rising_behind x (take i xs) and ltb (get_or (x ∷ xs) i 0) (get_or xs i 0)
unfolding ◌and◌
behind_turn x [] i h = absurd (omega arith)
behind_turn x (y ∷ ys) zero h = and_last (ltb x y)
behind_turn x (y ∷ ys) (suc i) h =
    and_turned (ltb x y) (rising_behind y (take (suc i) ys)) (rising_behind y (take i ys)) (ltb (get_or (y ∷ ys) i 0) (get_or ys i 0)) (behind_turn y ys i (omega arith))

pub rises_turn : (xs : List ℕ) (i : ℕ) (fine : Bool) → 1 ≤ i → i < length xs → fine ≡ rising (take i xs)
    → fine && ltb (get_or xs (i - 1) 0) (get_or xs i 0) ≡ rising (take (i + 1) xs)
rises_turn xs zero fine g h e = absurd (omega arith)
rises_turn [] (suc i) fine g h e = absurd (omega arith)
rises_turn (x ∷ xs) (suc i) fine g h e =
    let z : suc i - 1 ≡ i = omega arith in
    rw (z, add-one (suc i), e) (and_is (rising_behind x (take i xs)) (ltb (get_or (x ∷ xs) i 0) (get_or xs i 0)) ∙ sym (behind_turn x xs i (omega arith)))

-- Marks

all_turn : (xs : List ℕ) (i : ℕ) → i < length xs → all_marks (take (suc i) xs) ≡ all_marks (take i xs) and leb (get_or xs i 0) 1
unfolding ◌and◌
all_turn [] i h = absurd (omega arith)
all_turn (x ∷ xs) zero h = and_last (leb x 1)
all_turn (x ∷ xs) (suc i) h =
    and_turned (leb x 1) (all_marks (take (suc i) xs)) (all_marks (take i xs)) (leb (get_or xs i 0) 1) (all_turn xs i (omega arith))

pub marks_turn : (xs : List ℕ) (i : ℕ) (fine : Bool) → i < length xs → fine ≡ all_marks (take i xs)
    → fine && leb (get_or xs i 0) 1 ≡ all_marks (take (i + 1) xs)
marks_turn xs i fine h e = rw (add-one i, e) (and_is (all_marks (take i xs)) (leb (get_or xs i 0) 1) ∙ sym (all_turn xs i h))

-- Pages below a page

byte_bit : (b : Bool) → bool_byte b ≡ bit b
byte_bit true = refl
byte_bit false = refl

pub below_turn : (p : ℕ) (xs : List ℕ) (i n : ℕ) → i < length xs → n ≡ count (λ q. ltb q p) (take i xs)
    → n + bool_byte (ltb (get_or xs i 0) p) ≡ count (λ q. ltb q p) (take (i + 1) xs)
below_turn p xs i n h e =
    let s : count (λ q. ltb q p) (take (i + 1) xs) ≡ count (λ q. ltb q p) (take i xs) + bit (ltb (get_or xs i 0) p) =
    rw (add-one i, take-suc xs i 0 h) (count_snoc (λ q. ltb q p) (take i xs) (get_or xs i 0)) in
    omega (arith, byte_bit (ltb (get_or xs i 0) p))
