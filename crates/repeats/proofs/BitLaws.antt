-- Laws of the marks: a mark that is set stays set, so a page without one is none of those marked.
use Prim.Native.Nat.{ℕ, ◌+◌, ◌*◌, ◌/◌, ◌%◌, ◌^◌, ◌≤◌, ◌<◌, max, zero-le}
use native.Mathlib.Omega.{arith}
use mathlib.Core.Bool.{Bool, true, false}
use mathlib.Core.List.{List, [], ◌∷◌, ◌++◌}
use mathlib.Core.Path.{◌≡◌, refl, sym, ap, ◌∙◌}
use lib.Arith.{bin_ind}
use lib.Bits.{bit_and, bit_or, bit_xor, and_step, or_step, or_shr, and_le_r}
use lib.Dec.{eqb, ltb}
use lib.ListN.{length, get_or, set, length-set}
use lib.Pow.{pow_pos, shl_exact}
use lib.Seq.{get_or-set_same, get_or-set_other}
use borrow.Author.Tests.{lt-ltb, ltb-true, eqb-true, eqb-false}
use Rattle.lists.specs.Choice.{◌and◌, ◌or◌}
use Rattle.lists.specs.Pages.{mem}
use Rattle.lists.proofs.Choice.{cases, clash, and_i, and_l, and_r}
use Rattle.lists.proofs.Leaves.{mem_append}
use Rattle.repeats.specs.Bits.{words, fold_of, product_of, bit_of, is_set, with_bit, is_marked, with_mark, AllMarked}

-- Bits

or_odd : (x y : ℕ) → bit_or x y % 2 ≡ max (x % 2) (y % 2)
or_odd x y = let e = or_step x y in omega arith

half : (x y q : ℕ) → bit_and (bit_or x y / 2) q ≡ bit_and (bit_or (x / 2) (y / 2)) q
half x y q = ap (λ (z : ℕ). bit_and z q) (or_shr x y 1)

-- more bits in a word keep those that are in it
kept : (x y q : ℕ) → bit_and x q ≤ bit_and (bit_or x y) q
kept =
    bin_ind (λ (n : ℕ). (y q : ℕ) → bit_and n q ≤ bit_and (bit_or n y) q) (λ y q. zero-le)
    (λ n ih y q. let a = and_step n q in
    let b = and_step (bit_or n y) q in
    let o = or_odd n y in
    let h = half n y (q / 2) in
    let i = ih (y / 2) (q / 2) in
    omega arith)

-- and the bits put in are there
there : (y x : ℕ) → y ≤ bit_and (bit_or x y) y
there =
    bin_ind (λ (n : ℕ). (x : ℕ) → n ≤ bit_and (bit_or x n) n) (λ x. zero-le)
    (λ n ih x. let b = and_step (bit_or x n) n in
    let o = or_odd x n in
    let h = half x n (n / 2) in
    let i = ih (x / 2) in
    omega arith)

-- A page's bits

pub fold_is : (page : ℕ) → (bit_and (bit_xor page (page / 4096)) 1048575 ≡ fold_of page) × (bit_and (bit_xor page (page / 4096)) 1048575 < 2097152)
unfolding fold_of
fold_is page = (refl, omega (arith, and_le_r (bit_xor page (page / 4096)) 1048575))

-- 20 bits of a product
pub product_most : (page : ℕ) → bit_and (page * 2654435769 / 4096) 1048575 ≤ 1048575
product_most page = and_le_r (page * 2654435769 / 4096) 1048575

pub product_is : (page : ℕ)
    → (1048576 + bit_and (page * 2654435769 / 4096) 1048575 ≡ product_of page) × (1048576 + bit_and (page * 2654435769 / 4096) 1048575 < 2097152)
unfolding product_of
product_is page = (refl, omega (arith, product_most page))

fold_inside : (page : ℕ) → fold_of page < 2097152
unfolding fold_of
fold_inside page = (fold_is page).1

product_inside : (page : ℕ) → product_of page < 2097152
unfolding product_of
product_inside page = (product_is page).1

pub bit_is : (bit : ℕ) → (1 * 2 ^ (bit % 32)) % 2 ^ 32 ≡ bit_of bit
unfolding bit_of
bit_is bit = let e = shl_exact {a = 1} 1 (bit % 32) 32 (omega arith) (omega arith) in omega arith

pub set_is : (marks : List ℕ) (bit b : ℕ) → b ≡ bit_of bit → ltb 0 (bit_and (get_or marks (bit / 32) 0) b) ≡ is_set marks bit
unfolding is_set
set_is marks bit b e = rw e

pub with_is : (marks : List ℕ) (bit b : ℕ) → b ≡ bit_of bit → set marks (bit / 32) (bit_or (get_or marks (bit / 32) 0) b) ≡ with_bit marks bit
unfolding with_bit
with_is marks bit b e = rw e

-- One bit set

length_bit : (marks : List ℕ) (p : ℕ) → length (with_bit marks p) ≡ length marks
unfolding with_bit
length_bit marks p = simp length-set

module _ (marks : List ℕ) (p : ℕ) (size : length marks ≡ words) (most : p < 2097152) where
  inside : p / 32 < length marks
  inside = omega arith

  set_own : is_set (with_bit marks p) p ≡ true
  unfolding is_set with_bit bit_of
  set_own =
      let b = bit_of p in
      let x = get_or marks (p / 32) 0 in
      let h = there b x in
      let z = pow_pos (p % 32) in
      rw (get_or-set_same marks (p / 32) (bit_or x b) 0 inside) (lt-ltb 0 (bit_and (bit_or x b) b) (omega arith))

  set_kept : (q : ℕ) → is_set marks q ≡ true → is_set (with_bit marks p) q ≡ true
  unfolding is_set with_bit
  set_kept q m =
      let b = bit_of p in
      let x = get_or marks (p / 32) 0 in
      cases (eqb (q / 32) (p / 32))
      (λ s. let e : q / 32 ≡ p / 32 = eqb-true _ _ s in
      let l = ltb-true 0 (bit_and x (bit_of q)) (rw e at m) in
      let h = kept x b (bit_of q) in
      rw (e, get_or-set_same marks (p / 32) (bit_or x b) 0 inside) (lt-ltb 0 (bit_and (bit_or x b) (bit_of q)) (omega arith)))
      (λ s. rw (get_or-set_other marks (p / 32) (q / 32) (bit_or x b) 0 (eqb-false _ _ s)) m)

-- A mark: both bits

module _ (marks : List ℕ) (page : ℕ) where
  pub marked_is : (r : Bool) → is_set marks (fold_of page) ≡ true → r ≡ is_set marks (product_of page) → r ≡ is_marked marks page
  unfolding is_marked ◌and◌
  marked_is r e f = rw e f

  pub not_marked : is_set marks (fold_of page) ≡ false → false ≡ is_marked marks page
  unfolding is_marked ◌and◌
  not_marked e = rw e

  pub mark_is : (first both : List ℕ) → first ≡ with_bit marks (fold_of page) → both ≡ with_bit first (product_of page) → both ≡ with_mark marks page
  unfolding with_mark
  mark_is first both e f = rw e at f

  module _ (size : length marks ≡ words) where
    first_size : length (with_bit marks (fold_of page)) ≡ words
    first_size = length_bit marks (fold_of page) ∙ size

    both_kept : (bit : ℕ) → is_set marks bit ≡ true → is_set (with_mark marks page) bit ≡ true
    unfolding with_mark
    both_kept bit e =
        set_kept (with_bit marks (fold_of page)) (product_of page) first_size (product_inside page) bit
        (set_kept marks (fold_of page) size (fold_inside page) bit e)

    marked_own : is_marked (with_mark marks page) page ≡ true
    unfolding is_marked with_mark
    marked_own =
        and_i _ _
        (set_kept (with_bit marks (fold_of page)) (product_of page) first_size (product_inside page) (fold_of page)
        (set_own marks (fold_of page) size (fold_inside page)))
        (set_own (with_bit marks (fold_of page)) (product_of page) first_size (product_inside page))

    marked_kept : (q : ℕ) → is_marked marks q ≡ true → is_marked (with_mark marks page) q ≡ true
    unfolding is_marked
    marked_kept q m = and_i _ _ (both_kept (fold_of q) (and_l _ _ m)) (both_kept (product_of q) (and_r _ _ m))

    -- one more page behind those marked
    pub all_more : (pages : List ℕ) → AllMarked marks pages → AllMarked (with_mark marks page) (pages ++ (page ∷ []))
    unfolding AllMarked ◌or◌
    all_more pages all q m =
        cases (mem q pages) (λ t. marked_kept q (all q t))
        (λ t. let m' = rw (mem_append q pages (page ∷ []), t) at m in
        cases (eqb q page) (λ s. rw (eqb-true q page s) marked_own) (λ s. clash false (rw s at m') refl))

pub all_none : (marks : List ℕ) → AllMarked marks []
unfolding AllMarked
all_none marks q m = clash false m refl

pub length_marked : (marks : List ℕ) (p : ℕ) → length (with_mark marks p) ≡ length marks
unfolding with_mark
length_marked marks p = length_bit (with_bit marks (fold_of p)) (product_of p) ∙ length_bit marks (fold_of p)

-- a page whose mark is not set is none of those marked
pub unmarked : (marks pages : List ℕ) (p : ℕ) → AllMarked marks pages → false ≡ is_marked marks p → mem p pages ≡ false
unfolding AllMarked
unmarked marks pages p all e = cases (mem p pages) (λ t. clash (is_marked marks p) (all p t) (sym e)) (λ t. t)
