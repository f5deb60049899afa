-- Marks by slot: a page whose mark is not set is none of those looked at before.
use Prim.Native.Nat.{ℕ, ◌+◌, ◌*◌, ◌/◌, ◌≤◌, ◌<◌}
use native.Mathlib.Numerals.{add-one}
use native.Mathlib.Omega.{arith}
use mathlib.Core.Bool.{Bool, true, false}
use mathlib.Core.List.{List, [], ◌∷◌, ◌++◌}
use mathlib.Core.Path.{◌≡◌, refl, sym, ap, ◌∙◌}
use lib.Bits.{and_le_r}
use lib.Dec.{eqb}
use lib.ListN.{length, take, get_or, set}
use lib.Seq.{take-suc, get_or-set_same, get_or-set_other}
use borrow.Author.Tests.{eqb-true, eqb-false}
use Rattle.lists.specs.Choice.{◌and◌, ◌or◌}
use Rattle.lists.specs.Pages.{mem, distinct}
use Rattle.lists.proofs.Choice.{cases, clash}
use Rattle.lists.proofs.Leaves.{mem_append, distinct_snoc}
use Rattle.repeats.specs.Slots.{slot_of}

-- a slot is in its table
pub slot_le : (mask page : ℕ) → slot_of mask page ≤ mask
unfolding slot_of
slot_le mask page = and_le_r (page * 2654435761 / 65536) mask

-- the first i pages are repeat-free, and the mark of each is set
pub record Fresh (mask : ℕ) (marks : List Bool) (pages : List ℕ) (i : ℕ) : Type 0 where
  pub once : distinct (take i pages) ≡ true
  pub marked : (q : ℕ) → mem q (take i pages) ≡ true → get_or marks (slot_of mask q) false ≡ true

module _ (mask : ℕ) (marks : List Bool) (pages : List ℕ) (i : ℕ) (h : i < length pages) where
  -- the next page is none of the earlier ones, and its mark is set
  fresh_more : mask < length marks → mem (get_or pages i 0) (take i pages) ≡ false → Fresh mask marks pages i
      → Fresh mask (set marks (slot_of mask (get_or pages i 0)) true) pages (i + 1)
  unfolding ◌and◌ ◌or◌
  fresh_more m n f =
      let p = get_or pages i 0 in
      let b : slot_of mask p < length marks = omega (arith, slot_le mask p) in
      let more : take (i + 1) pages ≡ take i pages ++ (p ∷ []) = rw (add-one i) (take-suc pages i 0 h) in
      record {
        once = rw (more, distinct_snoc (take i pages) p, n, f.once) refl;
        marked = λ q e. cases (eqb (slot_of mask q) (slot_of mask p))
            (λ s. rw (eqb-true (slot_of mask q) (slot_of mask p) s) (get_or-set_same marks (slot_of mask p) true false b))
            (λ s. get_or-set_other marks (slot_of mask p) (slot_of mask q) true false (eqb-false (slot_of mask q) (slot_of mask p) s)
            ∙ f.marked q (cases (mem q (take i pages)) (λ t. t)
            (λ t. let e' = rw (more, mem_append q (take i pages) (p ∷ []), t) at e in
            cases (eqb q p)
            (λ u. absurd (eqb-false (slot_of mask q) (slot_of mask p) s (ap (λ (x : ℕ). slot_of mask x) (eqb-true q p u))))
            (λ u. clash false (rw u at e') refl))));
      }

  -- the slot as the code has it
  module _ (at : ℕ) (a : at ≡ slot_of mask (get_or pages i 0)) (m : mask < length marks) (f : Fresh mask marks pages i) where
    -- an unset mark rules the page out
    pub fresh_unmarked : get_or marks at false ≡ false → Fresh mask (set marks at true) pages (i + 1)
    fresh_unmarked z =
        let p = get_or pages i 0 in
        let z' : get_or marks (slot_of mask p) false ≡ false = ap (λ (x : ℕ). get_or marks x false) (sym a) ∙ z in
        rw a
        (fresh_more m (cases (mem p (take i pages)) (λ t. clash (get_or marks (slot_of mask p) false) (f.marked p t) z') (λ t. t)) f)

    -- so does an exact look
    pub fresh_looked : mem (get_or pages i 0) (take i pages) ≡ false → Fresh mask (set marks at true) pages (i + 1)
    fresh_looked z = rw a (fresh_more m z f)
