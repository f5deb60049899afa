-- Laws of the chains in which repeats are looked for.
use Prim.Native.Nat.{ℕ, zero, suc, ◌+◌, ◌-◌, ◌*◌, ◌/◌, ◌≤◌, ◌<◌}
use native.Mathlib.Numerals.{add-one}
use native.Mathlib.Omega.{arith}
use mathlib.Core.Bool.{Bool, true, false}
use mathlib.Core.List.{List, [], ◌∷◌, ◌++◌}
use mathlib.Core.Path.{◌≡◌, refl, sym, ap, ◌∙◌}
use lib.Bits.{bit_and}
use lib.Dec.{eqb}
use lib.ListN.{length, take, get_or, set, replicate, length-replicate}
use lib.Seq.{take-suc, get_or-set_same, get_or-set_other}
use borrow.Author.Tests.{eq-eqb, ne_eqb, eqb-true, eqb-false}
use Rattle.lists.specs.Choice.{◌or◌, ◌and◌}
use Rattle.lists.specs.Pages.{mem, distinct}
use Rattle.lists.proofs.Choice.{cases, split, clash, or_split, eqb_self}
use Rattle.lists.proofs.Leaves.{mem_append, distinct_snoc, twice_at}
use Rattle.lists.proofs.Parts.{zeros}
use Rattle.repeats.specs.Chains.{chain_has, in_chain, Unlinked}
use Rattle.repeats.specs.Slots.{slot_of}
use Rattle.repeats.proofs.FreshLaws.{slot_le}

pub slot_is : (mask page : ℕ) → bit_and (page * 2654435761 / 65536) mask ≡ slot_of mask page
unfolding slot_of
slot_is mask page = refl

abbrev Falls : ℕ → List ℕ → Type 0
Falls n before = (j : ℕ) → j < n → get_or before j 0 ≤ j

-- One chain

-- as many steps as the link says are enough
chain_steps : (f g : ℕ) (pages before : List ℕ) (link q n : ℕ) → link ≤ f → link ≤ g → link ≤ n → Falls n before
    → chain_has f pages before link q ≡ chain_has g pages before link q
chain_steps zero zero pages before link q n hf hg hn d = refl
chain_steps zero (suc g) pages before zero q n hf hg hn d = refl
chain_steps zero (suc g) pages before (suc j) q n hf hg hn d = absurd (omega arith)
chain_steps (suc f) zero pages before zero q n hf hg hn d = refl
chain_steps (suc f) zero pages before (suc j) q n hf hg hn d = absurd (omega arith)
chain_steps (suc f) (suc g) pages before zero q n hf hg hn d = refl
chain_steps (suc f) (suc g) pages before (suc j) q n hf hg hn d =
    let b = d j (omega arith) in
    ap (λ (x : Bool). eqb q (get_or pages j 0) or x)
    (chain_steps f g pages before (get_or before j 0) q n (omega arith) (omega arith) (omega arith) d)

pub chain_ended : (pages before : List ℕ) (q link : ℕ) → link ≤ 0 → in_chain pages before link q ≡ false
unfolding in_chain
chain_ended pages before q zero h = refl
chain_ended pages before q (suc j) h = absurd (omega arith)

pub chain_step : (pages before : List ℕ) (q j n : ℕ) → j < n → Falls n before
    → in_chain pages before (suc j) q ≡ eqb q (get_or pages j 0) or in_chain pages before (get_or before j 0) q
unfolding in_chain
chain_step pages before q j n h d =
    let b = d j h in
    ap (λ (x : Bool). eqb q (get_or pages j 0) or x)
    (chain_steps j (get_or before j 0) pages before (get_or before j 0) q n b (omega arith) (omega arith) d)

-- the place that a link leads to has the page
pub chain_here : (pages before : List ℕ) (q link n : ℕ) → 0 < link → link ≤ n → Falls n before → get_or pages (link - 1) 0 ≡ q
    → in_chain pages before link q ≡ true
unfolding ◌or◌
chain_here pages before q zero n p h d e = absurd (omega arith)
chain_here pages before q (suc j) n p h d e =
    let i : suc j - 1 ≡ j = omega arith in
    let e' : get_or pages j 0 ≡ q = ap (λ (x : ℕ). get_or pages x 0) (sym i) ∙ e in
    chain_step pages before q j n (omega arith) d ∙ rw (eq-eqb q (get_or pages j 0) (sym e')) refl

-- it has another
pub chain_next : (pages before : List ℕ) (q link n : ℕ) → 0 < link → link ≤ n → Falls n before → (get_or pages (link - 1) 0 ≡ q → ⊥)
    → in_chain pages before link q ≡ in_chain pages before (get_or before (link - 1) 0) q
unfolding ◌or◌
chain_next pages before q zero n p h d e = absurd (omega arith)
chain_next pages before q (suc j) n p h d e =
    let i : suc j - 1 ≡ j = omega arith in
    let e' : get_or pages j 0 ≡ q → ⊥ = λ s. e (ap (λ (x : ℕ). get_or pages x 0) i ∙ s) in
    chain_step pages before q j n (omega arith) d
    ∙ rw (ne_eqb q (get_or pages j 0) (λ s. e' (sym s))) (ap (λ (x : ℕ). in_chain pages before (get_or before x 0) q) (sym i))

-- What is in a chain is in the list

or_true_r : (a b : Bool) → b ≡ true → a or b ≡ true
unfolding ◌or◌
or_true_r true b e = refl
or_true_r false b e = e

mem_at : (xs : List ℕ) (i j : ℕ) → j < i → j < length xs → mem (get_or xs j 0) (take i xs) ≡ true
unfolding ◌or◌
mem_at [] i j h l = absurd (omega arith)
mem_at (x ∷ xs) zero j h l = absurd (omega arith)
mem_at (x ∷ xs) (suc i) zero h l = rw (eqb_self x) refl
mem_at (x ∷ xs) (suc i) (suc j) h l = or_true_r (eqb (get_or xs j 0) x) (mem (get_or xs j 0) (take i xs)) (mem_at xs i j (omega arith) (omega arith))

chain_sound : (f : ℕ) (pages before : List ℕ) (link q i : ℕ) → link ≤ i → i ≤ length pages → Falls i before
    → chain_has f pages before link q ≡ true → mem q (take i pages) ≡ true
chain_sound zero pages before link q i h l d e = clash false e refl
chain_sound (suc f) pages before zero q i h l d e = clash false e refl
chain_sound (suc f) pages before (suc j) q i h l d e =
    let b = d j (omega arith) in
    split (or_split (eqb q (get_or pages j 0)) (chain_has f pages before (get_or before j 0) q) e)
    (λ t. rw (eqb-true q (get_or pages j 0) t) (mem_at pages i j (omega arith) (omega arith)))
    (λ t. chain_sound f pages before (get_or before j 0) q i (omega arith) l d t)

-- a link that is added at place i changes no chain of the places before it
chain_kept : (f : ℕ) (pages before : List ℕ) (i v link q : ℕ) → link ≤ i → Falls i before
    → chain_has f pages (set before i v) link q ≡ chain_has f pages before link q
chain_kept zero pages before i v link q h d = refl
chain_kept (suc f) pages before i v zero q h d = refl
chain_kept (suc f) pages before i v (suc j) q h d =
    let b = d j (omega arith) in
    rw (get_or-set_other before i j v 0 (λ e. absurd (omega arith)))
    (ap (λ (x : Bool). eqb q (get_or pages j 0) or x) (chain_kept f pages before i v (get_or before j 0) q (omega arith) d))

-- All chains

-- the first i pages are repeat-free, and each is in its slot's chain
pub record Threaded (mask : ℕ) (pages heads before : List ℕ) (i : ℕ) : Type 0 where
  pub once : distinct (take i pages) ≡ true
  pub tops : (c : ℕ) → get_or heads c 0 ≤ i
  pub falls : (j : ℕ) → j < i → get_or before j 0 ≤ j
  pub found : (q : ℕ) → mem q (take i pages) ≡ true → in_chain pages before (get_or heads (slot_of mask q) 0) q ≡ true

module _ (mask : ℕ) (pages heads before : List ℕ) (i : ℕ) (h : i < length pages) (t : Threaded mask pages heads before i) where
  abbrev page : ℕ
  page = get_or pages i 0

  abbrev last : ℕ
  last = get_or heads (slot_of mask page) 0

  threaded_twice : in_chain pages before last page ≡ true → distinct pages ≡ false
  unfolding in_chain
  threaded_twice e =
      twice_at pages i h (chain_sound last pages before last page i (t.tops (slot_of mask page)) (omega arith) t.falls e)

  module _ (m : mask < length heads) (l : i < length before) (e : in_chain pages before last page ≡ false) where
    more : take (i + 1) pages ≡ take i pages ++ (page ∷ [])
    more = rw (add-one i) (take-suc pages i 0 h)

    -- an earlier page is another one
    old : mem page (take i pages) ≡ false
    old = cases (mem page (take i pages)) (λ s. clash (in_chain pages before last page) (t.found page s) e) (λ s. s)

    abbrev heads' : List ℕ
    heads' = set heads (slot_of mask page) (i + 1)

    abbrev before' : List ℕ
    before' = set before i last

    falls' : (j : ℕ) → j < i + 1 → get_or before' j 0 ≤ j
    falls' j g =
        cases (eqb j i)
        (λ s. let same = eqb-true j i s in let top = t.tops (slot_of mask page) in
        rw (same, get_or-set_same before i last 0 l) top)
        (λ s. let other = eqb-false j i s in
        rw (get_or-set_other before i j last 0 other) (t.falls j (omega arith)))

    kept : (link q : ℕ) → link ≤ i → in_chain pages before' link q ≡ in_chain pages before link q
    unfolding in_chain
    kept link q g = chain_kept link pages before i last link q g t.falls

    tops' : (c : ℕ) → get_or heads' c 0 ≤ i + 1
    tops' c =
        cases (eqb c (slot_of mask page))
        (λ s. let b = slot_le mask page in rw (eqb-true c (slot_of mask page) s, get_or-set_same heads (slot_of mask page) (i + 1) 0 (omega arith)) (omega arith))
        (λ s. let top = t.tops c in rw (get_or-set_other heads (slot_of mask page) c (i + 1) 0 (eqb-false c (slot_of mask page) s)) (omega arith))

    found' : (q : ℕ) → mem q (take (i + 1) pages) ≡ true → in_chain pages before' (get_or heads' (slot_of mask q) 0) q ≡ true
    unfolding ◌or◌
    found' q s =
        let b = slot_le mask page in
        let s' = rw (more, mem_append q (take i pages) (page ∷ [])) at s in
        let here : in_chain pages before' (suc i) q ≡ eqb q page or in_chain pages before last q =
        chain_step pages before' q i (i + 1) (omega arith) falls'
        ∙ rw (get_or-set_same before i last 0 l) (ap (λ (x : Bool). eqb q page or x) (kept last q (t.tops (slot_of mask page)))) in
        cases (eqb q page)
        (λ u. let same = eqb-true q page u in
        let head : in_chain pages before' (suc i) q ≡ true = rw (here, u) refl in
        rw (same, get_or-set_same heads (slot_of mask page) (i + 1) 0 (omega arith), add-one i) (rw same at head))
        (λ u. let earlier : mem q (take i pages) ≡ true = cases (mem q (take i pages)) (λ v. v) (λ v. clash false (rw (v, u) at s') refl) in
        cases (eqb (slot_of mask q) (slot_of mask page))
        (λ v. let w = eqb-true (slot_of mask q) (slot_of mask page) v in
        rw (w, get_or-set_same heads (slot_of mask page) (i + 1) 0 (omega arith), add-one i)
        (rw (here, u) (ap (λ (x : ℕ). in_chain pages before (get_or heads x 0) q) (sym w) ∙ t.found q earlier)))
        (λ v. rw (get_or-set_other heads (slot_of mask page) (slot_of mask q) (i + 1) 0 (eqb-false (slot_of mask q) (slot_of mask page) v))
        (kept (get_or heads (slot_of mask q) 0) q (t.tops (slot_of mask q)) ∙ t.found q earlier)))

    threaded_more : Threaded mask pages heads' before' (i + 1)
    unfolding ◌and◌
    threaded_more =
        record {
          once = rw (more, distinct_snoc (take i pages) page, old, t.once) refl;
          tops = tops';
          falls = falls';
          found = found';
        }

-- the same with the slot as the code has it
module _ (mask : ℕ) (pages heads before : List ℕ) (i at : ℕ) (h : i < length pages) (t : Threaded mask pages heads before i) (a : at ≡ slot_of mask (get_or pages i 0)) where
  pub found_twice : in_chain pages before (get_or heads at 0) (get_or pages i 0) ≡ true → distinct pages ≡ false
  found_twice e =
      threaded_twice mask pages heads before i h t (ap (λ (x : ℕ). in_chain pages before (get_or heads x 0) (get_or pages i 0)) (sym a) ∙ e)

  pub found_new : mask < length heads → i < length before → in_chain pages before (get_or heads at 0) (get_or pages i 0) ≡ false
      → Threaded mask pages (set heads at (i + 1)) (set before i (get_or heads at 0)) (i + 1)
  found_new m l e =
      rw a
      (threaded_more mask pages heads before i h t m l (ap (λ (x : ℕ). in_chain pages before (get_or heads x 0) (get_or pages i 0)) (sym a) ∙ e))

-- tables of zeros
pub unlinked : (mask n m : ℕ) (pages : List ℕ) → mask < n → length pages ≤ m → length pages ≤ 65536
    → Unlinked mask pages (replicate n 0) (replicate m 0)
unlinked mask n m pages h l k =
    record {
      slots = rw (length-replicate {A = ℕ} n 0) h;
      places = rw (length-replicate {A = ℕ} m 0) l;
      limit = k;
      none = λ c. zeros n c;
    }
