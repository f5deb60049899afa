-- Keys stand in the model's order: farther is less near, so that sorted keys are the keys of the pages sorted by `farther`. A page that is
-- requested now is nearer than every other, and other pages keep their keys.
use Prim.Native.Nat.{ℕ, suc, ◌+◌, ◌*◌, ◌≤◌, ◌<◌}
use native.Mathlib.Omega.{arith}
use mathlib.Core.Bool.{true, false}
use mathlib.Core.List.{List, [], ◌∷◌, map}
use mathlib.Core.Path.{◌≡◌, refl, sym, ◌∙◌, ap}
use lib.Dec.{ltb, eqb}
use lib.ListN.{length}
use borrow.Author.Tests.{lt-ltb, le-ltb, eq-eqb, ne_eqb, eqb-true, eqb-false}
use Rattle.lists.specs.Pages.{mem, erase, erase_all}
use Rattle.lists.specs.Sorting.{insert_by, sort_by}
use Rattle.lists.proofs.Choice.{tests, cases, or_none_l, or_none_r}
use Rattle.paging.specs.Min.{next_use, farther}
use Rattle.next_use.specs.Left.{left}
use Rattle.keys.specs.Keys.{page_of, near_of, less_near, key}
use Rattle.keys.proofs.Sorting.{insert, sort, Below, none, also, below_sort, below_erase}

-- pages have 32 bits
abbrev pub Pages : List ℕ → Type 0
Pages held = Below 4294967296 held

-- `left` and the model's `next_use` make up what is to come
pub left_next : (p : ℕ) (later : List ℕ) → left p later + next_use p later ≡ length later
left_next p [] = refl
left_next p (q ∷ qs) =
    let e = left_next p qs in
    cases (eqb p q) (λ h. rw h (omega arith)) (λ h. rw h (omega arith))

pub left_now : (p : ℕ) (later : List ℕ) → left p (p ∷ later) ≡ suc (length later)
left_now p later = rw (eq-eqb p p refl)

pub key_other : (p q : ℕ) (later : List ℕ) → eqb p q ≡ false → key (p ∷ later) q ≡ key later q
key_other p q later h = rw (ne_eqb q p (λ e. eqb-false p q h (sym e)))

-- a page that is requested now is nearer than any other
pub near_now : (p : ℕ) (later : List ℕ) → suc (length later) ≤ near_of (key (p ∷ later) p)
near_now p later = rw (left_now p later) (omega arith)

pub key_now : (p q : ℕ) (later : List ℕ) → q < 4294967296 → eqb p q ≡ false → key (p ∷ later) q < suc (length later) * 4294967296
key_now p q later b h = rw (key_other p q later h) (omega (arith, left_next q later))

pub less_near_now : (p q : ℕ) (later : List ℕ) → q < 4294967296 → eqb p q ≡ false → less_near (key (p ∷ later) q) (key (p ∷ later) p) ≡ true
less_near_now p q later b h =
    let x = key (p ∷ later) q in
    let y = key (p ∷ later) p in
    lt-ltb (near_of x) (near_of y) (omega (arith, key_now p q later b h, near_now p later))

-- the order in force: the model's test is that of keys
pub farther_key : (later : List ℕ) (p q : ℕ) → p < 4294967296 → q < 4294967296 → farther later p q ≡ less_near (key later p) (key later q)
unfolding farther
farther_key later p q bp bq =
    let ep = left_next p later in
    let eq = left_next q later in
    cases (ltb (next_use q later) (next_use p later))
    (λ h. rw (h, lt-ltb (near_of (key later p)) (near_of (key later q)) (omega tests)))
    (λ h. rw (h, le-ltb (near_of (key later p)) (near_of (key later q)) (omega tests)))

key_insert : (later : List ℕ) (p : ℕ) {l : List ℕ} → p < 4294967296 → Pages l
    → map (key later) (insert_by (farther later) p l) ≡ insert (key later p) (map (key later) l)
key_insert later p h none = refl
key_insert later p h (also {x = q} {l = l} g b) =
    rw (farther_key later q p g h)
    (cases (less_near (key later q) (key later p))
    (λ e. rw e (ap (λ (r : List ℕ). key later q ∷ r) (key_insert later p h b)))
    (λ e. rw e))

-- the keys of the pages, farthest first, are the sorted keys
pub key_sort : (later : List ℕ) {held : List ℕ} → Pages held
    → map (key later) (sort_by (farther later) held) ≡ sort (map (key later) held)
key_sort later none = refl
key_sort later (also {x = p} {l = l} h b) =
    key_insert later p h (below_sort (farther later) b) ∙ ap (insert (key later p)) (key_sort later b)

-- the page of a key
pub page_of_keys : (later : List ℕ) {l : List ℕ} → Pages l → map page_of (map (key later) l) ≡ l
page_of_keys later none = refl
page_of_keys later (also {x = p} {l = l} h b) =
    let e : page_of (key later p) ≡ p = omega arith in
    rw (e, page_of_keys later b)

-- other pages keep their keys
pub keys_other : (p : ℕ) (later held : List ℕ) → mem p held ≡ false → map (key (p ∷ later)) held ≡ map (key later) held
keys_other p later [] h = refl
keys_other p later (q ∷ qs) h = rw (key_other p q later (or_none_l _ _ h), keys_other p later qs (or_none_r _ _ h))

-- and are below those of the page that is requested now
pub keys_below : (p : ℕ) (later : List ℕ) {held : List ℕ} → Pages held → mem p held ≡ false
    → Below (suc (length later) * 4294967296) (map (key (p ∷ later)) held)
keys_below p later none h = none
keys_below p later (also {x = q} g b) h = also (key_now p q later g (or_none_l _ _ h)) (keys_below p later b (or_none_r _ _ h))

key_apart : (later : List ℕ) (p q : ℕ) → p < 4294967296 → q < 4294967296 → key later p ≡ key later q → p ≡ q
key_apart later p q hp hq e = omega arith

keys_erase : (later : List ℕ) (p : ℕ) {held : List ℕ} → p < 4294967296 → Pages held
    → map (key later) (erase p held) ≡ erase (key later p) (map (key later) held)
keys_erase later p h none = refl
keys_erase later p h (also {x = q} {l = l} g b) =
    cases (eqb p q)
    (λ e. rw (e, eq-eqb (key later p) (key later q) (ap (key later) (eqb-true p q e))))
    (λ e. rw (e, ne_eqb (key later p) (key later q) (λ f. eqb-false p q e (key_apart later p q h g f)))
    (ap (λ (r : List ℕ). key later q ∷ r) (keys_erase later p h b)))

pub keys_erase_all : (later : List ℕ) {ps held : List ℕ} → Pages ps → Pages held
    → map (key later) (erase_all ps held) ≡ erase_all (map (key later) ps) (map (key later) held)
keys_erase_all later none b = refl
keys_erase_all later {held = held} (also {x = p} {l = ps} h c) b =
    keys_erase_all later c (below_erase p b) ∙ ap (erase_all (map (key later) ps)) (keys_erase later p h b)
