-- Laws of the chains: a walk down one chain meets each request of its low half, and tells how near its page's next request is.
use Prim.Native.Nat.{ℕ, zero, suc, ◌+◌, ◌*◌, ◌-◌, ◌≤◌, ◌<◌}
use native.Mathlib.Numerals.{add-one}
use native.Mathlib.Omega.{arith}
use mathlib.Core.Bool.{false}
use mathlib.Core.List.{List, [], ◌∷◌}
use mathlib.Core.Path.{◌≡◌, refl, sym, ◌∙◌, ap}
use lib.Dec.{eqb, ltb}
use lib.ListN.{length, take, drop, get_or, set, length-drop}
use lib.Seq.{drop-cons, drop-length, get_or-set_same, get_or-set_other, get_or-take, ext_get_or, length-take-le}
use borrow.Author.Tests.{eq-eqb, ne_eqb, eqb-true, eqb-false}
use Rattle.lists.specs.Choice.{pick}
use Rattle.lists.proofs.Choice.{tests, cases}
use Rattle.next_use.specs.Chains.{page_at, low, high, last_with, told_of, Chained, Walked, LeftsFilled}
use Rattle.next_use.specs.Left.{left, lefts_of}

-- Where a chain ends

pub last_le : (c i : ℕ) (trace : List ℕ) → last_with c i trace ≤ i
last_le c zero trace = omega arith
last_le c (suc i) trace =
    let h = last_le c i trace in
    cases (eqb (low (page_at trace i)) c) (λ e. rw e (omega arith)) (λ e. rw e (omega arith))

pub last_low : (c i t : ℕ) (trace : List ℕ) → last_with c i trace ≡ suc t → low (page_at trace t) ≡ c
last_low c zero t trace h = absurd (omega arith)
last_low c (suc i) t trace h =
    cases (eqb (low (page_at trace i)) c)
    (λ e. let g = rw e at h in let m : i ≡ t = omega arith in rw (← m) (eqb-true (low (page_at trace i)) c e))
    (λ e. let g = rw e at h in last_low c i t trace g)

-- no request of the low half c from there on
last_none : (c i t : ℕ) (trace : List ℕ) → last_with c i trace ≤ t → t < i → low (page_at trace t) ≡ c → ⊥
last_none c zero t trace h g e = omega arith
last_none c (suc i) t trace h g e =
    cases (eqb (low (page_at trace i)) c)
    (λ f. let k = rw f at h in omega arith)
    (λ f.
    let k = rw f at h in
    cases (eqb t i)
    (λ m. let n : t ≡ i = omega tests in eqb-false (low (page_at trace i)) c f (rw (← n) e))
    (λ m. last_none c i t trace k (omega tests) e))

-- so that a page of that low half is as near from there as from i
left_last : (q c i : ℕ) (trace : List ℕ) → low q ≡ c → i ≤ length trace → left q (drop (last_with c i trace) trace) ≡ left q (drop i trace)
left_last q c zero trace e h = refl
left_last q c (suc i) trace e h =
    cases (eqb (low (page_at trace i)) c)
    (λ f. rw f)
    (λ f.
    let n : eqb q (page_at trace i) ≡ false = ne_eqb q (page_at trace i) (λ g. eqb-false _ _ f (ap low (sym g) ∙ e)) in
    rw f
    (left_last q c i trace e (omega arith)
    ∙ ap (left q) (drop-cons trace i 0 (omega arith))
    ∙ simp n))

-- A turn of the walk

pub told_none : (trace : List ℕ) (page : ℕ) → told_of trace 0 page ≡ 0
told_none trace page = cases (eqb (page_at trace (length trace - 0)) page) (λ e. rw e) (λ e. rw e)

-- what the code answers
pub told_zero : (trace : List ℕ) (near page : ℕ) → near ≡ 0 → 0 ≡ told_of trace near page
told_zero trace near page z = rw z (sym (told_none trace page))

pub told_same : (trace : List ℕ) (near page : ℕ) → page_at trace (length trace - near) ≡ page → near ≡ told_of trace near page
told_same trace near page e = rw (eq-eqb _ _ e)

pub told_other : (trace : List ℕ) (near page : ℕ) → (page_at trace (length trace - near) ≡ page → ⊥) → 0 ≡ told_of trace near page
told_other trace near page e = rw (ne_eqb _ _ e)

pub ruleset told_rules = (told_zero, told_same, told_other)

told_at : (trace : List ℕ) (t page : ℕ) → t < length trace → told_of trace (length trace - t) page ≡ pick (eqb (page_at trace t) page) (length trace - t) 0
told_at trace t page h =
    let e : length trace - (length trace - t) ≡ t = omega arith in
    rw e

set_or : (P : ℕ → Type 0) (l : List ℕ) (i j x : ℕ) → (i ≡ j → P x) → ((i ≡ j → ⊥) → P (get_or l j 0)) → j < length l → P (get_or (set l i x) j 0)
set_or P l i j x f g h =
    cases (eqb i j)
    (λ e. let m : i ≡ j = omega tests in rw (m, get_or-set_same l j x 0 h) (f m))
    (λ e. let n : i ≡ j → ⊥ = eqb-false i j e in rw (get_or-set_other l i j x 0 (λ m. n (sym m))) (g n))

module _ (c t : ℕ) (trace seen lefts : List ℕ) (half : c < 65536) (w : Walked c (suc t) trace seen lefts) (here : t < length trace)
    (on : low (page_at trace t) ≡ c) (page : page_at trace t < 4294967296) (room : length trace ≤ length lefts) (table : length seen ≡ 65536) where
  -- left of a page of this low half, from the request before t on the chain
  left_turn : (q : ℕ) → low q ≡ c
      → left q (drop (last_with c t trace) trace) ≡ pick (eqb q (page_at trace t)) (length trace - t) (left q (drop (suc t) trace))
  left_turn q e =
      let n : suc (length (drop (suc t) trace)) ≡ length trace - t = omega (arith, length-drop (suc t) trace) in
      left_last q c t trace e (omega arith) ∙ ap (left q) (drop-cons trace t 0 here) ∙ ap (λ (m : ℕ). pick (eqb q (page_at trace t)) m (left q (drop (suc t) trace))) n

  told_here : told_of trace (get_or seen (high (page_at trace t)) 0) (page_at trace t) ≡ left (page_at trace t) (drop (suc t) trace)
  told_here =
      let p = page_at trace t in
      let e : high p * 65536 + c ≡ p = omega arith in
      rw e at (w.told (high p) (omega arith))

  pub walk_turn : Walked c (last_with c t trace) trace (set seen (high (page_at trace t)) (length trace - t))
      (set lefts t (told_of trace (get_or seen (high (page_at trace t)) 0) (page_at trace t)))
  walk_turn =
      let p = page_at trace t in
      record {
        near = λ h b. set_or (λ x. x ≤ length trace) seen (high p) h (length trace - t) (λ e. omega arith) (λ e. w.near h b) (omega arith);
        told = λ h b.
            let q = h * 65536 + c in
            let e : low q ≡ c = omega arith in
            rw (left_turn q e)
            (set_or (λ x. told_of trace x q ≡ pick (eqb q p) (length trace - t) (left q (drop (suc t) trace))) seen (high p) h (length trace - t)
            (λ m. let n : q ≡ p = omega arith in told_at trace t q here ∙ simp (n, eq-eqb p p refl))
            (λ m. let n : eqb q p ≡ false = ne_eqb q p (λ k. omega (arith, m)) in w.told h b ∙ simp n)
            (omega arith));
        others = λ h d b g f.
            let q = h * 65536 + d in
            set_or (λ x. told_of trace x q ≡ 0) seen (high p) h (length trace - t)
            (λ m. let n : eqb p q ≡ false = ne_eqb p q (λ k. omega arith) in told_at trace t q here ∙ simp n)
            (λ m. w.others h d b g f)
            (omega arith);
        lower = λ u b g.
            set_or (λ x. x ≡ left (page_at trace u) (drop (suc u) trace)) lefts t u (told_of trace (get_or seen (high p) 0) p)
            (λ m. let z = rw m at on in absurd (omega arith))
            (λ m. w.lower u b g)
            (omega arith);
        same = λ u b g f.
            set_or (λ x. x ≡ left (page_at trace u) (drop (suc u) trace)) lefts t u (told_of trace (get_or seen (high p) 0) p)
            (λ m. rw (← m) told_here)
            (λ m. cases (ltb u t)
            (λ k. absurd (last_none c t u trace f (omega tests) g))
            (λ k. w.same u b g (omega (tests, m))))
            (omega arith);
      }

-- the same with s, one more than the request, and the links of the chain
module _ (c s r : ℕ) (trace heads before seen lefts : List ℕ) (half : c < 65536) (chained : Chained (length trace) trace heads before)
    (w : Walked c s trace seen lefts) (more : 0 < s) (within : s ≤ length trace) (on : (t : ℕ) → s ≡ suc t → low (page_at trace t) ≡ c)
    (page : page_at trace (s - 1) < 4294967296) (room : length trace ≤ length lefts) (table : length seen ≡ 65536)
    (said : r ≡ told_of trace (get_or seen (high (page_at trace (s - 1))) 0) (page_at trace (s - 1))) where
  next_is : get_or before (s - 1) 0 ≡ last_with c (s - 1) trace
  next_is = chained.links (s - 1) (omega arith) ∙ ap (λ (x : ℕ). last_with x (s - 1) trace) (on (s - 1) (omega arith))

  next_below : get_or before (s - 1) 0 < s
  next_below = omega (arith, next_is, last_le c (s - 1) trace)

  next_on : (t : ℕ) → get_or before (s - 1) 0 ≡ suc t → low (page_at trace t) ≡ c
  next_on t e = last_low c (s - 1) t trace (sym next_is ∙ e)

  next_walked : Walked c (get_or before (s - 1) 0) trace (set seen (high (page_at trace (s - 1))) (length trace - (s - 1))) (set lefts (s - 1) r)
  next_walked =
      let e : s ≡ suc (s - 1) = omega arith in
      let v : Walked c (suc (s - 1)) trace seen lefts = rw (← e) w in
      rw (next_is, said) (walk_turn c (s - 1) trace seen lefts half v (omega arith) (on (s - 1) e) page room table)

  pub next : (get_or before (s - 1) 0 < s)
      × (((t : ℕ) → get_or before (s - 1) 0 ≡ suc t → low (page_at trace t) ≡ c)
      × Walked c (get_or before (s - 1) 0) trace (set seen (high (page_at trace (s - 1))) (length trace - (s - 1))) (set lefts (s - 1) r))
  next = (next_below, (next_on, next_walked))

-- A whole chain

pub walk_starts : (c : ℕ) (trace seen lefts : List ℕ) → c < 65536 → LeftsFilled c trace seen lefts → Walked c (last_with c (length trace) trace) trace seen lefts
walk_starts c trace seen lefts b f =
    record {
      near = f.near;
      told = λ h g.
          let q = h * 65536 + c in
          f.others h c g (omega arith) b
          ∙ sym (left_last q c (length trace) trace (omega arith) (omega arith) ∙ ap (left q) (drop-length trace));
      others = λ h d g k m. f.others h d g (omega arith) m;
      lower = f.lower;
      same = λ t h e g. absurd (last_none c (length trace) t trace g h e);
    }

pub walk_ends : (c : ℕ) (trace seen lefts : List ℕ) → Walked c 0 trace seen lefts → LeftsFilled (c + 1) trace seen lefts
walk_ends c trace seen lefts w =
    record {
      near = w.near;
      others = λ h d g k m. w.others h d g (omega arith) m;
      lower = λ t h e.
          cases (ltb (low (page_at trace t)) c)
          (λ k. w.lower t h (omega tests))
          (λ k. w.same t h (omega tests) (omega arith));
    }

-- All chains

pub fill_starts : (trace seen lefts : List ℕ) → ((h : ℕ) → get_or seen h 0 ≡ 0) → LeftsFilled 0 trace seen lefts
fill_starts trace seen lefts z =
    record {
      near = λ h b. omega (arith, z h);
      others = λ h d g k m. rw (z h) (told_none trace (h * 65536 + d));
      lower = λ t h e. absurd (omega arith);
    }

pub lefts_at : (trace : List ℕ) (t : ℕ) → t < length trace → get_or (lefts_of trace) t 0 ≡ left (page_at trace t) (drop (suc t) trace)
lefts_at [] t h = absurd (omega arith)
lefts_at (p ∷ ps) zero h = refl
lefts_at (p ∷ ps) (suc t) h = lefts_at ps t (omega arith)

pub length_lefts : (trace : List ℕ) → length (lefts_of trace) ≡ length trace
length_lefts [] = refl
length_lefts (p ∷ ps) = ap suc (length_lefts ps)

pub fill_ends : (trace seen lefts : List ℕ) → length trace ≤ length lefts → LeftsFilled 65536 trace seen lefts → take (length trace) lefts ≡ lefts_of trace
fill_ends trace seen lefts h f =
    let n = length-take-le (length trace) lefts h in
    ext_get_or 0 (take (length trace) lefts) (lefts_of trace) (n ∙ sym (length_lefts trace))
    (λ t g.
    let b : t < length trace = omega arith in
    get_or-take (length trace) lefts t 0 b ∙ f.lower t b (omega arith) ∙ sym (lefts_at trace t b))

-- Making the chains

pub chain_starts : (trace heads before : List ℕ) → ((c : ℕ) → get_or heads c 0 ≡ 0) → Chained 0 trace heads before
chain_starts trace heads before z = record { ends = λ c b. z c; links = λ t b. absurd (omega arith) }

pub chain_turn : (i : ℕ) (trace heads before : List ℕ) → length heads ≡ 65536 → i < length before → Chained i trace heads before
    → Chained (i + 1) trace (set heads (low (page_at trace i)) (i + 1)) (set before i (get_or heads (low (page_at trace i)) 0))
chain_turn i trace heads before n h k =
    let c = low (page_at trace i) in
    rw (add-one i)
    (record {
      ends = λ d b.
          set_or (λ x. x ≡ last_with d (suc i) trace) heads c d (suc i)
          (λ e. rw (eq-eqb c d e))
          (λ e. rw (ne_eqb c d e) (k.ends d b))
          (omega arith);
      links = λ t b.
          set_or (λ x. x ≡ last_with (low (page_at trace t)) t trace) before i t (get_or heads c 0)
          (λ e. rw (← e) (k.ends c (omega arith)))
          (λ e. k.links t (omega (arith, e)))
          (omega arith);
    })
