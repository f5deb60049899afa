-- The writers' laws: stores one behind the other are one record, the part of the lent bytes comes back into the whole, and what a
-- refusal's number makes of the answer and the bytes.
use Prim.Native.Nat.{ℕ, zero, suc, ◌+◌, ◌-◌, ◌*◌, ◌<◌, ◌≤◌}
use native.Mathlib.Nat.{zero-add}
use native.Mathlib.Omega.{arith}
use mathlib.Core.Bool.{Bool, true, false}
use mathlib.Core.List.{List, [], ◌∷◌, ◌++◌, append_assoc, append-nil}
use mathlib.Core.Path.{◌≡◌, refl, sym, ap, ◌∙◌}
use lib.Dec.{eqb, ltb}
use lib.ListN.{length, drop, take, get_or, length-drop, length-take, length-append, drop_of_length-le}
use lib.Seq.{drop-drop, take_all, take-suc}
use borrow.Author.Tests.{lt-ltb, le-ltb, eq-eqb, ne_eqb, ltb-false}
use Rattle.lists.specs.Choice.{pick, ◌or◌}
use Rattle.lists.proofs.Choice.{tests, or_none_l, or_none_r}
use Rattle.paging.specs.Refusals.{refuse, sizes_refusal}
use Rattle.paging.proofs.Numbers.{number_above}
use Rattle.paging.proofs.Refusals.{sizes_fall}
use Rattle.wire.specs.Numbers.{bytes32, all_bytes32, placed}
use Rattle.wire.proofs.Numbers.{placed_join, length_placed, length_all_bytes32}
use Rattle.records.specs.Writing.{stored, refused, room_refusal, pages_refused, ka_refusal, rr_refusal, ev_refusal, wrote, out_after, put_length, put_bytes, some_length}
use Rattle.std.specs.Prelude.{Option, Some, None, IsSome, Result, Err}
use Rattle.paging.specs.Numbers.{number_of}
use Rattle.paging.specs.declared.reasons.Refusal.{Refusal}
use Rattle.records.specs.Answers.{written_answer}
use Rattle.records.proofs.Lengths.{some_length_of, length_of_some}

-- ---- stores one behind the other, from the start on

pub join2 : (s b d : List ℕ) → length b ≤ length s → placed (placed s 0 b) (length b) d ≡ placed s 0 (b ++ d)
join2 s b d h =
    let e : 0 + length b ≡ length b = zero-add (length b) in
    ap (λ (m : ℕ). placed (placed s 0 b) m d) (sym e) ∙ placed_join s 0 b d (rw e h)

pub join3 : (s b d e : List ℕ) → length b + length d ≤ length s
    → placed (placed (placed s 0 b) (length b) d) (length b + length d) e ≡ placed s 0 (b ++ (d ++ e))
join3 s b d e h =
    let j : placed (placed s 0 b) (length b) d ≡ placed s 0 (b ++ d) = join2 s b d (omega arith) in
    let l : length b + length d ≡ length (b ++ d) = sym (length-append b d) in
    let k : placed (placed s 0 (b ++ d)) (length (b ++ d)) e ≡ placed s 0 (b ++ d ++ e) = join2 s (b ++ d) e (rw (← l) h) in
    rw (j, l) (k ∙ ap (placed s 0) (append_assoc b d e))

pub join4 : (s b d e f : List ℕ) → length b + length d + length e ≤ length s
    → placed (placed (placed (placed s 0 b) (length b) d) (length b + length d) e) (length b + length d + length e) f
    ≡ placed s 0 (b ++ (d ++ (e ++ f)))
join4 s b d e f h =
    let j : placed (placed (placed s 0 b) (length b) d) (length b + length d) e ≡ placed s 0 (b ++ (d ++ e))
    = join3 s b d e (omega arith) in
    let l : length b + length d + length e ≡ length (b ++ (d ++ e)) = simp length-append (omega arith) in
    let k : placed (placed s 0 (b ++ (d ++ e))) (length (b ++ (d ++ e))) f ≡ placed s 0 (b ++ (d ++ e) ++ f)
    = join2 s (b ++ (d ++ e)) f (rw (← l) h) in
    let a : b ++ (d ++ e) ++ f ≡ b ++ (d ++ (e ++ f)) = append_assoc b (d ++ e) f ∙ ap (λ (x : List ℕ). b ++ x) (append_assoc d e f) in
    rw (j, l) (k ∙ ap (placed s 0) a)

-- the same of the stores as the code makes them, one after the other
pub stored2 : (s : List ℕ) (at : ℕ) (b d r1 r2 : List ℕ) → at + length b ≤ length s → r1 ≡ placed s at b → r2 ≡ placed r1 (at + length b) d → r2 ≡ placed s at (b ++ d)
stored2 s at b d r1 r2 h e1 e2 = e2 ∙ ap (λ (x : List ℕ). placed x (at + length b) d) e1 ∙ placed_join s at b d h

pub stored4 : (s b d e f r1 r2 r3 r4 : List ℕ) → length b + length d + length e ≤ length s → r1 ≡ placed s 0 b → r2 ≡ placed r1 (length b) d
    → r3 ≡ placed r2 (length b + length d) e → r4 ≡ placed r3 (length b + length d + length e) f → r4 ≡ placed s 0 (b ++ (d ++ (e ++ f)))
stored4 s b d e f r1 r2 r3 r4 h e1 e2 e3 e4 =
    let q : r2 ≡ placed (placed s 0 b) (length b) d = e2 ∙ ap (λ (x : List ℕ). placed x (length b) d) e1 in
    let u : r3 ≡ placed (placed (placed s 0 b) (length b) d) (length b + length d) e
    = e3 ∙ ap (λ (x : List ℕ). placed x (length b + length d) e) q in
    e4 ∙ ap (λ (x : List ℕ). placed x (length b + length d + length e) f) u ∙ join4 s b d e f h

-- ---- the pages of an EV, page by page

all_snoc : (xs : List ℕ) (x : ℕ) → all_bytes32 (xs ++ (x ∷ [])) ≡ all_bytes32 xs ++ bytes32 x
all_snoc [] x = refl
all_snoc (y ∷ xs) x = rw (all_snoc xs x)

pub page_placed : (s pages t u : List ℕ) (i : ℕ) → i < length pages → 8 + 4 * length pages ≤ length s
    → t ≡ placed s 8 (all_bytes32 (take i pages)) → u ≡ placed t (8 + 4 * i) (bytes32 (get_or pages i 0))
    → (length u ≡ length s) × (u ≡ placed s 8 (all_bytes32 (take (i + 1) pages)))
page_placed s pages t u i h room et eu =
    let n : i + 1 ≡ suc i = omega arith in
    let m : length (take i pages) ≡ i = simp length-take (omega arith) in
    let l : length (all_bytes32 (take i pages)) ≡ 4 * i = omega (arith, length_all_bytes32 (take i pages)) in
    let j : placed (placed s 8 (all_bytes32 (take i pages))) (8 + length (all_bytes32 (take i pages))) (bytes32 (get_or pages i 0))
    ≡ placed s 8 (all_bytes32 (take i pages) ++ bytes32 (get_or pages i 0))
    = placed_join s 8 (all_bytes32 (take i pages)) (bytes32 (get_or pages i 0)) (omega arith) in
    let a : all_bytes32 (take i pages) ++ bytes32 (get_or pages i 0) ≡ all_bytes32 (take (i + 1) pages)
    = sym (ap (λ (x : ℕ). all_bytes32 (take x pages)) n ∙ ap all_bytes32 (take-suc pages i 0 h) ∙ all_snoc (take i pages) (get_or pages i 0)) in
    let r : u ≡ placed s 8 (all_bytes32 (take (i + 1) pages))
    = eu ∙ ap (λ (x : List ℕ). placed x (8 + 4 * i) (bytes32 (get_or pages i 0))) et
    ∙ ap (λ (x : ℕ). placed (placed s 8 (all_bytes32 (take i pages))) (8 + x) (bytes32 (get_or pages i 0))) (sym l)
    ∙ j ∙ ap (placed s 8) a in
    let m1 : length (take (i + 1) pages) ≡ i + 1 = simp length-take (omega arith) in
    let q : length u ≡ length s
    = ap length r ∙ length_placed s 8 (all_bytes32 (take (i + 1) pages)) (omega (arith, length_all_bytes32 (take (i + 1) pages))) in
    (q, r)

-- ---- a record at the start of the rest

pub put_barred : (b rest : List ℕ) (t : Bool) → t ≡ true → (None ≡ some_length (put_length t b rest)) × (rest ≡ put_bytes t b rest)
put_barred b rest t e = (rw e, rw e)

pub put_short : (b rest : List ℕ) (t : Bool) → t ≡ false → length rest < length b
    → (None ≡ some_length (put_length t b rest)) × (rest ≡ put_bytes t b rest)
put_short b rest t e h = (rw (e, lt-ltb (length rest) (length b) h), rw (e, lt-ltb (length rest) (length b) h))

pub put_whole : (b rest after : List ℕ) (n : ℕ) (t : Bool) → t ≡ false → n ≡ length b → length b ≤ length rest → 0 < n → after ≡ placed rest 0 b
    → (Some n ≡ some_length (put_length t b rest)) × (after ≡ put_bytes t b rest)
put_whole b rest after n t e l h z p =
    (rw (e, le-ltb (length rest) (length b) h, ← l) (some_length_of n z), rw (e, le-ltb (length rest) (length b) h) p)

-- ---- an EV's n

module _ (n : ℕ) where
  pub pages_none : n ≡ 0 → pages_refused n ≡ true
  unfolding pages_refused ◌or◌
  pages_none h = rw (eq-eqb n 0 h)

  pub pages_many : (n ≡ 0 → ⊥) → 256 < n → pages_refused n ≡ true
  unfolding pages_refused ◌or◌
  pages_many z h = rw (ne_eqb n 0 z, lt-ltb 256 n h)

  pub pages_fine : (n ≡ 0 → ⊥) → n ≤ 256 → pages_refused n ≡ false
  unfolding pages_refused ◌or◌
  pages_fine z h = rw (ne_eqb n 0 z, le-ltb 256 n h)

  pub pages_within : pages_refused n ≡ false → (0 < n) × (n ≤ 256)
  unfolding pages_refused
  pages_within e =
      let some : eqb n 0 ≡ false = or_none_l _ _ e in
      let few : ltb 256 n ≡ false = or_none_r _ _ e in
      (omega tests, omega tests)

-- ---- the room

module _ (len at size : ℕ) where
  pub room_past : len < at → 9 ≡ refuse (ltb len at) 9 (refuse (ltb (len - at) size) 8 0)
  room_past h = rw (lt-ltb len at h)

  pub room_short : at ≤ len → len - at < size → 8 ≡ refuse (ltb len at) 9 (refuse (ltb (len - at) size) 8 0)
  room_short h l = rw (le-ltb len at h, lt-ltb (len - at) size l)

  pub room_enough : at ≤ len → size ≤ len - at → 0 ≡ refuse (ltb len at) 9 (refuse (ltb (len - at) size) 8 0)
  room_enough h l = rw (le-ltb len at h, le-ltb (len - at) size l)

pub ruleset room_rules = (room_past, room_short, room_enough)

-- ---- the rest of the lent bytes comes back into the whole

-- `part` is what the rest was lent as, `back` what the whole is when the rest comes back as `rest`
abbrev pub part : List ℕ → ℕ → List ℕ
part out at = take (length out - at) (drop at out)

abbrev pub back : List ℕ → ℕ → List ℕ → List ℕ
back out at rest = take at out ++ (rest ++ drop (length out - at) (drop at out))

part_is : (out : List ℕ) (at : ℕ) → part out at ≡ drop at out
part_is out at = take_all (length out - at) (drop at out) (rw length-drop (omega arith))

back_is : (out : List ℕ) (at : ℕ) (rest : List ℕ) → back out at rest ≡ take at out ++ rest
back_is out at rest =
    let l : length (drop at out) ≤ length out - at = rw length-drop (omega arith) in
    let e : drop (length out - at) (drop at out) ≡ [] = drop_of_length-le (drop at out) l in
    rw (e, append-nil rest)

back_placed : (out : List ℕ) (at : ℕ) (b : List ℕ) → back out at (placed (part out at) 0 b) ≡ placed out at b
back_placed out at b =
    let e : drop (0 + length b) (drop at out) ≡ drop (at + length b) out
    = ap (λ (m : ℕ). drop m (drop at out)) (zero-add (length b)) ∙ drop-drop (length b) at out in
    back_is out at (placed (part out at) 0 b)
    ∙ rw (part_is out at, e) (sym (append_assoc (take at out) b (drop (at + length b) out)))

pick_zero : (x : Bool) (n m : ℕ) → 0 < n → 0 ≡ pick x n m → (x ≡ false) × (0 ≡ m)
pick_zero true n m h e = absurd (omega arith)
pick_zero false n m h e = (refl, e)

writes : (b out whole : List ℕ) (at size r : ℕ) → r ≡ 0 → size ≡ length b → whole ≡ placed out at b
    → (stored (at + size) ≡ wrote r b at) × (whole ≡ out_after r b out at)
writes b out whole at size r z e p = (rw (z, e), rw z p)

-- the room that the code judges is that of the record's bytes
pub room_by : (b out : List ℕ) (at size n : ℕ) → size ≡ length b → n ≡ refuse (ltb (length out) at) 9 (refuse (ltb (length out - at) size) 8 0)
    → n ≡ room_refusal b out at
unfolding room_refusal
room_by b out at size n e r = r ∙ ap (λ (m : ℕ). refuse (ltb (length out) at) 9 (refuse (ltb (length out - at) m) 8 0)) e

module _ (b out : List ℕ) (at : ℕ) (none : 0 ≡ room_refusal b out at) where
  pub room_fits : at + length b ≤ length out
  unfolding room_refusal
  room_fits =
      let p : (ltb (length out) at ≡ false) × (◌≡◌ {A = ℕ} 0 (pick (ltb (length out - at) (length b)) 8 0))
      = pick_zero (ltb (length out) at) 9 (pick (ltb (length out - at) (length b)) 8 0) (omega arith) none in
      let q : (ltb (length out - at) (length b) ≡ false) × (◌≡◌ {A = ℕ} 0 0) = pick_zero (ltb (length out - at) (length b)) 8 0 (omega arith) p.1 in
      let l : at ≤ length out = ltb-false (length out) at p.0 in
      let m : length b ≤ length out - at = ltb-false (length out - at) (length b) q.0 in
      omega arith

  -- with room, the call below has put the record
  pub put_some : (barred : Bool) → barred ≡ false → (answer : Option ℕ) → 0 < length b → answer ≡ some_length (put_length barred b (part out at)) → IsSome answer
  put_some barred fine answer h e =
      let l : length b ≤ length (part out at) = let f : at + length b ≤ length out = room_fits in rw (part_is out at, length-drop at out) (omega arith) in
      let s : answer ≡ Some (length b) = e ∙ rw (fine, le-ltb (length (part out at)) (length b) l) (sym (some_length_of (length b) h)) in
      rw s refl

  -- and put it whole
  module _ (size : ℕ) (rest : List ℕ) (barred : Bool) (fine : barred ≡ false)
      (answered : Some size ≡ some_length (put_length barred b (part out at))) (changed : rest ≡ put_bytes barred b (part out at)) where
    in_part : length b ≤ length (part out at)
    in_part = let f : at + length b ≤ length out = room_fits in rw (part_is out at, length-drop at out) (omega arith)

    put_size : size ≡ length b
    put_size = length_of_some _ _ answered ∙ rw (fine, le-ltb (length (part out at)) (length b) in_part)

    put_back : back out at rest ≡ placed out at b
    put_back =
        let e : put_bytes barred b (part out at) ≡ placed (part out at) 0 b = rw (fine, le-ltb (length (part out at)) (length b) in_part) in
        ap (back out at) (changed ∙ e) ∙ back_placed out at b

    pub put_writes : (r : ℕ) → r ≡ 0
        → (stored (at + size) ≡ wrote r b at) × (back out at rest ≡ out_after r b out at)
    put_writes r z = writes b out (back out at rest) at size r z put_size put_back

-- ---- what a refusal's number makes of the answer and the bytes

pub refuses : (b out : List ℕ) (at n r : ℕ) → (n ≡ 0 → ⊥) → r ≡ n
    → (refused n ≡ wrote r b at) × (out ≡ out_after r b out at)
refuses b out at zero r z e = absurd (z refl)
refuses b out at (suc n) r z e = (rw e, rw e)

-- the same where the call below has told the reason
pub room_refused : (b out : List ℕ) (at r : ℕ) (answer : Result ℕ Refusal) (reason : Refusal) → answer ≡ Err reason → number_of reason ≡ r
    → (written_answer answer ≡ wrote r b at) × (out ≡ out_after r b out at)
room_refused b out at r answer reason e n = rw e (refuses b out at (number_of reason) r (number_above reason) (sym n))

-- the refusals that come before the room's: the answer is the number, and no byte changes
module _ (b out : List ℕ) (at : ℕ) where
  module _ (k a n : ℕ) (e : n ≡ sizes_refusal k a 0) (z : n ≡ 0 → ⊥) where
    pub ka_refused : refused n ≡ wrote (ka_refusal k a out at) b at
    unfolding ka_refusal
    ka_refused = (refuses b out at n (ka_refusal k a out at) z (sizes_fall k a _ n e z)).0

    pub ka_kept : out ≡ out_after (ka_refusal k a out at) b out at
    unfolding ka_refusal
    ka_kept = (refuses b out at n (ka_refusal k a out at) z (sizes_fall k a _ n e z)).1

  module _ (page times : ℕ) (e : times ≡ 0) where
    thirteen : rr_refusal page times out at ≡ 13
    unfolding rr_refusal
    thirteen = rw (eq-eqb times 0 e)

    pub rr_refused : refused 13 ≡ wrote (rr_refusal page times out at) b at
    rr_refused = rw thirteen

    pub rr_kept : out ≡ out_after (rr_refusal page times out at) b out at
    rr_kept = rw thirteen

  module _ (t : ℕ) (pages : List ℕ) where
    six : pages_refused (length pages) ≡ true → ev_refusal t pages out at ≡ 6
    unfolding ev_refusal
    six e = rw e

    pub ev_none_refused : length pages ≡ 0 → refused 6 ≡ wrote (ev_refusal t pages out at) b at
    ev_none_refused e = rw (six (pages_none (length pages) e))

    pub ev_none_kept : length pages ≡ 0 → out ≡ out_after (ev_refusal t pages out at) b out at
    ev_none_kept e = rw (six (pages_none (length pages) e))

    pub ev_many_refused : 256 < length pages → refused 6 ≡ wrote (ev_refusal t pages out at) b at
    ev_many_refused h = rw (six (pages_many (length pages) (λ e. omega arith) h))

    pub ev_many_kept : 256 < length pages → out ≡ out_after (ev_refusal t pages out at) b out at
    ev_many_kept h = rw (six (pages_many (length pages) (λ e. omega arith) h))

pub ruleset ka_rules = (ka_refused, ka_kept)

pub ruleset rr_rules = (rr_refused, rr_kept)

pub ruleset ev_rules = (ev_none_refused, ev_none_kept, ev_many_refused, ev_many_kept)
