-- Numbers in src/lib.rt: the number of a row after a request by one formula, the rows that come to L0, and the number of a page.
use Prim.Native.Nat.{ℕ, suc, ◌+◌, ◌-◌, ◌≤◌, ◌<◌, min}
use native.Mathlib.Omega.{arith}
use mathlib.Core.Bool.{true, false, not, ◌&&◌}
use mathlib.Core.List.{List, [], ◌∷◌}
use mathlib.Core.Path.{◌≡◌, refl, sym, ap, ◌∙◌}
use lib.Dec.{eqb, leb, ltb}
use lib.ListN.{length, take, drop, get_or, length-drop}
use lib.Seq.{take_all}
use mir.Val.{bool_byte}
use borrow.Author.Tests.{lt-ltb, le-ltb, leb-true, leb-false, ltb-true, ltb-false, eqb-true, eqb-false}
use Rattle.lists.specs.Choice.{pick, ◌or◌}
use Rattle.lists.specs.Pages.{mem}
use Rattle.lists.specs.Places.{place}
use Rattle.lists.proofs.Choice.{cases, clash, eqb_sym}
use Rattle.lists.proofs.Leaves.{mem_place}
use Rattle.paging.specs.Layers.{LayerRule, append, join, lift, layer_rule, renumbered}
use Rattle.paging.specs.Rows.{rows_of}
use Rattle.paging.specs.Table.{number_in}
use Rattle.table.specs.Serving.{change_for, changed, number_after}
use Rattle.table.specs.declared.Change.{Change}

-- The number of a row after a request

pub lowered_fits : (above m : ℕ) → bool_byte (ltb above m) ≤ m
lowered_fits above m = cases (ltb above m) (λ b. let h = ltb-true above m b in rw b (omega arith)) (λ b. rw b (omega arith))

pub lowered_is : (above m low : ℕ) → m ≡ low → m - bool_byte (ltb above m) ≡ pick (ltb above low) (low - 1) low
lowered_is above m low e = rw e (cases (ltb above low) (λ b. rw b refl) (λ b. rw b (omega arith)))

-- the formula is the model's for each rule
pub changed_is : (rule : LayerRule) (k a i p n : ℕ) → n ≤ 4294967295 → changed (change_for rule k a i p) n ≡ renumbered rule k a i n
changed_is append k a i p n h =
    let same : min n 4294967295 ≡ n = omega arith in rw (same, le-ltb 4294967295 n h)
changed_is join k a i p n h = rw (le-ltb 4294967295 (min n (k - a)) (omega arith))
changed_is lift k a i p n h =
    let same : min n 4294967295 ≡ n = omega arith in
    rw same
    (cases (leb i n)
    (λ b. let g = leb-true i n b in
    rw b (cases (ltb (i - 1) n) (λ d. rw d refl) (λ d. let f = ltb-false (i - 1) n d in rw d (omega arith))))
    (λ b. let g = leb-false i n b in
    rw (b, le-ltb (i - 1) n (omega arith))))

-- only a page with a row is lifted
pub lift_has_row : (k i s : ℕ) (rule : LayerRule) → rule ≡ layer_rule k i s → rule ≡ lift → 0 < i
lift_has_row k i s rule e l =
    cases (eqb i 0)
    (λ b. cases (ltb s k)
    (λ d. let z : append ≡ lift = rw (b, d) at (sym e ∙ l) in let no-rule : ◌≡◌ {A = ℕ} 0 1 = cc in omega arith)
    (λ d. let z : join ≡ lift = rw (b, d) at (sym e ∙ l) in let no-rule : ◌≡◌ {A = ℕ} 0 1 = cc in omega arith))
    (λ b. let h = eqb-false i 0 b in omega arith)

-- The rows that come to L0

pub lost_all : (c : Change) (n : ℕ) → c.floor ≤ bool_byte (eqb c.above 0) → n ≤ 4294967295 → ltb 4294967295 n ≡ ltb 0 (changed c n)
lost_all c n h g =
    le-ltb 4294967295 n g ∙ sym (le-ltb 0 (changed c n)
    (cases (ltb c.above (min n c.floor))
    (λ b. let d = ltb-true c.above (min n c.floor) b in
    rw b (cases (eqb c.above 0)
    (λ e. let f : c.floor ≤ 1 = rw e at h in omega arith)
    (λ e. let f : c.floor ≤ 0 = rw e at h in omega arith)))
    (λ b. let d = ltb-false c.above (min n c.floor) b in
    rw b (cases (eqb c.above 0)
    (λ e. let z = eqb-true c.above 0 e in omega arith)
    (λ e. let f : c.floor ≤ 0 = rw e at h in omega arith)))))

pub lost_some : (c : Change) (n : ℕ) → bool_byte (eqb c.above 0) < c.floor → ltb (bool_byte (eqb c.above 0)) n ≡ ltb 0 (changed c n)
lost_some c n h =
    cases (eqb c.above 0)
    (λ e. let z = eqb-true c.above 0 e in
    let f : 1 < c.floor = rw e at h in
    rw e (cases (ltb 1 n)
    (λ b. let d = ltb-true 1 n b in
    rw (b, lt-ltb c.above (min n c.floor) (omega arith)) (sym (lt-ltb 0 (min n c.floor - 1) (omega arith))))
    (λ b. let d = ltb-false 1 n b in
    rw b (sym (le-ltb 0 (changed c n) (cases (ltb c.above (min n c.floor))
    (λ y. rw y (omega arith))
    (λ y. let x = ltb-false c.above (min n c.floor) y in rw y (omega arith))))))))
    (λ e. let z = eqb-false c.above 0 e in
    let f : 0 < c.floor = rw e at h in
    rw e (cases (ltb 0 n)
    (λ b. let d = ltb-true 0 n b in
    rw b (sym (lt-ltb 0 (changed c n) (cases (ltb c.above (min n c.floor))
    (λ y. let x = ltb-true c.above (min n c.floor) y in rw y (omega arith))
    (λ y. rw y (omega arith))))))
    (λ b. let d = ltb-false 0 n b in
    rw b (sym (le-ltb 0 (changed c n) (cases (ltb c.above (min n c.floor))
    (λ y. rw y (omega arith))
    (λ y. rw y (omega arith))))))))

-- the test of the code is that the row stays
pub stays_is : (c : Change) (most n q : ℕ) → ltb most n ≡ ltb 0 (changed c n) → not (eqb q c.page) && ltb most n ≡ ltb 0 (number_after c n q)
stays_is c most n q e = cases (eqb q c.page) (λ b. rw b) (λ b. rw b e)

-- The number of a page

number_absent : (ns ps : List ℕ) (p : ℕ) → mem p ps ≡ false → number_in (rows_of ns ps) p ≡ 0
unfolding ◌or◌
number_absent [] ps p m = refl
number_absent (n ∷ ns) [] p m = refl
number_absent (n ∷ ns) (q ∷ ps) p m =
    cases (eqb p q)
    (λ e. clash true refl (rw e at m))
    (λ e. let m' : mem p ps ≡ false = rw e at m in
    rw (eqb_sym q p, e, number_absent ns ps p m') refl)

pub number_none : (ns ps : List ℕ) (p r : ℕ) → r ≡ place p ps → length ps ≤ r → 0 ≡ number_in (rows_of ns ps) p
number_none ns ps p r e h = sym (number_absent ns ps p (mem_place p ps ∙ le-ltb (place p ps) (length ps) (omega arith)))

once : (ns ps : List ℕ) (p : ℕ) → length ps ≡ length ns → place p ps < length ps → mem p (drop (suc (place p ps)) ps) ≡ false
    → get_or ns (place p ps) 0 ≡ number_in (rows_of ns ps) p
once ns [] p l h m = absurd (omega arith)
once [] (q ∷ ps) p l h m = absurd (omega arith)
once (n ∷ ns) (q ∷ ps) p l h m =
    cases (eqb p q)
    (λ e. let m' : mem p ps ≡ false = rw e at m in
    rw (e, eqb_sym q p, e, number_absent ns ps p m') (omega arith))
    (λ e. let m' : mem p (drop (suc (place p ps)) ps) ≡ false = rw e at m in
    let h' : suc (place p ps) < suc (length ps) = rw e at h in
    let i = once ns ps p (omega arith) (omega arith) m' in
    rw (e, eqb_sym q p, e) (omega arith))

pub number_once : (ns ps : List ℕ) (p r : ℕ) → length ps ≡ length ns → r ≡ place p ps → r < length ps
    → mem p (take (length ps - (r + 1)) (drop (r + 1) ps)) ≡ false → get_or ns r 0 ≡ number_in (rows_of ns ps) p
number_once ns ps p r l e h m =
    let all : take (length ps - (r + 1)) (drop (r + 1) ps) ≡ drop (r + 1) ps = take_all (length ps - (r + 1)) (drop (r + 1) ps) (rw (length-drop (r + 1) ps) (omega arith)) in
    let at : r + 1 ≡ suc (place p ps) = omega arith in
    let m' : mem p (drop (suc (place p ps)) ps) ≡ false = ap (λ (x : ℕ). mem p (drop x ps)) (sym at) ∙ ap (mem p) (sym all) ∙ m in
    ap (λ (x : ℕ). get_or ns x 0) e ∙ once ns ps p l (omega arith) m'
