-- The steps in which the code serves a request: one turn of each loop, and that the steps together make the rows of the model.
use Prim.Native.Nat.{ℕ, zero, suc, ◌+◌, ◌-◌, ◌≤◌, ◌<◌, max}
use native.Mathlib.Numerals.{add-one}
use native.Mathlib.Omega.{arith}
use mathlib.Core.Bool.{false, not, ◌&&◌}
use mathlib.Core.List.{List, [], ◌∷◌, ◌++◌, map, append_assoc, append-nil}
use mathlib.Core.Path.{◌≡◌, refl, sym, ap, ◌∙◌}
use Rattle.std.specs.Prelude.{Ok, Err}
use lib.Dec.{eqb, ltb}
use lib.ListN.{length, take, drop, get_or, set, replicate, length-append, length-replicate, drop_of_length-le}
use lib.Seq.{drop-cons, take-suc, take_all, set_at, get_or_at, take_at, drop_at}
use mir.Val.{bool_byte}
use borrow.Author.Tests.{lt-ltb, le-ltb}
use Rattle.paging.specs.Numbers.{rule_of}
use Rattle.lists.specs.Choice.{pick}
use Rattle.lists.specs.Pages.{filter}
use Rattle.lists.specs.Sorting.{Row, row_before, sort_rows}
use Rattle.lists.proofs.Choice.{tests, cases}
use Rattle.lists.proofs.Sorting.{length_sort}
use Rattle.paging.specs.Layers.{LayerRule, layer_rule, renumbered, top_after}
use Rattle.paging.specs.Rows.{row_at, rows_of, unused, used_rows, table_of}
use Rattle.paging.specs.Table.{number_in, renumbered_row, above_zero, others_after, rule_in, rows_after}
use Rattle.paging.proofs.Rows.{rows_length, rows_get, rows_take, rows_drop, rows_append}
use Rattle.paging.proofs.Table.{number_in_above_zero, renumbered_zero}
use Rattle.table.specs.Serving.{change_for, changed, number_after, row_moved, moved, served, SteppedTo}
use Rattle.table.specs.declared.Change.{Change}
use Rattle.paging.specs.declared.applied.RuleApplied.{RuleApplied}
use Rattle.table.proofs.Numbers.{changed_is, stays_is}

-- The number of a page: what is passed, and what is left

pub number_next : (ns ps : List ℕ) (p i best r : ℕ) → length ps ≡ length ns → i < length ps → r ≡ max best (pick (eqb (get_or ps i 0) p) (get_or ns i 0) 0)
    → max best (number_in (drop i (rows_of ns ps)) p) ≡ number_in (rows_of ns ps) p → max r (number_in (drop (i + 1) (rows_of ns ps)) p) ≡ number_in (rows_of ns ps) p
number_next ns ps p i best r e h found before =
    let row = rows_get ns ps i e in
    let all = rows_length ns ps e in
    let step : drop i (rows_of ns ps) ≡ row_at (get_or ns i 0) (get_or ps i 0) ∷ drop (i + 1) (rows_of ns ps) =
    rw (add-one i) (rw row at (drop-cons (rows_of ns ps) i unused (omega arith))) in
    let was = rw step at before in
    omega arith

pub number_end : (ns ps : List ℕ) (p i best : ℕ) → length ps ≡ length ns → length ps ≤ i
    → max best (number_in (drop i (rows_of ns ps)) p) ≡ number_in (rows_of ns ps) p → best ≡ number_in (rows_of ns ps) p
number_end ns ps p i best e h before =
    let all = rows_length ns ps e in
    let none : drop i (rows_of ns ps) ≡ [] = drop_of_length-le (rows_of ns ps) {i = i} (omega arith) in
    let was = rw none at before in
    omega arith

-- Rows that stay

pub moved_append : (c : Change) (xs ys : List Row) → moved c (xs ++ ys) ≡ moved c xs ++ moved c ys
moved_append c [] ys = refl
moved_append c (x ∷ xs) ys =
    cases (ltb 0 (number_after c x.number x.page))
    (λ e. rw e (ap (λ rest. row_moved c x ∷ rest) (moved_append c xs ys)))
    (λ e. rw e (moved_append c xs ys))

pub moved_kept : (c : Change) (x : Row) → 0 < number_after c x.number x.page → moved c (x ∷ []) ≡ row_moved c x ∷ []
moved_kept c x h = rw (lt-ltb 0 (number_after c x.number x.page) h)

pub moved_dropped : (c : Change) (x : Row) → number_after c x.number x.page ≤ 0 → moved c (x ∷ []) ≡ []
moved_dropped c x h = rw (le-ltb 0 (number_after c x.number x.page) h)

moved_next : (c : Change) (rows : List Row) (i : ℕ) → i < length rows
    → moved c (take (i + 1) rows) ≡ moved c (take i rows) ++ moved c (get_or rows i unused ∷ [])
moved_next c rows i h =
    rw (add-one i, take-suc rows i unused h) (moved_append c (take i rows) (get_or rows i unused ∷ []))

-- counting the rows that stay
one_moved : (c : Change) (n q : ℕ) → length (moved c (row_at n q ∷ [])) ≡ bool_byte (ltb 0 (number_after c n q))
one_moved c n q = cases (ltb 0 (number_after c n q)) (λ e. rw e) (λ e. rw e)

pub kept_next : (c : Change) (ns ps : List ℕ) (i n most : ℕ) → length ps ≡ length ns → i < length ps
    → ltb most (get_or ns i 0) ≡ ltb 0 (changed c (get_or ns i 0)) → n ≡ length (moved c (take i (rows_of ns ps)))
    → n + bool_byte (not (eqb (get_or ps i 0) c.page) && ltb most (get_or ns i 0)) ≡ length (moved c (take (i + 1) (rows_of ns ps)))
kept_next c ns ps i n most e h told was =
    let all = rows_length ns ps e in
    rw (
      stays_is c most (get_or ns i 0) (get_or ps i 0) told,
      moved_next c (rows_of ns ps) i (omega arith),
      length-append (moved c (take i (rows_of ns ps))) (moved c (get_or (rows_of ns ps) i unused ∷ [])),
      rows_get ns ps i e,
      one_moved c (get_or ns i 0) (get_or ps i 0),
    ) (omega arith)

pub kept_end : (c : Change) (ns ps : List ℕ) (i n : ℕ) → length ps ≡ length ns → length ps ≤ i
    → n ≡ length (moved c (take i (rows_of ns ps))) → n ≡ length (moved c (rows_of ns ps))
kept_end c ns ps i n e h was =
    let all = rows_length ns ps e in
    rw (take_all i (rows_of ns ps) (omega arith)) at was

-- Renumbering in place: the rows that stay, places that came free, and the rows ahead

pub record Renumbering (c : Change) (rows₀ rows : List Row) (to from : ℕ) : Type 0 where
  pub fewer : to ≤ from
  pub counted : to ≡ length (moved c (take from rows₀))
  pub shape : rows ≡ moved c (take from rows₀) ++ (replicate (from - to) unused ++ drop from rows₀)

slide : (n : ℕ) (rest : List Row) → replicate n unused ++ (unused ∷ rest) ≡ unused ∷ (replicate n unused ++ rest)
slide zero rest = refl
slide (suc n) rest = ap (λ rows. unused ∷ rows) (slide n rest)

pub renumbering_start : (c : Change) (rows : List Row) → Renumbering c rows rows 0 0
renumbering_start c rows = record { fewer = omega arith; counted = refl; shape = refl }

module _ (c : Change) (rows₀ rows : List Row) (to from : ℕ) (h : from < length rows₀) (r : Renumbering c rows₀ rows to from) where
  ahead : rows ≡ (moved c (take from rows₀) ++ replicate (from - to) unused) ++ (get_or rows₀ from unused ∷ drop (from + 1) rows₀)
  ahead =
      r.shape ∙ rw (drop-cons rows₀ from unused h, add-one from) (sym (append_assoc (moved c (take from rows₀)) (replicate (from - to) unused) _))

  front : length (moved c (take from rows₀) ++ replicate (from - to) unused) ≡ from
  front =
      length-append (moved c (take from rows₀)) (replicate (from - to) unused)
      ∙ rw (length-replicate (from - to) unused) (let n = r.counted in let m = r.fewer in omega arith)

  -- the row that is read is still the one at entry
  pub renumbering_reads : get_or rows from unused ≡ get_or rows₀ from unused
  renumbering_reads = rw ahead (get_or_at (moved c (take from rows₀) ++ replicate (from - to) unused) (get_or rows₀ from unused) (drop (from + 1) rows₀) unused from front)

  freed : set rows from unused ≡ moved c (take from rows₀) ++ (unused ∷ (replicate (from - to) unused ++ drop (from + 1) rows₀))
  freed =
      rw ahead (set_at (moved c (take from rows₀) ++ replicate (from - to) unused) (get_or rows₀ from unused) (drop (from + 1) rows₀) unused from front
      ∙ append_assoc (moved c (take from rows₀)) (replicate (from - to) unused) (unused ∷ drop (from + 1) rows₀)
      ∙ ap (λ rest. moved c (take from rows₀) ++ rest) (slide (from - to) (drop (from + 1) rows₀)))

  -- the row goes
  pub renumbering_drops : number_after c (get_or rows₀ from unused).number (get_or rows₀ from unused).page ≤ 0
      → Renumbering c rows₀ (set rows from unused) to (from + 1)
  renumbering_drops gone =
      let same : moved c (take (from + 1) rows₀) ≡ moved c (take from rows₀) =
      moved_next c rows₀ from h ∙ rw (moved_dropped c (get_or rows₀ from unused) gone) (append-nil (moved c (take from rows₀))) in
      let n = r.counted in
      let f = r.fewer in
      let more : from + 1 - to ≡ suc (from - to) = omega arith in
      record { fewer = omega arith; counted = rw same n; shape = rw (same, more) freed }

  -- the row stays
  pub renumbering_keeps : 0 < number_after c (get_or rows₀ from unused).number (get_or rows₀ from unused).page
      → Renumbering c rows₀ (set (set rows from unused) to (row_moved c (get_or rows₀ from unused))) (to + 1) (from + 1)
  renumbering_keeps stays =
      let y = row_moved c (get_or rows₀ from unused) in
      let more : moved c (take (from + 1) rows₀) ≡ moved c (take from rows₀) ++ (y ∷ []) =
      moved_next c rows₀ from h ∙ rw (moved_kept c (get_or rows₀ from unused) stays) in
      let n = r.counted in
      let f = r.fewer in
      let free : from + 1 - (to + 1) ≡ from - to = omega arith in
      record {
        fewer = omega arith;
        counted = rw (more, length-append (moved c (take from rows₀)) (y ∷ [])) (omega arith);
        shape = rw (freed, more, free)
            (set_at (moved c (take from rows₀)) unused (replicate (from - to) unused ++ drop (from + 1) rows₀) y to (sym n)
            ∙ sym (append_assoc (moved c (take from rows₀)) (y ∷ []) (replicate (from - to) unused ++ drop (from + 1) rows₀)));
      }

-- the same on the two lists
module _ (c : Change) (ns₀ ps₀ ns ps : List ℕ) (to from m : ℕ) (e : length ps₀ ≡ length ns₀) (ep : length ps ≡ length ps₀) (en : length ns ≡ length ns₀)
    (h : from < length ps₀) (r : Renumbering c (rows_of ns₀ ps₀) (rows_of ns ps) to from) (told : m ≡ number_after c (get_or ns from 0) (get_or ps from 0)) where
  in_rows : from < length (rows_of ns₀ ps₀)
  in_rows = let all = rows_length ns₀ ps₀ e in omega arith

  row_read : row_at (get_or ns from 0) (get_or ps from 0) ≡ get_or (rows_of ns₀ ps₀) from unused
  row_read = sym (rows_get ns ps from (omega arith)) ∙ renumbering_reads c (rows_of ns₀ ps₀) (rows_of ns ps) to from in_rows r

  pub turn_drops : (after : List Row) → m ≤ 0 → after ≡ set (rows_of ns ps) from unused → Renumbering c (rows_of ns₀ ps₀) after to (from + 1)
  turn_drops after gone put =
      rw put (renumbering_drops c (rows_of ns₀ ps₀) (rows_of ns ps) to from in_rows r (rw (← row_read) (omega arith)))

  pub turn_keeps : (freed after : List Row) → 0 < m → freed ≡ set (rows_of ns ps) from unused → after ≡ set freed to (row_at m (get_or ps from 0))
      → Renumbering c (rows_of ns₀ ps₀) after (to + 1) (from + 1)
  turn_keeps freed after stays free put =
      let kept : row_moved c (get_or (rows_of ns₀ ps₀) from unused) ≡ row_at m (get_or ps from 0) =
      rw (← row_read) (rw (sym told)) in
      rw (put, free)
      (rw kept at (renumbering_keeps c (rows_of ns₀ ps₀) (rows_of ns ps) to from in_rows r (rw (← row_read) (omega arith))))

pub renumbering_end : (c : Change) (ns₀ ps₀ ns ps : List ℕ) (to from : ℕ) → length ps₀ ≡ length ns₀ → length ps₀ ≤ from → from ≤ length ps₀
    → Renumbering c (rows_of ns₀ ps₀) (rows_of ns ps) to from
    → (to ≡ length (moved c (rows_of ns₀ ps₀))) × (rows_of ns ps ≡ table_of (length ps₀) (moved c (rows_of ns₀ ps₀)))
renumbering_end c ns₀ ps₀ ns ps to from e h g r =
    let all = rows_length ns₀ ps₀ e in
    let whole : take from (rows_of ns₀ ps₀) ≡ rows_of ns₀ ps₀ = take_all from (rows_of ns₀ ps₀) (omega arith) in
    let none : drop from (rows_of ns₀ ps₀) ≡ [] = drop_of_length-le (rows_of ns₀ ps₀) {i = from} (omega arith) in
    let n = rw whole at r.counted in
    let left : length ps₀ - length (moved c (rows_of ns₀ ps₀)) ≡ from - to = omega arith in
    (n, rw left (rw (whole, none, append-nil (replicate (from - to) unused)) at r.shape))

-- The steps together

-- renumbering and dropping at once is what the model does in three steps
pub moved_is : (rule : LayerRule) (k a i p : ℕ) (rows : List Row) → ((j : ℕ) → (get_or rows j unused).number ≤ 4294967295)
    → moved (change_for rule k a i p) rows ≡ filter above_zero (map (renumbered_row rule k a i) (filter (λ row. not (eqb row.page p)) rows))
moved_is rule k a i p [] small = refl
moved_is rule k a i p (x ∷ xs) small =
    let rest = moved_is rule k a i p xs (λ j. small (suc j)) in
    cases (eqb x.page p)
    (λ e. rw e rest)
    (λ e. rw (e, changed_is rule k a i p x.number (small 0)) (cases (ltb 0 (renumbered rule k a i x.number))
    (λ f. rw f (ap (λ others. row_at (renumbered rule k a i x.number) x.page ∷ others) rest))
    (λ f. rw f rest)))

pub served_is : (c : Change) (rule : LayerRule) (k a i s p : ℕ) (rows : List Row) → ((j : ℕ) → (get_or rows j unused).number ≤ 4294967295)
    → c ≡ change_for rule k a i p → i ≡ number_in rows p → rule ≡ layer_rule k i s → served c (top_after rule k a s) rows ≡ rows_after k a s p rows
served_is c rule k a i s p rows small ec ei er = rw (ec, moved_is rule k a i p rows small, er, ei)

-- the front sorted, and the requested page put behind it
pub serve_end : (M : List Row) (ns ps ns' ps' : List ℕ) (after : List Row) (n places top p : ℕ) → length ps ≡ length ns → n ≡ length M → n < places
    → rows_of ns ps ≡ table_of places M → length ps' ≡ n → length ns' ≡ n → rows_of ns' ps' ≡ sort_rows (rows_of (take n ns) (take n ps))
    → after ≡ set (rows_of (ns' ++ drop n ns) (ps' ++ drop n ps)) n (row_at top p) → after ≡ table_of places (sort_rows M ++ (row_at top p ∷ []))
serve_end M ns ps ns' ps' after n places top p e en h table ep en' sorted put =
    let front : rows_of (take n ns) (take n ps) ≡ M = rows_take ns ps n ∙ rw table (take_at M _ n (sym en)) in
    let back : rows_of (drop n ns) (drop n ps) ≡ replicate (places - length M) unused = rows_drop ns ps n e ∙ rw table (drop_at M _ n (sym en)) in
    let more : places - length M ≡ suc (places - (n + 1)) = omega arith in
    let m : length (sort_rows M) ≡ n = length_sort row_before M ∙ sym en in
    let left : length (sort_rows M ++ (row_at top p ∷ [])) ≡ n + 1 = rw (length-append (sort_rows M) (row_at top p ∷ []), m) in
    rw (put, rows_append ns' (drop n ns) ps' (drop n ps) (ep ∙ sym en'), sorted, front, back, more, left)
    (set_at (sort_rows M) unused (replicate (places - (n + 1)) unused) (row_at top p) n m
    ∙ sym (append_assoc (sort_rows M) (row_at top p ∷ []) (replicate (places - (n + 1)) unused)))

-- the length of what a step makes
pub served_length : (c : Change) (top : ℕ) (rows : List Row) → length (served c top rows) ≡ length (moved c rows) + 1
served_length c top rows = length-append (sort_rows (moved c rows)) _ ∙ rw (length_sort row_before (moved c rows))

-- rows of L0 do not count
pub used_others : (rule : LayerRule) (k a i p : ℕ) (rows : List Row) → others_after rule k a i p (used_rows rows) ≡ others_after rule k a i p rows
used_others rule k a i p rows = ap sort_rows (same rows)
  where
    same : (xs : List Row) → filter above_zero (map (renumbered_row rule k a i) (filter (λ row. not (eqb row.page p)) (used_rows xs)))
        ≡ filter above_zero (map (renumbered_row rule k a i) (filter (λ row. not (eqb row.page p)) xs))
    same [] = refl
    same (x ∷ xs) =
        cases (ltb 0 x.number)
        (λ u. rw u (cases (eqb x.page p)
        (λ e. rw e (same xs))
        (λ e. rw e (cases (ltb 0 (renumbered rule k a i x.number))
        (λ f. rw f (ap (λ rest. row_at (renumbered rule k a i x.number) x.page ∷ rest) (same xs)))
        (λ f. rw f (same xs))))))
        (λ u. rw u (cases (eqb x.page p)
        (λ e. rw e (same xs))
        (λ e. let z : x.number ≡ 0 = omega tests in
        let gone : ltb 0 (renumbered rule k a i x.number) ≡ false = rw (z, renumbered_zero rule k a i) in
        rw (e, gone) (same xs))))

pub used_rows_lem : (k a s p : ℕ) (rows : List Row) → rows_after k a s p (used_rows rows) ≡ rows_after k a s p rows
used_rows_lem k a s p rows = rw (number_in_above_zero rows p, used_others (rule_in k s p rows) k a (number_in rows p) p rows)

pub used_rule : (k s p : ℕ) (rows : List Row) → rule_in k s p (used_rows rows) ≡ rule_in k s p rows
used_rule k s p rows = rw (number_in_above_zero rows p)

-- what a step answers
module _ (c : Change) (applied : RuleApplied) (k a i s p places n : ℕ) (ns ps : List ℕ) (e : length ps ≡ length ns) (small : (j : ℕ) → get_or ns j 0 ≤ 4294967295)
    (ec : c ≡ change_for (rule_of applied) k a i p) (ei : i ≡ number_in (rows_of ns ps) p) (er : rule_of applied ≡ layer_rule k i s) (en : n ≡ length (moved c (rows_of ns ps))) where
  after_is : served c (top_after (rule_of applied) k a s) (rows_of ns ps) ≡ rows_after k a s p (rows_of ns ps)
  after_is =
      served_is c (rule_of applied) k a i s p (rows_of ns ps) (λ j. rw (rows_get ns ps j e) (small j)) ec ei er

  after_length : length (rows_after k a s p (rows_of ns ps)) ≡ n + 1
  after_length = rw (← after_is) (served_length c (top_after (rule_of applied) k a s) (rows_of ns ps) ∙ rw (sym en))

  rule_is : rule_of applied ≡ rule_in k s p (rows_of ns ps)
  rule_is = er ∙ rw ei

  pub step_full : places ≤ n → SteppedTo k a s p places (rows_of ns ps) (rows_of ns ps) (Err applied)
  step_full h = record {
    full_told = rw after_length (sym (lt-ltb places (n + 1) (omega arith)));
    rule_told = rule_is;
    rows_told = refl;
    done_told = tt;
  }

  pub step_served : (top : ℕ) (after : List Row) → n < places → top ≡ top_after (rule_of applied) k a s → after ≡ table_of places (served c top (rows_of ns ps))
      → SteppedTo k a s p places (rows_of ns ps) after (Ok (record { rule = applied; s = top; used = n + 1 }))
  step_served top after h et told = let same : served c top (rows_of ns ps) ≡ rows_after k a s p (rows_of ns ps) = rw et after_is in record {
    full_told = rw after_length (sym (le-ltb places (n + 1) (omega arith)));
    rule_told = rule_is;
    rows_told = told ∙ ap (table_of places) same;
    done_told = record { rule_told = rule_is; top_told = et ∙ rw rule_is; used_told = sym after_length };
  }
