-- The loop that serves a trace: the table holds the layers of the requests so far, and what is left of the trace gives from there what
-- the whole gives from the start.
use Prim.Native.Nat.{ℕ, zero, suc, ◌+◌, ◌-◌, ◌≤◌, ◌<◌, min}
use native.Mathlib.Numerals.{add-one}
use native.Mathlib.Omega.{arith}
use mathlib.Core.Bool.{Bool, true, false, ◌&&◌}
use mathlib.Core.List.{List, [], ◌∷◌, ◌++◌, append_assoc}
use mathlib.Core.Path.{◌≡◌, refl, sym, ap, ◌∙◌}
use Rattle.std.specs.Prelude.{Some, None, Result, Ok, Err, is_err, IfOk}
use Rattle.std.specs.List.{list_all, zip}
use lib.Dec.{eqb, ltb}
use lib.ListN.{length, take, drop, get_or, replicate, length-append, length-replicate, drop_of_length-le}
use lib.Seq.{drop-cons, take_at, drop_at, length-take-le}
use borrow.Author.Tests.{eq-eqb, ne_eqb, lt-ltb, le-ltb, ltb-true, ltb-false}
use Rattle.paging.specs.Numbers.{rule_of}
use Rattle.lists.specs.Choice.{pick, ◌and◌, ◌or◌}
use Rattle.lists.specs.Pages.{bit}
use Rattle.lists.specs.Sorting.{Row}
use Rattle.lists.proofs.Choice.{cases}
use Rattle.paging.specs.Layers.{LayerRule, is_join, top_after}
use Rattle.paging.specs.Refusals.{trace_refusal}
use Rattle.paging.specs.Rows.{rows_of, unused, used_rows, table_of}
use Rattle.paging.specs.Table.{rule_in, rows_after, size_of, Tabled, nothing_yet, tabled_next, tabled_after}
use Rattle.paging.proofs.Forming.{FormedRows, no_rows_formed, request_forms, one_row_more, used_table}
use Rattle.paging.proofs.Refusals.{trace_fall, trace_pass}
use Rattle.paging.proofs.Rows.{rows_take, rows_drop, rows_append}
use Rattle.table.specs.Filling.{TableFilled}
use Rattle.paging.specs.declared.applied.RuleApplied.{RuleApplied}
use Rattle.table.specs.Serving.{Sound, DoneBy, SteppedTo}
use Rattle.table.specs.declared.Stepped.{Stepped}
use Rattle.table.proofs.Serving.{used_rows_lem, used_rule}
use Rattle.layers.specs.Formed.{is_unused}
use Rattle.layers.specs.Traces.{overflows, all_unused, early_refusal}
use Rattle.layers.specs.inner.Over.{ServedTo}

-- what the table, s and the bundles stand for
abbrev pub tabled_in : List Row → (s joins : ℕ) → Tabled
tabled_in rows s joins = record { rows = used_rows rows; s = s; joins = joins }

pub record ServedSoFar (k a : ℕ) (trace : List ℕ) (places : ℕ) (rows : List Row) (s joins used i : ℕ) : Type 0 where
  pub counted : used ≡ length (used_rows rows)
  pub fits : used ≤ places
  pub within : i ≤ length trace
  pub sound : Sound k a s
  pub few : joins ≤ i
  pub formed : FormedRows k a s (used_rows rows)
  pub shape : rows ≡ table_of places (used_rows rows)
  pub left : tabled_after k a trace nothing_yet ≡ tabled_after k a (drop i trace) (tabled_in rows s joins)
  pub full_left : overflows k a places trace nothing_yet ≡ overflows k a places (drop i trace) (tabled_in rows s joins)

sub_zero' : (n : ℕ) → n ≡ n - 0
sub_zero' n = omega arith

used_nothing : (n : ℕ) → used_rows (replicate n unused) ≡ []
used_nothing zero = refl
used_nothing (suc n) = used_nothing n

pub nothing_served : (k a : ℕ) (trace : List ℕ) (rows : List Row) (places : ℕ) → Sound k a 0 → rows ≡ replicate places unused
    → ServedSoFar k a trace places rows 0 0 0 0
nothing_served k a trace rows places sound e =
    let none : used_rows rows ≡ [] = rw e (used_nothing places) in
    record {
      counted = rw none refl;
      fits = omega arith;
      within = omega arith;
      sound = sound;
      few = omega arith;
      formed = rw none (no_rows_formed k a);
      shape = rw none (e ∙ ap (λ (n : ℕ). replicate n unused) (sub_zero' places));
      left = rw none refl;
      full_left = rw none refl;
    }

one_bundle : (b : Bool) → bit b ≤ 1
one_bundle true = omega arith
one_bundle false = omega arith

or_of : (x y : Bool) → x ≡ false → (x or y) ≡ y
unfolding ◌or◌
or_of x y e = rw e refl

or_full : (x y : Bool) → x ≡ true → true ≡ (x or y)
unfolding ◌or◌
or_full x y e = rw e refl

module _ (k a : ℕ) (trace : List ℕ) (places : ℕ) (rows : List Row) (s joins used i : ℕ) (Y : ServedSoFar k a trace places rows s joins used i) where
  pub at_end : length trace ≤ i → ServedTo k a trace places rows (Some (record { s = s; joins = joins }))
  at_end h =
      let none : drop i trace ≡ [] = drop_of_length-le trace h in
      let all : tabled_after k a trace nothing_yet ≡ tabled_in rows s joins = rw none at Y.left in
      record {
        full_told = sym (rw none at Y.full_left);
        served_told = record { rows_told = rw all Y.shape; s_told = rw all refl; joins_told = rw all refl };
      }

  module _ (h : i < length trace) (after : List Row) (r : Result Stepped RuleApplied) (told : SteppedTo k a s (get_or trace i 0) places rows after r) where
    trace_next : drop i trace ≡ get_or trace i 0 ∷ drop (suc i) trace
    trace_next = drop-cons trace i 0 h

    room_told : is_err r ≡ ltb places (length (rows_after k a s (get_or trace i 0) (used_rows rows)))
    room_told = told.full_told ∙ ap (λ (l : List Row). ltb places (length l)) (sym (used_rows_lem k a s (get_or trace i 0) rows))

    pub too_full : is_err r ≡ true → ServedTo k a trace places after None
    too_full f =
        let z : overflows k a places (drop i trace) (tabled_in rows s joins)
        ≡ ltb places (length (rows_after k a s (get_or trace i 0) (used_rows rows))) or overflows k a places (drop (suc i) trace) (tabled_next k a (get_or trace i 0) (tabled_in rows s joins))
        = ap (λ (l : List ℕ). overflows k a places l (tabled_in rows s joins)) trace_next in
        record { full_told = or_full _ _ (sym room_told ∙ f) ∙ sym (Y.full_left ∙ z); served_told = tt }

  module _ (h : i < length trace) (after : List Row) (r : Stepped) (told : SteppedTo k a s (get_or trace i 0) places rows after (Ok r)) where
    pub joins_fit : (bundles : ℕ) → length trace ≤ 65536 → bundles ≡ bit (is_join (rule_of r.rule)) → joins + bundles < 4294967296
    joins_fit bundles few b = omega (arith, Y.few, one_bundle (is_join (rule_of r.rule)))

    pub goes_on : (bundles : ℕ) → bundles ≡ bit (is_join (rule_of r.rule))
        → ServedSoFar k a trace places after r.s (joins + bundles) r.used (i + 1)
    goes_on bundles b =
        let p = get_or trace i 0 in
        let room = room_told h after (Ok r) told in
        let same : rows_after k a s p (used_rows rows) ≡ rows_after k a s p rows = used_rows_lem k a s p rows in
        let rule : rule_in k s p (used_rows rows) ≡ rule_in k s p rows = used_rule k s p rows in
        let top : r.s ≡ top_after (rule_in k s p (used_rows rows)) k a s = told.done_told.top_told ∙ rw rule refl in
        let formed : FormedRows k a r.s (rows_after k a s p (used_rows rows))
        = rw top (request_forms k a s p (used_rows rows) Y.sound.sizes.a_low Y.sound.sizes.a_high Y.formed) in
        let table : after ≡ table_of places (rows_after k a s p (used_rows rows)) = told.rows_told ∙ rw same refl in
        let used-rows-are : used_rows after ≡ rows_after k a s p (used_rows rows) = rw table (used_table places _ formed.above) in
        let joined : joins + bundles ≡ joins + bit (is_join (rule_in k s p (used_rows rows)))
        = ap (λ (n : ℕ). joins + n) (b ∙ ap (λ (x : LayerRule). bit (is_join x)) (told.rule_told ∙ sym rule)) in
        let state : tabled_in after r.s (joins + bundles) ≡ tabled_next k a p (tabled_in rows s joins) = rw (used-rows-are, top, joined) refl in
        let count : r.used ≡ length (rows_after k a s p (used_rows rows)) = told.done_told.used_told ∙ ap (λ (l : List Row). length l) (sym same) in
        let space : length (rows_after k a s p (used_rows rows)) ≤ places = ltb-false _ _ (sym room) in
        record {
          counted = count ∙ ap (λ (l : List Row). length l) (sym used-rows-are);
          fits = omega arith;
          within = omega arith;
          sound = record { sizes = Y.sound.sizes; s_high = formed.most };
          few = omega (arith, Y.few, one_bundle (is_join (rule_of r.rule)));
          formed = rw used-rows-are formed;
          shape = table ∙ ap (table_of places) (sym used-rows-are);
          left = Y.left ∙ rw (trace_next h after (Ok r) told, add-one i, state) refl;
          full_left = Y.full_left ∙ rw (trace_next h after (Ok r) told, add-one i, state) (or_of _ _ (sym room));
        }

-- A request sees a prefix of the table alone, behind which all is unused

replicate_more : (m n : ℕ) → replicate m unused ++ replicate n unused ≡ replicate (m + n) unused
replicate_more zero n = ap (λ (k : ℕ). replicate k unused) (plus_zero n)
  where
    plus_zero : (k : ℕ) → k ≡ 0 + k
    plus_zero k = omega arith
replicate_more (suc m) n =
    let e : suc m + n ≡ suc (m + n) = omega arith in rw e (ap (λ (l : List Row). unused ∷ l) (replicate_more m n))

-- a table in two parts
table_parts : (U : List Row) (m places : ℕ) → length U ≤ m → m ≤ places → table_of places U ≡ table_of m U ++ replicate (places - m) unused
table_parts U m places h g =
    let e : (m - length U) + (places - m) ≡ places - length U = omega arith in
    sym (append_assoc U (replicate (m - length U) unused) (replicate (places - m) unused)
    ∙ rw (replicate_more (m - length U) (places - m), e) refl)

table_length : (U : List Row) (m : ℕ) → length U ≤ m → length (table_of m U) ≡ m
table_length U m h = rw (length-append U (replicate (m - length U) unused), length-replicate (m - length U) unused) (omega arith)

same_test : (m places n used : ℕ) → n ≤ used + 1 → m ≡ min (used + 1) places → used ≤ places → ltb m n ≡ ltb places n
same_test m places n used h e g =
    cases (ltb places n)
    (λ t. t_true (ltb-true _ _ t) ∙ sym t)
    (λ t. let f : n ≤ places = ltb-false _ _ t in le-ltb m n (omega arith) ∙ sym t)
  where
    t_true : places < n → ltb m n ≡ true
    t_true l = lt-ltb m n (omega arith)

module _ (k a s p places used m : ℕ) (rows before after : List Row) (r : Result Stepped RuleApplied) (shape : rows ≡ table_of places (used_rows rows)) (above : size_of 0 (used_rows rows) ≡ 0)
    (counted : used ≡ length (used_rows rows)) (fits : used ≤ places) (m-is : m ≡ min (used + 1) places) (cut : before ≡ take m rows) (told : SteppedTo k a s p m before after r) where
  part_is : rows ≡ table_of m (used_rows rows) ++ replicate (places - m) unused
  part_is = shape ∙ table_parts (used_rows rows) m places (omega arith) (omega arith)

  pub before_is : before ≡ table_of m (used_rows rows)
  before_is = cut ∙ ap (take m) part_is ∙ take_at (table_of m (used_rows rows)) _ m (table_length (used_rows rows) m (omega arith))

  rest_is : drop m rows ≡ replicate (places - m) unused
  rest_is = ap (drop m) part_is ∙ drop_at (table_of m (used_rows rows)) _ m (table_length (used_rows rows) m (omega arith))

  used_before : used_rows before ≡ used_rows rows
  used_before = rw before_is (used_table m (used_rows rows) above)

  same_rows : rows_after k a s p before ≡ rows_after k a s p rows
  same_rows =
      sym (used_rows_lem k a s p before) ∙ ap (λ (l : List Row). rows_after k a s p l) used_before ∙ used_rows_lem k a s p rows

  same_rule : rule_in k s p before ≡ rule_in k s p rows
  same_rule = sym (used_rule k s p before) ∙ ap (λ (l : List Row). rule_in k s p l) used_before ∙ used_rule k s p rows

  few : length (rows_after k a s p rows) ≤ used + 1
  few = rw counted (rw (used_rows_lem k a s p rows) at (one_row_more k a s p (used_rows rows)))

  full_is : is_err r ≡ ltb places (length (rows_after k a s p rows))
  full_is = told.full_told ∙ rw same_rows (same_test m places (length (rows_after k a s p rows)) used few m-is fits)

  together : after ++ drop m rows ≡ pick (is_err r) rows (table_of places (rows_after k a s p rows))
  together =
      cases (is_err r)
      (λ t. let same : after ≡ before = told.rows_told ∙ rw t refl in rw (t, same, cut) (take_drop_rows rows m))
      (λ f. let new : after ≡ table_of m (rows_after k a s p rows) = told.rows_told ∙ rw (f, same_rows) refl in
      let n : length (rows_after k a s p rows) ≤ m = ltb-false m (length (rows_after k a s p rows)) (ap (λ (l : List Row). ltb m (length l)) (sym same_rows) ∙ sym told.full_told ∙ f) in
      rw (f, new, rest_is) (sym (table_parts (rows_after k a s p rows) m places n (omega arith))))
    where
      take_drop_rows : (xs : List Row) (n : ℕ) → take n xs ++ drop n xs ≡ xs
      take_drop_rows xs zero = refl
      take_drop_rows [] (suc n) = refl
      take_drop_rows (x ∷ xs) (suc n) = ap (λ (l : List Row). x ∷ l) (take_drop_rows xs n)

  pub stepped_whole : SteppedTo k a s p places rows (after ++ drop m rows) r
  stepped_whole = record {
    full_told = full_is;
    rule_told = told.rule_told ∙ same_rule;
    rows_told = together;
    done_told = done r told.done_told;
  }
    where
      done : (o : Result Stepped RuleApplied) → IfOk o (λ t. DoneBy k a s p before t) → IfOk o (λ t. DoneBy k a s p rows t)
      done (Err rule) d = tt
      done (Ok t) d = record { rule_told = d.rule_told ∙ same_rule; top_told = d.top_told ∙ rw same_rule refl; used_told = d.used_told ∙ rw same_rows refl }

-- the same on the two lists
pub stepped_lists : (k a : ℕ) (trace : List ℕ) (s p joins used i places m n : ℕ) (ns ps ns' ps' : List ℕ) (r : Result Stepped RuleApplied) → length ps ≡ places → length ns ≡ length ps
    → ServedSoFar k a trace places (rows_of ns ps) s joins used i → m ≡ min (used + 1) (length ps) → n ≡ length (take m ps) → length ps' ≡ length (take m ps)
    → length ns' ≡ length (take m ns)
    → SteppedTo k a s p n (rows_of (take m ns) (take m ps)) (rows_of ns' ps') r
    → SteppedTo k a s p places (rows_of ns ps) (rows_of (ns' ++ drop m ns) (ps' ++ drop m ps)) r
stepped_lists k a trace s p joins used i places m n ns ps ns' ps' r size len Y m-is n_is lp ln told =
    let f = Y.fits in
    let low : m ≤ length ps = omega arith in
    let tp : length (take m ps) ≡ m = length-take-le m ps low in
    let tn : length (take m ns) ≡ m = length-take-le m ns (omega arith) in
    let at-m : SteppedTo k a s p m (rows_of (take m ns) (take m ps)) (rows_of ns' ps') r = rw (n_is ∙ tp) at told in
    rw (rows_append ns' (drop m ns) ps' (drop m ps) (omega arith), rows_drop ns ps m (sym len))
    (stepped_whole k a s p places used m (rows_of ns ps) (rows_of (take m ns) (take m ps)) (rows_of ns' ps') r Y.shape Y.formed.above Y.counted f (rw size at m-is) (rows_take ns ps m) at-m)

-- the prefix is filled with the used rows
pub filled_prefix : (k a : ℕ) (trace : List ℕ) (s joins used i places m : ℕ) (ns ps : List ℕ) → length ps ≡ places → length ns ≡ length ps
    → ServedSoFar k a trace places (rows_of ns ps) s joins used i → m ≡ min (used + 1) (length ps) → TableFilled used (take m ns) (take m ps)
filled_prefix k a trace s joins used i places m ns ps size len Y m-is =
    let f = Y.fits in
    let n = Y.counted in
    let U = used_rows (rows_of ns ps) in
    let tp : length (take m ps) ≡ m = length-take-le m ps (omega arith) in
    let tn : length (take m ns) ≡ m = length-take-le m ns (omega arith) in
    let part : rows_of (take m ns) (take m ps) ≡ U ++ replicate (m - length U) unused =
    rows_take ns ps m ∙ ap (take m) (Y.shape ∙ table_parts U m places (omega arith) (omega arith)) ∙ take_at (table_of m U) _ m (table_length U m (omega arith)) in
    let front : take used (rows_of (take m ns) (take m ps)) ≡ U = rw part (take_at U _ used (sym n)) in
    record {
      even = tp ∙ sym tn;
      fits = omega arith;
      above = rw front Y.formed.above;
      sorted = rw front Y.formed.sorted;
      rest = rw (part, tp, drop_at U (replicate (m - length U) unused) used (sym n), n) refl;
    }

-- The look for unused places

pub blank_places : (ns ps : List ℕ) → list_all (λ x. eqb x.0 0 && eqb x.1 0) (zip ns ps) ≡ all_unused (rows_of ns ps)
unfolding is_unused ◌and◌
blank_places [] ps = refl
blank_places (n ∷ ns) [] = refl
blank_places (n ∷ ns) (p ∷ ps) =
    cases (eqb n 0)
    (λ t. cases (eqb p 0) (λ u. rw (t, u) (blank_places ns ps)) (λ u. rw (t, u) refl))
    (λ t. rw t refl)

-- The refusals judged before the first request

module _ (k a : ℕ) (trace pages numbers : List ℕ) where
  pub early_trace : (rest number : ℕ) → number ≡ trace_refusal k a trace 0 → (number ≡ 0 → ⊥) → number ≡ early_refusal k a trace pages numbers rest
  unfolding early_refusal
  early_trace rest number e n = sym (trace_fall k a trace _ number e n)

  pub early_uneven : (rest : ℕ) → 0 ≡ trace_refusal k a trace 0 → (length pages ≡ length numbers → ⊥) → 8 ≡ early_refusal k a trace pages numbers rest
  unfolding early_refusal
  early_uneven rest z u = sym (trace_pass k a trace _ (sym z) ∙ rw (ne_eqb (length pages) (length numbers) u) refl)

  pub early_used : (rest : ℕ) → 0 ≡ trace_refusal k a trace 0 → length pages ≡ length numbers → false ≡ all_unused (rows_of numbers pages)
      → 9 ≡ early_refusal k a trace pages numbers rest
  unfolding early_refusal
  early_used rest z u f = sym (trace_pass k a trace _ (sym z) ∙ rw (eq-eqb (length pages) (length numbers) u, ← f) refl)

  pub early_none : (rest : ℕ) → 0 ≡ trace_refusal k a trace 0 → length pages ≡ length numbers → true ≡ all_unused (rows_of numbers pages)
      → rest ≡ early_refusal k a trace pages numbers rest
  unfolding early_refusal
  early_none rest z u f = sym (trace_pass k a trace _ (sym z) ∙ rw (eq-eqb (length pages) (length numbers) u, ← f) refl)

pub ruleset early_rules = (early_trace, early_uneven, early_used, early_none)
