-- One request on a layer table that is ready for it: what the parts of the code find and leave is what the model says.
use Prim.Native.Nat.{ℕ, ◌+◌, ◌*◌, ◌-◌, ◌≤◌, ◌<◌}
use native.Mathlib.Omega.{arith}
use mathlib.Core.Bool.{Bool, true, false, not}
use mathlib.Core.List.{List}
use mathlib.Core.Path.{◌≡◌, refl, sym, ap, ◌∙◌}
use lib.Dec.{eqb, leb, ltb}
use lib.ListN.{length, take, drop, get_or}
use Rattle.std.proofs.Common.{Some, None}
use Rattle.std.specs.Prelude.{Result, Ok, is_err}
use Rattle.paging.specs.Numbers.{rule_of}
use Rattle.lists.specs.Choice.{pick, ◌and◌}
use Rattle.lists.specs.Places.{place}
use Rattle.lists.specs.Sorting.{Row}
use Rattle.lists.proofs.Choice.{cases, eqb_self}
use Rattle.paging.specs.Layers.{is_join, top_after}
use Rattle.paging.specs.Rows.{rows_of, numbers_of, pages_of, table_of}
use Rattle.paging.specs.Table.{number_in, rule_in, rows_after}
use Rattle.paging.proofs.Rows.{pages_back, numbers_back}
use Rattle.table.specs.Filling.{TableFilled}
use Rattle.paging.specs.declared.applied.RuleApplied.{RuleApplied}
use Rattle.table.specs.Serving.{DoneBy, rule_applied}
use Rattle.table.specs.declared.Stepped as table_stepped
use Rattle.table.proofs.Serving.{used_rows_lem, used_rule}
use Rattle.timed.specs.Timed.{TimedReady, TimedTo}
use Rattle.marking.specs.Rdm.{is_revealed, time_next, t0_after, times_after, priority_next}
use Rattle.marking.proofs.Revealed.{revealed_most, revealed_place, revealed_next}
use Rattle.mark.specs.Lent.{times_of}
use Rattle.mark.specs.Traces.{Table, table_with}
use Rattle.mark.specs.declared.serving.TablePoint.{TablePoint}
use Rattle.mark.specs.inner.Stepping.{rows_used, TableReady, clock_at, table_point_after, table_served, AdvancedTo}
use Rattle.mark.proofs.Tables.{used_front, used_behind, used_pages, rows_distinct, number_place, beside_take, times_take}

module _ (k a p : ℕ) (point : TablePoint) (x : Table) (R : TableReady k a point x) where
  rows : List Row
  rows = rows_used x

  front : take point.used x.pages ≡ pages_of (rows_used x)
  front = used_pages x.numbers x.pages point.used R.even R.shape R.counted

  -- The page is looked for in the used places

  pub place_is : (at : ℕ) → at ≡ place p (take point.used x.pages) → at ≡ place p (pages_of (rows_used x))
  place_is at found = found ∙ ap (place p) front

  pub filled : TableFilled point.used x.numbers x.pages
  filled =
      let same = used_front x.numbers x.pages point.used R.even R.shape R.counted in
      record {
        even = R.even;
        fits = R.fits;
        above = rw same R.formed.above;
        sorted = rw same R.formed.sorted;
        rest = used_behind x.numbers x.pages point.used R.even R.shape R.counted;
      }

  pub timed_ready : (at : ℕ) → at ≡ place p (take point.used x.pages) → TimedReady k a point.s p at point.used x.numbers x.pages x.times
  timed_ready at found =
      record {
        sound = R.sound;
        filled = filled;
        beside = R.beside;
        once = rw front (rows_distinct (rows_used x) R.formed.once);
        found = found;
        blank = R.blank;
      }

  -- Whether the page is revealed, and how many are afterwards

  pub shown_told : (at : ℕ) → at ≡ place p (take point.used x.pages) → (shown : Bool)
      → shown ≡ leb (point.used - point.revealed) at and ltb at point.used → shown ≡ is_revealed p (clock_at point x).layers
  shown_told at found shown e =
      e ∙ rw (R.counted, R.shown, place_is at found) (sym (revealed_place k a point.s (rows_used x) R.formed p))

  pub few_shown : point.revealed < 65536
  few_shown = omega (arith, R.shown, (revealed_most k a point.s (rows_used x) R.formed).1, R.sound.s_high, R.sound.sizes.k_high)

  pub shown_next : (joined shown : Bool) (after : ℕ) → joined ≡ is_join (rule_in k point.s p (rows_used x)) → shown ≡ is_revealed p (clock_at point x).layers
      → after ≡ pick joined 1 (pick shown point.revealed (point.revealed + 1)) → after ≡ (table_point_after k a p point x).revealed
  shown_next joined shown after joined_is shown_is e =
      e ∙ rw (joined_is, shown_is, R.shown)
      (sym (revealed_next k a point.s p (rows_used x) R.sound.sizes.a_low R.sound.sizes.a_high R.formed))

  -- The time, t0 and the priority

  module _ (at : ℕ) (found : at ≡ place p (take point.used x.pages)) (shown : Bool)
      (shown_is : shown ≡ is_revealed p (clock_at point x).layers) (t : ℕ) (time : t ≡ pick shown point.t (point.t + 1)) where
    pub time_is : t ≡ time_next p (clock_at point x)
    time_is = time ∙ rw (← shown_is) (cases shown (λ e. rw e (omega arith)) (λ e. rw e refl))

    time_low : point.t ≤ t
    time_low = cases shown (λ e. omega (arith, rw e at time)) (λ e. omega (arith, rw e at time))

    module _ (t0 : ℕ) (t0-told : t0 ≡ pick (ltb at point.used) (get_or x.times at 0) t) where
      pub t0_low : t0 ≤ t
      t0_low =
          cases (ltb at point.used)
          (λ e. omega (arith, time_low, R.times_low at, rw e at t0-told))
          (λ e. omega (arith, rw e at t0-told))

      t0_is : t0 ≡ t0_after t p (rows_used x) (take (length (rows_used x)) x.times) p
      unfolding ◌and◌
      t0_is =
          let here = place_is at found in
          let none = number_place (rows_used x) p R.formed.above in
          let same = beside_take (pages_of (rows_used x)) x.times (length (rows_used x)) (length x.pages - point.used) p
          (ap (λ (n : ℕ). drop n x.times) (sym R.counted) ∙ R.blank) in
          t0-told
          ∙ cases (ltb at point.used)
          (λ e. let some : eqb (number_in (rows_used x) p) 0 ≡ false = none ∙ ap not (sym (ap (λ (n : ℕ). ltb n (length (rows_used x))) here) ∙ ap (ltb at) (sym R.counted) ∙ e) in
          rw (e, eqb_self p, some, same, ← here) refl)
          (λ e. let gone : eqb (number_in (rows_used x) p) 0 ≡ true = none ∙ ap not (sym (ap (λ (n : ℕ). ltb n (length (rows_used x))) here) ∙ ap (ltb at) (sym R.counted) ∙ e) in
          rw (e, eqb_self p, gone) refl)

      pub rank_is : (rank : ℕ) → rank ≡ 9 * t - t0 → rank ≡ priority_next p (clock_at point x)
      rank_is rank told = told ∙ ap (λ (n : ℕ). 9 * t - n) t0_is ∙ ap (λ (n : ℕ). 9 * n - t0_after n p (rows_used x) (take (length (rows_used x)) x.times) p) time_is

  -- The table moved on

  module _ (t : ℕ) (numbers' pages' times' : List ℕ) (r : Result table_stepped.Stepped RuleApplied)
      (told : TimedTo k a point.s p t point.used x.numbers x.pages x.times numbers' pages' times' r) where
    same_rows : rows_after k a point.s p (rows_used x) ≡ rows_after k a point.s p (rows_of x.numbers x.pages)
    same_rows = used_rows_lem k a point.s p (rows_of x.numbers x.pages)

    pub full_is : is_err r ≡ ltb (length x.pages) (length (rows_after k a point.s p (rows_used x)))
    full_is = told.table.full_told ∙ ap (λ (l : List Row). ltb (length x.pages) (length l)) (sym same_rows)

    pub applied_is : rule_of (rule_applied r) ≡ rule_in k point.s p (rows_used x)
    applied_is = told.table.rule_told ∙ sym (used_rule k point.s p (rows_of x.numbers x.pages))

    even' : length pages' ≡ length numbers'
    even' = told.pages_length ∙ sym told.numbers_length

    -- a full table is as it was
    module _ (full : is_err r ≡ true) where
      kept_rows : rows_of numbers' pages' ≡ rows_of x.numbers x.pages
      kept_rows = told.table.rows_told ∙ rw full refl

      pub pages_kept : pages' ≡ x.pages
      pages_kept = sym (pages_back numbers' pages' even') ∙ ap pages_of kept_rows ∙ pages_back x.numbers x.pages R.even

      pub numbers_kept : numbers' ≡ x.numbers
      numbers_kept = sym (numbers_back numbers' pages' even') ∙ ap numbers_of kept_rows ∙ numbers_back x.numbers x.pages R.even

      pub times_kept : times' ≡ x.times
      times_kept = told.times_told ∙ rw full refl

    -- else it holds the rows after the request
    module _ (served : is_err r ≡ false) where
      rows_are : rows_of numbers' pages' ≡ table_of (length x.pages) (rows_after k a point.s p (rows_used x))
      rows_are = told.table.rows_told ∙ rw (served, same_rows) refl

      pub pages_are : pages' ≡ pages_of (table_of (length x.pages) (rows_after k a point.s p (rows_used x)))
      pages_are = sym (pages_back numbers' pages' even') ∙ ap pages_of rows_are

      pub numbers_are : numbers' ≡ numbers_of (table_of (length x.pages) (rows_after k a point.s p (rows_used x)))
      numbers_are = sym (numbers_back numbers' pages' even') ∙ ap numbers_of rows_are

      pub times_are : times'
          ≡ times_of (length x.pages) (rows_after k a point.s p (rows_used x))
          (times_after t p (rows_used x) (rows_after k a point.s p (rows_used x)) (take (length (rows_used x)) x.times))
      times_are =
          let first = used_front x.numbers x.pages point.used R.even R.shape R.counted in
          let same = times_take t p (rows_used x) (rows_after k a point.s p (rows_used x)) x.times (length (rows_used x)) (length x.pages - point.used)
          (ap (λ (n : ℕ). drop n x.times) (sym R.counted) ∙ R.blank) in
          told.times_told ∙ rw (served, first, ← same_rows, same) refl

  -- s and the used places after a step, whatever the rule that is told
  pub top_from : (moved : table_stepped.Stepped) → moved.s ≡ top_after (rule_in k point.s p (rows_of x.numbers x.pages)) k a point.s
      → moved.s ≡ top_after (rule_in k point.s p (rows_used x)) k a point.s
  top_from moved top = top ∙ rw (used_rule k point.s p (rows_of x.numbers x.pages)) refl

  pub used_from : (moved : table_stepped.Stepped) → moved.used ≡ length (rows_after k a point.s p (rows_of x.numbers x.pages))
      → moved.used ≡ length (rows_after k a point.s p (rows_used x))
  used_from moved used = used ∙ ap (λ (l : List Row). length l) (sym (used_rows_lem k a point.s p (rows_of x.numbers x.pages)))

  -- what a step that was done answers
  module _ (moved : table_stepped.Stepped) (done : DoneBy k a point.s p (rows_of x.numbers x.pages) moved) where
    pub rule_is : rule_of moved.rule ≡ rule_in k point.s p (rows_used x)
    rule_is = done.rule_told ∙ sym (used_rule k point.s p (rows_of x.numbers x.pages))

    pub top_is : moved.s ≡ top_after (rule_in k point.s p (rows_used x)) k a point.s
    top_is = top_from moved done.top_told

    pub used_is : moved.used ≡ length (rows_after k a point.s p (rows_used x))
    used_is = used_from moved done.used_told

-- As the code finds it

module _ (k a p : ℕ) (point : TablePoint) (x : Table) (R : TableReady k a point x) (at : ℕ) (found : at ≡ place p (take point.used x.pages)) (shown : Bool)
    (shown-found : shown ≡ leb (point.used - point.revealed) at and ltb at point.used) (t : ℕ) (time : t ≡ pick shown point.t (point.t + 1)) (t0 : ℕ)
    (t0-told : t0 ≡ pick (ltb at point.used) (get_or x.times at 0) t) where
  shown_is : shown ≡ is_revealed p (clock_at point x).layers
  shown_is = shown_told k a p point x R at found shown shown-found

  pub rank_fits : t0 ≤ t
  rank_fits = t0_low k a p point x R at found shown shown_is t time t0 t0-told

  module _ (rank : ℕ) (rank-told : rank ≡ 9 * t - t0) (numbers' pages' times' : List ℕ) where
    pub advanced_none : (r : Result table_stepped.Stepped RuleApplied) → is_err r ≡ true
        → TimedTo k a point.s p t point.used x.numbers x.pages x.times numbers' pages' times' r
        → AdvancedTo k a p point x (table_with pages' numbers' times') None
    advanced_none r full told =
        record {
          full_told = sym full ∙ full_is k a p point x R t numbers' pages' times' r told;
          table_told = λ i. table_with (pages_kept k a p point x R t numbers' pages' times' r told full i)
              (numbers_kept k a p point x R t numbers' pages' times' r told full i)
              (times_kept k a p point x R t numbers' pages' times' r told full i);
          done_told = tt;
        }

    module _ (moved : table_stepped.Stepped)
        (told : TimedTo k a point.s p t point.used x.numbers x.pages x.times numbers' pages' times' (Ok moved))
        (joined : Bool) (joined_is : joined ≡ is_join (rule_of moved.rule)) (after : ℕ)
        (after-told : after ≡ pick joined 1 (pick shown point.revealed (point.revealed + 1))) where
      served : table_with pages' numbers' times' ≡ table_served k a p point x
      served =
          let times_is : times' ≡ (table_served k a p point x).times =
          times_are k a p point x R t numbers' pages' times' (Ok moved) told refl ∙ rw (time_is k a p point x R at found shown shown_is t time) refl in
          λ i. table_with (pages_are k a p point x R t numbers' pages' times' (Ok moved) told refl i)
          (numbers_are k a p point x R t numbers' pages' times' (Ok moved) told refl i) (times_is i)

      pub advanced : AdvancedTo k a p point x (table_with pages' numbers' times')
          (Some (record { rule = moved.rule; after = record { s = moved.s; t = t; revealed = after; used = moved.used }; priority = rank }))
      advanced =
          let done = told.table.done_told in
          let rule = applied_is k a p point x R t numbers' pages' times' (Ok moved) told in
          record {
            full_told = full_is k a p point x R t numbers' pages' times' (Ok moved) told;
            table_told = served;
            done_told = record {
              rule_told = rule;
              point_told = λ i. record {
                s = top_is k a p point x R moved done i;
                t = time_is k a p point x R at found shown shown_is t time i;
                revealed = shown_next k a p point x R joined shown after (joined_is ∙ ap is_join rule) shown_is after-told i;
                used = used_is k a p point x R moved done i;
              };
              priority_told = rank_is k a p point x R at found shown shown_is t time t0 t0-told rank rank-told;
            };
          }
