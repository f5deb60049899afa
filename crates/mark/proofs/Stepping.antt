-- One request on all lists: the layer table moved on, then the cached pages.
use Prim.Native.Nat.{ℕ}
use mathlib.Core.Bool.{Bool}
use mathlib.Core.List.{List}
use mathlib.Core.Path.{◌≡◌, refl, ap, ◌∙◌}
use Rattle.std.proofs.Common.{Some, None}
use Rattle.paging.specs.Numbers.{rule_of}
use Rattle.paging.specs.Layers.{is_join}
use Rattle.marked.specs.Buffer.{ServedTo}
use Rattle.marked.specs.declared.Served.{Served}
use Rattle.marking.specs.Rdm.{priority_next, joins_next}
use Rattle.mark.specs.Lent.{Lent, lent, lent_served}
use Rattle.mark.specs.Traces.{table_with}
use Rattle.mark.specs.declared.serving.Advanced.{Advanced}
use Rattle.mark.specs.declared.serving.Point.{Point}
use Rattle.mark.specs.inner.Stepping.{table_in, table_served, AdvancedBy, AdvancedTo, held_at, point_after, SteppedTo}

pub stepped_full : (k a p : ℕ) (point : Point) (x : Lent) (pages' numbers' times' : List ℕ)
    → AdvancedTo k a p point.table (table_in x) (table_with pages' numbers' times') None
    → SteppedTo k a p point x (lent x.cache x.marks x.priorities x.evicted pages' numbers' times') None
stepped_full k a p point x pages' numbers' times' told =
    let same : table_with pages' numbers' times' ≡ table_in x = told.table_told in
    record {
      full_told = told.full_told;
      lists_told = λ i. lent x.cache x.marks x.priorities x.evicted (same i).pages (same i).numbers (same i).times;
      done_told = tt;
    }

module _ (k a p : ℕ) (point : Point) (x : Lent) (pages' numbers' times' : List ℕ) (moved : Advanced)
    (told : AdvancedTo k a p point.table (table_in x) (table_with pages' numbers' times') (Some moved)) where
  done : AdvancedBy k a p point.table (table_in x) moved
  done = told.done_told

  module _ (joined : Bool) (joined_is : joined ≡ is_join (rule_of moved.rule)) (cache' marks' priorities' evicted' : List ℕ) (r : Served)
      (kept : ServedTo k a point.count p moved.priority joined x.cache x.marks x.priorities x.evicted cache' marks' priorities' evicted' r) where
    joins_is : joined ≡ joins_next k p (held_at point x).clock
    joins_is = joined_is ∙ ap is_join done.rule_told

    rank_is : moved.priority ≡ priority_next p (held_at point x).clock
    rank_is = done.priority_told

    lists_are : lent cache' marks' priorities' evicted' pages' numbers' times' ≡ lent_served k a p (held_at point x) x
    lists_are =
        let cache-is : cache' ≡ (lent_served k a p (held_at point x) x).cache = kept.cache_told ∙ rw (joins_is, rank_is) refl in
        let marks-is : marks' ≡ (lent_served k a p (held_at point x) x).marks = kept.marks_told ∙ rw (joins_is, rank_is) refl in
        let priorities-is : priorities' ≡ (lent_served k a p (held_at point x) x).priorities = kept.priorities_told ∙ rw (joins_is, rank_is) refl in
        let evicted-is : evicted' ≡ (lent_served k a p (held_at point x) x).evicted = kept.evicted_told ∙ rw joins_is refl in
        let table_is : table_with pages' numbers' times' ≡ table_served k a p point.table (table_in x) = told.table_told in
        λ i. lent (cache-is i) (marks-is i) (priorities-is i) (evicted-is i) (table_is i).pages (table_is i).numbers (table_is i).times

    pub stepped_served : SteppedTo k a p point x (lent cache' marks' priorities' evicted' pages' numbers' times')
        (Some (record { rule = moved.rule; after = record { table = moved.after; count = r.count }; outcome = r.outcome }))
    stepped_served =
        let count_is : r.count ≡ (point_after k a p point x).count = kept.count_told ∙ rw (joins_is, rank_is) refl in
        record {
          full_told = told.full_told;
          lists_told = lists_are;
          done_told = record {
            rule_told = done.rule_told;
            point_told = λ i. record { table = done.point_told i; count = count_is i };
            outcome_told = kept.outcome_told;
          };
        }
