-- The state after a request that was served: it holds what the model says, and is ready for the next request.
use Prim.Native.Nat.{ℕ, zero, suc, ◌-◌, ◌≤◌, ◌<◌}
use native.Mathlib.Omega.{arith}
use mathlib.Core.List.{List, [], ◌∷◌, ◌++◌, map}
use mathlib.Core.Path.{◌≡◌, refl, sym, ap, ◌∙◌}
use lib.ListN.{length, take, get_or, replicate, length-append, length-replicate}
use lib.Seq.{take_at, drop_at, length-take-le}
use Rattle.lists.specs.Sorting.{Row}
use Rattle.paging.specs.Layers.{top_after}
use Rattle.paging.specs.Rows.{rows_of, pages_of, used_rows, table_of}
use Rattle.paging.specs.Table.{rule_in, rows_after}
use Rattle.paging.proofs.Forming.{FormedRows, request_forms, used_table}
use Rattle.paging.proofs.Rows.{rows_back, pages_length}
use Rattle.marking.specs.Marking.{mark_kind}
use Rattle.marking.specs.Rdm.{time_next, t0_after, priority_next, joins_next, marking_next}
use Rattle.marking.proofs.Along.{Timed, clock_timed}
use Rattle.marked.proofs.Kept.{laid_back, served_ready}
use Rattle.mark.specs.Lent.{Lent, rows_in, held_in, lent_served}
use Rattle.mark.specs.declared.serving.Point.{Point}
use Rattle.mark.specs.inner.Stepping.{StepReady, held_at, point_after}
use Rattle.mark.proofs.Points.{outcome_of, outcome_back}
use Rattle.mark.proofs.Tables.{numbers_length}

length_table : (places : ℕ) (rows : List Row) → length rows ≤ places → length (table_of places rows) ≡ places
length_table places rows h = simp (length-append, length-replicate) (omega arith)

length_times : (f : ℕ → ℕ) (rows : List Row) → length (map f (pages_of rows)) ≡ length rows
length_times f [] = refl
length_times f (x ∷ xs) = ap suc (length_times f xs)

module _ (k a p : ℕ) (at : Point) (x : Lent) (R : StepReady k a at x) (space : length (rows_after k a at.table.s p (rows_in x)) ≤ length x.pages) where
  after : List Row
  after = rows_after k a at.table.s p (rows_in x)

  left : Lent
  left = lent_served k a p (held_at at x) x

  formed_after : FormedRows k a (top_after (rule_in k at.table.s p (rows_in x)) k a at.table.s) (rows_after k a at.table.s p (rows_in x))
  formed_after = request_forms k a at.table.s p (rows_in x) R.table.sound.sizes.a_low R.table.sound.sizes.a_high R.table.formed

  table_left : rows_of (lent_served k a p (held_at at x) x).numbers (lent_served k a p (held_at at x) x).pages
      ≡ table_of (length x.pages) (rows_after k a at.table.s p (rows_in x))
  table_left = rows_back (table_of (length x.pages) (rows_after k a at.table.s p (rows_in x)))

  pub rows_left : rows_in (lent_served k a p (held_at at x) x) ≡ rows_after k a at.table.s p (rows_in x)
  rows_left = ap used_rows table_left ∙ used_table (length x.pages) (rows_after k a at.table.s p (rows_in x)) formed_after.above

  times_left : take (length (rows_after k a at.table.s p (rows_in x))) (lent_served k a p (held_at at x) x).times ≡ (marking_next k a p (held_at at x)).clock.times
  times_left =
      let rows = rows_after k a at.table.s p (rows_in x) in
      take_at (marking_next k a p (held_at at x)).clock.times (replicate (length x.pages - length rows) 0) (length rows)
      (length_times (t0_after (time_next p (held_at at x).clock) p (rows_in x) (take (length (rows_in x)) x.times)) rows)

  -- what the lists hold then
  pub held_served : (joins : ℕ)
      → let m = marking_next k a p (held_in at.table.s joins at.table.t at.count x) in
      held_in m.clock.layers.s m.clock.layers.joins m.clock.t (length m.cached) (lent_served k a p (held_at at x) x) ≡ m
  held_served joins =
      let m = marking_next k a p (held_in at.table.s joins at.table.t at.count x) in
      let cached_is = laid_back k m.cached x.cache x.marks x.priorities in
      let times_is : take (length (rows_in (lent_served k a p (held_at at x) x))) (lent_served k a p (held_at at x) x).times ≡ m.clock.times =
      ap (λ (l : List Row). take (length l) (lent_served k a p (held_at at x) x).times) rows_left ∙ times_left in
      λ i. record {
        cached = cached_is i;
        clock = record { layers = record { rows = rows_left i; s = m.clock.layers.s; joins = m.clock.layers.joins }; t = m.clock.t; times = times_is i };
      }

  pub pages_places : length (lent_served k a p (held_at at x) x).pages ≡ length x.pages
  pages_places =
      let table = table_of (length x.pages) (rows_after k a at.table.s p (rows_in x)) in
      pages_length table ∙ length_table (length x.pages) (rows_after k a at.table.s p (rows_in x)) space

  numbers_places : length (lent_served k a p (held_at at x) x).numbers ≡ length x.pages
  numbers_places =
      let table = table_of (length x.pages) (rows_after k a at.table.s p (rows_in x)) in
      numbers_length table ∙ length_table (length x.pages) (rows_after k a at.table.s p (rows_in x)) space

  times_count : length (marking_next k a p (held_at at x)).clock.times ≡ length (rows_after k a at.table.s p (rows_in x))
  times_count =
      length_times (t0_after (time_next p (held_at at x).clock) p (rows_in x) (take (length (rows_in x)) x.times)) (rows_after k a at.table.s p (rows_in x))

  times_places : length (lent_served k a p (held_at at x) x).times ≡ length x.pages
  times_places =
      let rows = rows_after k a at.table.s p (rows_in x) in
      padded (marking_next k a p (held_at at x)).clock.times (length rows) (length x.pages) times_count space
    where
      padded : (ts : List ℕ) (n places : ℕ) → length ts ≡ n → n ≤ places → length (ts ++ replicate (places - n) 0) ≡ places
      padded ts n places e h = simp (length-append, length-replicate) (omega arith)

  -- no t0 is above the time
  clock_before : Timed (held_at at x).clock
  clock_before =
      record {
        most = λ i. get_d_take i (length (rows_in x)) x.times at.table.t R.table.times_low;
        beside_rows = length-take-le (length (rows_in x)) x.times (omega (arith, R.table.fits, R.table.counted, R.table.beside));
      }
    where
      get_d_take : (i n : ℕ) (ts : List ℕ) (t : ℕ) → ((j : ℕ) → get_or ts j 0 ≤ t) → get_or (take n ts) i 0 ≤ t
      get_d_take i zero ts t h = omega arith
      get_d_take i (suc n) [] t h = omega arith
      get_d_take zero (suc n) (y ∷ ts) t h = h 0
      get_d_take (suc i) (suc n) (y ∷ ts) t h = get_d_take i n ts t (λ j. h (suc j))

  times_bound : (i : ℕ) → get_or (lent_served k a p (held_at at x) x).times i 0 ≤ time_next p (held_at at x).clock
  times_bound i =
      behind (marking_next k a p (held_at at x)).clock.times (length x.pages - length (rows_after k a at.table.s p (rows_in x))) (time_next p (held_at at x).clock)
      (clock_timed k a p (held_at at x).clock clock_before).most i
    where
      zeros : (n i t : ℕ) → get_or (replicate n 0) i 0 ≤ t
      zeros zero i t = omega arith
      zeros (suc n) zero t = omega arith
      zeros (suc n) (suc i) t = zeros n i t

      behind : (ts : List ℕ) (n t : ℕ) → ((j : ℕ) → get_or ts j 0 ≤ t) → (i : ℕ) → get_or (ts ++ replicate n 0) i 0 ≤ t
      behind [] n t h i = zeros n i t
      behind (y ∷ ts) n t h zero = h 0
      behind (y ∷ ts) n t h (suc i) = behind ts n t (λ j. h (suc j)) i

  -- it is ready for the next request
  pub ready_served : length (lent_served k a p (held_at at x) x).evicted ≡ length x.evicted → time_next p (held_at at x).clock < 4294967295
      → StepReady k a (point_after k a p at x) (lent_served k a p (held_at at x) x)
  ready_served kept later =
      let m = marking_next k a p (held_at at x) in
      let rows = rows_after k a at.table.s p (rows_in x) in
      let s = top_after (rule_in k at.table.s p (rows_in x)) k a at.table.s in
      record {
        buffer = served_ready k a at.count p (priority_next p (held_at at x).clock) (joins_next k p (held_at at x).clock) x.cache x.marks x.priorities
            x.evicted _ _ _ _ (record { outcome = outcome_of (mark_kind k p (held_at at x).cached); count = length m.cached }) R.buffer
            (record { outcome_told = outcome_back (mark_kind k p (held_at at x).cached); count_told = refl; cache_told = refl; marks_told = refl; priorities_told = refl; evicted_told = refl }) kept;
        table = record {
          sound = record { sizes = R.table.sound.sizes; s_high = formed_after.most };
          formed = rw rows_left formed_after;
          shape = table_left ∙ rw (rows_left, pages_places) refl;
          counted = ap (λ (l : List Row). length l) (sym rows_left);
          fits = rw pages_places space;
          even = pages_places ∙ sym numbers_places;
          beside = times_places ∙ sym pages_places;
          blank = drop_at m.clock.times (replicate (length x.pages - length rows) 0) (length rows) times_count ∙ rw pages_places refl;
          times_low = times_bound;
          shown = rw rows_left refl;
          further = later;
        };
      }
