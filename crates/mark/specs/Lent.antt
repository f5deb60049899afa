-- The seven lists that a request is lent (document 02, request 09), and what they hold.
use Rattle.std.specs.Prelude.{ℕ, ◌-◌, List, ◌++◌, length, take, drop, replicate}
use Rattle.lists.specs.Choice.{pick}
use Rattle.lists.specs.Places.{laid}
use Rattle.lists.specs.Sorting.{Row}
use Rattle.paging.specs.Policy.{is_bundled}
use Rattle.paging.specs.Rows.{rows_of, numbers_of, pages_of, used_rows, table_of}
use Rattle.marking.specs.Lists.{cached_in}
use Rattle.marking.specs.Marking.{pages_in, marks_in, priorities_in, cleared, mark_bundle, mark_kind}
use Rattle.marking.specs.Rdm.{Marking, joins_next, marking_next}

-- the cached pages with their marks and priorities, the evicted list, and the layer table with t0 beside it
pub record Lent : Type 0 where
  pub cache : List ℕ
  pub marks : List ℕ
  pub priorities : List ℕ
  pub evicted : List ℕ
  pub pages : List ℕ
  pub numbers : List ℕ
  pub times : List ℕ

abbrev pub lent : (cache marks priorities evicted pages numbers times : List ℕ) → Lent
lent cache marks priorities evicted pages numbers times =
    record { cache = cache; marks = marks; priorities = priorities; evicted = evicted; pages = pages; numbers = numbers; times = times }

-- the used rows of the layer table
abbrev pub rows_in : Lent → List Row
rows_in x = used_rows (rows_of x.numbers x.pages)

-- what the lists hold, with the layers' s and bundles, the time t and the count beside them
abbrev pub held_in : (s joins t count : ℕ) → Lent → Marking
held_in s joins t count x =
    record {
      cached = cached_in count x.cache x.marks x.priorities;
      clock = record {
        layers = record { rows = rows_in x; s = s; joins = joins };
        t = t;
        times = take (length (rows_in x)) x.times;
      };
    }

-- t0 in a list of so many places beside the rows: zero in unused places
abbrev pub times_of : (places : ℕ) → List Row → (times : List ℕ) → List ℕ
times_of places rows times = times ++ replicate (places - length rows) 0

-- the bundle in the first a places of the evicted list; no bundle, no change
abbrev pub evicted_served : (k a p : ℕ) → Marking → (evicted : List ℕ) → List ℕ
evicted_served k a p m evicted =
    pick (is_bundled (mark_kind k p m.cached))
    (pages_in (mark_bundle a (cleared (joins_next k p m.clock) m.cached)) ++ drop a evicted)
    evicted

-- the lists after an accepted request for p, where they held m: zeros from the count up to k in the three lists of cached pages, whose places past k
-- keep their contents
abbrev pub lent_served : (k a p : ℕ) → Marking → Lent → Lent
lent_served k a p m x =
    let after = marking_next k a p m in
    let rows = after.clock.layers.rows in
    let places = length x.pages in
    lent
    (laid k (pages_in after.cached) x.cache)
    (laid k (marks_in after.cached) x.marks)
    (laid k (priorities_in after.cached) x.priorities)
    (evicted_served k a p m x.evicted)
    (pages_of (table_of places rows))
    (numbers_of (table_of places rows))
    (times_of places rows after.clock.times)
