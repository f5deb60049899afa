-- The priorities RDM (document 02, request 09; source document 001, section 4: 0.8 t + 0.1 (t - t0), ten times which is 9 t - t0), and marking with them.
use Rattle.std.specs.Prelude.{ℕ, ◌+◌, ◌*◌, ◌-◌, Bool, not, List, [], ◌∷◌, map, eqb, ltb, get_or}
use Rattle.lists.specs.Choice.{pick, ◌and◌}
use Rattle.lists.specs.Pages.{bit}
use Rattle.lists.specs.Places.{place}
use Rattle.lists.specs.Sorting.{Row}
use Rattle.paging.specs.Layers.{is_join}
use Rattle.paging.specs.Rows.{pages_of}
use Rattle.paging.specs.Table.{number_in, rule_in, revealed, Tabled, nothing_yet, tabled_next}
use Rattle.marking.specs.Marking.{Cached, PriorityRule, mark_served}

-- the value that stands beside q in a list beside the list of pages
abbrev pub beside : (pages values : List ℕ) → (q : ℕ) → ℕ
beside pages values q = get_or values (place q pages) 0

-- p is revealed: its layer is one of the run of single-page layers at the top end. A page of L0 has number 0 and is never revealed
abbrev pub is_revealed : (p : ℕ) → Tabled → Bool
is_revealed p T = ltb (T.s - revealed T.s T.rows) (number_in T.rows p)

-- the layers, the time t, and t0 beside the layer table: of each page that a layer above L0 has, cached or not
pub record Clock : Type 0 where
  pub layers : Tabled
  pub t : ℕ
  pub times : List ℕ

abbrev pub no_clock : Clock
no_clock = record { layers = nothing_yet; t = 0; times = [] }

-- t after a request for p: it rises by one if p was not revealed before it
abbrev pub time_next : (p : ℕ) → Clock → ℕ
time_next p c = c.t + bit (not (is_revealed p c.layers))

-- t0 of q after a request for p at time t: t itself if q is the requested page and was in L0, else as it was
abbrev pub t0_after : (t p : ℕ) → (rows : List Row) → (times : List ℕ) → (q : ℕ) → ℕ
t0_after t p rows times q = pick (eqb q p and eqb (number_in rows p) 0) t (beside (pages_of rows) times q)

-- t0 beside the rows after the request: a page that comes to L0 has no row, and loses it
abbrev pub times_after : (t p : ℕ) → (rows after : List Row) → (times : List ℕ) → List ℕ
times_after t p rows after times = map (t0_after t p rows times) (pages_of after)

abbrev pub clock_next : (k a p : ℕ) → Clock → Clock
clock_next k a p c =
    let after = tabled_next k a p c.layers in
    record {
      layers = after;
      t = time_next p c;
      times = times_after (time_next p c) p c.layers.rows after.rows c.times;
    }

abbrev pub clock_after : (k a : ℕ) → (trace : List ℕ) → Clock → Clock
clock_after k a [] c = c
clock_after k a (p ∷ ps) c = clock_after k a ps (clock_next k a p c)

-- the priority that a request for p gets: 9 t less t0, both with this request
abbrev pub priority_next : (p : ℕ) → Clock → ℕ
priority_next p c = 9 * time_next p c - t0_after (time_next p c) p c.layers.rows c.times p

-- RDM as a rule of priorities
abbrev pub rdm : (k a : ℕ) → PriorityRule
rdm k a before p = priority_next p (clock_after k a before no_clock)

-- Marking with RDM, request by request: the cached pages, and the clock
pub record Marking : Type 0 where
  pub cached : List Cached
  pub clock : Clock

abbrev pub no_marking : Marking
no_marking = record { cached = []; clock = no_clock }

-- the layers serve a request for p by 1b
abbrev pub joins_next : (k p : ℕ) → Clock → Bool
joins_next k p c = is_join (rule_in k c.layers.s p c.layers.rows)

abbrev pub marking_next : (k a p : ℕ) → Marking → Marking
marking_next k a p x =
    record {
      cached = mark_served k a (joins_next k p x.clock) p (priority_next p x.clock) x.cached;
      clock = clock_next k a p x.clock;
    }

abbrev pub marking_after : (k a : ℕ) → (trace : List ℕ) → Marking → Marking
marking_after k a [] x = x
marking_after k a (p ∷ ps) x = marking_after k a ps (marking_next k a p x)
