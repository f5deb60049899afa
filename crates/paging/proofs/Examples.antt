-- The definitions computed on worked examples of document 01, in one table with one theorem over it. An edit of a definition that
-- document 01 rules out changes an entry.
use Prim.Native.Nat.{ℕ}
use mathlib.Core.Bool.{Bool, true, not}
use mathlib.Core.List.{List, [], ◌∷◌}
use mathlib.Core.Path.{◌≡◌, refl}
use lib.Dec.{eqb}
use lib.ListN.{take}
use Rattle.lists.specs.Choice.{◌and◌, ◌or◌}
use Rattle.lists.specs.Sorting.{row_before}
use Rattle.paging.specs.Layers.{Layers, no_layers, layers_after, join_count, possible, breaks_at, lowest_broken}
use Rattle.paging.specs.Front.{front_rule, lru_rule}
use Rattle.paging.specs.Min.{min_rule, best_count, min_loads, farther}
use Rattle.paging.specs.Policy.{bundles, bundles_by, holds_by, bundle_count, bundle_count_by, load_count, load_count_by}
use Rattle.paging.specs.Rows.{pages_of, numbers_of}
use Rattle.paging.specs.Schedule.{Entry, ev, pf, serves, entries_cost}
use Rattle.paging.specs.Table.{revealed, Tabled, nothing_yet, tabled_after}
use Rattle.paging.specs.Same.{same_pages, same_entries, every, shift}
use Rattle.paging.specs.declared.Keeping.TheVariants.{ByLoad}

table : (k a : ℕ) → List ℕ → Tabled
table k a trace = tabled_after k a trace nothing_yet

min_shift : List Entry
min_shift = ev 3 (3 ∷ 1 ∷ []) ∷ ev 6 (4 ∷ 2 ∷ []) ∷ []

lru_shift : List Entry
lru_shift = ev 3 (1 ∷ 2 ∷ []) ∷ ev 5 (3 ∷ 4 ∷ []) ∷ ev 7 (2 ∷ 5 ∷ []) ∷ []

-- LRU and oldest load differ here, at k 3 and a 1
hit_then_full : List ℕ
hit_then_full = 1 ∷ 2 ∷ 3 ∷ 1 ∷ 4 ∷ 1 ∷ []

-- pages 1, 2 and 3 are loaded in this order and requested last in the order 2, 3, 1
hit_then_others : List ℕ
hit_then_others = 1 ∷ 2 ∷ 3 ∷ 1 ∷ 4 ∷ 5 ∷ 6 ∷ []

-- the layers after its first seven requests
seven : Layers
seven = layers_after 3 2 (take 7 shift) no_layers

-- the layers {1}, {2, 3, 4}, {5}
five : Layers
five = layers_after 4 2 (1 ∷ 2 ∷ 3 ∷ 4 ∷ 5 ∷ []) no_layers

examples : List Bool
examples =
    same_entries (bundles (min_rule 2) 3 0 shift [] []) min_shift
    -- pages never requested again leave by age (request 07), not by number: 9 was requested before 5 and 7;
    -- by the last request, not by the load: a hit makes page 1 the youngest;
    -- and before every page that is requested again, of which the farthest goes first
    ∷ same_entries (bundles (min_rule 2) 3 0 (9 ∷ 5 ∷ 7 ∷ 1 ∷ []) [] []) (ev 3 (9 ∷ 5 ∷ []) ∷ [])
    ∷ same_entries (bundles (min_rule 1) 3 0 hit_then_others [] []) (ev 4 (2 ∷ []) ∷ ev 5 (3 ∷ []) ∷ ev 6 (1 ∷ []) ∷ [])
    ∷ same_entries (bundles (min_rule 3) 3 0 (1 ∷ 2 ∷ 3 ∷ 1 ∷ 4 ∷ []) [] []) (ev 4 (2 ∷ 3 ∷ 1 ∷ []) ∷ [])
    ∷ same_entries (bundles (min_rule 4) 4 0 (7 ∷ 1 ∷ 8 ∷ 2 ∷ 3 ∷ 1 ∷ 2 ∷ []) [] []) (ev 4 (7 ∷ 8 ∷ 2 ∷ 1 ∷ []) ∷ [])
    ∷ eqb (best_count 3 2 shift) 2
    ∷ eqb (min_loads 3 2 shift) 7
    ∷ same_entries (bundles (lru_rule 2) 3 0 shift [] []) lru_shift
    ∷ eqb (bundle_count (lru_rule 2) 3 shift) 3
    ∷ eqb (load_count (lru_rule 2) 3 shift) 8
    -- on the shift oldest load evicts what LRU does
    ∷ same_entries (bundles_by ByLoad (front_rule 2) 3 0 shift [] []) lru_shift
    ∷ eqb (bundle_count_by ByLoad (front_rule 2) 3 shift) 3
    ∷ eqb (load_count_by ByLoad (front_rule 2) 3 shift) 8
    ∷ eqb (join_count 3 2 shift) 2
    ∷ same_pages (numbers_of (table 3 2 shift).rows) (1 ∷ 1 ∷ 1 ∷ 2 ∷ 3 ∷ [])
    ∷ same_pages (pages_of (table 3 2 shift).rows) (2 ∷ 4 ∷ 5 ∷ 6 ∷ 1 ∷ [])
    ∷ eqb (revealed 3 (table 3 2 shift).rows) 2
    ∷ possible seven (5 ∷ 6 ∷ [])
    ∷ breaks_at seven (2 ∷ 4 ∷ []) 1
    ∷ breaks_at seven (1 ∷ 6 ∷ []) 0
    ∷ not (possible seven (6 ∷ []))
    ∷ not (possible seven (2 ∷ 4 ∷ []))
    ∷ not (possible seven (1 ∷ 6 ∷ []))
    -- the smallest layer at which the rule breaks (request 06): the only one; the first of three in a row; the first of two, with one between at
    -- which the rule holds
    ∷ eqb (lowest_broken seven (2 ∷ 4 ∷ []) 2) 1
    ∷ eqb (lowest_broken seven (1 ∷ 6 ∷ []) 2) 0
    ∷ eqb (lowest_broken (layers_after 3 1 (1 ∷ 2 ∷ 3 ∷ []) no_layers) (7 ∷ 8 ∷ 9 ∷ []) 3) 0
    ∷ eqb (lowest_broken (layers_after 4 3 (1 ∷ 2 ∷ 3 ∷ 4 ∷ 5 ∷ 6 ∷ 7 ∷ []) no_layers) (1 ∷ 2 ∷ 3 ∷ 4 ∷ []) 4) 1
    ∷ breaks_at five (9 ∷ 2 ∷ 3 ∷ []) 0
    ∷ not (breaks_at five (9 ∷ 2 ∷ 3 ∷ []) 1)
    ∷ breaks_at five (9 ∷ 2 ∷ 3 ∷ []) 2
    ∷ eqb (lowest_broken five (9 ∷ 2 ∷ 3 ∷ []) 3) 0
    ∷ serves 3 2 shift min_shift
    ∷ eqb (entries_cost min_shift) 2
    ∷ eqb (join_count 2 2 (1 ∷ 2 ∷ 3 ∷ [])) 1
    ∷ eqb (layers_after 2 2 (1 ∷ 2 ∷ 3 ∷ []) no_layers).top 1
    ∷ eqb (best_count 1 1 (1 ∷ 2 ∷ 1 ∷ [])) 2
    ∷ eqb (best_count 3 2 (5 ∷ 5 ∷ 5 ∷ [])) 0
    ∷ eqb (min_loads 3 2 (5 ∷ 5 ∷ 5 ∷ [])) 1
    -- by request a hit makes the page the last to go; by load it does not, and a page that is loaded again is the newest load
    ∷ same_entries (bundles (lru_rule 1) 3 0 hit_then_full [] []) (ev 4 (2 ∷ []) ∷ [])
    ∷ same_entries (bundles_by ByLoad (front_rule 1) 3 0 hit_then_full [] []) (ev 4 (1 ∷ []) ∷ ev 5 (2 ∷ []) ∷ [])
    ∷ eqb (bundle_count (lru_rule 1) 3 hit_then_full) 1
    ∷ eqb (load_count (lru_rule 1) 3 hit_then_full) 4
    ∷ eqb (bundle_count_by ByLoad (front_rule 1) 3 hit_then_full) 2
    ∷ eqb (load_count_by ByLoad (front_rule 1) 3 hit_then_full) 5
    ∷ same_pages (holds_by ByLoad (front_rule 1) 3 hit_then_full [] []) (3 ∷ 4 ∷ 1 ∷ [])
    ∷ eqb (bundle_count (lru_rule 1) 3 (1 ∷ 2 ∷ 3 ∷ 1 ∷ 4 ∷ 2 ∷ [])) 2
    ∷ eqb (bundle_count_by ByLoad (front_rule 1) 3 (1 ∷ 2 ∷ 3 ∷ 1 ∷ 4 ∷ 2 ∷ [])) 1
    -- at most k pages after a request
    ∷ serves 2 1 (1 ∷ 2 ∷ []) []
    ∷ not (serves 1 1 (1 ∷ 2 ∷ []) [])
    -- an EV has 1 to a pages, all held, none named twice, and stands at a request and before the PFs at it
    ∷ not (serves 3 2 (1 ∷ 2 ∷ []) (ev 1 [] ∷ []))
    ∷ not (serves 3 1 (1 ∷ 2 ∷ 3 ∷ []) (ev 2 (1 ∷ 2 ∷ []) ∷ []))
    ∷ not (serves 3 2 (1 ∷ 2 ∷ []) (ev 1 (2 ∷ []) ∷ []))
    ∷ not (serves 3 2 (1 ∷ 2 ∷ []) (ev 1 (1 ∷ 1 ∷ []) ∷ []))
    ∷ not (serves 3 2 (1 ∷ 2 ∷ []) (ev 2 (1 ∷ []) ∷ []))
    ∷ not (serves 3 2 (1 ∷ 2 ∷ []) (pf 1 5 ∷ ev 1 (1 ∷ []) ∷ []))
    ∷ serves 3 2 (1 ∷ 2 ∷ []) (ev 1 (1 ∷ []) ∷ pf 1 1 ∷ pf 1 2 ∷ [])
    -- a PF's page is not held
    ∷ not (serves 3 2 (1 ∷ 2 ∷ []) (pf 1 1 ∷ []))
    ∷ []

examples_hold : every examples ≡ true
unfolding every examples seven five min_shift lru_shift hit_then_full hit_then_others table same_pages same_entries ◌and◌ ◌or◌ row_before farther
examples_hold = refl
