-- What is plausible and false (document 01), with computed counterexamples. That 1c with i = 1 keeps the rest in layer 1 is a must-fail
-- edit of the definition.
use Prim.Native.Nat.{ℕ, ◌+◌, ◌*◌, ◌/◌, ◌<◌}
use mathlib.Core.Bool.{true}
use mathlib.Core.List.{List, [], ◌∷◌}
use mathlib.Core.Path.{◌≡◌, refl}
use lib.Dec.{ltb→lt}
use lib.ListN.{length, take}
use Rattle.lists.specs.Choice.{◌and◌, ◌or◌}
use Rattle.lists.specs.Pages.{count}
use Rattle.lists.specs.Sorting.{sort_by}
use Rattle.paging.specs.Front.{lru_rule}
use Rattle.paging.specs.Min.{farther, min_rule, best_count}
use Rattle.paging.specs.Policy.{Rule, is_load, kinds, bundles, bundle_count}
use Rattle.paging.specs.Schedule.{Entry, ev, pf, serves}

abbrev shift : List ℕ
shift = 1 ∷ 2 ∷ 3 ∷ 4 ∷ 2 ∷ 5 ∷ 6 ∷ 1 ∷ []

-- "LRU loads at most k pages while k different pages are requested": for k 3, a 2, after 1 2 3, the pages 4 5 6 4, three different
-- ones, are loaded four times
pub lru_loads_more_than_k : count is_load (kinds (lru_rule 2) 3 (4 ∷ 5 ∷ 6 ∷ 4 ∷ []) [] (1 ∷ 2 ∷ 3 ∷ [])) ≡ 4
unfolding ◌and◌ ◌or◌
lru_loads_more_than_k = refl

-- "k/a rounded down": in the eight-request shift LRU makes 3 bundles, 3/2 rounded down times the best count is 2
pub rounding_down_fails : 3 / 2 * best_count 3 2 shift < bundle_count (lru_rule 2) 3 shift
unfolding ◌and◌ ◌or◌ farther
rounding_down_fails = ltb→lt (3 / 2 * best_count 3 2 shift) (bundle_count (lru_rule 2) 3 shift) tt

-- "a page's first request in the whole trace taken for its next one": this rule makes a bundle more than MIN on 1 2 3 2
abbrev first_request_rule : (trace : List ℕ) → (a : ℕ) → Rule
first_request_rule trace a later held = take a (sort_by (farther trace) held)

pub first_request_for_next_fails : best_count 2 1 (1 ∷ 2 ∷ 3 ∷ 2 ∷ []) < bundle_count (first_request_rule (1 ∷ 2 ∷ 3 ∷ 2 ∷ []) 1) 2 (1 ∷ 2 ∷ 3 ∷ 2 ∷ [])
unfolding ◌and◌ ◌or◌ farther
first_request_for_next_fails =
    ltb→lt (best_count 2 1 (1 ∷ 2 ∷ 3 ∷ 2 ∷ [])) (bundle_count (first_request_rule (1 ∷ 2 ∷ 3 ∷ 2 ∷ []) 1) 2 (1 ∷ 2 ∷ 3 ∷ 2 ∷ [])) tt

-- "a bundle's pages are its cost": by pages MIN would not be best on 1 2 3 4 for k 3, a 2
abbrev pages_evicted : List Entry → ℕ
pages_evicted [] = 0
pages_evicted (ev t pages ∷ es) = length pages + pages_evicted es
pages_evicted (pf t page ∷ es) = pages_evicted es

pub pages_for_cost_fails : (serves 3 2 (1 ∷ 2 ∷ 3 ∷ 4 ∷ []) (ev 3 (1 ∷ []) ∷ []) ≡ true)
    × (pages_evicted (ev 3 (1 ∷ []) ∷ []) < pages_evicted (bundles (min_rule 2) 3 0 (1 ∷ 2 ∷ 3 ∷ 4 ∷ []) [] []))
unfolding ◌and◌ ◌or◌ farther
pages_for_cost_fails = (refl, ltb→lt 1 2 tt)
