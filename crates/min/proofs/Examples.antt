-- Worked examples of document 01: the eight-request shift's schedule, its bytes and their length (38 suffice, 37 are too few), and an
-- empty trace's.
use Prim.Native.Nat.{ℕ}
use mathlib.Core.Bool.{Bool, true}
use mathlib.Core.List.{List, [], ◌∷◌}
use mathlib.Core.Path.{◌≡◌, refl}
use lib.Dec.{eqb}
use lib.ListN.{length, replicate}
use Rattle.lists.specs.Choice.{◌and◌, ◌or◌}
use Rattle.paging.specs.Min.{farther}
use Rattle.paging.specs.Refusals.{sizes_refusal, trace_refusal}
use Rattle.paging.specs.Same.{same_pages, every, shift}
use Rattle.min.specs.Calls.{min_schedule, bytes_refusal, schedule_refusal}

-- KA 3 2; EV at 3 of 3, 1; EV at 6 of 4, 2
shift_bytes : List ℕ
shift_bytes =
    75 ∷ 65 ∷ 3 ∷ 0 ∷ 2 ∷ 0
    ∷ 69 ∷ 86 ∷ 3 ∷ 0 ∷ 0 ∷ 0 ∷ 2 ∷ 0 ∷ 3 ∷ 0 ∷ 0 ∷ 0 ∷ 1 ∷ 0 ∷ 0 ∷ 0
    ∷ 69 ∷ 86 ∷ 6 ∷ 0 ∷ 0 ∷ 0 ∷ 2 ∷ 0 ∷ 4 ∷ 0 ∷ 0 ∷ 0 ∷ 2 ∷ 0 ∷ 0 ∷ 0
    ∷ []

examples : List Bool
examples =
    same_pages (min_schedule 3 2 shift) shift_bytes
    ∷ eqb (length (min_schedule 3 2 shift)) 38
    ∷ eqb (schedule_refusal 3 2 shift (replicate 38 0)) 0
    ∷ eqb (schedule_refusal 3 2 shift (replicate 37 0)) 8
    ∷ eqb (length (min_schedule 3 2 [])) 6
    ∷ eqb (length (min_schedule 3 2 (5 ∷ 5 ∷ 5 ∷ []))) 6
    ∷ eqb (schedule_refusal 257 1 shift []) 1
    ∷ eqb (schedule_refusal 3 4 shift []) 2
    ∷ []

examples_hold : every examples ≡ true
unfolding every examples same_pages shift_bytes ◌and◌ ◌or◌ farther sizes_refusal trace_refusal min_schedule bytes_refusal
examples_hold = refl
