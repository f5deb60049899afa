-- The sizes of the layers as a list, entry i for layer i: what the inner functions of src/formed.rt read off it.
use Rattle.std.specs.Prelude.{ℕ, zero, suc, ◌+◌, ◌-◌, ◌≤◌, ◌<◌, Bool, true, List, [], ◌∷◌, ◌≡◌, eqb, leb, ltb, length, get_or}
use Rattle.lists.specs.Choice.{◌and◌, ◌or◌}
use Rattle.lists.specs.Pages.{count}
use Rattle.lists.specs.Sorting.{Row}
use Rattle.paging.specs.Refusals.{largest_k}
use Rattle.paging.specs.Rows.{row_at}
use Rattle.layers.specs.Formed.{present, single_above}
use Rattle.layers.specs.declared.LayersRun.{LayersRun}
use Rattle.layers.specs.declared.PossibleAnswer.{PossibleAnswer}
use Rattle.layers.specs.declared.PossibleAnswer.TheVariants.{Yes, CountDiffers, BrokenAt}

-- how many entries of the list are i
abbrev pub times_in : (i : ℕ) → List ℕ → ℕ
times_in i numbers = count (λ n. eqb n i) numbers

-- entry i of sizes is how often i stands in the list, for each number of a layer
pub record Tallied (numbers sizes : List ℕ) : Type 0 where
  pub long : length sizes ≡ largest_k + 1
  pub each : (i : ℕ) → i < largest_k + 1 → get_or sizes i 0 ≡ times_in i numbers

abbrev pub present_in : (s : ℕ) → (sizes : List ℕ) → Bool
present_in zero sizes = true
present_in (suc i) sizes = ltb 0 (get_or sizes (suc i) 0) and present_in i sizes

abbrev pub single_in : (limit s : ℕ) → (sizes : List ℕ) → Bool
single_in limit zero sizes = true
single_in limit (suc i) sizes = (leb (suc i) limit or leb (get_or sizes (suc i) 0) 1) and single_in limit i sizes

-- rows with these numbers: sizes do not depend on the pages
abbrev pub numbered : List ℕ → List Row
numbered [] = []
numbered (n ∷ ns) = row_at n 0 ∷ numbered ns

-- what being well formed asks of the layers' sizes
unfoldable pub sizes_formed : LayersRun → List Row → Bool
sizes_formed run rows =
    present run.s rows
    and single_above (run.k - run.a) run.s rows
    and (ltb (run.k - run.a) run.s or single_above 0 run.s rows)

-- how many are in layers 0 to i - 1
abbrev pub sum_below : (i : ℕ) → (sizes : List ℕ) → ℕ
sum_below zero sizes = 0
sum_below (suc i) sizes = sum_below i sizes + get_or sizes i 0

-- what the walk over layers 0 to s answers: at each at most as many as its number, or the first at which there are more
abbrev pub Walked : (s : ℕ) → (sizes : List ℕ) → PossibleAnswer → Type 0
Walked s sizes Yes = (j : ℕ) → j ≤ s → sum_below (suc j) sizes ≤ j
Walked s sizes (BrokenAt i) = (i ≤ s) × (i < sum_below (suc i) sizes) × ((j : ℕ) → j < i → sum_below (suc j) sizes ≤ j)
Walked s sizes CountDiffers = ⊥
