-- "Well formed" for marking (document 02, request 09): refusal 9 is given exactly where this does not hold. Behind the count nothing is looked at in the
-- lists of cached pages, and no priority is.
use Rattle.std.specs.Prelude.{ℕ, Bool, true, List, [], ◌∷◌, eqb, leb, ltb, take}
use Rattle.lists.specs.Choice.{◌and◌, ◌or◌}
use Rattle.paging.specs.Rows.{rows_of}
use Rattle.layers.specs.Formed.{layers_well_formed}
use Rattle.marking.specs.Lists.{rising, all_marks}
use Rattle.mark.specs.Lent.{Lent}
use Rattle.mark.specs.declared.MarkRun.{MarkRun}

-- evictions ≤ loads ≤ requests as for LRU, t ≤ requests, and one k, a and request count for the record and the layers' record in it
unfoldable pub record_formed : MarkRun → Bool
record_formed run =
    leb run.evictions run.loads
    and leb run.loads run.requests
    and leb run.t run.requests
    and eqb run.layers.k run.k
    and eqb run.layers.a run.a
    and eqb run.layers.requests run.requests

-- at most k cached pages, by page rising, with marks of 0 or 1
unfoldable pub buffer_formed : (k count : ℕ) → (cache marks : List ℕ) → Bool
buffer_formed k count cache marks = leb count k and rising (take count cache) and all_marks (take count marks)

-- t0 ≤ t, and 0 in an unused place
abbrev pub times_formed : (t : ℕ) → (numbers times : List ℕ) → Bool
times_formed t [] times = true
times_formed t (n ∷ numbers) [] = true
times_formed t (n ∷ numbers) (t0 ∷ times) = leb t0 t and (ltb 0 n or eqb t0 0) and times_formed t numbers times

unfoldable pub mark_well_formed : MarkRun → (count : ℕ) → Lent → Bool
mark_well_formed run count x =
    record_formed run
    and buffer_formed run.k count x.cache x.marks
    and layers_well_formed run.layers (rows_of x.numbers x.pages)
    and times_formed run.t x.numbers x.times
