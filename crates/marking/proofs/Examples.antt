-- The definitions computed on the eight-request shift and on traces at which a wrong reading would give other figures, in one table.
use Prim.Native.Nat.{ℕ}
use mathlib.Core.Bool.{Bool, true}
use mathlib.Core.List.{List, [], ◌∷◌, ◌++◌}
use mathlib.Core.Path.{◌≡◌, refl}
use lib.Dec.{eqb}
use Rattle.lists.specs.Choice.{◌and◌, ◌or◌, pick}
use Rattle.lists.specs.Sorting.{row_before}
use Rattle.paging.specs.Policy.{is_bundled}
use Rattle.paging.specs.Rows.{pages_of}
use Rattle.paging.specs.Same.{same_pages, every, shift}
use Rattle.marking.specs.Marking.{pages_in, marks_in, priorities_in, sooner, cleared, mark_bundle, mark_kind, mark_bundles, mark_loads}
use Rattle.marking.specs.Rdm.{Marking, no_marking, joins_next, priority_next, marking_next, marking_after, rdm}

-- the priority of each request, and the pages that leave, bundle behind bundle
priorities : (k a : ℕ) → List ℕ → Marking → List ℕ
priorities k a [] x = []
priorities k a (p ∷ ps) x = priority_next p x.clock ∷ priorities k a ps (marking_next k a p x)

leaving : (k a : ℕ) → List ℕ → Marking → List ℕ
leaving k a [] x = []
leaving k a (p ∷ ps) x =
    pick (is_bundled (mark_kind k p x.cached)) (pages_in (mark_bundle a (cleared (joins_next k p x.clock) x.cached))) []
    ++ leaving k a ps (marking_next k a p x)

after : (k a : ℕ) → List ℕ → Marking
after k a trace = marking_after k a trace no_marking

examples : List Bool
examples =
    -- the shift, k 3 and a 2: no page is revealed when it is requested, so t is 1 to 8, and only page 2 is requested again while a layer has it
    same_pages (priorities 3 2 shift no_marking) (8 ∷ 16 ∷ 24 ∷ 32 ∷ 43 ∷ 48 ∷ 56 ∷ 64 ∷ [])
    ∷ same_pages (leaving 3 2 shift no_marking) (1 ∷ 2 ∷ 3 ∷ 4 ∷ 2 ∷ 5 ∷ [])
    ∷ eqb (mark_bundles (rdm 3 2) 3 2 shift) 3
    ∷ eqb (mark_loads (rdm 3 2) 3 2 shift) 8
    ∷ same_pages (pages_in (after 3 2 shift).cached) (1 ∷ 6 ∷ [])
    ∷ same_pages (marks_in (after 3 2 shift).cached) (1 ∷ 1 ∷ [])
    ∷ same_pages (priorities_in (after 3 2 shift).cached) (64 ∷ 56 ∷ [])
    ∷ eqb (after 3 2 shift).clock.t 8
    ∷ same_pages (pages_of (after 3 2 shift).clock.layers.rows) (2 ∷ 4 ∷ 5 ∷ 6 ∷ 1 ∷ [])
    ∷ same_pages (after 3 2 shift).clock.times (2 ∷ 4 ∷ 6 ∷ 7 ∷ 8 ∷ [])
    ∷ []

examples_hold : every examples ≡ true
unfolding same_pages every ◌and◌ ◌or◌ row_before sooner examples priorities leaving after
examples_hold = refl
