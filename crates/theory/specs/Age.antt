-- Which of the pages held leaves first (document 01, "MIN"; document 02, request 07), said by the requests alone: `past` are those before the present
-- one, `later` those after it. And the order that document 01 has for pages never requested again, by number, to compare with.
use Rattle.std.specs.Prelude.{ℕ, suc, ◌<◌, Bool, true, false, List, [], ◌∷◌, ◌++◌, ◌≡◌, eqb, ltb, length, take}
use Rattle.lists.specs.Choice.{pick, ◌and◌, ◌or◌}
use Rattle.lists.specs.Pages.{mem}
use Rattle.lists.specs.Places.{place}
use Rattle.lists.specs.Sorting.{sort_by}
use Rattle.paging.specs.Min.{next_use, min_rule, best_count, min_loads}
use Rattle.paging.specs.Policy.{Rule, is_bundled, kind_of, serve, holds, kinds, bundles, bundle_count, load_count}
use Rattle.paging.specs.Schedule.{ev}

-- how many requests there are up to the last one of p; 0, if p was never requested
abbrev pub last_use : ℕ → (past : List ℕ) → ℕ
last_use p [] = 0
last_use p (q ∷ qs) = pick (mem p (q ∷ qs)) (suc (last_use p qs)) 0

-- p goes before q. Pages never requested again go before the others, the one whose last request is earlier first; of the others, the one whose next
-- request is farther goes first
abbrev pub leaves_before : (past later : List ℕ) → (p q : ℕ) → Bool
leaves_before past later p q =
    pick (mem p later)
    (pick (mem q later) (ltb (next_use q later) (next_use p later)) false)
    (pick (mem q later) true (ltb (last_use p past) (last_use q past)))

-- the pages that MIN holds where `present` is requested, and its bundle there, if it needs one
abbrev pub min_holds : (k a : ℕ) → (past : List ℕ) → (present : ℕ) → (later : List ℕ) → List ℕ
min_holds k a past present later = holds (min_rule a) k past (present ∷ later) []

abbrev pub min_bundle : (k a : ℕ) → (past : List ℕ) → (present : ℕ) → (later : List ℕ) → List ℕ
min_bundle k a past present later = min_rule a later (min_holds k a past present later)

-- document 01's rule: among pages never requested again the lower number goes first
abbrev pub by_number : (later : List ℕ) → (p q : ℕ) → Bool
by_number later p q = ltb (next_use q later) (next_use p later) or (eqb (next_use q later) (next_use p later) and ltb p q)

abbrev pub by_number_rule : (a : ℕ) → Rule
by_number_rule a later held = take a (sort_by (by_number later) held)

-- What whoever compares schedules may count on
pub record LeavesByAge (k a : ℕ) : Type 0 where
  -- MIN's bundle is the first a of the pages held, in the order above
  pub bundle_in_full : (past : List ℕ) (present : ℕ) (later : List ℕ)
      → min_bundle k a past present later ≡ take a (sort_by (leaves_before past later) (min_holds k a past present later))
  -- it is the EV of the present request, where MIN makes a bundle there: the schedule's EVs are those before, it, and those behind
  pub bundle_in_schedule : (past : List ℕ) (present : ℕ) (later : List ℕ)
      → let held = min_holds k a past present later in
      let behind = bundles (min_rule a) k (suc (length past)) later [] (serve (min_rule a) k present later held) in
      bundles (min_rule a) k 0 (past ++ (present ∷ later)) [] []
      ≡ bundles (min_rule a) k 0 past (present ∷ later) []
      ++ pick (is_bundled (kind_of k present held)) (ev (length past) (min_bundle k a past present later) ∷ behind) behind
  -- of two pages held the one that goes before the other is in every bundle that takes the other, at an earlier place
  pub goes_first : (past : List ℕ) (present : ℕ) (later : List ℕ) (p q : ℕ) → leaves_before past later p q ≡ true
      → mem p (min_holds k a past present later) ≡ true → mem q (min_bundle k a past present later) ≡ true
      → place p (min_bundle k a past present later) < place q (min_bundle k a past present later)
  -- so of two that are never requested again the less recently requested one does
  pub older_goes_first : (past : List ℕ) (present : ℕ) (later : List ℕ) (p q : ℕ) → mem p later ≡ false → mem q later ≡ false
      → last_use p past < last_use q past
      → mem p (min_holds k a past present later) ≡ true → mem q (min_bundle k a past present later) ≡ true
      → place p (min_bundle k a past present later) < place q (min_bundle k a past present later)
  -- bundles and loads of every trace are as by number: at each request, whatever follows the trace, and in all
  pub same_kinds : (trace later : List ℕ) → kinds (by_number_rule a) k trace later [] ≡ kinds (min_rule a) k trace later []
  pub same_bundles : (trace : List ℕ) → bundle_count (by_number_rule a) k trace ≡ best_count k a trace
  pub same_loads : (trace : List ℕ) → load_count (by_number_rule a) k trace ≡ min_loads k a trace
