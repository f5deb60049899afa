-- An outcome of each kind, and the loads and bundles of a kind by its number.
use mathlib.Core.Path.{◌≡◌, refl}
use lib.Dec.{eqb, ltb}
use Rattle.lists.specs.Pages.{bit}
use Rattle.paging.specs.Numbers.{kind_of_outcome}
use Rattle.paging.specs.Policy.{Kind, hit, load, bundled, kind_number, is_load, is_bundled}
use Rattle.paging.specs.declared.outcomes.Outcome.{Outcome}
use Rattle.paging.specs.declared.outcomes.Outcome.TheVariants.{Hit, Load, LoadAfterBundle}

abbrev pub outcome_of : Kind → Outcome
outcome_of hit = Hit
outcome_of load = Load
outcome_of bundled = LoadAfterBundle

pub outcome_back : (kind : Kind) → kind_of_outcome (outcome_of kind) ≡ kind
outcome_back hit = refl
outcome_back load = refl
outcome_back bundled = refl

pub load_number : (kind : Kind) → bit (ltb 0 (kind_number kind)) ≡ bit (is_load kind)
load_number hit = refl
load_number load = refl
load_number bundled = refl

pub bundle_number : (kind : Kind) → bit (eqb (kind_number kind) 2) ≡ bit (is_bundled kind)
bundle_number hit = refl
bundle_number load = refl
bundle_number bundled = refl
