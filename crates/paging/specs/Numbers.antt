-- The reasons for a refusal, with their numbers (document 01, "Who can cause a refusal"; document 02, request 03, for 13), and what a request did.
use Rattle.std.specs.Prelude.{ℕ, Result, Ok, Err}
use Rattle.paging.specs.Layers.{LayerRule, append, join, lift}
use Rattle.paging.specs.Policy.{Kind, hit, load, bundled}
use Rattle.paging.specs.declared.applied.RuleApplied.{RuleApplied}
use Rattle.paging.specs.declared.applied.RuleApplied.TheVariants.{Append, Join, Lift}
use Rattle.paging.specs.declared.outcomes.Outcome.{Outcome}
use Rattle.paging.specs.declared.outcomes.Outcome.TheVariants.{Hit, Load, LoadAfterBundle}
use Rattle.paging.specs.declared.outcomes.Totals.{Totals}
use Rattle.paging.specs.declared.reasons.Refusal.{Refusal}
use Rattle.paging.specs.declared.reasons.Refusal.TheVariants.{BufferSize, BundleSize, TraceTooLong, WrongMark, CutShort, WrongRecord, TooManyHeld}
use Rattle.paging.specs.declared.reasons.Refusal.TheVariants.{TooLittleRoom, IllFormed, TableFull, PageTwice, CounterFull, EmptyRun}

abbrev pub number_of : Refusal → ℕ
number_of BufferSize = 1
number_of BundleSize = 2
number_of TraceTooLong = 3
number_of WrongMark = 4
number_of CutShort = 5
number_of WrongRecord = 6
number_of TooManyHeld = 7
number_of TooLittleRoom = 8
number_of IllFormed = 9
number_of TableFull = 10
number_of PageTwice = 11
number_of CounterFull = 12
number_of EmptyRun = 13

-- what a call says by number, whatever else it answers: 0 where nothing is refused
abbrev pub refusal_of : {A : Type 0} → Result A Refusal → ℕ
refusal_of (Ok _) = 0
refusal_of (Err reason) = number_of reason

abbrev pub kind_of_outcome : Outcome → Kind
kind_of_outcome Hit = hit
kind_of_outcome Load = load
kind_of_outcome LoadAfterBundle = bundled

-- What a call over a whole trace answers by number: bundles and loads beside 0, or a refusal's number beside zeros
pub record TotalsAnswer : Type 0 where
  pub refusal : ℕ
  pub bundles : ℕ
  pub loads : ℕ

abbrev pub totals_answer : Result Totals Refusal → TotalsAnswer
totals_answer (Ok totals) = record { refusal = 0; bundles = totals.bundles; loads = totals.loads }
totals_answer (Err reason) = record { refusal = number_of reason; bundles = 0; loads = 0 }

-- the rule of Figure 1 that each case of the code's enum stands for
abbrev pub rule_of : RuleApplied → LayerRule
rule_of Append = append
rule_of Join = join
rule_of Lift = lift

-- the number that an accepted request to the layers answers (document 02, request 02): 1 for rule 1a, 2 for 1b, 3 for 1c
abbrev pub rule_number : LayerRule → ℕ
rule_number append = 1
rule_number join = 2
rule_number lift = 3
