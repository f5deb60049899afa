-- What the function that judges a request promises.
use Rattle.std.specs.Prelude.{ℕ, ◌<◌, Result, IfOk, ◌≡◌}
use Rattle.paging.specs.Numbers.{refusal_of}
use Rattle.paging.specs.Refusals.{full_counter}
use Rattle.paging.specs.Table.{revealed}
use Rattle.paging.specs.declared.reasons.Refusal.{Refusal}
use Rattle.mark.specs.Calls.{state_refusal}
use Rattle.mark.specs.Lent.{Lent, rows_in}
use Rattle.mark.specs.declared.MarkRun.{MarkRun}

-- where nothing is refused: how many pages are revealed
pub record Passed (run : MarkRun) (x : Lent) (shown : ℕ) : Type 0 where
  pub revealed_told : shown ≡ revealed run.layers.s (rows_in x)
  pub more : run.requests < full_counter

pub record JudgedTo (run : MarkRun) (count : ℕ) (x : Lent) (r : Result ℕ Refusal) : Type 0 where
  pub refusal_told : refusal_of r ≡ state_refusal run count x 0
  pub passed : IfOk r (λ shown. Passed run x shown)
