-- What the calls answer, in the words of document 01: a refusal's number, and beside it the values, which are zero where there is a refusal.
use Rattle.std.specs.Prelude.{ℕ, Result, Ok, Err}
use Rattle.paging.specs.Numbers.{number_of}
use Rattle.paging.specs.declared.reasons.Refusal.{Refusal}
use Rattle.min.specs.declared.Scheduled.{Scheduled}

-- of the call that writes: bundles, loads, and the schedule's length in bytes. That of the call that counts is paging's
pub record ScheduledAnswer : Type 0 where
  pub refusal : ℕ
  pub bundles : ℕ
  pub loads : ℕ
  pub length : ℕ

abbrev pub scheduled_answer : Result Scheduled Refusal → ScheduledAnswer
scheduled_answer (Ok scheduled) =
    record { refusal = 0; bundles = scheduled.bundles; loads = scheduled.loads; length = scheduled.length }
scheduled_answer (Err reason) = record { refusal = number_of reason; bundles = 0; loads = 0; length = 0 }
