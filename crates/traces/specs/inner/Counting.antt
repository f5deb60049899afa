-- The requests behind a trace's KA, counted: a refusal's number, or 0 with how many they are.
use Rattle.std.specs.Prelude.{ℕ, Result, Ok, Err, eqb, length}
use Rattle.lists.specs.Choice.{pick}
use Rattle.paging.specs.Numbers.{number_of}
use Rattle.paging.specs.declared.reasons.Refusal.{Refusal}
use Rattle.reading.specs.Files.{File}
use Rattle.traces.specs.Traces.{requests_refusal}

pub record CountedAnswer : Type 0 where
  pub refusal : ℕ
  pub requests : ℕ

abbrev pub counted_in : (limit : ℕ) → File ℕ → CountedAnswer
counted_in limit file =
    record { refusal = requests_refusal limit file; requests = pick (eqb (requests_refusal limit file) 0) (length file.held) 0 }

abbrev pub counted_answer : Result ℕ Refusal → CountedAnswer
counted_answer (Ok n) = record { refusal = 0; requests = n }
counted_answer (Err reason) = record { refusal = number_of reason; requests = 0 }
