-- The new edition measured while the requests are read: the run that was read last is still open, all before it is measured.
use Rattle.std.specs.Prelude.{ℕ, ◌+◌, ◌≤◌, List, ◌++◌, ◌≡◌, eqb, length, replicate, Result, Ok, Err}
use Rattle.lists.specs.Choice.{pick}
use Rattle.paging.specs.Numbers.{number_of}
use Rattle.paging.specs.declared.reasons.Refusal.{Refusal}
use Rattle.reading.specs.Files.{File}
use Rattle.traces.specs.Traces.{requests_refusal}
use Rattle.editions.specs.Editions.{longest_rr}
use Rattle.editions.specs.inner.Turning.{new_behind}
use Rattle.editions.specs.declared.measure.LastRun.{LastRun}
use Rattle.editions.specs.declared.measure.Measured.{Measured}

-- the last run's record: 6 bytes for one request, 8 for more, and none where there is no request yet
abbrev pub last_length : (times : ℕ) → ℕ
last_length times = pick (eqb times 0) 0 (pick (eqb times 1) 6 8)

-- with so many requests for a page behind the last run: whatever follows them, the whole has the same length
pub record Added (last : LastRun) (page times : ℕ) (r : LastRun) : Type 0 where
  pub few : r.times ≤ longest_rr
  pub grows : r.size ≤ last.size + 8
  pub same : (rest : List ℕ) → last.size + length (new_behind (replicate last.times last.page ++ (replicate times page ++ rest)))
      ≡ r.size + length (new_behind (replicate r.times r.page ++ rest))

-- the requests counted, and the length of the new edition beside them; or a refusal's number and zeros
pub record MeasuredAnswer : Type 0 where
  pub refusal : ℕ
  pub requests : ℕ
  pub length : ℕ

abbrev pub measured_answer : Result Measured Refusal → MeasuredAnswer
measured_answer (Ok all) = record { refusal = 0; requests = all.requests; length = all.length }
measured_answer (Err reason) = record { refusal = number_of reason; requests = 0; length = 0 }

abbrev pub measured_in : (limit : ℕ) → File ℕ → MeasuredAnswer
measured_in limit file =
    record {
      refusal = requests_refusal limit file;
      requests = pick (eqb (requests_refusal limit file) 0) (length file.held) 0;
      length = pick (eqb (requests_refusal limit file) 0) (6 + length (new_behind file.held)) 0;
    }
