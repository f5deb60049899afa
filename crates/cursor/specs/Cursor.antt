-- A place in a trace's file between two requests. Inside a run it is between two of the run's requests, so that nobody has to write them out.
use Rattle.std.specs.Prelude.{ℕ, ◌≤◌, ◌<◌, List, replicate}
use Rattle.reading.specs.Files.{File, before, requests_from}
use Rattle.cursor.specs.declared.Rest.{Rest}

-- what is left of a file: the rest of a run, then the records from an offset on
unfoldable pub requests_left : (file : List ℕ) → Rest → File ℕ
requests_left file left = before (replicate left.times left.page) (requests_from file left.from)

-- the rest of a run is begun: at least one request, and not more than a record has
pub record Begun (left : Rest) : Type 0 where
  pub some : 0 < left.times
  pub few : left.times ≤ 65535
  pub started : 0 < left.from
