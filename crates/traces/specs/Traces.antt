-- A trace file read whole (document 01, "Files" and "Sizes"; document 02, request 03): its KA and its requests, a run's one by one, or the number of its
-- first refusal. The record whose requests pass the limit is judged for 4, 5 and 13 first, and is 3 at once and as a whole if it is right, whatever follows it.
use Rattle.std.specs.Prelude.{ℕ, List, [], ◌≡◌, eqb, ltb, length}
use Rattle.lists.specs.Choice.{pick}
use Rattle.paging.specs.Refusals.{refuse}
use Rattle.reading.specs.Files.{File, requests_from}
use Rattle.reading.specs.Reading.{Answer, refused, ended, sizes, request, bundle, fetch, read_trace}

pub data TraceFile : Type 0 where
  whole : (k a : ℕ) (pages : List ℕ) → TraceFile
  damaged : (number : ℕ) → TraceFile

-- the number that the requests behind the KA are refused with, 0 if they are not
abbrev pub requests_refusal : (limit : ℕ) → File ℕ → ℕ
requests_refusal limit file = refuse (ltb limit (length file.held)) 3 file.damage

abbrev pub with_requests : (limit k a : ℕ) → File ℕ → TraceFile
with_requests limit k a file =
    pick (eqb (requests_refusal limit file) 0) (whole k a file.held) (damaged (requests_refusal limit file))

-- what stands at offset 0 is a KA or a refusal
abbrev pub from_start : (limit : ℕ) → List ℕ → Answer → TraceFile
from_start limit s (refused number) = damaged number
from_start limit s (sizes k a next) = with_requests limit k a (requests_from s next)
from_start limit s ended = damaged 5
from_start limit s (request page times next) = damaged 4
from_start limit s (bundle t n from next) = damaged 4
from_start limit s (fetch t page next) = damaged 4

unfoldable pub trace_file : (limit : ℕ) → List ℕ → TraceFile
trace_file limit s = from_start limit s (read_trace s 0)

-- bytes that may stand in front of a record: none, or bytes that do not end inside a record (they may be damaged before). Bytes that end inside one would
-- take the first bytes of what is put behind them for their own
abbrev pub EndsBetween : (front : List ℕ) → Type 0
EndsBetween front = (requests_from front 0).damage ≡ 5 → front ≡ []
