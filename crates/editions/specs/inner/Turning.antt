-- A file turned record by record: runs that are taken from what is left of it, and bytes that are written one behind the other.
use Rattle.std.specs.Prelude.{ℕ, ◌+◌, ◌≤◌, ◌<◌, List, [], ◌∷◌, ◌≡◌, length, replicate}
use Rattle.wire.specs.Numbers.{placed}
use Rattle.records.specs.Bytes.{trace_entry_bytes, joined, singles}
use Rattle.reading.specs.Files.{before}
use Rattle.cursor.specs.Cursor.{requests_left}
use Rattle.cursor.specs.declared.Rest.{Rest}
use Rattle.editions.specs.Editions.{longest_rr, new_records}

-- what stands behind the KA in either edition
abbrev pub old_behind : (pages : List ℕ) → List ℕ
old_behind pages = joined trace_entry_bytes (singles pages)

abbrev pub new_behind : (pages : List ℕ) → List ℕ
new_behind pages = joined trace_entry_bytes (new_records pages)

-- where the requests of one record end: nothing is left, or another page is next, or the record is as long as an RR can be
abbrev pub Ends : (page times : ℕ) → (rest : List ℕ) → Type 0
Ends page times [] = Unit {0}
Ends page times (next ∷ rest) = page ≡ next → times ≡ longest_rr

-- the requests of one record of the new edition are taken from what is left of a file
pub record RunTaken (file : List ℕ) (left : Rest) (page times : ℕ) (behind : Rest) : Type 0 where
  pub some : 0 < times
  pub few : times ≤ longest_rr
  pub started : 0 < behind.from
  pub small : behind.times ≤ longest_rr
  pub taken : requests_left file left ≡ before (replicate times page) (requests_left file behind)
  pub ends : Ends page times (requests_left file behind).held

-- of the n requests of a file i are passed
pub record Passing (file : List ℕ) (n i : ℕ) (left : Rest) : Type 0 where
  pub started : 0 < left.from
  pub small : left.times ≤ longest_rr
  pub size : i + length (requests_left file left).held ≡ n

-- what is still to be written, put behind what is written, makes the whole
pub record Writing (out₀ out : List ℕ) (from at : ℕ) (all left : List ℕ) : Type 0 where
  pub room : at + length left ≤ length out
  pub same : length out ≡ length out₀
  pub sum : at + length left ≡ from + length all
  pub whole : placed out at left ≡ placed out₀ from all
