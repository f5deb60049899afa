-- A whole file as two things: what its records hold, up to its end or its first damage, and the damage's number (0: none).
-- It is the reader, stepped from offset to offset.
use Rattle.std.specs.Prelude.{ℕ, zero, suc, List, [], ◌∷◌, ◌++◌, ◌≡◌, length, drop, replicate}
use Rattle.paging.specs.Schedule.{Entry, ev, pf}
use Rattle.wire.specs.Numbers.{nums32}
use Rattle.reading.specs.Reading.{Answer, refused, ended, sizes, request, bundle, fetch, read_trace, read_schedule}

pub record File (A : Type 0) : Type 0 where
  pub held : List A
  pub damage : ℕ

-- what stands in front of what a later part of the file holds
abbrev pub before : {A : Type 0} → List A → File A → File A
before xs rest = record { held = xs ++ rest.held; damage = rest.damage }

abbrev pub only : {A : Type 0} → ℕ → File A
only n = record { held = []; damage = n }

-- one step: `xs` is what the answer holds, `go` reads on at an offset
abbrev pub onward : {A : Type 0} → List A → Answer → (ℕ → File A) → File A
onward xs (refused n) go = only n
onward xs ended go = only 0
onward xs (sizes k a next) go = before xs (go next)
onward xs (request page times next) go = before xs (go next)
onward xs (bundle t n from next) go = before xs (go next)
onward xs (fetch t page next) go = before xs (go next)

-- at most so many steps from an offset; each step but the last goes on by at least a byte, so one more than the file's length is enough
abbrev pub walk : {A : Type 0} → (ℕ → Answer) → (Answer → List A) → ℕ → ℕ → File A
walk reader holds zero at = only 0
walk reader holds (suc f) at = onward (holds (reader at)) (reader at) (walk reader holds f)

-- a trace's records hold requests; a run holds its single requests
abbrev pub pages_in : Answer → List ℕ
pages_in (request page times next) = replicate times page
pages_in (refused n) = []
pages_in ended = []
pages_in (sizes k a next) = []
pages_in (bundle t n from next) = []
pages_in (fetch t page next) = []

unfoldable pub requests_from : List ℕ → ℕ → File ℕ
requests_from s at = walk (read_trace s) pages_in (suc (length s)) at

-- a schedule's records hold entries
abbrev pub entries_in : List ℕ → Answer → List Entry
entries_in s (bundle t n from next) = ev t (nums32 n (drop from s)) ∷ []
entries_in s (fetch t page next) = pf t page ∷ []
entries_in s (refused n) = []
entries_in s ended = []
entries_in s (sizes k a next) = []
entries_in s (request page times next) = []

unfoldable pub entries_from : ℕ → List ℕ → ℕ → File Entry
entries_from bound s at = walk (read_schedule bound s) (entries_in s) (suc (length s)) at

-- a file reads as a KA and these pages or entries, and has no damage
abbrev pub ReadsAsTrace : (k a : ℕ) → (pages s : List ℕ) → Type 0
ReadsAsTrace k a pages s = (read_trace s 0 ≡ sizes k a 6) × (requests_from s 0 ≡ record { held = pages; damage = 0 })

abbrev pub ReadsAsSchedule : (bound k a : ℕ) → List Entry → (s : List ℕ) → Type 0
ReadsAsSchedule bound k a entries s = (read_schedule bound s 0 ≡ sizes k a 6) × (entries_from bound s 0 ≡ record { held = entries; damage = 0 })
