-- The PFs of the open request: they stand one behind the other in the schedule's file, right before the record that is read next.
use Rattle.std.specs.Prelude.{ℕ, zero, suc, ◌+◌, List, [], ◌∷◌, drop}
use Rattle.wire.specs.Numbers.{num32}

-- the pages of so many PFs from an offset on: a PF is 10 bytes, its page the last 4 of them
abbrev pub fetched_pages : List ℕ → (from count : ℕ) → List ℕ
fetched_pages s from zero = []
fetched_pages s from (suc count) = num32 (drop (from + 6) s) ∷ fetched_pages s (from + 10) count
