-- Every trace has a file: the one with an RQ for each request.
use Prim.Native.Nat.{ℕ}
use mathlib.Core.List.{List, [], ◌∷◌}
use mathlib.Core.Path.{◌≡◌, refl, ap}
use Rattle.records.specs.Bytes.{TraceFileOf, RunsWritable, all_requests_of, singles, trace_bytes}

singles_writable : (pages : List ℕ) → RunsWritable (singles pages)
singles_writable [] = tt
singles_writable (p ∷ pages) = (tt, singles_writable pages)

pub singles_stand : (pages : List ℕ) → all_requests_of (singles pages) ≡ pages
singles_stand [] = refl
singles_stand (p ∷ pages) = ap (λ (l : List ℕ). p ∷ l) (singles_stand pages)

pub one_by_one : (k a : ℕ) (pages : List ℕ) → TraceFileOf k a pages (trace_bytes k a (singles pages))
one_by_one k a pages = record { entries = singles pages; runs = singles_writable pages; bytes = refl; requests = singles_stand pages }
