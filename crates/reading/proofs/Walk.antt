-- A whole file, one record at a time: what a file holds from an offset on is what the reader answers there, and what the file holds
-- from the next offset on.
use Prim.Native.Nat.{ℕ, zero, suc, ◌+◌, ◌<◌, ◌≤◌}
use native.Mathlib.Omega.{arith}
use mathlib.Core.List.{List, [], ◌∷◌}
use mathlib.Core.Path.{◌≡◌, refl, ap, ◌∙◌}
use lib.ListN.{length, drop, replicate}
use Rattle.paging.specs.Schedule.{ev, pf}
use Rattle.wire.specs.Numbers.{nums32}
use Rattle.reading.specs.Files.{File, before, only, onward, walk, pages_in, requests_from, entries_in, entries_from}
use Rattle.reading.specs.Reading.{Answer, refused, ended, sizes, request, bundle, fetch, read_trace, read_schedule}
use Rattle.reading.proofs.Facts.{TraceFacts, ScheduleFacts, trace_facts, schedule_facts}

-- an answer at `at` leads on, and not past the file's length
abbrev pub Goes : ℕ → ℕ → Answer → Type 0
Goes size at (refused n) = Unit {0}
Goes size at ended = Unit {0}
Goes size at (sizes k a next) = (at < next) × (next ≤ size)
Goes size at (request page times next) = (at < next) × (next ≤ size)
Goes size at (bundle t n from next) = (at < next) × (next ≤ size)
Goes size at (fetch t page next) = (at < next) × (next ≤ size)

module _ {A : Type 0} (reader : ℕ → Answer) (holds : Answer → List A) (size : ℕ) (goes : (at : ℕ) → Goes size at (reader at)) where
  -- two ways to read on that agree wherever the answer leads
  agree : (at : ℕ) (x : Answer) (xs : List A) (f g : ℕ → File A) → Goes size at x
      → ((next : ℕ) → at < next → next ≤ size → f next ≡ g next) → onward xs x f ≡ onward xs x g
  agree at (refused n) xs f g h e = refl
  agree at ended xs f g h e = refl
  agree at (sizes k a next) xs f g h e = ap (before xs) (e next h.0 h.1)
  agree at (request page times next) xs f g h e = ap (before xs) (e next h.0 h.1)
  agree at (bundle t n from next) xs f g h e = ap (before xs) (e next h.0 h.1)
  agree at (fetch t page next) xs f g h e = ap (before xs) (e next h.0 h.1)

  -- more steps than are left change nothing
  steady : (f g at : ℕ) → at ≤ size → size < at + f → size < at + g → walk reader holds f at ≡ walk reader holds g at
  steady zero g at h p q = absurd (omega arith)
  steady (suc f) zero at h p q = absurd (omega arith)
  steady (suc f) (suc g) at h p q =
      agree at (reader at) (holds (reader at)) (walk reader holds f) (walk reader holds g) (goes at)
      (λ next l m. steady f g next m (omega arith) (omega arith))

  pub walk_step : (at : ℕ) → walk reader holds (suc size) at ≡ onward (holds (reader at)) (reader at) (walk reader holds (suc size))
  walk_step at =
      agree at (reader at) (holds (reader at)) (walk reader holds size) (walk reader holds (suc size)) (goes at)
      (λ next l m. steady size (suc size) next m (omega arith) (omega arith))

-- ---- the trace

trace_leads : (s : List ℕ) (at : ℕ) (x : Answer) → TraceFacts s at x → Goes (length s) at x
trace_leads s at (refused n) f = tt
trace_leads s at ended f = tt
trace_leads s at (sizes k a next) f = (omega arith, omega arith)
trace_leads s at (request page times next) f = (f.onward, f.inside)
trace_leads s at (bundle t n from next) f = absurd f
trace_leads s at (fetch t page next) f = absurd f

pub trace_goes : (s : List ℕ) (at : ℕ) → Goes (length s) at (read_trace s at)
trace_goes s at = trace_leads s at (read_trace s at) (trace_facts s at)

pub requests_step : (s : List ℕ) (at : ℕ)
    → requests_from s at ≡ onward (pages_in (read_trace s at)) (read_trace s at) (requests_from s)
unfolding requests_from
requests_step s at = walk_step (read_trace s) pages_in (length s) (trace_goes s) at

module _ (s : List ℕ) (at : ℕ) where
  follow : (x : Answer) → read_trace s at ≡ x → requests_from s at ≡ onward (pages_in x) x (requests_from s)
  follow x e = requests_step s at ∙ ap (λ (y : Answer). onward (pages_in y) y (requests_from s)) e

  pub requests_refused : (n : ℕ) → read_trace s at ≡ refused n → requests_from s at ≡ only n
  requests_refused n e = follow (refused n) e

  pub requests_ended : read_trace s at ≡ ended → requests_from s at ≡ only 0
  requests_ended e = follow ended e

  pub requests_sizes : (k a next : ℕ) → read_trace s at ≡ sizes k a next → requests_from s at ≡ requests_from s next
  requests_sizes k a next e = follow (sizes k a next) e

  pub requests_request : (page times next : ℕ) → read_trace s at ≡ request page times next
      → requests_from s at ≡ before (replicate times page) (requests_from s next)
  requests_request page times next e = follow (request page times next) e

-- ---- the schedule

schedule_leads : (bound : ℕ) (s : List ℕ) (at : ℕ) (x : Answer) → ScheduleFacts bound s at x → Goes (length s) at x
schedule_leads bound s at (refused n) f = tt
schedule_leads bound s at ended f = tt
schedule_leads bound s at (sizes k a next) f = (omega arith, omega arith)
schedule_leads bound s at (request page times next) f = absurd f
schedule_leads bound s at (bundle t n from next) f = (omega arith, omega arith)
schedule_leads bound s at (fetch t page next) f = (omega arith, omega arith)

pub schedule_goes : (bound : ℕ) (s : List ℕ) (at : ℕ) → Goes (length s) at (read_schedule bound s at)
schedule_goes bound s at = schedule_leads bound s at (read_schedule bound s at) (schedule_facts bound s at)

pub entries_step : (bound : ℕ) (s : List ℕ) (at : ℕ)
    → entries_from bound s at ≡ onward (entries_in s (read_schedule bound s at)) (read_schedule bound s at) (entries_from bound s)
unfolding entries_from
entries_step bound s at = walk_step (read_schedule bound s) (entries_in s) (length s) (schedule_goes bound s) at

module _ (bound : ℕ) (s : List ℕ) (at : ℕ) where
  follow_entries : (x : Answer) → read_schedule bound s at ≡ x → entries_from bound s at ≡ onward (entries_in s x) x (entries_from bound s)
  follow_entries x e = entries_step bound s at ∙ ap (λ (y : Answer). onward (entries_in s y) y (entries_from bound s)) e

  pub entries_refused : (n : ℕ) → read_schedule bound s at ≡ refused n → entries_from bound s at ≡ only n
  entries_refused n e = follow_entries (refused n) e

  pub entries_ended : read_schedule bound s at ≡ ended → entries_from bound s at ≡ only 0
  entries_ended e = follow_entries ended e

  pub entries_sizes : (k a next : ℕ) → read_schedule bound s at ≡ sizes k a next → entries_from bound s at ≡ entries_from bound s next
  entries_sizes k a next e = follow_entries (sizes k a next) e

  pub entries_bundle : (t n from next : ℕ) → read_schedule bound s at ≡ bundle t n from next
      → entries_from bound s at ≡ before (ev t (nums32 n (drop from s)) ∷ []) (entries_from bound s next)
  entries_bundle t n from next e = follow_entries (bundle t n from next) e

  pub entries_fetch : (t page next : ℕ) → read_schedule bound s at ≡ fetch t page next
      → entries_from bound s at ≡ before (pf t page ∷ []) (entries_from bound s next)
  entries_fetch t page next e = follow_entries (fetch t page next) e
