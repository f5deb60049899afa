-- A program sees the first bytes of its input alone. They suffice: every record has at least one request and at most 8 bytes, so where they hold a KA and
-- one record of 8 bytes more than requests are taken, nothing behind them changes what is read.
use Prim.Native.Nat.{ℕ, zero, suc, ◌+◌, ◌*◌, ◌≤◌, ◌<◌}
use native.Mathlib.Omega.{arith}
use mathlib.Core.List.{List, ◌++◌}
use mathlib.Core.Logic.{◌⊎◌, inl, inr}
use mathlib.Core.Path.{◌≡◌, refl, sym, ap, ◌∙◌}
use lib.ListN.{length, replicate, length-append, length-replicate}
use Rattle.reading.specs.Files.{File, before, requests_from}
use Rattle.reading.specs.Reading.{Answer, refused, ended, sizes, request, bundle, fetch, read_trace}
use Rattle.reading.proofs.Facts.{trace_says}
use Rattle.reading.proofs.Walk.{requests_refused, requests_request}
use Rattle.traces.specs.Traces.{with_requests, from_start, trace_file}
use Rattle.traces.proofs.More.{first_same, record_same}
use Rattle.traces.proofs.Whole.{past_the_limit}

module _ (s u : List ℕ) where
  -- from an offset on, with the bytes u behind and without: both hold so many requests, or they hold the same
  abbrev Alike : ℕ → File ℕ → File ℕ → Type 0
  Alike many f g = ((many ≤ length f.held) × (many ≤ length g.held)) ⊎ (f ≡ g)

  -- a run in front
  run_alike : (many page times : ℕ) (f g : File ℕ) → 0 < times → Alike many f g → Alike (suc many) (before (replicate times page) f) (before (replicate times page) g)
  run_alike many page times f g some (inl h) =
      let p = h.0 in
      let q = h.1 in
      inl (simp (length-append, length-replicate) (omega arith), simp (length-append, length-replicate) (omega arith))
  run_alike many page times f g some (inr e) = inr (ap (before (replicate times page)) e)

  record_alike : (many at : ℕ) → read_trace (s ++ u) at ≡ read_trace s at → 0 < at → at < length s
      → ((next : ℕ) → at < next → next ≤ at + 8 → next ≤ length s → Alike many (requests_from (s ++ u) next) (requests_from s next))
      → (v : Answer) → read_trace s at ≡ v → Alike (suc many) (requests_from (s ++ u) at) (requests_from s at)
  record_alike many at same z h again (refused n) e = inr (requests_refused (s ++ u) at n (same ∙ e) ∙ sym (requests_refused s at n e))
  record_alike many at same z h again ended e = let f = trace_says s at ended e in absurd (omega (arith, f.last))
  record_alike many at same z h again (sizes k a next) e = let f = trace_says s at (sizes k a next) e in absurd (omega (arith, f.start))
  record_alike many at same z h again (request page times next) e =
      let f = trace_says s at (request page times next) e in
      rw (requests_request s at page times next e, requests_request (s ++ u) at page times next (same ∙ e))
      (run_alike many page times _ _ f.some (again next f.onward f.near f.inside))
  record_alike many at same z h again (bundle t n from next) e = absurd (trace_says s at (bundle t n from next) e)
  record_alike many at same z h again (fetch t page next) e = absurd (trace_says s at (fetch t page next) e)

  alike : (many at : ℕ) → 0 < at → at + 8 * many ≤ length s → Alike many (requests_from (s ++ u) at) (requests_from s at)
  alike zero at z h = inl (omega arith, omega arith)
  alike (suc many) at z h = whole (record_same s u at z (omega arith)) (λ next o n i. alike many next (omega arith) (omega arith))
    where
      whole : (read_trace (s ++ u) at ≡ read_trace s at) ⊎ ((read_trace s at ≡ refused 5) × (length s < at + 8))
          → ((next : ℕ) → at < next → next ≤ at + 8 → next ≤ length s → Alike many (requests_from (s ++ u) next) (requests_from s next))
          → Alike (suc many) (requests_from (s ++ u) at) (requests_from s at)
      whole (inl same) again = record_alike many at same z (omega arith) again (read_trace s at) refl
      whole (inr c) again = let cut = c.1 in absurd (omega arith)

  -- as many as are taken, and one more
  with_requests_lem : (limit k a : ℕ) (f g : File ℕ) → Alike (suc limit) f g → with_requests limit k a f ≡ with_requests limit k a g
  with_requests_lem limit k a f g (inl h) =
      let p = h.0 in
      let q = h.1 in
      rw (past_the_limit limit f (omega arith), past_the_limit limit g (omega arith)) refl
  with_requests_lem limit k a f g (inr e) = ap (with_requests limit k a) e

  module _ (limit : ℕ) (h : 6 + 8 * suc limit ≤ length s) where
    by_start : (v : Answer) → read_trace s 0 ≡ v → from_start limit (s ++ u) v ≡ from_start limit s v
    by_start (sizes k a next) e =
        let six = (trace_says s 0 (sizes k a next) e).behind in
        rw six (with_requests_lem limit k a _ _ (alike (suc limit) 6 (omega arith) h))
    by_start (refused n) e = refl
    by_start ended e = refl
    by_start (request page times next) e = refl
    by_start (bundle t n from next) e = refl
    by_start (fetch t page next) e = refl

    pub nothing_behind_counts : trace_file limit (s ++ u) ≡ trace_file limit s
    unfolding trace_file
    nothing_behind_counts = whole (first_same s u)
      where
        whole : (read_trace (s ++ u) 0 ≡ read_trace s 0) ⊎ ((read_trace s 0 ≡ refused 5) × (length s < 6))
            → from_start limit (s ++ u) (read_trace (s ++ u) 0) ≡ from_start limit s (read_trace s 0)
        whole (inl same) = rw same (by_start (read_trace s 0) refl)
        whole (inr c) = let cut = c.1 in absurd (omega arith)
