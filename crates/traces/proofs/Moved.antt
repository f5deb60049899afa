-- Behind the KA only the bytes from an offset on matter: where they are the same, at whatever offsets and behind whatever bytes, the requests are the same.
use Prim.Native.Nat.{ℕ, zero, suc, ◌+◌, ◌-◌, ◌≤◌, ◌<◌}
use native.Mathlib.Omega.{arith}
use mathlib.Core.List.{List}
use mathlib.Core.Path.{◌≡◌, refl, sym, ap, ◌∙◌}
use lib.Dec.{eqb, ltb}
use lib.ListN.{length, drop, replicate, length-drop}
use lib.Seq.{drop-drop}
use borrow.Author.Tests.{le-ltb, eq-eqb, ne_eqb}
use Rattle.lists.proofs.Choice.{cases, tests}
use Rattle.wire.specs.Numbers.{num16}
use Rattle.records.specs.Marks.{Mark, KA, RQ, RR, EV, PF, bad, mark_at}
use Rattle.reading.specs.Files.{before, onward, pages_in, requests_from}
use Rattle.reading.specs.Reading.{Answer, refused, ended, sizes, request, bundle, fetch, rq_read, rr_read, request_read, read_trace}
use Rattle.reading.proofs.Facts.{TraceFacts, trace_facts}
use Rattle.reading.proofs.Walk.{requests_step}

-- an answer at one offset as it is at another
abbrev moved : (at at' : ℕ) → Answer → Answer
moved at at' (refused n) = refused n
moved at at' ended = ended
moved at at' (sizes k a next) = sizes k a next
moved at at' (request page times next) = request page times (at' + (next - at))
moved at at' (bundle t n from next) = bundle t n from next
moved at at' (fetch t page next) = fetch t page next

module _ (at at' : ℕ) where
  further : (n : ℕ) → at' + (at + n - at) ≡ at' + n
  further n = omega arith

  request_moved : (m : Mark) (b : List ℕ) → request_read m b at' ≡ moved at at' (request_read m b at)
  unfolding request_read rq_read rr_read
  request_moved RQ b = cases (ltb (length b) 6) (λ c. rw c) (λ c. rw (c, further 6))
  request_moved RR b = cases (ltb (length b) 8) (λ c. rw c) (λ c. cases (eqb (num16 (drop 6 b)) 0) (λ z. rw (c, z)) (λ z. rw (c, z, further 8)))
  request_moved KA b = refl
  request_moved EV b = refl
  request_moved PF b = refl
  request_moved (bad n) b = refl

  module _ (s s' : List ℕ) (z : 0 < at) (z' : 0 < at') (h : at ≤ length s) (h' : at' ≤ length s') (e : drop at s ≡ drop at' s') where
    left : length s - at ≡ length s' - at'
    left = sym (length-drop at s) ∙ ap length e ∙ length-drop at' s'

    read_moved : read_trace s' at' ≡ moved at at' (read_trace s at)
    unfolding read_trace
    read_moved =
        let l = left in
        rw (le-ltb (length s) at h, le-ltb (length s') at' h', ne_eqb at 0 (λ q. omega arith), ne_eqb at' 0 (λ q. omega arith), ← e)
        (cases (eqb at (length s))
        (λ c. let same : at' ≡ length s' = omega tests in rw (c, eq-eqb at' (length s') same))
        (λ c. let apart : at' ≡ length s' → ⊥ = λ q. omega tests in rw (c, ne_eqb at' (length s') apart) (request_moved (mark_at (drop at s)) (drop at s))))

module _ (s s' : List ℕ) where
  -- one record: the requests behind it are the same by `again`
  on : (at at' : ℕ) → 0 < at → 0 < at' → at ≤ length s → at' ≤ length s' → drop at s ≡ drop at' s'
      → ((next next' : ℕ) → at < next → 0 < next' → next ≤ length s → next' ≤ length s' → drop next s ≡ drop next' s'
      → requests_from s next ≡ requests_from s' next')
      → (x : Answer) → TraceFacts s at x → onward (pages_in x) x (requests_from s) ≡ onward (pages_in (moved at at' x)) (moved at at' x) (requests_from s')
  on at at' z z' h h' e again (refused m) f = refl
  on at at' z z' h h' e again ended f = refl
  on at at' z z' h h' e again (sizes k a next) f = absurd (omega (arith, f.start))
  on at at' z z' h h' e again (request page times next) f =
      let o = f.onward in
      let i = f.inside in
      let w = left at at' s s' z z' h h' e in
      let back : at + (next - at) ≡ next = omega arith in
      let rest : drop next s ≡ drop (at' + (next - at)) s'
      = ap (λ (m : ℕ). drop m s) (sym back) ∙ sym (drop-drop (next - at) at s) ∙ ap (drop (next - at)) e ∙ drop-drop (next - at) at' s' in
      ap (before (replicate times page)) (again next (at' + (next - at)) o (omega arith) i (omega arith) rest)
  on at at' z z' h h' e again (bundle t m from next) f = absurd f
  on at at' z z' h h' e again (fetch t page next) f = absurd f

  -- n is above what is left
  same_requests : (n at at' : ℕ) → 0 < at → 0 < at' → at ≤ length s → at' ≤ length s' → drop at s ≡ drop at' s' → length s - at < n
      → requests_from s at ≡ requests_from s' at'
  same_requests zero at at' z z' h h' e l = absurd (omega arith)
  same_requests (suc n) at at' z z' h h' e l =
      requests_step s at
      ∙ on at at' z z' h h' e (λ next next' o y i i' w. same_requests n next next' (omega arith) y i i' w (omega arith)) (read_trace s at) (trace_facts s at)
      ∙ sym (requests_step s' at' ∙ ap (λ (x : Answer). onward (pages_in x) x (requests_from s')) (read_moved at at' s s' z z' h h' e))

  pub moved_requests : (at at' : ℕ) → 0 < at → 0 < at' → at ≤ length s → at' ≤ length s' → drop at s ≡ drop at' s' → requests_from s at ≡ requests_from s' at'
  moved_requests at at' z z' h h' e = same_requests (suc (length s - at)) at at' z z' h h' e (omega arith)
