-- Bytes put behind others: a record that is whole in the first ones reads the same. Where it does not, the first ones end inside it.
use Prim.Native.Nat.{ℕ, ◌+◌, ◌≤◌, ◌<◌}
use native.Mathlib.Omega.{arith}
use mathlib.Core.List.{List, ◌++◌}
use mathlib.Core.Logic.{◌⊎◌, inl, inr}
use mathlib.Core.Path.{◌≡◌, refl, sym, ◌∙◌}
use lib.Dec.{ltb}
use lib.ListN.{length, drop, length-append, length-drop, get_or-append}
use lib.Seq.{drop-append-le}
use borrow.Author.Tests.{le-ltb, lt-ltb, ne_eqb}
use Rattle.lists.proofs.Choice.{cases, split, tests}
use Rattle.wire.specs.Numbers.{num16, num32}
use Rattle.records.specs.Marks.{Mark, KA, RQ, RR, EV, PF, bad, mark_at}
use Rattle.reading.specs.Reading.{Answer, refused, ka_read, rq_read, rr_read, request_read, read_trace}

module _ (b u : List ℕ) where
  num16_same : (i : ℕ) → i + 2 ≤ length b → num16 (drop i (b ++ u)) ≡ num16 (drop i b)
  num16_same i h =
      let l = length-drop i b in
      rw (drop-append-le i b u (omega arith), get_or-append (drop i b) u 0 0 (omega arith), get_or-append (drop i b) u 0 1 (omega arith))

  num32_same : (i : ℕ) → i + 4 ≤ length b → num32 (drop i (b ++ u)) ≡ num32 (drop i b)
  num32_same i h =
      let l = length-drop i b in
      rw (
        drop-append-le i b u (omega arith),
        get_or-append (drop i b) u 0 0 (omega arith),
        get_or-append (drop i b) u 0 1 (omega arith),
        get_or-append (drop i b) u 0 2 (omega arith),
        get_or-append (drop i b) u 0 3 (omega arith),
      )

  longer : (n : ℕ) → n ≤ length b → ltb (length (b ++ u)) n ≡ ltb (length b) n
  longer n h = let l = length-append b u in le-ltb (length (b ++ u)) n (omega arith) ∙ sym (le-ltb (length b) n h)

  mark_same : 2 ≤ length b → mark_at (b ++ u) ≡ mark_at b
  unfolding mark_at
  mark_same h = rw (longer 2 h, num16_same 0 h)

  -- the two answers, with the bytes and without; or the first bytes end inside the record
  abbrev Same : (size : ℕ) → (with without : Answer) → Type 0
  Same size with without = (with ≡ without) ⊎ ((without ≡ refused 5) × (length b < size))

  cut_mark : length b < 2 → mark_at b ≡ bad 5
  unfolding mark_at
  cut_mark h = rw (lt-ltb (length b) 2 h)

  -- ---- KA

  ka_same : (m : Mark) → Same 6 (ka_read m (b ++ u)) (ka_read m b)
  unfolding ka_read
  ka_same KA =
      cases (ltb (length b) 6)
      (λ c. inr (rw c, omega tests))
      (λ c. inl (rw (longer 6 (omega tests), num16_same 2 (omega tests), num16_same 4 (omega tests))))
  ka_same RQ = inl refl
  ka_same RR = inl refl
  ka_same EV = inl refl
  ka_same PF = inl refl
  ka_same (bad n) = inl refl

  start_same : Same 6 (ka_read (mark_at (b ++ u)) (b ++ u)) (ka_read (mark_at b) b)
  unfolding ka_read
  start_same =
      cases (ltb (length b) 2)
      (λ c. inr (rw (cut_mark (omega tests)), omega tests))
      (λ c. rw (mark_same (omega tests)) (ka_same (mark_at b)))

  -- ---- RQ and RR

  request_same : (at : ℕ) (m : Mark) → Same 8 (request_read m (b ++ u) at) (request_read m b at)
  unfolding request_read rq_read rr_read
  request_same at RQ =
      cases (ltb (length b) 6)
      (λ c. inr (rw c, omega tests))
      (λ c. inl (rw (longer 6 (omega tests), num32_same 2 (omega tests))))
  request_same at RR =
      cases (ltb (length b) 8)
      (λ c. inr (rw c, omega tests))
      (λ c. inl (rw (longer 8 (omega tests), num32_same 2 (omega tests), num16_same 6 (omega tests))))
  request_same at KA = inl refl
  request_same at EV = inl refl
  request_same at PF = inl refl
  request_same at (bad n) = inl refl

  behind_same : (at : ℕ) → Same 8 (request_read (mark_at (b ++ u)) (b ++ u) at) (request_read (mark_at b) b at)
  unfolding request_read
  behind_same at =
      cases (ltb (length b) 2)
      (λ c. inr (rw (cut_mark (omega tests)), omega tests))
      (λ c. rw (mark_same (omega tests)) (request_same at (mark_at b)))

-- ---- the reader

module _ (s u : List ℕ) where
  pub first_same : (read_trace (s ++ u) 0 ≡ read_trace s 0) ⊎ ((read_trace s 0 ≡ refused 5) × (length s < 6))
  unfolding read_trace
  first_same = rw (le-ltb (length (s ++ u)) 0 (omega arith), le-ltb (length s) 0 (omega arith)) (start_same s u)

  pub record_same : (at : ℕ) → 0 < at → at < length s → (read_trace (s ++ u) at ≡ read_trace s at) ⊎ ((read_trace s at ≡ refused 5) × (length s < at + 8))
  unfolding read_trace
  record_same at some h =
      let l = length-append s u in
      let d = length-drop at s in
      rw (
        le-ltb (length (s ++ u)) at (omega arith),
        le-ltb (length s) at (omega arith),
        ne_eqb at 0 (λ e. omega arith),
        ne_eqb at (length (s ++ u)) (λ e. omega arith),
        ne_eqb at (length s) (λ e. omega arith),
        drop-append-le at s u (omega arith),
      )
      (split (behind_same (drop at s) u at) (λ e. inl e) (λ e. let c = e.1 in inr (e.0, omega arith)))
