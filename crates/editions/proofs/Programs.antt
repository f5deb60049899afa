-- The programs' calls: the bytes that a program reads of its input are enough, and so is the room that it lends for the output.
use Prim.Native.Nat.{ℕ, ◌+◌, ◌*◌, ◌≤◌}
use native.Mathlib.Omega.{arith}
use mathlib.Core.List.{List}
use mathlib.Core.Path.{◌≡◌, refl, sym, ap, ◌∙◌}
use lib.Dec.{ltb}
use lib.ListN.{length, drop, length-append}
use lib.Seq.{length-take-le}
use borrow.Author.Tests.{le-ltb}
use Rattle.lists.proofs.Choice.{cases}
use Rattle.traces.specs.Traces.{TraceFile, whole, damaged, trace_file}
use Rattle.traces.proofs.Prefix.{nothing_behind_counts}
use Rattle.traces.proofs.Whole.{file_says}
use Rattle.editions.specs.Calls.{Edition, ConvertedAnswer, converted_of, bytes_after, program_requests, file_refusal, ReadEnough, RoomEnough, OutputInside}
use Rattle.editions.specs.Editions.{old_bytes, new_bytes}
use Rattle.editions.proofs.Lengths.{old_length, new_never_longer}

-- not longer than one RQ a request
abbrev Short : Edition → Type 0
Short edition = (k a : ℕ) (pages : List ℕ) → length (edition k a pages) ≤ 6 + 6 * length pages

pub old_is_short : Short old_bytes
old_is_short k a pages = let l = old_length k a pages in omega arith

pub new_is_short : Short new_bytes
new_is_short k a pages =
    let l = old_length k a pages in
    let n = new_never_longer k a pages in
    omega arith

module _ (edition : Edition) (short : Short edition) (input out after : List ℕ) (r : ConvertedAnswer)
    (e : (r ≡ converted_of edition (trace_file program_requests input) out) × (after ≡ bytes_after edition (trace_file program_requests input) out)) where
  read_enough : ReadEnough 32782 edition input out after r
  read_enough h more =
      let same = sym (nothing_behind_counts input more program_requests (omega arith)) in
      (e.0 ∙ ap (λ (x : TraceFile). converted_of edition x out) same, e.1 ∙ ap (λ (x : TraceFile). bytes_after edition x out) same)

  fits : (x : TraceFile) → trace_file program_requests input ≡ x → 24582 ≤ length out → (converted_of edition x out).refusal ≡ file_refusal x
  fits (damaged number) w h = refl
  fits (whole k a pages) w h =
      let few = (file_says program_requests input (whole k a pages) w).few in
      let l = short k a pages in
      rw (le-ltb (length out) (length (edition k a pages)) (omega arith))

  room_enough : RoomEnough 24582 input out r
  room_enough h = ap (λ (x : ConvertedAnswer). x.refusal) e.0 ∙ fits (trace_file program_requests input) refl h

  inside : (x : TraceFile) → ((converted_of edition x out).length ≤ length (bytes_after edition x out))
  inside (damaged number) = omega arith
  inside (whole k a pages) =
      cases (ltb (length out) (length (edition k a pages)))
      (λ short. rw short (omega arith))
      (λ room. rw room (let l = length-append (edition k a pages) (drop (length (edition k a pages)) out) in omega arith))

  output_inside : OutputInside r after
  output_inside =
      let fits : r.length ≤ length after = rw (e.0, e.1) (inside (trace_file program_requests input)) in
      (fits, sym (length-take-le r.length after fits))

  pub program_promises : ((r ≡ converted_of edition (trace_file program_requests input) out) × (after ≡ bytes_after edition (trace_file program_requests input) out))
      × (ReadEnough 32782 edition input out after r × (RoomEnough 24582 input out r × OutputInside r after))
  program_promises = (e, (read_enough, (room_enough, output_inside)))
