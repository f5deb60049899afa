-- The calls, for either edition: the input's own refusals, then 8, else the KA and the records behind it are written.
use Prim.Native.Nat.{ℕ, ◌+◌, ◌*◌, ◌≤◌, ◌<◌}
use native.Mathlib.Nat.{zero-add}
use native.Mathlib.Omega.{arith}
use mathlib.Core.Bool.{true, false}
use mathlib.Core.List.{List, [], ◌++◌}
use mathlib.Core.Path.{◌≡◌, refl, sym, ap, ◌∙◌}
use lib.Dec.{ltb}
use lib.ListN.{length, drop, length-append}
use borrow.Author.Tests.{le-ltb, lt-ltb, ltb-false}
use Rattle.wire.specs.Numbers.{placed}
use Rattle.wire.proofs.Numbers.{length_placed, placed_join}
use Rattle.records.specs.Bytes.{ka_bytes}
use Rattle.records.specs.Marks.{mark_at}
use Rattle.records.specs.Writing.{put_bytes}
use Rattle.reading.specs.Files.{File, requests_from}
use Rattle.reading.specs.Reading.{refused, sizes, ka_read}
use Rattle.traces.specs.Calls.{count_of}
use Rattle.traces.specs.Traces.{damaged, trace_file}
use Rattle.traces.specs.inner.Counting.{counted_in}
use Rattle.traces.proofs.CallLaws.{starts_damaged, starts_barred, starts_whole, CountedWhole, count_whole, all_there}
use Rattle.editions.specs.Calls.{Edition, ConvertedAnswer, refused_with, converted_of, bytes_after}
use Rattle.editions.specs.Editions.{old_bytes, new_bytes}
use Rattle.editions.specs.inner.Measuring.{MeasuredAnswer, measured_in}
use Rattle.editions.specs.inner.Turning.{old_behind, new_behind}
use Rattle.editions.proofs.Lengths.{old_size}

-- ---- an edition is a KA and what stands behind it

abbrev pub Shape : Edition → (List ℕ → List ℕ) → Type 0
Shape edition behind = (k a : ℕ) (pages : List ℕ) → edition k a pages ≡ ka_bytes k a ++ behind pages

pub old_shape : Shape old_bytes old_behind
unfolding old_bytes
old_shape k a pages = refl

pub new_shape : Shape new_bytes new_behind
unfolding new_bytes
new_shape k a pages = refl

-- ---- 8, as the code judges it

pub short_by : (room size whole : ℕ) → size ≡ whole → room < size → ltb room whole ≡ true
short_by room size whole e h = rw (← e) (lt-ltb room size h)

pub enough_by : (room size whole : ℕ) → size ≡ whole → size ≤ room → ltb room whole ≡ false
enough_by room size whole e h = rw (← e) (le-ltb room size h)

-- the old edition's length is that of so many RQs
pub old_length_is : (pages : List ℕ) (n size : ℕ) → n ≡ length pages → size ≡ 6 + 6 * n → size ≡ 6 + length (old_behind pages)
old_length_is pages n size e is = let l = old_size pages in omega arith

-- ---- one call

-- the answer and the lent bytes as promised
abbrev Turned : Edition → (most : ℕ) → (input out : List ℕ) → ConvertedAnswer → (after : List ℕ) → Type 0
Turned edition most input out r after = (r ≡ converted_of edition (trace_file most input) out) × (after ≡ bytes_after edition (trace_file most input) out)

-- a file that is refused
turned_damaged : (edition : Edition) (most : ℕ) (input out : List ℕ) (number : ℕ) → damaged number ≡ trace_file most input
    → Turned edition most input out (refused_with number) out
turned_damaged edition most input out number e = rw (← e) (refl, refl)

-- what a call knows once its input is counted: the sizes, and how many requests there are
pub record Told (edition : Edition) (behind : List ℕ → List ℕ) (most : ℕ) (input : List ℕ) (k a n : ℕ) : Type 0 where
  pub shape : Shape edition behind
  pub count : record { refusal = 0; k = k; a = a; requests = n } ≡ count_of (trace_file most input)

pub old_told : (most : ℕ) (input : List ℕ) (k a n : ℕ) → record { refusal = 0; k = k; a = a; requests = n } ≡ count_of (trace_file most input)
    → Told old_bytes old_behind most input k a n
old_told most input k a n e = record { shape = old_shape; count = e }

-- the new edition is measured while its input is counted
module _ (most : ℕ) (input out : List ℕ) where
  -- what stands at the start is no KA
  pub new_starts_damaged : (number : ℕ) → refused number ≡ ka_read (mark_at input) input → Turned new_bytes most input out (refused_with number) out
  new_starts_damaged number e = turned_damaged new_bytes most input out number (starts_damaged most input number e)

  module _ (k a : ℕ) (ka : sizes k a 6 ≡ ka_read (mark_at input) input) where
    counted_of : (number n size : ℕ) → record { refusal = number; requests = n; length = size } ≡ measured_in most (requests_from input 6)
        → record { refusal = number; requests = n } ≡ counted_in most (requests_from input 6)
    counted_of number n size e = ap (λ (x : MeasuredAnswer). record { refusal = x.refusal; requests = x.requests }) e

    pub new_barred : (number : ℕ) → record { refusal = number; requests = 0; length = 0 } ≡ measured_in most (requests_from input 6) → (number ≡ 0 → ⊥)
        → Turned new_bytes most input out (refused_with number) out
    new_barred number e h = turned_damaged new_bytes most input out number (starts_barred most input k a ka _ (counted_of number 0 0 e) h)

    module _ (n size : ℕ) (e : record { refusal = 0; requests = n; length = size } ≡ measured_in most (requests_from input 6)) where
      pub new_told : Told new_bytes new_behind most input k a n
      new_told = record { shape = new_shape; count = starts_whole most input k a ka _ (counted_of 0 n size e) refl }

      pub new_length_is : size ≡ 6 + length (new_behind (requests_from input 6).held)
      new_length_is =
          let none = sym (ap (λ (x : MeasuredAnswer). x.refusal) e) in
          ap (λ (x : MeasuredAnswer). x.length) e ∙ rw none

module _ {edition : Edition} {behind : List ℕ → List ℕ} {most : ℕ} {input : List ℕ} {k a n : ℕ} (t : Told edition behind most input k a n) where
  counted : CountedWhole most input (record { refusal = 0; k = k; a = a; requests = n })
  counted = count_whole most input _ t.count refl

  pub sizes_small : (k ≤ 256) × (a ≤ 256)
  sizes_small =
      let right = counted.trace.right in
      let k_high = right.k_high in
      let a_high = right.a_high in
      (omega arith, omega arith)

  pub requests_are : (n ≡ length (requests_from input 6).held) × (n ≤ most)
  requests_are = all_there most input [] _ t.count refl

  held : (requests_from input 6).held ≡ counted.pages
  held = ap (λ (y : File ℕ). y.held) counted.trace.read

  bytes_are : edition k a counted.pages ≡ ka_bytes k a ++ behind (requests_from input 6).held
  bytes_are = t.shape k a counted.pages ∙ ap (λ (pages : List ℕ). ka_bytes k a ++ behind pages) (sym held)

  length_is : length (edition k a counted.pages) ≡ 6 + length (behind (requests_from input 6).held)
  length_is = ap length bytes_are ∙ length-append (ka_bytes k a) (behind (requests_from input 6).held)

  module _ (out : List ℕ) where
    pub turned_short : ltb (length out) (6 + length (behind (requests_from input 6).held)) ≡ true → Turned edition most input out (refused_with 8) out
    turned_short short = rw (counted.is, length_is, short) (refl, refl)

    module _ (room : ltb (length out) (6 + length (behind (requests_from input 6).held)) ≡ false) where
      enough : 6 + length (behind (requests_from input 6).held) ≤ length out
      enough = ltb-false (length out) _ room

      module _ (first : List ℕ) (ka : first ≡ put_bytes false (ka_bytes k a) out) where
        ka_placed : first ≡ placed out 0 (ka_bytes k a)
        ka_placed = let h = enough in ka ∙ simp (le-ltb (length out) 6 (omega arith))

        pub behind_fits : 6 + length (behind (requests_from input 6).held) ≤ length first
        behind_fits =
            let h = enough in
            let l = ap length ka_placed ∙ length_placed out 0 (ka_bytes k a) (omega arith) in
            omega arith

        pub turned_whole : (size : ℕ) (after : List ℕ) → size ≡ 6 + length (behind (requests_from input 6).held)
            → after ≡ placed first 6 (behind (requests_from input 6).held) → Turned edition most input out (record { refusal = 0; length = size }) after
        turned_whole size after is put =
            let h = enough in
            let b = ka_bytes k a in
            let d = behind (requests_from input 6).held in
            let j : placed (placed out 0 b) 6 d ≡ placed out 0 (b ++ d) = placed_join out 0 b d (omega arith) in
            let z : placed out 0 (b ++ d) ≡ (b ++ d) ++ drop (length (b ++ d)) out = ap (λ (m : ℕ). (b ++ d) ++ drop m out) (zero-add (length (b ++ d))) in
            rw (counted.is, length_is, room) (
              ap (λ (m : ℕ). record { refusal = 0; length = m }) is,
              put ∙ ap (λ (l : List ℕ). placed l 6 d) ka_placed ∙ j ∙ z ∙ rw bytes_are (ap (λ (m : ℕ). (b ++ d) ++ drop m out) (length-append b d)),
            )
