-- The loop that puts a file's requests into a list of as many places: so many are filled, and what is not put yet is what is left.
use Prim.Native.Nat.{ℕ, ◌+◌, ◌<◌}
use native.Mathlib.Omega.{arith}
use mathlib.Core.List.{List, ◌++◌}
use mathlib.Core.Path.{◌≡◌, sym, ap}
use lib.ListN.{length, take}
use Rattle.reading.specs.Files.{File, requests_from}
use Rattle.cursor.specs.Cursor.{requests_left}
use Rattle.cursor.specs.declared.Rest.{Rest}
use Rattle.cursor.proofs.Laws.{rest, at_a_record}

pub record Listing (file pages : List ℕ) (left : Rest) (i : ℕ) : Type 0 where
  pub started : 0 < left.from
  pub size : i + length (requests_left file left).held ≡ length pages
  pub filled : (requests_from file 6).held ≡ take i pages ++ (requests_left file left).held

pub listing_first : (file pages : List ℕ) → length pages ≡ length (requests_from file 6).held → Listing file pages (rest 0 0 6) 0
listing_first file pages e =
    let w = at_a_record file (rest 0 0 6) (omega arith) in
    let size = ap (λ (f : File ℕ). length f.held) w in
    record { started = omega arith; size = omega arith; filled = sym (ap (λ (f : File ℕ). f.held) w) }
