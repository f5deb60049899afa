-- Where a table by pages has the entry of a page.
use Rattle.std.specs.Prelude.{ℕ, ◌*◌, ◌/◌}
use Rattle.std.specs.Int.Bits.{bit_and}

unfoldable pub slot_of : (mask page : ℕ) → ℕ
slot_of mask page = bit_and (page * 2654435761 / 65536) mask
