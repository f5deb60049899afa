-- A text from one of its places on, up to its end.
use Rattle.std.specs.Prelude.{ℕ, ◌-◌, ◌≤◌, ◌≡◌, List, length, drop}

pub record IsRest (behind text : List ℕ) : Type 0 where
  pub within : length behind ≤ length text
  pub to_end : behind ≡ drop (length text - length behind) text
