-- How many bytes a reader put at the start of lent ones, whether or not a read failed behind them.
use Rattle.std.specs.Prelude.{ℕ, Result, Ok, Err}
use Rattle.streams.specs.declared.Stopped.{Stopped}
use Rattle.streams.specs.declared.Unreadable.{Unreadable}

abbrev pub bytes_read : Result ℕ Unreadable → ℕ
bytes_read (Ok bytes) = bytes
bytes_read (Err unreadable) = unreadable.bytes

abbrev pub bytes_filled : Result ℕ Stopped → ℕ
bytes_filled (Ok bytes) = bytes
bytes_filled (Err stopped) = stopped.bytes
