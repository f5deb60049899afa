-- Numbers of a file in bytes (document 01): the lowest byte comes first. A byte string is a list of numbers.
use Rattle.std.specs.Prelude.{ℕ, zero, suc, ◌+◌, ◌*◌, ◌/◌, ◌%◌, ◌<◌, List, [], ◌∷◌, ◌++◌, length, get_or, take, drop}

-- a byte string is one of bytes: each is below 256 (past its end `get_or` gives 0)
abbrev pub Bytes : List ℕ → Type 0
Bytes b = (i : ℕ) → get_or b i 0 < 256

-- the bytes of a 16-bit and of a 32-bit number. There is no `% 256` at the highest byte: a number of that width leaves less than 256
abbrev pub bytes16 : ℕ → List ℕ
bytes16 x = x % 256 ∷ x / 256 ∷ []

abbrev pub bytes32 : ℕ → List ℕ
bytes32 x = x % 256 ∷ x / 256 % 256 ∷ x / 65536 % 256 ∷ x / 16777216 ∷ []

-- the number at the start of some bytes
abbrev pub num16 : List ℕ → ℕ
num16 b = get_or b 0 0 + 256 * get_or b 1 0

abbrev pub num32 : List ℕ → ℕ
num32 b = get_or b 0 0 + 256 * get_or b 1 0 + 65536 * get_or b 2 0 + 16777216 * get_or b 3 0

-- 32-bit numbers one behind the other: their bytes, and the first n of them at the start of some bytes
abbrev pub all_bytes32 : List ℕ → List ℕ
all_bytes32 [] = []
all_bytes32 (x ∷ xs) = bytes32 x ++ all_bytes32 xs

abbrev pub nums32 : ℕ → List ℕ → List ℕ
nums32 zero b = []
nums32 (suc n) b = num32 b ∷ nums32 n (drop 4 b)

-- some bytes stored into others from an offset on: what stands before and behind them is as it was
abbrev pub placed : List ℕ → ℕ → List ℕ → List ℕ
placed s at b = take at s ++ b ++ drop (at + length b) s
