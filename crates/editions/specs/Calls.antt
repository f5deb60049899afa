-- What the calls answer and leave in the lent bytes (document 02, request 08): by the input as it is read whole with a limit. The input's own refusals come
-- first, then 8 for the whole output.
use Rattle.std.specs.Prelude.{ℕ, ◌≤◌, List, ◌++◌, ◌≡◌, ltb, length, take, drop, Result, Ok, Err}
use Rattle.lists.specs.Choice.{pick}
use Rattle.paging.specs.Numbers.{number_of}
use Rattle.paging.specs.declared.reasons.Refusal.{Refusal}
use Rattle.traces.specs.Traces.{TraceFile, whole, damaged, trace_file}

-- the bytes of a trace in an edition: `old_bytes` or `new_bytes`
abbrev pub Edition : Type 0
Edition = (k a : ℕ) → (pages : List ℕ) → List ℕ

-- what a call answers: a refusal's number and 0, or 0 and the output's length
pub record ConvertedAnswer : Type 0 where
  pub refusal : ℕ
  pub length : ℕ

abbrev pub converted_answer : Result ℕ Refusal → ConvertedAnswer
converted_answer (Ok size) = record { refusal = 0; length = size }
converted_answer (Err reason) = record { refusal = number_of reason; length = 0 }

abbrev pub refused_with : (number : ℕ) → ConvertedAnswer
refused_with number = record { refusal = number; length = 0 }

-- a refusal's number and 0, or 0 and the output's length
abbrev pub converted_of : Edition → TraceFile → (out : List ℕ) → ConvertedAnswer
converted_of edition (damaged number) out = refused_with number
converted_of edition (whole k a pages) out =
    pick (ltb (length out) (length (edition k a pages))) (refused_with 8) (record { refusal = 0; length = length (edition k a pages) })

-- the lent bytes afterwards: the output, and behind it what stood there before; on a refusal every byte as it was
abbrev pub bytes_after : Edition → TraceFile → (out : List ℕ) → List ℕ
bytes_after edition (damaged number) out = out
bytes_after edition (whole k a pages) out =
    pick (ltb (length out) (length (edition k a pages))) out (edition k a pages ++ drop (length (edition k a pages)) out)

-- just the output, as a call leaves it at the start of the lent bytes
abbrev pub output : Edition → TraceFile → (out : List ℕ) → List ℕ
output edition file out = take (converted_of edition file out).length (bytes_after edition file out)

-- the library takes 65,536 requests, the programs 4,096
abbrev pub library_requests : ℕ
library_requests = 65536

abbrev pub program_requests : ℕ
program_requests = 4096

-- so many bytes of a program's input are enough: whatever follows them, the answer and the output are the same
abbrev pub ReadEnough : (bytes : ℕ) → Edition → (input out after : List ℕ) → ConvertedAnswer → Type 0
ReadEnough bytes edition input out after converted =
    bytes ≤ length input → (more : List ℕ)
    → (converted ≡ converted_of edition (trace_file program_requests (input ++ more)) out) × (after ≡ bytes_after edition (trace_file program_requests (input ++ more)) out)

-- the output lies inside the lent bytes. The second part follows from the first; both are stated so that a program can cut the output out of them
abbrev pub OutputInside : ConvertedAnswer → (after : List ℕ) → Type 0
OutputInside converted after = (converted.length ≤ length after) × (converted.length ≡ length (take converted.length after))

-- what the input itself is refused with, 0 if it is not
abbrev pub file_refusal : TraceFile → ℕ
file_refusal (whole k a pages) = 0
file_refusal (damaged number) = number

-- so many lent bytes are enough for every output: a program never refuses with 8
abbrev pub RoomEnough : (bytes : ℕ) → (input out : List ℕ) → ConvertedAnswer → Type 0
RoomEnough bytes input out converted = bytes ≤ length out → converted.refusal ≡ file_refusal (trace_file program_requests input)
