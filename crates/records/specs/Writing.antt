-- The writers (document 01, "Files"). Each stores its record into lent bytes and answers the offset behind it. It judges what is
-- wrong with the record itself first, 1 and 2 for a KA, 6 for an EV, 13 for an RR (document 02, request 03); then the offset, 9; then the room, 8.
use Rattle.std.specs.Prelude.{ℕ, zero, suc, ◌+◌, ◌-◌, Bool, List, Option, Some, None, eqb, ltb, length}
use Rattle.lists.specs.Choice.{pick, ◌or◌}
use Rattle.paging.specs.Refusals.{refuse, sizes_refusal, largest_k}
use Rattle.wire.specs.Numbers.{placed}
use Rattle.records.specs.Bytes.{ka_bytes, rq_bytes, rr_bytes, ev_bytes, pf_bytes}

-- what a writer answers: the offset behind the record, or a refusal's number
pub data Wrote : Type 0 where
  stored : (next : ℕ) → Wrote
  refused : (number : ℕ) → Wrote

-- the record's bytes b are to be stored into `out` from `at` on: 9, then 8
unfoldable pub room_refusal : List ℕ → List ℕ → ℕ → ℕ
room_refusal b out at = refuse (ltb (length out) at) 9 (refuse (ltb (length out - at) (length b)) 8 0)

-- an EV's n is 0 or above 256
unfoldable pub pages_refused : ℕ → Bool
pages_refused n = eqb n 0 or ltb largest_k n

unfoldable pub ka_refusal : ℕ → ℕ → List ℕ → ℕ → ℕ
ka_refusal k a out at = sizes_refusal k a (room_refusal (ka_bytes k a) out at)

unfoldable pub rq_refusal : ℕ → List ℕ → ℕ → ℕ
rq_refusal page out at = room_refusal (rq_bytes page) out at

-- a run of no request is 13, first of all
unfoldable pub rr_refusal : ℕ → ℕ → List ℕ → ℕ → ℕ
rr_refusal page times out at = refuse (eqb times 0) 13 (room_refusal (rr_bytes page times) out at)

unfoldable pub ev_refusal : ℕ → List ℕ → List ℕ → ℕ → ℕ
ev_refusal t pages out at = refuse (pages_refused (length pages)) 6 (room_refusal (ev_bytes t pages) out at)

unfoldable pub pf_refusal : ℕ → ℕ → List ℕ → ℕ → ℕ
pf_refusal t page out at = room_refusal (pf_bytes t page) out at

-- by the refusal's number: the answer, and the lent bytes afterwards. On a refusal no byte changes, and bytes outside the record never do
abbrev pub wrote : ℕ → List ℕ → ℕ → Wrote
wrote zero b at = stored (at + length b)
wrote (suc n) b at = refused (suc n)

abbrev pub out_after : ℕ → List ℕ → List ℕ → ℕ → List ℕ
out_after zero b out at = placed out at b
out_after (suc n) b out at = out

-- below the refusals: unless it is barred or too long, the record goes to the start of the rest of the lent bytes, and its length is
-- the number; else it is 0, and nothing changes
abbrev pub put_length : Bool → List ℕ → List ℕ → ℕ
put_length barred b rest = pick barred 0 (pick (ltb (length rest) (length b)) 0 (length b))

-- a length as it is answered: None where it is 0, so that nothing is written
abbrev pub some_length : ℕ → Option ℕ
some_length zero = None
some_length (suc n) = Some (suc n)

abbrev pub put_bytes : Bool → List ℕ → List ℕ → List ℕ
put_bytes barred b rest = pick barred rest (pick (ltb (length rest) (length b)) rest (placed rest 0 b))
