-- The two readers (document 01, "Files" and refusals 1, 2, 4, 5, 6, 9; document 02, request 03, RR and 13). `b` is the file from the record's offset on.
use Rattle.std.specs.Prelude.{ℕ, zero, suc, ◌+◌, Bool, List, eqb, ltb, length, drop}
use Rattle.lists.specs.Choice.{pick, ◌or◌}
use Rattle.paging.specs.Refusals.{sizes_refusal, largest_k}
use Rattle.wire.specs.Numbers.{num16, num32}
use Rattle.records.specs.Bytes.{ev_length}
use Rattle.records.specs.Marks.{Mark, KA, RQ, RR, EV, PF, bad, mark_at}

-- what a reader answers: a refusal's number, the end, or a record's values and the offset behind it. A request has a page and a count: how many
-- times in a row the page is requested. Of an EV the answer has the number of its pages and the offset of the first; the pages are a part of the file
pub data Answer : Type 0 where
  refused : (number : ℕ) → Answer
  ended : Answer
  sizes : (k a next : ℕ) → Answer
  request : (page times next : ℕ) → Answer
  bundle : (t n from next : ℕ) → Answer
  fetch : (t page next : ℕ) → Answer

-- the answer x, unless a refusal has a number
abbrev pub unless : ℕ → Answer → Answer
unless zero x = x
unless (suc n) x = refused (suc n)

-- KA is expected. A known mark out of place is 4, whole or cut; then 5, 1, 2. KA stands at offset 0 alone, so 6 is behind it
unfoldable pub ka_read : Mark → List ℕ → Answer
ka_read KA b =
    pick (ltb (length b) 6) (refused 5)
    (unless (sizes_refusal (num16 (drop 2 b)) (num16 (drop 4 b)) 0) (sizes (num16 (drop 2 b)) (num16 (drop 4 b)) 6))
ka_read RQ b = refused 4
ka_read RR b = refused 4
ka_read EV b = refused 4
ka_read PF b = refused 4
ka_read (bad n) b = refused n

-- an RQ behind its mark, at the offset `at`: one request
unfoldable pub rq_read : List ℕ → ℕ → Answer
rq_read b at = pick (ltb (length b) 6) (refused 5) (request (num32 (drop 2 b)) 1 (at + 6))

-- an RR behind its mark: its fields (5), then its times (13)
unfoldable pub rr_read : List ℕ → ℕ → Answer
rr_read b at =
    pick (ltb (length b) 8) (refused 5)
    (pick (eqb (num16 (drop 6 b)) 0) (refused 13)
    (request (num32 (drop 2 b)) (num16 (drop 6 b)) (at + 8)))

-- RQ or RR is expected
unfoldable pub request_read : Mark → List ℕ → ℕ → Answer
request_read RQ b at = rq_read b at
request_read RR b at = rr_read b at
request_read KA b at = refused 4
request_read EV b at = refused 4
request_read PF b at = refused 4
request_read (bad n) b at = refused n

-- an EV's n is 0, above the bound, or above 256
unfoldable pub count_refused : ℕ → ℕ → Bool
count_refused bound n = eqb n 0 or (ltb bound n or ltb largest_k n)

-- an EV behind its mark: its fixed fields (5), its n (6), its pages (5)
unfoldable pub ev_read : ℕ → List ℕ → ℕ → Answer
ev_read bound b at =
    pick (ltb (length b) 8) (refused 5)
    (pick (count_refused bound (num16 (drop 6 b))) (refused 6)
    (pick (ltb (length b) (ev_length (num16 (drop 6 b)))) (refused 5)
    (bundle (num32 (drop 2 b)) (num16 (drop 6 b)) (at + 8) (at + ev_length (num16 (drop 6 b))))))

-- a PF behind its mark
unfoldable pub pf_read : List ℕ → ℕ → Answer
pf_read b at = pick (ltb (length b) 10) (refused 5) (fetch (num32 (drop 2 b)) (num32 (drop 6 b)) (at + 10))

-- EV or PF is expected
unfoldable pub entry_read : Mark → ℕ → List ℕ → ℕ → Answer
entry_read EV bound b at = ev_read bound b at
entry_read PF bound b at = pf_read b at
entry_read KA bound b at = refused 4
entry_read RQ bound b at = refused 4
entry_read RR bound b at = refused 4
entry_read (bad n) bound b at = refused n

-- an offset past the end is 9, before all else. At offset 0 KA is expected, in an empty file too; elsewhere the end may be there
unfoldable pub read_trace : List ℕ → ℕ → Answer
read_trace s at =
    pick (ltb (length s) at) (refused 9)
    (pick (eqb at 0) (ka_read (mark_at s) s)
    (pick (eqb at (length s)) ended
    (request_read (mark_at (drop at s)) (drop at s) at)))

-- the same of a schedule, with the most pages that an EV may have: a for the judge, 256 for a reader of records, which has no a
unfoldable pub read_schedule : ℕ → List ℕ → ℕ → Answer
read_schedule bound s at =
    pick (ltb (length s) at) (refused 9)
    (pick (eqb at 0) (ka_read (mark_at s) s)
    (pick (eqb at (length s)) ended
    (entry_read (mark_at (drop at s)) bound (drop at s) at)))
