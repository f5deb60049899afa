-- Marks (document 01, "Files"; RR is document 02's, request 03): the two letters at the start of a record, which alone say what record it is.
use Rattle.std.specs.Prelude.{ℕ, ◌+◌, ◌*◌, List, eqb, ltb, length}
use Rattle.lists.specs.Choice.{pick}
use Rattle.wire.specs.Numbers.{num16}

-- two letters as one 16-bit number
abbrev pub letters : ℕ → ℕ → ℕ
letters first second = first + 256 * second

-- the letters' ASCII numbers: K 75, A 65; R 82, Q 81; E 69, V 86; P 80, F 70
abbrev pub mark_ka : ℕ
mark_ka = letters 75 65

abbrev pub mark_rq : ℕ
mark_rq = letters 82 81

abbrev pub mark_rr : ℕ
mark_rr = letters 82 82

abbrev pub mark_ev : ℕ
mark_ev = letters 69 86

abbrev pub mark_pf : ℕ
mark_pf = letters 80 70

-- what the first bytes of a record say: its kind, or a refusal's number
pub data Mark : Type 0 where
  KA : Mark
  RQ : Mark
  RR : Mark
  EV : Mark
  PF : Mark
  bad : (number : ℕ) → Mark

-- a mark that is unknown is 4
unfoldable pub mark_of : ℕ → Mark
mark_of m =
    pick (eqb m mark_ka) KA
    (pick (eqb m mark_rq) RQ
    (pick (eqb m mark_rr) RR
    (pick (eqb m mark_ev) EV
    (pick (eqb m mark_pf) PF (bad 4)))))

-- where not even a mark is left it is 5; else the mark is judged, whether the record is whole or not
unfoldable pub mark_at : List ℕ → Mark
mark_at b = pick (ltb (length b) 2) (bad 5) (mark_of (num16 b))
