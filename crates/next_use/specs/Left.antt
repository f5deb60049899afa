-- How near a page's next request is: the number of requests from that one on. It is the length of what comes less `next_use` of the
-- model, and it stays the same while other pages are requested.
use Rattle.std.specs.Prelude.{ℕ, suc, List, [], ◌∷◌, eqb, length}
use Rattle.lists.specs.Choice.{pick}

-- how many requests there are from the next one of p on; 0, if p is never requested again
abbrev pub left : ℕ → (later : List ℕ) → ℕ
left p [] = 0
left p (q ∷ qs) = pick (eqb p q) (suc (length qs)) (left p qs)

-- for each request of a trace, how near its page's next one is
abbrev pub lefts_of : (trace : List ℕ) → List ℕ
lefts_of [] = []
lefts_of (p ∷ ps) = left p ps ∷ lefts_of ps
