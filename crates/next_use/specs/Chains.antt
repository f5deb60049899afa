-- How the code finds each page's next request in linear time. The requests are chained by the low half of their pages; each chain is
-- walked from its end, with one table by the high half that holds how near the request seen last is. What stands there may be left from
-- another chain: it is right exactly if that request has the very page that is looked for.
use Rattle.std.specs.Prelude.{ℕ, zero, suc, ◌+◌, ◌*◌, ◌-◌, ◌/◌, ◌%◌, ◌≤◌, ◌<◌, List, ◌≡◌, eqb, length, drop, get_or}
use Rattle.lists.specs.Choice.{pick}
use Rattle.paging.specs.Refusals.{longest_trace}
use Rattle.next_use.specs.Left.{left}

abbrev pub page_at : (trace : List ℕ) → (t : ℕ) → ℕ
page_at trace t = get_or trace t 0

abbrev pub low : ℕ → ℕ
low page = page % 65536

abbrev pub high : ℕ → ℕ
high page = page / 65536

-- one more than the last of the first i requests whose page has the low half c; 0 if there is none
abbrev pub last_with : (c i : ℕ) → (trace : List ℕ) → ℕ
last_with c zero trace = 0
last_with c (suc i) trace = pick (eqb (low (page_at trace i)) c) (suc i) (last_with c i trace)

-- `near` where the request that is near-th from the end is for this page, else 0
abbrev pub told_of : (trace : List ℕ) → (near page : ℕ) → ℕ
told_of trace near page = pick (eqb (page_at trace (length trace - near)) page) near 0

-- the chains of the first i requests: where each ends, and for each request the one before it on its chain
pub record Chained (i : ℕ) (trace heads before : List ℕ) : Type 0 where
  pub ends : (c : ℕ) → c < 65536 → get_or heads c 0 ≡ last_with c i trace
  pub links : (t : ℕ) → t < i → get_or before t 0 ≡ last_with (low (page_at trace t)) t trace

-- entry t is how near the next request of its page is
abbrev pub RightAt : (t : ℕ) → (trace lefts : List ℕ) → Type 0
RightAt t trace lefts = get_or lefts t 0 ≡ left (page_at trace t) (drop (suc t) trace)

-- the chain of c is walked from its end down to request s, and those of all lower halves whole
pub record Walked (c s : ℕ) (trace seen lefts : List ℕ) : Type 0 where
  pub near : (h : ℕ) → h < 65536 → get_or seen h 0 ≤ length trace
  pub told : (h : ℕ) → h < 65536 → told_of trace (get_or seen h 0) (h * 65536 + c) ≡ left (h * 65536 + c) (drop s trace)
  pub others : (h d : ℕ) → h < 65536 → c < d → d < 65536 → told_of trace (get_or seen h 0) (h * 65536 + d) ≡ 0
  pub lower : (t : ℕ) → t < length trace → low (page_at trace t) < c → RightAt t trace lefts
  pub same : (t : ℕ) → t < length trace → low (page_at trace t) ≡ c → s ≤ t → RightAt t trace lefts

-- the chains of all low halves below c are walked
pub record LeftsFilled (c : ℕ) (trace seen lefts : List ℕ) : Type 0 where
  pub near : (h : ℕ) → h < 65536 → get_or seen h 0 ≤ length trace
  pub others : (h d : ℕ) → h < 65536 → c ≤ d → d < 65536 → told_of trace (get_or seen h 0) (h * 65536 + d) ≡ 0
  pub lower : (t : ℕ) → t < length trace → low (page_at trace t) < c → RightAt t trace lefts

-- Before the chains are made
pub record Unchained (trace heads : List ℕ) : Type 0 where
  pub short : length trace ≤ longest_trace
  pub clear : (c : ℕ) → get_or heads c 0 ≡ 0

-- Before the chain of c is walked
pub record Walkable (c : ℕ) (trace heads before seen lefts : List ℕ) : Type 0 where
  pub short : length trace ≤ longest_trace
  pub half : c < 65536
  pub room : length trace ≤ length lefts
  pub chained : Chained (length trace) trace heads before
  pub filled : LeftsFilled c trace seen lefts
