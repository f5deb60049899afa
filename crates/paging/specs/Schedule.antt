-- Schedules (document 01, "Legal schedule"): as a file has them, entry by entry, and request by request. Legality is a test that
-- runs the buffer.
use Rattle.std.specs.Prelude.{ℕ, zero, suc, ◌+◌, Bool, true, false, not, List, [], ◌∷◌, ◌++◌, eqb, leb, ltb, length}
use Rattle.lists.specs.Choice.{pick, ◌and◌}
use Rattle.lists.specs.Pages.{mem, erase, erase_all}

-- an entry of a schedule, as a file has it: at request t a bundle of pages is written back (EV), or a page is fetched ahead (PF)
pub data Entry : Type 0 where
  ev : (t : ℕ) (pages : List ℕ) → Entry
  pf : (t page : ℕ) → Entry

-- what a schedule does at one request: its bundles, then its pages fetched ahead
pub record Turn : Type 0 where
  pub bundles : List (List ℕ)
  pub fetches : List ℕ

-- Request by request

-- each page is held when it is taken out: a page named twice is not
abbrev pub held_in_turn : List ℕ → List ℕ → Bool
held_in_turn [] held = true
held_in_turn (p ∷ ps) held = mem p held and held_in_turn ps (erase p held)

-- a bundle takes 1 to a different pages held
abbrev pub bundle_legal : ℕ → List ℕ → List ℕ → Bool
bundle_legal a pages held = leb 1 (length pages) and leb (length pages) a and held_in_turn pages held

abbrev pub bundles_legal : ℕ → List (List ℕ) → List ℕ → Bool
bundles_legal a [] held = true
bundles_legal a (b ∷ bs) held = bundle_legal a b held and bundles_legal a bs (erase_all b held)

abbrev pub after_bundles : List (List ℕ) → List ℕ → List ℕ
after_bundles [] held = held
after_bundles (b ∷ bs) held = after_bundles bs (erase_all b held)

-- each page fetched ahead is not held before
abbrev pub fetches_legal : List ℕ → List ℕ → Bool
fetches_legal [] held = true
fetches_legal (f ∷ fs) held = not (mem f held) and fetches_legal fs (held ++ (f ∷ []))

-- the requested page is added if it is absent
abbrev pub with_page : ℕ → List ℕ → List ℕ
with_page p held = pick (mem p held) held (held ++ (p ∷ []))

-- the pages held after a request for p
abbrev pub after_turn : Turn → ℕ → List ℕ → List ℕ
after_turn turn p held = with_page p (after_bundles turn.bundles held ++ turn.fetches)

-- the turn may be made where these pages are held, and at most k pages are held after it
abbrev pub turn_legal : (k a : ℕ) → Turn → ℕ → List ℕ → Bool
turn_legal k a turn p held =
    bundles_legal a turn.bundles held
    and fetches_legal turn.fetches (after_bundles turn.bundles held)
    and leb (length (after_turn turn p held)) k

-- a turn for each request of the trace, each legal where the ones before it led; `held` is empty at the start
abbrev pub legal : (k a : ℕ) → (trace : List ℕ) → List Turn → (held : List ℕ) → Bool
legal k a [] [] held = true
legal k a [] (turn ∷ turns) held = false
legal k a (p ∷ ps) [] held = false
legal k a (p ∷ ps) (turn ∷ turns) held = turn_legal k a turn p held and legal k a ps turns (after_turn turn p held)

-- a bundle costs one, however many pages it has
abbrev pub cost : List Turn → ℕ
cost [] = 0
cost (turn ∷ turns) = length turn.bundles + cost turns

-- Entry by entry

abbrev pub time_of : Entry → ℕ
time_of (ev t pages) = t
time_of (pf t page) = t

-- the bundles at request t, in their order
abbrev pub bundles_at : ℕ → List Entry → List (List ℕ)
bundles_at t [] = []
bundles_at t (ev u pages ∷ es) = pick (eqb u t) (pages ∷ bundles_at t es) (bundles_at t es)
bundles_at t (pf u page ∷ es) = bundles_at t es

-- the pages fetched ahead at request t, in their order
abbrev pub fetches_at : ℕ → List Entry → List ℕ
fetches_at t [] = []
fetches_at t (ev u pages ∷ es) = fetches_at t es
fetches_at t (pf u page ∷ es) = pick (eqb u t) (page ∷ fetches_at t es) (fetches_at t es)

-- the turns at the n requests from t on
abbrev pub turns_from : (t n : ℕ) → List Entry → List Turn
turns_from t zero es = []
turns_from t (suc n) es = record { bundles = bundles_at t es; fetches = fetches_at t es } ∷ turns_from (suc t) n es

-- whether an entry may stand right behind another: t does not fall, and no EV follows a PF at one t
abbrev pub follows : Entry → Entry → Bool
follows e (pf u page) = leb (time_of e) u
follows (ev t pages) (ev u pages') = leb t u
follows (pf t page) (ev u pages) = ltb t u

abbrev pub in_order : List Entry → Bool
in_order [] = true
in_order (e ∷ []) = true
in_order (e ∷ e' ∷ es) = follows e e' and in_order (e' ∷ es)

-- every entry stands at one of the n requests
abbrev pub within : ℕ → List Entry → Bool
within n [] = true
within n (e ∷ es) = ltb (time_of e) n and within n es

-- the entries are a legal schedule of the trace: in order, at its requests, and legal request by request from the empty buffer
abbrev pub serves : (k a : ℕ) → (trace : List ℕ) → List Entry → Bool
serves k a trace es =
    in_order es and within (length trace) es and legal k a trace (turns_from 0 (length trace) es) []

-- the cost of entries: one for each EV
abbrev pub entries_cost : List Entry → ℕ
entries_cost [] = 0
entries_cost (ev t pages ∷ es) = suc (entries_cost es)
entries_cost (pf t page ∷ es) = entries_cost es
