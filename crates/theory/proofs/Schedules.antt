-- Schedules entry by entry and request by request: their costs agree, and the bundles of a rule that takes farthest pages, as EVs, are a
-- legal schedule of the trace.
use Prim.Native.Nat.{ℕ, zero, suc, ◌+◌, ◌≤◌, ◌<◌}
use native.Mathlib.Nat.{zero-add}
use native.Mathlib.Omega.{arith}
use mathlib.Core.Bool.{true, false}
use mathlib.Core.List.{List, [], ◌∷◌, ◌++◌, append-nil}
use mathlib.Core.Path.{◌≡◌, refl, ap, subst, ◌∙◌}
use lib.Dec.{eqb}
use lib.ListN.{length}
use borrow.Author.Tests.{ltb-true, lt-ltb, le-leb}
use Rattle.lists.specs.Choice.{pick}
use Rattle.lists.specs.Pages.{mem, to_end, erase_all}
use Rattle.lists.proofs.Choice.{tests, cases, and_l, and_r, and_i, eqb_self}
use Rattle.lists.proofs.Pages.{Same, Once, count_snoc, mem_same, length_same, without_absent, to_end_same, once_erase_all}
use Rattle.paging.specs.Policy.{Rule, Kind, hit, load, bundled, is_bundled, kind_of, serve, bundles}
use Rattle.paging.specs.Schedule.{Entry, ev, pf, Turn, held_in_turn, bundles_legal, after_bundles, fetches_legal, with_page, after_turn, turn_legal, legal, cost, time_of, bundles_at}
use Rattle.paging.specs.Schedule.{fetches_at, turns_from, in_order, within, serves, entries_cost}
use Rattle.theory.specs.Farthest.{Farthest}
use Rattle.theory.proofs.Bundles.{count_taken, counted_held, by_kind, Fits, fits_serve, fits_start, absent_after}

-- Entries and turns

-- an entry at another request tells nothing about request t
pub bundles_at_other : (t : ℕ) (e : Entry) (es : List Entry) → eqb (time_of e) t ≡ false → bundles_at t (e ∷ es) ≡ bundles_at t es
bundles_at_other t (ev u b) es n = rw n
bundles_at_other t (pf u page) es n = refl

pub fetches_at_other : (t : ℕ) (e : Entry) (es : List Entry) → eqb (time_of e) t ≡ false → fetches_at t (e ∷ es) ≡ fetches_at t es
fetches_at_other t (ev u b) es n = refl
fetches_at_other t (pf u page) es n = rw n

pub turns_from_past : (t n : ℕ) (e : Entry) (es : List Entry) → time_of e < t → turns_from t n (e ∷ es) ≡ turns_from t n es
turns_from_past t zero e es h = refl
turns_from_past t (suc n) e es h =
    let other : eqb (time_of e) t ≡ false = omega tests in
    λ i. record { bundles = bundles_at_other t e es other i; fetches = fetches_at_other t e es other i } ∷ turns_from_past (suc t) n e es (omega arith) i

-- the cost of turns is the number of EVs
cost_ev : (t n u : ℕ) (b : List ℕ) (es : List Entry) → t ≤ u → u < t + n
    → cost (turns_from t n (ev u b ∷ es)) ≡ suc (cost (turns_from t n es))
cost_ev t zero u b es l h = absurd (omega arith)
cost_ev t (suc n) u b es l h =
    cases (eqb u t)
    (λ e. let past = ap cost (turns_from_past (suc t) n (ev u b) es (omega tests)) in rw e (omega arith))
    (λ e. rw e (omega (arith, cost_ev (suc t) n u b es (omega tests) (omega arith))))

cost_pf : (t n u page : ℕ) (es : List Entry) → cost (turns_from t n (pf u page ∷ es)) ≡ cost (turns_from t n es)
cost_pf t zero u page es = refl
cost_pf t (suc n) u page es = omega (arith, cost_pf (suc t) n u page es)

cost_none : (t n : ℕ) → cost (turns_from t n []) ≡ 0
cost_none t zero = refl
cost_none t (suc n) = omega (arith, cost_none (suc t) n)

pub cost_of_entries : (n : ℕ) (es : List Entry) → within n es ≡ true → cost (turns_from 0 n es) ≡ entries_cost es
cost_of_entries n [] w = cost_none 0 n
cost_of_entries n (ev u b ∷ es) w =
    cost_ev 0 n u b es (omega arith) (let h : u < n = ltb-true _ _ (and_l _ _ w) in omega arith) ∙ ap suc (cost_of_entries n es (and_r _ _ w))
cost_of_entries n (pf u page ∷ es) w = cost_pf 0 n u page es ∙ cost_of_entries n es (and_r _ _ w)

-- A rule's bundles, request by request

-- what a rule does at a request of this kind
abbrev turn_of : Kind → List ℕ → Turn
turn_of hit b = record { bundles = []; fetches = [] }
turn_of load b = record { bundles = []; fetches = [] }
turn_of bundled b = record { bundles = b ∷ []; fetches = [] }

abbrev turns_of : Rule → (k : ℕ) → (trace later held : List ℕ) → List Turn
turns_of rule k [] later held = []
turns_of rule k (p ∷ ps) later held =
    turn_of (kind_of k p held) (rule (ps ++ later) held) ∷ turns_of rule k ps later (serve rule k p (ps ++ later) held)

-- EVs only, each at a request from t on and before n
abbrev Evs : (t n : ℕ) → List Entry → Type 0
Evs t n [] = Unit {0}
Evs t n (ev u b ∷ es) = (t ≤ u) × (u < n) × Evs t n es
Evs t n (pf u page ∷ es) = ⊥

evs_from : (t u n : ℕ) → t ≤ u → (es : List Entry) → Evs u n es → Evs t n es
evs_from t u n l [] h = tt
evs_from t u n l (ev v b ∷ es) h = (omega arith, h.1, evs_from t u n l es h.2)
evs_from t u n l (pf v page ∷ es) h = h

evs_order : (t n : ℕ) (b : List ℕ) (es : List Entry) → Evs t n es → in_order es ≡ true → in_order (ev t b ∷ es) ≡ true
evs_order t n b [] h o = refl
evs_order t n b (ev u c ∷ es) h o = and_i _ _ (le-leb _ _ h.0) o
evs_order t n b (pf u page ∷ es) h o = absurd h

evs_within : (t n : ℕ) (es : List Entry) → Evs t n es → within n es ≡ true
evs_within t n [] h = refl
evs_within t n (ev u b ∷ es) h = and_i _ _ (lt-ltb _ _ h.1) (evs_within t n es h.2)
evs_within t n (pf u page ∷ es) h = absurd h

evs_after : (t n : ℕ) (es : List Entry) → Evs (suc t) n es → (bundles_at t es ≡ []) × (fetches_at t es ≡ [])
evs_after t n [] h = (refl, refl)
evs_after t n (ev u b ∷ es) h =
    let other : eqb u t ≡ false = let l = h.0 in omega tests in
    let rest = evs_after t n es h.2 in
    (rw other rest.0, rest.1)
evs_after t n (pf u page ∷ es) h = absurd h

-- what holds of the entries of a request and of those behind it
evs_kind : (x : Kind) (t n : ℕ) (b : List ℕ) (rest : List Entry) → t < n → Evs (suc t) n rest
    → Evs t n (pick (is_bundled x) (ev t b ∷ rest) rest)
evs_kind hit t n b rest l h = evs_from t (suc t) n (omega arith) rest h
evs_kind load t n b rest l h = evs_from t (suc t) n (omega arith) rest h
evs_kind bundled t n b rest l h = (omega arith, l, evs_from t (suc t) n (omega arith) rest h)

order_kind : (x : Kind) (t n : ℕ) (b : List ℕ) (rest : List Entry) → Evs (suc t) n rest → in_order rest ≡ true
    → in_order (pick (is_bundled x) (ev t b ∷ rest) rest) ≡ true
order_kind hit t n b rest h o = o
order_kind load t n b rest h o = o
order_kind bundled t n b rest h o = evs_order t n b rest (evs_from t (suc t) n (omega arith) rest h) o

turn_kind : (x : Kind) (t m n : ℕ) (b : List ℕ) (rest : List Entry) (turns : List Turn) → Evs (suc t) n rest
    → turns_from (suc t) m rest ≡ turns → turns_from t (suc m) (pick (is_bundled x) (ev t b ∷ rest) rest) ≡ turn_of x b ∷ turns
turn_kind hit t m n b rest turns h e = let a = evs_after t n rest h in λ i. record { bundles = a.0 i; fetches = a.1 i } ∷ e i
turn_kind load t m n b rest turns h e = let a = evs_after t n rest h in λ i. record { bundles = a.0 i; fetches = a.1 i } ∷ e i
turn_kind bundled t m n b rest turns h e =
    let a = evs_after t n rest h in
    let here : bundles_at t (ev t b ∷ rest) ≡ b ∷ [] = rw (eqb_self t) (ap (λ (bs : List (List ℕ)). b ∷ bs) a.0) in
    let past = turns_from_past (suc t) m (ev t b) rest (omega arith) ∙ e in
    λ i. record { bundles = here i; fetches = a.1 i } ∷ past i

module _ (rule : Rule) (k : ℕ) where
  bundles_evs : (t : ℕ) (trace later held : List ℕ) → Evs t (t + length trace) (bundles rule k t trace later held)
  bundles_evs t [] later held = tt
  bundles_evs t (p ∷ ps) later held =
      let n : suc t + length ps ≡ t + length (p ∷ ps) = omega arith in
      evs_kind (kind_of k p held) t (t + length (p ∷ ps)) (rule (ps ++ later) held) _ (omega arith)
      (subst (λ m. Evs (suc t) m (bundles rule k (suc t) ps later (serve rule k p (ps ++ later) held))) n (bundles_evs (suc t) ps later (serve rule k p (ps ++ later) held)))

  bundles_order : (t : ℕ) (trace later held : List ℕ) → in_order (bundles rule k t trace later held) ≡ true
  bundles_order t [] later held = refl
  bundles_order t (p ∷ ps) later held =
      order_kind (kind_of k p held) t _ (rule (ps ++ later) held) _ (bundles_evs (suc t) ps later (serve rule k p (ps ++ later) held))
      (bundles_order (suc t) ps later (serve rule k p (ps ++ later) held))

  -- as entries and request by request the bundles are one schedule
  pub bundles_are_turns : (t : ℕ) (trace later held : List ℕ)
      → turns_from t (length trace) (bundles rule k t trace later held) ≡ turns_of rule k trace later held
  bundles_are_turns t [] later held = refl
  bundles_are_turns t (p ∷ ps) later held =
      turn_kind (kind_of k p held) t (length ps) _ (rule (ps ++ later) held) _ _ (bundles_evs (suc t) ps later (serve rule k p (ps ++ later) held))
      (bundles_are_turns (suc t) ps later (serve rule k p (ps ++ later) held))

-- Legality, where the schedule holds the pages that the rule holds, in its own order

taken_same : (b D M : List ℕ) → Same D M → held_in_turn b M ≡ true → (held_in_turn b D ≡ true) × Same (erase_all b D) (erase_all b M)
taken_same b D M s h =
    let held : held_in_turn b D ≡ true = counted_held b D (λ f. omega (arith, s f, count_taken f b M h)) in
    (held, λ f. omega (arith, s f, count_taken f b M h, count_taken f b D held))

-- adding an absent page; a held one is moved to the end
with_page_same : (p : ℕ) (D M : List ℕ) → Same D M → Once M → Same (with_page p D) (to_end p M)
with_page_same p D M s o f =
    cases (mem p M)
    (λ m. let d : mem p D ≡ true = mem_same D M s p ∙ m in rw d (omega (arith, s f, to_end_same p M m (o p) f)))
    (λ m. let d : mem p D ≡ false = mem_same D M s p ∙ m in rw (d, without_absent p M m) (omega (arith, s f, count_snoc f D p, count_snoc f M p)))

append_same : (D M : List ℕ) → Same D M → Same (D ++ []) M
append_same D M s f = rw append-nil (s f)

module _ (k a : ℕ) (pos : 1 ≤ a) (le : a ≤ k) (rule : Rule) (F : Farthest a rule) where
  -- a turn of the rule is legal, and the two buffers go on with the same pages
  turn_step : (p : ℕ) (later M D : List ℕ) → Fits k M → Same D M
      → (turn_legal k a (turn_of (kind_of k p M) (rule later M)) p D ≡ true) × Same (after_turn (turn_of (kind_of k p M) (rule later M)) p D) (serve rule k p later M)
  turn_step p later M D A s =
      let after = fits_serve k a pos le rule F p later M A in
      (legal_of (kind_of k p M) bundles_legal_lem turn_same after.most, turn_same)
    where
      turn_same : Same (after_turn (turn_of (kind_of k p M) (rule later M)) p D) (serve rule k p later M)
      turn_same =
          by_kind (λ x held. Same (after_turn (turn_of x (rule later M)) p D) held) rule k p later M
          (λ m. with_page_same p (D ++ []) M (append_same D M s) A.once)
          (λ m l. rw without_absent at (with_page_same p (D ++ []) M (append_same D M s) A.once))
          (λ m l. let b = rule later M in
          let t = taken_same b D M s (F.in_hand later M (omega arith)) in
          rw (without_absent p (erase_all b M) (absent_after p b M m)) at (with_page_same p (erase_all b D ++ []) (erase_all b M) (append_same (erase_all b D) (erase_all b M)
          t.1) (once_erase_all b M A.once)))

      bundles_legal_lem : bundles_legal a (turn_of (kind_of k p M) (rule later M)).bundles D ≡ true
      bundles_legal_lem =
          by_kind (λ x held. bundles_legal a (turn_of x (rule later M)).bundles D ≡ true) rule k p later M
          (λ m. refl) (λ m l. refl)
          (λ m l. let size = F.size later M (omega arith) in
          and_i _ _ (and_i _ _ (omega tests) (and_i _ _ (omega tests) (taken_same (rule later M) D M s (F.in_hand later M (omega arith))).0)) refl)

      no_fetches : (x : Kind) (b held : List ℕ) → fetches_legal (turn_of x b).fetches held ≡ true
      no_fetches hit b held = refl
      no_fetches load b held = refl
      no_fetches bundled b held = refl

      legal_of : (x : Kind) → bundles_legal a (turn_of x (rule later M)).bundles D ≡ true
          → Same (after_turn (turn_of x (rule later M)) p D) (serve rule k p later M) → length (serve rule k p later M) ≤ k
          → turn_legal k a (turn_of x (rule later M)) p D ≡ true
      legal_of x l same most =
          let size = length_same (after_turn (turn_of x (rule later M)) p D) (serve rule k p later M) same in
          let fits : length (after_turn (turn_of x (rule later M)) p D) ≤ k = omega arith in
          and_i _ _ l (and_i _ _ (no_fetches x (rule later M) (after_bundles (turn_of x (rule later M)).bundles D)) (le-leb _ _ fits))

  turns_legal : (trace later M D : List ℕ) → Fits k M → Same D M → legal k a trace (turns_of rule k trace later M) D ≡ true
  turns_legal [] later M D A s = refl
  turns_legal (p ∷ ps) later M D A s =
      let step = turn_step p (ps ++ later) M D A s in
      and_i _ _ step.0 (turns_legal ps later (serve rule k p (ps ++ later) M) _ (fits_serve k a pos le rule F p (ps ++ later) M A) step.1)

  -- the rule's bundles, as EVs, are a legal schedule of the trace, whatever follows
  pub bundles_serve : (trace later : List ℕ) → serves k a trace (bundles rule k 0 trace later []) ≡ true
  bundles_serve trace later =
      let legal-turns : legal k a trace (turns_from 0 (length trace) (bundles rule k 0 trace later [])) [] ≡ true =
      rw (bundles_are_turns rule k 0 trace later []) (turns_legal trace later [] [] (fits_start k) (λ f. refl)) in
      let evs : Evs 0 (length trace) (bundles rule k 0 trace later []) =
      subst (λ n. Evs 0 n (bundles rule k 0 trace later [])) (zero-add (length trace)) (bundles_evs rule k 0 trace later []) in
      and_i _ _ (bundles_order rule k 0 trace later []) (and_i _ _ (evs_within 0 (length trace) (bundles rule k 0 trace later []) evs) legal-turns)
