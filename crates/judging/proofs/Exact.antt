-- Exactness over entries: the judge answers a cost to entries whose bundles have 1 to a pages exactly if the entries are a legal
-- schedule of the trace, and the cost is theirs. By induction over the entries; the statement speaks of any place between two
-- entries, where the entries to come are a legal schedule of the requests that are not closed, from the pages held.
use Prim.Native.Nat.{ℕ, zero, suc, ◌+◌, ◌-◌, ◌≤◌, ◌<◌}
use native.Mathlib.Nat.{add-zero, zero-add, add-suc, suc-add}
use native.Mathlib.Omega.{arith}
use mathlib.Core.Bool.{Bool, true, false, not}
use mathlib.Core.List.{List, [], ◌∷◌, ◌++◌, append-nil, append_assoc}
use mathlib.Core.Logic.{◌⊎◌, inl, inr, ◌↔◌}
use mathlib.Core.Path.{◌≡◌, refl, sym, ap, ◌∙◌, subst}
use lib.Dec.{eqb, leb, ltb}
use lib.ListN.{length}
use borrow.Author.Tests.{not-true, not-false}
use Rattle.lists.specs.Choice.{◌and◌, ◌or◌}
use Rattle.lists.specs.Pages.{mem, erase_all}
use Rattle.lists.proofs.Choice.{cases, split, clash, tests, and_l, and_r, and_i, eqb_self, or_none, or_none_l, or_none_r, pick_true, pick_false}
use Rattle.paging.specs.Schedule.{Entry, ev, pf, Turn, time_of, held_in_turn, bundle_legal, with_page, legal, fetches_at, turns_from, follows, in_order, within, serves, entries_cost}
use Rattle.judging.specs.Answer.{cost, refused}
use Rattle.judging.specs.Judging.{Standing, stands_first, Step, on, stop, Closed, closed, overfull, closing, acted, and_then, arrived, stepped, finished, ended, judged_from}
use Rattle.judging.proofs.Order.{mark, marked, mark_time, follows_time, from, from_less, ordered_from, none_at, no_bundle, past_turn}

-- What each step answers

-- where the judge stands after an EV and after a PF
abbrev after_ev : List ℕ → Standing → Standing
after_ev pages s =
    record { t = s.t; trace = s.trace; held = erase_all pages s.held; fetched = false; bundles = suc s.bundles }

abbrev after_pf : ℕ → Standing → Standing
after_pf page s =
    record { t = s.t; trace = s.trace; held = s.held ++ (page ∷ []); fetched = true; bundles = s.bundles }

-- an EV with no 6 of its own costs one bundle
ev_taken : (u : ℕ) (pages : List ℕ) (s : Standing) → s.fetched or not (held_in_turn pages s.held) ≡ false → acted (ev u pages) s ≡ on (after_ev pages s)
ev_taken u pages s h = pick_false _ _ _ h

-- a PF with no 6 of its own is taken, however many pages are then held
pf_taken : (u page : ℕ) (s : Standing) → mem page s.held ≡ false → acted (pf u page) s ≡ on (after_pf page s)
pf_taken u page s h = pick_false _ _ _ h

-- the entry's request is closed, or is none of the trace's
abbrev outside : Entry → Standing → Bool
outside e s = ltb (time_of e) s.t or leb (s.t + length s.trace) (time_of e)

-- then nothing is closed on the way to it
not_reached : (k : ℕ) (e : Entry) (s : Standing) → outside e s ≡ true → arrived k (time_of e) s ≡ stop 6
not_reached k e s h = pick_true _ _ _ h

-- what stops the judge on the way comes before what the entry does
way_first : (k number : ℕ) (e : Entry) (s : Standing) → arrived k (time_of e) s ≡ stop number → stepped k e s ≡ stop number
way_first k number e s h = ap (λ x. and_then x (acted e)) h

-- the file's damage comes before 7 at the requests that are not closed
damage_first : (k damage : ℕ) (s : Standing) → eqb damage 0 ≡ false → ended k damage s ≡ refused damage
damage_first k damage s h = pick_false _ _ _ h

-- with no damage every request is judged, the last too
all_judged : (k : ℕ) (s : Standing) → ended k 0 s ≡ finished s.bundles (closing k (length s.trace) s.trace s.held)
all_judged k s = refl

-- Closing requests

closed_or {ℓ} : {A : Type ℓ} (c : Closed) → ((trace held : List ℕ) → c ≡ closed trace held → A) → (c ≡ overfull → A) → A
closed_or (closed trace held) f g = f trace held refl
closed_or overfull f g = g refl

and_true : (b : Bool) → true and b ≡ b
unfolding ◌and◌
and_true b = refl

and_assoc : (x y z : Bool) → (x and y) and z ≡ x and (y and z)
unfolding ◌and◌
and_assoc true y z = refl
and_assoc false y z = refl

and_false : (b : Bool) → false and b ≡ false
unfolding ◌and◌
and_false b = refl

-- a request with no entry of its own
quiet : (k a p t : ℕ) (held : List ℕ) (turns : List Turn) (ps : List ℕ)
    → legal k a (p ∷ ps) (record { bundles = []; fetches = [] } ∷ turns) held
    ≡ leb (length (with_page p held)) k and legal k a ps turns (with_page p held)
unfolding ◌and◌
quiet k a p t held turns ps = rw (append-nil held)

abbrev legal_after : (k a u : ℕ) → List Entry → Closed → Bool
legal_after k a u es (closed trace held) = legal k a trace (turns_from u (length trace) es) held
legal_after k a u es overfull = false

closing_legal : (k a n t : ℕ) (trace held : List ℕ) (es : List Entry) → n ≤ length trace → from (t + n) es ≡ true
    → legal k a trace (turns_from t (length trace) es) held ≡ legal_after k a (t + n) es (closing k n trace held)
closing_legal k a zero t trace held es h f = rw (add-zero t)
closing_legal k a (suc n) t [] held es h f = absurd (omega arith)
closing_legal k a (suc n) t (p ∷ ps) held es h f =
    let none = none_at t es (from_less (suc t) (t + suc n) es (omega arith) f) in
    let here : from (suc t + n) es ≡ true = rw (add-suc t n, ← suc-add t n) at f in
    let later = closing_legal k a n (suc t) ps (with_page p held) es (omega arith) here in
    rw (none.0, none.1, quiet k a p t held (turns_from (suc t) (length ps) es) ps, add-suc t n, ← suc-add t n)
    (cases (leb (length (with_page p held)) k)
    (λ m. rw m (and_true _ ∙ later))
    (λ m. rw m (and_false _)))

never : {trace held : List ℕ} → overfull ≡ closed trace held → ⊥
never e = let z : ◌≡◌ {A = ℕ} 0 1 = cc in omega arith

rests : {trace held rest pages : List ℕ} → closed trace held ≡ closed rest pages → trace ≡ rest
rests e = cc

pub closing_length : (k n : ℕ) (trace held rest pages : List ℕ) → n ≤ length trace → closing k n trace held ≡ closed rest pages
    → length rest + n ≡ length trace
closing_length k zero trace held rest pages h e = let z : length trace ≡ length rest = ap length (rests e) in omega arith
closing_length k (suc n) [] held rest pages h e = absurd (omega arith)
closing_length k (suc n) (p ∷ ps) held rest pages h e =
    cases (leb (length (with_page p held)) k)
    (λ m. let d = closing_length k n ps (with_page p held) rest pages (omega arith) (rw m at e) in omega arith)
    (λ m. let z : overfull ≡ closed rest pages = rw m at e in absurd (never z))

-- An entry at the open request

ev_legal : (k a u p : ℕ) (pages ps held : List ℕ) (es : List Entry)
    → legal k a (p ∷ ps) (turns_from u (suc (length ps)) (ev u pages ∷ es)) held
    ≡ bundle_legal a pages held and legal k a (p ∷ ps) (turns_from u (suc (length ps)) es) (erase_all pages held)
ev_legal k a u p pages ps held es =
    rw (eqb_self u, past_turn (suc u) (length ps) (ev u pages) es (omega arith)) (simp and_assoc)

pf_legal : (k a u p page : ℕ) (ps held : List ℕ) (es : List Entry) → in_order (pf u page ∷ es) ≡ true
    → legal k a (p ∷ ps) (turns_from u (suc (length ps)) (pf u page ∷ es)) held
    ≡ not (mem page held) and legal k a (p ∷ ps) (turns_from u (suc (length ps)) es) (held ++ (page ∷ []))
pf_legal k a u p page ps held es o =
    rw (eqb_self u, past_turn (suc u) (length ps) (pf u page) es (omega arith), no_bundle u page es o, append_assoc held (page ∷ []) (fetches_at u es)) (simp (and_true, and_assoc))

-- What the entries to come must be

-- an EV's bundle has 1 to a pages
abbrev pub sized_entry : ℕ → Entry → Bool
sized_entry a (ev t pages) = leb 1 (length pages) and leb (length pages) a
sized_entry a (pf t page) = true

abbrev pub sized : ℕ → List Entry → Bool
sized a [] = true
sized a (e ∷ es) = sized_entry a e and sized a es

-- from where the judge stands, the entries are in order, at requests that are not closed, and a legal schedule of those
pub record Good (k a : ℕ) (es : List Entry) (s : Standing) : Type 0 where
  pub ordered : in_order (mark s.t s.fetched ∷ es) ≡ true
  pub inside : within (s.t + length s.trace) es ≡ true
  pub lawful : legal k a s.trace (turns_from s.t (length s.trace) es) s.held ≡ true

-- the judge stands at request u, after the requests before it were closed
abbrev reached : (u : ℕ) → Standing → (rest held : List ℕ) → Standing
reached u s rest held =
    record { t = u; trace = rest; held = held; fetched = s.fetched and eqb u s.t; bundles = s.bundles }

-- a PF at an earlier request forbids nothing here
follows_reached : (t : ℕ) (f : Bool) (e : Entry) → t ≤ time_of e
    → follows (mark t f) e ≡ follows (mark (time_of e) (f and eqb (time_of e) t)) e
unfolding ◌and◌
follows_reached t f (pf u page) h =
    let left : leb (time_of (mark t f)) u ≡ true = rw (mark_time t f) (omega tests) in
    let right : leb (time_of (mark u (f and eqb u t))) u ≡ true = rw (mark_time u (f and eqb u t)) (omega tests) in
    left ∙ sym right
follows_reached t false (ev u pages) h =
    let left : leb t u ≡ true = omega tests in
    let right : leb u u ≡ true = omega tests in
    left ∙ sym right
follows_reached t true (ev u pages) h =
    cases (eqb u t)
    (λ m. let same : t ≡ u = omega tests in rw (m, same))
    (λ m. let left : ltb t u ≡ true = omega tests in let right : leb u u ≡ true = omega tests in rw m (left ∙ sym right))

module _ (k a : ℕ) (e : Entry) (es : List Entry) (s : Standing) (h : s.t ≤ time_of e)
    (l : time_of e < s.t + length s.trace) where
  reach_legal : in_order (e ∷ es) ≡ true
      → legal k a s.trace (turns_from s.t (length s.trace) (e ∷ es)) s.held
      ≡ legal_after k a (time_of e) (e ∷ es) (closing k (time_of e - s.t) s.trace s.held)
  reach_legal o =
      let n = time_of e - s.t in
      let here : s.t + n ≡ time_of e = omega arith in
      let self : leb (time_of e) (time_of e) ≡ true = omega tests in
      let f : from (s.t + n) (e ∷ es) ≡ true = subst (λ x. from x (e ∷ es) ≡ true) (sym here) (and_i _ _ self (ordered_from e es o)) in
      let d = closing_legal k a n s.t s.trace s.held (e ∷ es) (omega arith) f in
      rw here at d

  reach_over : closing k (time_of e - s.t) s.trace s.held ≡ overfull → in_order (e ∷ es) ≡ true
      → legal k a s.trace (turns_from s.t (length s.trace) (e ∷ es)) s.held ≡ false
  reach_over q o = rw q at (reach_legal o)

module _ (k a : ℕ) (e : Entry) (es : List Entry) (s : Standing) (h : s.t ≤ time_of e) (l : time_of e < s.t + length s.trace)
    (rest pages : List ℕ) (q : closing k (time_of e - s.t) s.trace s.held ≡ closed rest pages) where
  same_end : s.t + length s.trace ≡ time_of e + length rest
  same_end =
      let d = closing_length k (time_of e - s.t) s.trace s.held rest pages (omega arith) q in
      omega arith

  reach_same : in_order (e ∷ es) ≡ true
      → legal k a s.trace (turns_from s.t (length s.trace) (e ∷ es)) s.held
      ≡ legal k a rest (turns_from (time_of e) (length rest) (e ∷ es)) pages
  reach_same o = rw q at (reach_legal k a e es s h l o)

  reach_good : Good k a (e ∷ es) s → Good k a (e ∷ es) (reached (time_of e) s rest pages)
  reach_good g =
      let o = and_r (follows (mark s.t s.fetched) e) (in_order (e ∷ es)) g.ordered in
      record {
        ordered = rw (follows_reached s.t s.fetched e h) at g.ordered;
        inside = subst (λ x. within x (e ∷ es) ≡ true) same_end g.inside;
        lawful = sym (reach_same o) ∙ g.lawful;
      }

  reach_back : Good k a (e ∷ es) (reached (time_of e) s rest pages) → Good k a (e ∷ es) s
  reach_back g =
      let o = and_r (follows (mark (time_of e) (s.fetched and eqb (time_of e) s.t)) e) (in_order (e ∷ es)) g.ordered in
      record {
        ordered = rw (follows_reached s.t s.fetched e h) g.ordered;
        inside = subst (λ x. within x (e ∷ es) ≡ true) (sym same_end) g.inside;
        lawful = reach_same o ∙ g.lawful;
      }

-- The entry itself, at the open request

stopped : {n : ℕ} {s : Standing} → stop n ≡ on s → ⊥
stopped e = let z : ◌≡◌ {A = ℕ} 0 1 = cc in omega arith

stands : {s next : Standing} → on s ≡ on next → next ≡ s
stands e = cc

ev_order : (t : ℕ) (f : Bool) (pages : List ℕ) → follows (mark t f) (ev t pages) ≡ not f
ev_order t false pages = omega tests
ev_order t true pages = omega tests

pf_order : (t : ℕ) (f : Bool) (page : ℕ) → follows (mark t f) (pf t page) ≡ true
pf_order t f page = rw (mark_time t f) (omega tests)

-- the judge stands at a request for p
abbrev at : (t p : ℕ) → (ps held : List ℕ) → Bool → (b : ℕ) → Standing
at t p ps held f b = record { t = t; trace = p ∷ ps; held = held; fetched = f; bundles = b }

module _ (k a t p : ℕ) (ps held : List ℕ) (f : Bool) (b : ℕ) (es : List Entry) where
  ev_good : (pages : List ℕ) → Good k a (ev t pages ∷ es) (at t p ps held f b)
      → (sized_entry a (ev t pages) ≡ true) × (acted (ev t pages) (at t p ps held f b) ≡ on (after_ev pages (at t p ps held f b))) × Good k a es (after_ev pages (at t p ps held f b))
  ev_good pages g =
      let free = not-true f (sym (ev_order t f pages) ∙ and_l _ _ g.ordered) in
      let law = sym (ev_legal k a t p pages ps held es) ∙ g.lawful in
      let bundle = and_l (bundle_legal a pages held) _ law in
      let tail = and_r (leb 1 (length pages)) _ bundle in
      let held_All = and_r (leb (length pages) a) _ tail in
      let no_six : f or not (held_in_turn pages held) ≡ false = or_none _ _ free (ap not held_All) in (
        and_i _ _ (and_l _ _ bundle) (and_l (leb (length pages) a) _ tail),
        ev_taken t pages (at t p ps held f b) no_six,
        record {
          ordered = sym (marked (ev t pages) es) ∙ and_r (follows (mark t f) (ev t pages)) _ g.ordered;
          inside = and_r (ltb t (t + length (p ∷ ps))) _ g.inside;
          lawful = and_r (bundle_legal a pages held) _ law;
        },
      )

  pf_good : (page : ℕ) → Good k a (pf t page ∷ es) (at t p ps held f b)
      → (acted (pf t page) (at t p ps held f b) ≡ on (after_pf page (at t p ps held f b))) × Good k a es (after_pf page (at t p ps held f b))
  pf_good page g =
      let o = and_r (follows (mark t f) (pf t page)) (in_order (pf t page ∷ es)) g.ordered in
      let law = sym (pf_legal k a t p page ps held es o) ∙ g.lawful in
      let absent = not-true (mem page held) (and_l (not (mem page held)) _ law) in (
        pf_taken t page (at t p ps held f b) absent,
        record {
          ordered = sym (marked (pf t page) es) ∙ o;
          inside = and_r (ltb t (t + length (p ∷ ps))) _ g.inside;
          lawful = and_r (not (mem page held)) _ law;
        },
      )

  ev_back : (pages : List ℕ) (next : Standing) → sized_entry a (ev t pages) ≡ true → acted (ev t pages) (at t p ps held f b) ≡ on next → Good k a es next
      → (next ≡ after_ev pages (at t p ps held f b)) × Good k a (ev t pages ∷ es) (at t p ps held f b)
  ev_back pages next z q g =
      cases (f or not (held_in_turn pages held))
      (λ m. let w : stop 6 ≡ on next = rw m at q in absurd (stopped w))
      (λ m.
      let w : next ≡ after_ev pages (at t p ps held f b) = stands (sym (ev_taken t pages (at t p ps held f b) m) ∙ q) in
      let v : Good k a es (after_ev pages (at t p ps held f b)) = rw w at g in
      let held_All = not-false (held_in_turn pages held) (or_none_r f _ m) in
      let law = and_i _ _ (and_i _ _ (and_l _ _ z) (and_i _ _ (and_r (leb 1 (length pages)) _ z) held_All)) v.lawful in
      let free : not f ≡ true = ap not (or_none_l f _ m) in (
        w,
        record {
          ordered = and_i _ _ (ev_order t f pages ∙ free) (marked (ev t pages) es ∙ v.ordered);
          inside = and_i _ _ (omega tests) v.inside;
          lawful = ev_legal k a t p pages ps held es ∙ law;
        },
      ))

  pf_back : (page : ℕ) (next : Standing) → acted (pf t page) (at t p ps held f b) ≡ on next → Good k a es next
      → (next ≡ after_pf page (at t p ps held f b)) × Good k a (pf t page ∷ es) (at t p ps held f b)
  pf_back page next q g =
      cases (mem page held)
      (λ m. let w : stop 6 ≡ on next = rw m at q in absurd (stopped w))
      (λ m.
      let w : next ≡ after_pf page (at t p ps held f b) = stands (sym (pf_taken t page (at t p ps held f b) m) ∙ q) in
      let v : Good k a es (after_pf page (at t p ps held f b)) = rw w at g in
      let o = marked (pf t page) es ∙ v.ordered in (
        w,
        record {
          ordered = and_i _ _ (pf_order t f page) o;
          inside = and_i _ _ (omega tests) v.inside;
          lawful = pf_legal k a t p page ps held es o ∙ and_i _ _ (ap not m) v.lawful;
        },
      ))

-- a step over the entry e that leads to a place from which the entries es are still good; b bundles were counted before it
record Stepping (k a : ℕ) (e : Entry) (es : List Entry) (b : ℕ) (step : Step) : Type 0 where
  next : Standing
  leads : step ≡ on next
  fits : sized_entry a e ≡ true
  good : Good k a es next
  counted : next.bundles + entries_cost es ≡ b + entries_cost (e ∷ es)

module _ (k a p : ℕ) (ps held : List ℕ) (f : Bool) (b : ℕ) (es : List Entry) where
  act_good : (e : Entry) → Good k a (e ∷ es) (at (time_of e) p ps held f b)
      → Stepping k a e es b (acted e (at (time_of e) p ps held f b))
  act_good (ev u pages) g =
      let d = ev_good k a u p ps held f b es pages g in
      record { next = after_ev pages (at u p ps held f b); leads = d.1; fits = d.0; good = d.2; counted = omega arith }
  act_good (pf u page) g =
      let d = pf_good k a u p ps held f b es page g in
      record { next = after_pf page (at u p ps held f b); leads = d.0; fits = refl; good = d.1; counted = refl }

  act_back : (e : Entry) (next : Standing) → sized_entry a e ≡ true → acted e (at (time_of e) p ps held f b) ≡ on next → Good k a es next
      → (next.bundles + entries_cost es ≡ b + entries_cost (e ∷ es)) × Good k a (e ∷ es) (at (time_of e) p ps held f b)
  act_back (ev u pages) next z q g =
      let d = ev_back k a u p ps held f b es pages next z q g in
      let n : next.bundles ≡ suc b = ap (λ (s : Standing). s.bundles) d.0 in
      (omega arith, d.1)
  act_back (pf u page) next z q g =
      let d = pf_back k a u p ps held f b es page next q g in
      let n : next.bundles ≡ b = ap (λ (s : Standing). s.bundles) d.0 in
      (omega arith, d.1)

-- One entry, both ways

step_good : (k a : ℕ) (e : Entry) (es : List Entry) (s : Standing) → Good k a (e ∷ es) s → Stepping k a e es s.bundles (stepped k e s)
step_good k a e es s g =
    let after = and_l (follows (mark s.t s.fetched) e) (in_order (e ∷ es)) g.ordered in
    let o = and_r (follows (mark s.t s.fetched) e) (in_order (e ∷ es)) g.ordered in
    let time : s.t ≤ time_of e = rw (mark_time s.t s.fetched) at (follows_time (mark s.t s.fetched) e after) in
    let inside = and_l (ltb (time_of e) (s.t + length s.trace)) _ g.inside in
    let last : time_of e < s.t + length s.trace = omega tests in
    let in-range : outside e s ≡ false = or_none _ _ (omega tests) (omega tests) in
    rw in-range
    (closed_or (closing k (time_of e - s.t) s.trace s.held)
    (λ rest pages q. rw q (from_here rest pages (reach_good k a e es s time last rest pages q g) (same_end k a e es s time last rest pages q) last))
    (λ q. clash _ g.lawful (reach_over k a e es s time last q o)))
  where
    from_here : (rest pages : List ℕ) → Good k a (e ∷ es) (reached (time_of e) s rest pages) → s.t + length s.trace ≡ time_of e + length rest
        → time_of e < s.t + length s.trace → Stepping k a e es s.bundles (acted e (reached (time_of e) s rest pages))
    from_here [] pages g same last = absurd (omega arith)
    from_here (p ∷ ps) pages g same last = act_good k a p ps pages (s.fetched and eqb (time_of e) s.t) s.bundles es e g

step_back : (k a : ℕ) (e : Entry) (es : List Entry) (s next : Standing) → stepped k e s ≡ on next → sized_entry a e ≡ true → Good k a es next
    → (next.bundles + entries_cost es ≡ s.bundles + entries_cost (e ∷ es)) × Good k a (e ∷ es) s
step_back k a e es s next q z g =
    cases (outside e s)
    (λ m. let w : stop 6 ≡ on next = sym (way_first k 6 e s (not_reached k e s m)) ∙ q in absurd (stopped w))
    (λ m.
    let early = or_none_l (ltb (time_of e) s.t) _ m in
    let late = or_none_r (ltb (time_of e) s.t) _ m in
    let time : s.t ≤ time_of e = omega tests in
    let last : time_of e < s.t + length s.trace = omega tests in
    let r = rw m at q in
    closed_or (closing k (time_of e - s.t) s.trace s.held)
    (λ rest pages c.
    let d = from_here rest pages (rw c at r) (same_end k a e es s time last rest pages c) last in
    (d.0, reach_back k a e es s time last rest pages c d.1))
    (λ c. let w : stop 7 ≡ on next = rw c at r in absurd (stopped w)))
  where
    from_here : (rest pages : List ℕ) → acted e (reached (time_of e) s rest pages) ≡ on next → s.t + length s.trace ≡ time_of e + length rest
        → time_of e < s.t + length s.trace
        → (next.bundles + entries_cost es ≡ s.bundles + entries_cost (e ∷ es)) × Good k a (e ∷ es) (reached (time_of e) s rest pages)
    from_here [] pages w same last = absurd (omega arith)
    from_here (p ∷ ps) pages w same last = act_back k a p ps pages (s.fetched and eqb (time_of e) s.t) s.bundles es e next z w g

-- The end of the entries

pub no_cost : {n c : ℕ} → refused n ≡ cost c → ⊥
no_cost e = let z : ◌≡◌ {A = ℕ} 0 1 = cc in omega arith

costs : {n c : ℕ} → cost n ≡ cost c → c ≡ n
costs e = cc

finished_or : (k n : ℕ) (trace held : List ℕ) → length trace ≡ n → (closing k n trace held ≡ overfull) ⊎ ((pages : List ℕ) × (closing k n trace held ≡ closed [] pages))
finished_or k zero [] held h = inr (held, refl)
finished_or k zero (p ∷ ps) held h = absurd (omega arith)
finished_or k (suc n) [] held h = absurd (omega arith)
finished_or k (suc n) (p ∷ ps) held h =
    cases (leb (length (with_page p held)) k)
    (λ m. rw m (finished_or k n ps (with_page p held) (omega arith)))
    (λ m. rw m (inl refl))

module _ (k a : ℕ) (s : Standing) where
  end_legal : legal k a s.trace (turns_from s.t (length s.trace) []) s.held
      ≡ legal_after k a (s.t + length s.trace) [] (closing k (length s.trace) s.trace s.held)
  end_legal = closing_legal k a (length s.trace) s.t s.trace s.held [] (omega arith) refl

  end_good : Good k a [] s → ended k 0 s ≡ cost s.bundles
  end_good g =
      split (finished_or k (length s.trace) s.trace s.held refl)
      (λ q. clash _ g.lawful (rw q at end_legal))
      (λ q. all_judged k s ∙ rw q.1)

  end_back : (c : ℕ) → ended k 0 s ≡ cost c → (c ≡ s.bundles) × Good k a [] s
  end_back c e =
      split (finished_or k (length s.trace) s.trace s.held refl)
      (λ q. let w : refused 7 ≡ cost c = rw q at (sym (all_judged k s) ∙ e) in absurd (no_cost w))
      (λ q.
      let w : cost s.bundles ≡ cost c = rw q.1 at (sym (all_judged k s) ∙ e) in
      (costs w, record { ordered = refl; inside = refl; lawful = rw q.1 at end_legal }))

-- The theorem

step_or {ℓ} : {A : Type ℓ} (x : Step) → ((next : Standing) → x ≡ on next → A) → ((n : ℕ) → x ≡ stop n → A) → A
step_or (on next) f g = f next refl
step_or (stop n) f g = g n refl

-- where the file is damaged no cost is answered
pub no_damage : (k damage c : ℕ) (es : List Entry) (s : Standing) → judged_from k damage es s ≡ cost c → damage ≡ 0
no_damage k damage c [] s e =
    cases (eqb damage 0)
    (λ m. omega tests)
    (λ m. let w : refused damage ≡ cost c = sym (damage_first k damage s m) ∙ e in absurd (no_cost w))
no_damage k damage c (x ∷ es) s e =
    step_or (stepped k x s)
    (λ next q. no_damage k damage c es next (rw q at e))
    (λ n q. let w : refused n ≡ cost c = rw q at e in absurd (no_cost w))

module _ (k a : ℕ) where
  judged_good : (es : List Entry) (s : Standing) → Good k a es s
      → (sized a es ≡ true) × (judged_from k 0 es s ≡ cost (s.bundles + entries_cost es))
  judged_good [] s g = (refl, end_good k a s g ∙ ap cost (sym (add-zero s.bundles)))
  judged_good (e ∷ es) s g =
      let d = step_good k a e es s g in
      let later = judged_good es d.next d.good in
      (and_i _ _ d.fits later.0, rw d.leads (later.1 ∙ ap cost d.counted))

  judged_back : (c : ℕ) (es : List Entry) (s : Standing) → sized a es ≡ true → judged_from k 0 es s ≡ cost c
      → (c ≡ s.bundles + entries_cost es) × Good k a es s
  judged_back c [] s z e = let d = end_back k a s c e in (omega arith, d.1)
  judged_back c (x ∷ es) s z e =
      step_or (stepped k x s)
      (λ next q.
      let later = judged_back c es next (and_r (sized_entry a x) _ z) (rw q at e) in
      let d = step_back k a x es s next q (and_l _ _ z) later.1 in
      (later.0 ∙ d.0, d.1))
      (λ n q. let w : refused n ≡ cost c = rw q at e in absurd (no_cost w))

-- every entry may stand first
first_order : (es : List Entry) → in_order (ev 0 [] ∷ es) ≡ in_order es
first_order [] = refl
first_order (ev u pages ∷ es) = let first : leb 0 u ≡ true = omega tests in rw first (and_true _)
first_order (pf u page ∷ es) = let first : leb 0 u ≡ true = omega tests in rw first (and_true _)

module _ (k a : ℕ) (trace : List ℕ) (es : List Entry) where
  serves_good : serves k a trace es ≡ true → Good k a es (stands_first trace)
  serves_good e =
      let tail = and_r (in_order es) _ e in
      record {
        ordered = first_order es ∙ and_l (in_order es) _ e;
        inside = rw (zero-add (length trace)) (and_l (within (length trace) es) _ tail);
        lawful = and_r (within (length trace) es) _ tail;
      }

  good_serves : Good k a es (stands_first trace) → serves k a trace es ≡ true
  good_serves g =
      and_i _ _ (sym (first_order es) ∙ g.ordered) (and_i _ _ (rw (zero-add (length trace)) at g.inside) g.lawful)

  -- the judge answers the cost c to entries with bundles of 1 to a pages exactly if they are a legal schedule of the trace that costs c
  pub exact : (c : ℕ) → ((sized a es ≡ true) × (judged_from k 0 es (stands_first trace) ≡ cost c)) ↔ ((serves k a trace es ≡ true) × (c ≡ entries_cost es))
  exact c = (to, back)
    where
      to : (sized a es ≡ true) × (judged_from k 0 es (stands_first trace) ≡ cost c) → (serves k a trace es ≡ true) × (c ≡ entries_cost es)
      to h =
          let d = judged_back k a c es (stands_first trace) h.0 h.1 in
          (good_serves d.1, d.0 ∙ zero-add (entries_cost es))

      back : (serves k a trace es ≡ true) × (c ≡ entries_cost es) → (sized a es ≡ true) × (judged_from k 0 es (stands_first trace) ≡ cost c)
      back h =
          let d = judged_good k a es (stands_first trace) (serves_good h.0) in
          (d.0, d.1 ∙ ap cost (zero-add (entries_cost es) ∙ sym h.1))
