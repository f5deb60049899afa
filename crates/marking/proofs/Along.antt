-- Marking with RDM along a trace: one request more, the clock by itself, the definition by a rule of priorities against the one request by request,
-- and how large times and priorities are.
use Prim.Native.Nat.{ℕ, zero, suc, ◌+◌, ◌*◌, ◌≤◌}
use native.Mathlib.Omega.{arith}
use mathlib.Core.Bool.{Bool, true, false, not}
use mathlib.Core.List.{List, [], ◌∷◌, ◌++◌, map}
use mathlib.Core.Path.{◌≡◌, refl, sym, ap, ◌∙◌}
use lib.Dec.{eqb}
use lib.ListN.{length, get_or, length-map}
use Rattle.lists.specs.Choice.{pick, ◌and◌}
use Rattle.lists.specs.Pages.{bit, count}
use Rattle.lists.specs.Places.{place}
use Rattle.lists.proofs.Choice.{bit_le}
use Rattle.lists.proofs.Pages.{count_snoc}
use Rattle.paging.specs.Layers.{Layers, no_layers, layered}
use Rattle.paging.specs.Policy.{Kind, is_bundled, is_load}
use Rattle.paging.specs.Rows.{pages_of}
use Rattle.paging.specs.Table.{number_in, nothing_yet, tabled_next, tabled_after}
use Rattle.paging.proofs.Rows.{pages_length}
use Rattle.paging.proofs.Table.{table_step}
use Rattle.marking.specs.Marking.{Cached, PriorityRule, joins_at, mark_kind, mark_served, mark_kinds, mark_holds, mark_bundles, mark_loads}
use Rattle.marking.specs.Rdm.{Clock, no_clock, is_revealed, time_next, t0_after, clock_next, clock_after, priority_next, rdm, Marking, no_marking, marking_next, marking_after}

-- One request more

pub marking_after_snoc : (k a : ℕ) (trace : List ℕ) (p : ℕ) (x : Marking) → marking_after k a (trace ++ (p ∷ [])) x ≡ marking_next k a p (marking_after k a trace x)
marking_after_snoc k a [] p x = refl
marking_after_snoc k a (q ∷ qs) p x = marking_after_snoc k a qs p (marking_next k a q x)

pub clock_after_snoc : (k a : ℕ) (trace : List ℕ) (p : ℕ) (c : Clock) → clock_after k a (trace ++ (p ∷ [])) c ≡ clock_next k a p (clock_after k a trace c)
clock_after_snoc k a [] p c = refl
clock_after_snoc k a (q ∷ qs) p c = clock_after_snoc k a qs p (clock_next k a q c)

-- for any rule of priorities: what each request is, with that of one request more
pub kinds_snoc : (rule : PriorityRule) (k a : ℕ) (before trace : List ℕ) (p : ℕ) (L : Layers) (xs : List Cached)
    → mark_kinds rule k a before (trace ++ (p ∷ [])) L xs ≡ mark_kinds rule k a before trace L xs ++ (mark_kind k p (mark_holds rule k a before trace L xs) ∷ [])
kinds_snoc rule k a before [] p L xs = refl
kinds_snoc rule k a before (q ∷ qs) p L xs =
    ap (λ (ks : List Kind). mark_kind k q xs ∷ ks)
    (kinds_snoc rule k a (before ++ (q ∷ [])) qs p (layered k a q L) (mark_served k a (joins_at k q L) q (rule before q) xs))

-- The clock goes by itself, and its layers are those of the table

pub marking_clock : (k a : ℕ) (trace : List ℕ) (x : Marking) → (marking_after k a trace x).clock ≡ clock_after k a trace x.clock
marking_clock k a [] x = refl
marking_clock k a (p ∷ ps) x = marking_clock k a ps (marking_next k a p x)

pub clock_layers : (k a : ℕ) (trace : List ℕ) (c : Clock) → (clock_after k a trace c).layers ≡ tabled_after k a trace c.layers
clock_layers k a [] c = refl
clock_layers k a (p ∷ ps) c = clock_layers k a ps (clock_next k a p c)

pub marking_layers : (k a : ℕ) (trace : List ℕ) → (marking_after k a trace no_marking).clock.layers ≡ tabled_after k a trace nothing_yet
marking_layers k a trace = ap (λ (c : Clock). c.layers) (marking_clock k a trace no_marking) ∙ clock_layers k a trace no_clock

-- By the rule of priorities, and request by request

-- the map that the clock's layers give
abbrev layers_of : Clock → Layers
layers_of c = record { of = number_in c.layers.rows; top = c.layers.s }

holds_from : (k a : ℕ) (before trace : List ℕ) (x : Marking) → x.clock ≡ clock_after k a before no_clock
    → mark_holds (rdm k a) k a before trace (layers_of x.clock) x.cached ≡ (marking_after k a trace x).cached
holds_from k a before [] x e = refl
holds_from k a before (p ∷ ps) x e =
    let next = marking_next k a p x in
    let on : next.clock ≡ clock_after k a (before ++ (p ∷ [])) no_clock = ap (λ (c : Clock). clock_next k a p c) e ∙ sym (clock_after_snoc k a before p no_clock) in
    let layers = table_step k a x.clock.layers.s p x.clock.layers.rows in
    let cached : mark_served k a (joins_at k p (layers_of x.clock)) p (rdm k a before p) x.cached ≡ next.cached =
    ap (λ (c : Clock). mark_served k a (joins_at k p (layers_of x.clock)) p (priority_next p c) x.cached) (sym e) in
    (λ i. mark_holds (rdm k a) k a (before ++ (p ∷ [])) ps (layers i) (cached i)) ∙ holds_from k a (before ++ (p ∷ [])) ps next on

pub marking_holds : (k a : ℕ) (trace : List ℕ) → mark_holds (rdm k a) k a [] trace no_layers [] ≡ (marking_after k a trace no_marking).cached
marking_holds k a trace = holds_from k a [] trace no_marking refl

counted_snoc : (k a : ℕ) (f : Kind → Bool) (trace : List ℕ) (p : ℕ)
    → count f (mark_kinds (rdm k a) k a [] (trace ++ (p ∷ [])) no_layers [])
    ≡ count f (mark_kinds (rdm k a) k a [] trace no_layers []) + bit (f (mark_kind k p (marking_after k a trace no_marking).cached))
counted_snoc k a f trace p =
    omega (
      arith,
      ap (λ (ks : List Kind). count f ks) (kinds_snoc (rdm k a) k a [] trace p no_layers []),
      count_snoc f (mark_kinds (rdm k a) k a [] trace no_layers []) (mark_kind k p (mark_holds (rdm k a) k a [] trace no_layers [])),
      ap (λ (xs : List Cached). bit (f (mark_kind k p xs))) (marking_holds k a trace),
    )

-- a bundle more where the request makes one; and a load more
pub bundles_snoc : (k a : ℕ) (trace : List ℕ) (p : ℕ)
    → mark_bundles (rdm k a) k a (trace ++ (p ∷ [])) ≡ mark_bundles (rdm k a) k a trace + bit (is_bundled (mark_kind k p (marking_after k a trace no_marking).cached))
bundles_snoc k a trace p = counted_snoc k a is_bundled trace p

pub loads_snoc : (k a : ℕ) (trace : List ℕ) (p : ℕ)
    → mark_loads (rdm k a) k a (trace ++ (p ∷ [])) ≡ mark_loads (rdm k a) k a trace + bit (is_load (mark_kind k p (marking_after k a trace no_marking).cached))
loads_snoc k a trace p = counted_snoc k a is_load trace p

-- Times and priorities

-- t rises by at most one at each request
pub time_from : (k a : ℕ) (trace : List ℕ) (c : Clock) → (clock_after k a trace c).t ≤ c.t + length trace
time_from k a [] c = omega arith
time_from k a (p ∷ ps) c = omega (arith, time_from k a ps (clock_next k a p c), bit_le (not (is_revealed p c.layers)))

pub time_most : (k a : ℕ) (trace : List ℕ) → (marking_after k a trace no_marking).clock.t ≤ length trace
time_most k a trace = rw (marking_clock k a trace no_marking) (omega (arith, time_from k a trace no_clock))

-- no page's t0 is above t, and there is one beside each row
pub record Timed (c : Clock) : Type 0 where
  pub most : (i : ℕ) → get_or c.times i 0 ≤ c.t
  pub beside_rows : length c.times ≡ length c.layers.rows

pub no_clock_timed : Timed no_clock
no_clock_timed = record { most = λ i. omega arith; beside_rows = refl }

get_d_mapped : (f : ℕ → ℕ) (t : ℕ) → ((q : ℕ) → f q ≤ t) → (qs : List ℕ) (i : ℕ) → get_or (map f qs) i 0 ≤ t
get_d_mapped f t h [] i = omega arith
get_d_mapped f t h (q ∷ qs) zero = h q
get_d_mapped f t h (q ∷ qs) (suc i) = get_d_mapped f t h qs i

pick_most : (b : Bool) (m n t : ℕ) → m ≤ t → n ≤ t → pick b m n ≤ t
pick_most true m n t h g = h
pick_most false m n t h g = g

pub clock_timed : (k a p : ℕ) (c : Clock) → Timed c → Timed (clock_next k a p c)
clock_timed k a p c T =
    let rows = c.layers.rows in
    let after = (tabled_next k a p c.layers).rows in
    let t = time_next p c in
    record {
      most = λ i. get_d_mapped (t0_after t p rows c.times) t
          (λ q. pick_most (eqb q p and eqb (number_in rows p) 0) t (get_or c.times (place q (pages_of rows)) 0) t (omega arith)
          (omega (arith, T.most (place q (pages_of rows)))))
          (pages_of after) i;
      beside_rows = length-map (pages_of after) (t0_after t p rows c.times) ∙ pages_length after;
    }

pub timed_from : (k a : ℕ) (trace : List ℕ) (c : Clock) → Timed c → Timed (clock_after k a trace c)
timed_from k a [] c T = T
timed_from k a (p ∷ ps) c T = timed_from k a ps (clock_next k a p c) (clock_timed k a p c T)

pub times_most : (k a : ℕ) (trace : List ℕ) (i : ℕ) → get_or (marking_after k a trace no_marking).clock.times i 0 ≤ (marking_after k a trace no_marking).clock.t
times_most k a trace i = rw (marking_clock k a trace no_marking) ((timed_from k a trace no_clock no_clock_timed).most i)

pub times_length : (k a : ℕ) (trace : List ℕ) → length (marking_after k a trace no_marking).clock.times ≡ length (marking_after k a trace no_marking).clock.layers.rows
times_length k a trace = rw (marking_clock k a trace no_marking) (timed_from k a trace no_clock no_clock_timed).beside_rows

-- a priority is at most 9 t
pub priority_most : (p : ℕ) (c : Clock) → priority_next p c ≤ 9 * time_next p c
priority_most p c = omega arith
