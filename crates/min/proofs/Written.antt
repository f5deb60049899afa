-- The schedule's bytes: the pages of a bundle, one EV in the rest of the bytes, and EVs one behind the other.
use Prim.Native.Nat.{ℕ, suc, ◌+◌, ◌*◌, ◌-◌, ◌≤◌, ◌<◌}
use native.Mathlib.Nat.{mul-le-mul_left, mul-le-mul_right, zero-add}
use native.Mathlib.Omega.{arith}
use mathlib.Core.Bool.{false}
use mathlib.Core.List.{List, [], ◌++◌, map, append-nil, append_assoc}
use mathlib.Core.Path.{◌≡◌, refl, sym, ◌∙◌, ap}
use lib.ListN.{length, take, drop, get_or, set, length-append, length-take, length-drop, length-map, get_or-map, drop_of_length-le}
use lib.Seq.{take_at, take_all, length-take-le, drop-drop, drop-length}
use borrow.Author.Tests.{le-ltb}
use Rattle.lists.specs.Places.{over}
use Rattle.lists.proofs.Leaves.{over_turn}
use Rattle.paging.specs.Min.{best_count}
use Rattle.paging.specs.Numbers.{kind_of_outcome}
use Rattle.paging.specs.declared.outcomes.Outcome.{Outcome}
use Rattle.paging.specs.declared.outcomes.Outcome.TheVariants.{Hit, Load, LoadAfterBundle}
use Rattle.paging.specs.Policy.{Kind, hit, load, bundled, is_bundled}
use Rattle.paging.specs.Schedule.{Entry}
use Rattle.wire.specs.Numbers.{placed}
use Rattle.wire.proofs.Numbers.{length_placed, placed_none, placed_join}
use Rattle.records.specs.Bytes.{ka_bytes, ev_bytes, entry_bytes, joined, ev_length, schedule_bytes}
use Rattle.records.specs.Writing.{some_length, put_length, put_bytes, pages_refused}
use Rattle.std.specs.Prelude.{Option, IsSome}
use Rattle.records.proofs.Lengths.{some_length_of, length_ev_bytes}
use Rattle.records.proofs.Writing.{pages_fine}
use Rattle.keys.specs.Keys.{page_of, key, kind_in, serve_keys, bundle_of, bundles_of}
use Rattle.keys.proofs.Order.{Pages}
use Rattle.min.specs.Calls.{min_schedule}
use Rattle.min.specs.inner.Run.{PassReady, Writing, EvRoom, BundleRoom}
use Rattle.min.proofs.Model.{take_map, best_same, bundles_same, kept_none}
use Rattle.min.proofs.ReadBack.{schedule_long}
use Rattle.min.proofs.Turn.{count_kinds, room, standing_starts, stands, bundles_now, bundles_turn}

-- The pages of a bundle

pub pages_turn : (i : ℕ) (held pages₀ pages : List ℕ) (page : ℕ) → i < length held → i < length pages₀
    → pages ≡ over (map page_of held) pages₀ i → page ≡ page_of (get_or held i 0) → set pages i page ≡ over (map page_of held) pages₀ (i + 1)
pages_turn i held pages₀ pages page h g e f =
    let d : page ≡ get_or (map page_of held) i 0 = f ∙ sym (get_or-map page_of held i 0) in
    let n = length-map held page_of in
    rw (e, d) (over_turn (map page_of held) pages₀ i (omega arith) g)

pub pages_done : (i a : ℕ) (held pages₀ pages : List ℕ) → i ≡ a → a ≤ length held → pages ≡ over (map page_of held) pages₀ i
    → take a pages ≡ map page_of (take a held)
unfolding over
pages_done i a held pages₀ pages m h e =
    let n = length-map held page_of in
    rw (e, m)
    (take_at (take a (map page_of held)) (drop a pages₀) a (length-take-le a (map page_of held) (omega arith)) ∙ take_map page_of a held)

-- One EV

pub put_ev : (t a : ℕ) (pages rest : List ℕ) → length pages ≡ a → 0 < a → a ≤ 256 → ev_length a ≤ length rest
    → (put_length (pages_refused (length pages)) (ev_bytes t pages) rest ≡ ev_length a)
    × (put_bytes (pages_refused (length pages)) (ev_bytes t pages) rest ≡ placed rest 0 (ev_bytes t pages))
put_ev t a pages rest e p s h =
    let f = pages_fine (length pages) (λ z. omega arith) (omega arith) in
    let l : length (ev_bytes t pages) ≡ ev_length a = length_ev_bytes t pages ∙ ap ev_length e in
    let g = le-ltb (length rest) (length (ev_bytes t pages)) (omega arith) in
    (rw (f, g) l, rw (f, g))

-- a length above 0 is answered
pub some_put : (o : Option ℕ) (n : ℕ) → o ≡ some_length n → 0 < n → IsSome o
some_put o n e h = rw (e ∙ sym (some_length_of n h)) refl

pub put_bundle_long : (t : ℕ) (pages bundle rest : List ℕ) → EvRoom bundle rest → pages ≡ map page_of bundle
    → put_length (pages_refused (length pages)) (ev_bytes t pages) rest ≡ ev_length (length bundle)
put_bundle_long t pages bundle rest room e =
    (put_ev t (length bundle) pages rest (ap length e ∙ length-map bundle page_of) room.some room.small room.room).0

pub put_bundle_is : (t r : ℕ) (pages bundle rest rest' : List ℕ) → EvRoom bundle rest → pages ≡ map page_of bundle
    → r ≡ put_length (pages_refused (length pages)) (ev_bytes t pages) rest
    → rest' ≡ put_bytes (pages_refused (length pages)) (ev_bytes t pages) rest
    → (r ≡ ev_length (length bundle)) × (rest' ≡ placed rest 0 (ev_bytes t (map page_of bundle)))
put_bundle_is t r pages bundle rest rest' room e f g =
    let n : length pages ≡ length bundle = ap length e ∙ length-map bundle page_of in
    let p = put_ev t (length bundle) pages rest n room.some room.small room.room in
    (f ∙ p.0, g ∙ p.1 ∙ ap (λ (l : List ℕ). placed rest 0 (ev_bytes t l)) e)

-- the rest of the bytes, lent and come back
pub back_placed : (out : List ℕ) (at : ℕ) (b : List ℕ)
    → take at out ++ (placed (take (length out - at) (drop at out)) 0 b ++ drop (length out - at) (drop at out)) ≡ placed out at b
back_placed out at b =
    let l : length (drop at out) ≤ length out - at = omega (arith, length-drop at out) in
    let e : take (length out - at) (drop at out) ≡ drop at out = take_all (length out - at) (drop at out) l in
    let f : drop (length out - at) (drop at out) ≡ [] = drop_of_length-le (drop at out) l in
    let g : drop (0 + length b) (drop at out) ≡ drop (at + length b) out
    = ap (λ (m : ℕ). drop m (drop at out)) (zero-add (length b)) ∙ drop-drop (length b) at out in
    rw (e, f, g, append-nil (b ++ drop (at + length b) out)) (sym (append_assoc (take at out) b (drop (at + length b) out)))

-- Lengths

pub product_fits : (b e : ℕ) → b ≤ 65536 → e ≤ 1032 → b * e ≤ 67633152
product_fits b e h g = omega (arith, mul-le-mul_right e h, mul-le-mul_left 65536 g)

-- what a request writes comes first in what is to be written
joined_bundle : (kind : Kind) (a t : ℕ) (keys : List ℕ) (rest : List Entry)
    → joined entry_bytes (bundle_of kind a t keys rest) ≡ joined entry_bytes (bundle_of kind a t keys []) ++ joined entry_bytes rest
joined_bundle hit a t keys rest = refl
joined_bundle load a t keys rest = refl
joined_bundle bundled a t keys rest =
    let b = ev_bytes t (map page_of (take a keys)) in
    ap (λ (l : List ℕ). l ++ joined entry_bytes rest) (sym (append-nil b))

-- One request: nothing where it makes no bundle, else the EV in the rest of the bytes

pub puts_none : (outcome : Outcome) (a t at : ℕ) (keys out : List ℕ) → (outcome ≡ LoadAfterBundle → ⊥)
    → (at ≡ at + length (joined entry_bytes (bundle_of (kind_of_outcome outcome) a t keys [])))
    × (out ≡ placed out at (joined entry_bytes (bundle_of (kind_of_outcome outcome) a t keys [])))
puts_none Hit a t at keys out e = (omega arith, placed_none out at)
puts_none Load a t at keys out e = (omega arith, placed_none out at)
puts_none LoadAfterBundle a t at keys out e = absurd (e refl)

-- the same by the kind
pub puts_hit : (kind : Kind) (a t at : ℕ) (keys out : List ℕ) → kind ≡ hit
    → (at ≡ at + length (joined entry_bytes (bundle_of kind a t keys [])))
    × (out ≡ placed out at (joined entry_bytes (bundle_of kind a t keys [])))
puts_hit kind a t at keys out e = rw e (omega arith, placed_none out at)

pub puts_load : (kind : Kind) (a t at : ℕ) (keys out : List ℕ) → kind ≡ load
    → (at ≡ at + length (joined entry_bytes (bundle_of kind a t keys [])))
    × (out ≡ placed out at (joined entry_bytes (bundle_of kind a t keys [])))
puts_load kind a t at keys out e = rw e (omega arith, placed_none out at)

pub ruleset puts_rules = (puts_hit, puts_load)

module _ (a t at : ℕ) (keys out : List ℕ) (r : BundleRoom bundled a t at keys out) where
  bundle_length : length (take a keys) ≡ a
  bundle_length = length-take-le a keys r.asked.1

  bundle_bytes : length (ev_bytes t (map page_of (take a keys))) ≡ ev_length a
  bundle_bytes = length_ev_bytes t (map page_of (take a keys)) ∙ ap ev_length (length-map (take a keys) page_of ∙ bundle_length)

  pub puts_room : at + ev_length a ≤ length out
  puts_room = omega (arith, bundle_bytes, ap length (append-nil (ev_bytes t (map page_of (take a keys)))), r.room)

  pub ev_room : EvRoom (take a keys) (take (length out - at) (drop at out))
  ev_room =
      record {
        some = omega (arith, bundle_length, r.asked.0);
        small = omega (arith, bundle_length, r.asked.1, r.small);
        room = omega (arith, bundle_length, puts_room, length-take (length out - at) (drop at out), length-drop at out);
      }

  pub puts_some : (size : ℕ) (rest : List ℕ) → size ≡ ev_length (length (take a keys))
      → rest ≡ placed (take (length out - at) (drop at out)) 0 (ev_bytes t (map page_of (take a keys)))
      → (at + size ≡ at + length (joined entry_bytes (bundle_of bundled a t keys [])))
      × (take at out ++ (rest ++ drop (length out - at) (drop at out))
      ≡ placed out at (joined entry_bytes (bundle_of bundled a t keys [])))
  puts_some size rest s p =
      let b = ev_bytes t (map page_of (take a keys)) in
      let e : joined entry_bytes (bundle_of bundled a t keys []) ≡ b = append-nil b in
      (omega (arith, bundle_bytes, s, bundle_length, ap length e), rw p (back_placed out at b) ∙ ap (placed out at) (sym e))

-- All requests

pub writing_starts : (k a from : ℕ) (trace out : List ℕ) → from + length (joined entry_bytes (bundles_of k a 0 trace [])) ≤ length out
    → Writing k a 0 from from trace [] out out
writing_starts k a from trace out h = record { stands = standing_starts k trace; room = h; same = refl; whole = refl }

-- before request t, of the kind that the code has found
module _ (k a t at from : ℕ) (kind : Kind) (trace lefts keys out₀ out : List ℕ) (ready : PassReady k a trace lefts)
    (w : Writing k a t at from trace keys out₀ out) (more : t < length trace)
    (kind_is : kind ≡ kind_in k (key (drop t trace) (get_or trace t 0)) keys) where
  first : List ℕ
  first = joined entry_bytes (bundle_of kind a t keys [])

  first_fits : at + length first ≤ length out
  unfolding first
  first_fits =
      let after = bundles_of k a (suc t) (drop (suc t) trace) (serve_keys kind a (key (drop (suc t) trace) (get_or trace t 0)) keys) in
      let e = ap (joined entry_bytes) (bundles_now k a t kind trace lefts keys ready w.stands more kind_is) ∙ joined_bundle kind a t keys after in
      omega (arith, w.room, ap length e, length-append (joined entry_bytes (bundle_of kind a t keys [])) (joined entry_bytes after))

  pub bundle_room : BundleRoom kind a t at keys out
  unfolding first
  bundle_room =
      record {
        small = omega (arith, w.stands.held, ready.sizes.k_high);
        asked = room k a t kind trace lefts keys ready w.stands more kind_is;
        early = omega (arith, ready.short);
        room = first_fits;
      }

  -- and after it
  module _ (next at' : ℕ) (keys' out' : List ℕ) (next_is : next ≡ key (drop (t + 1) trace) (get_or trace t 0)) (served : keys' ≡ serve_keys kind a next keys)
      (at-is : at' ≡ at + length (joined entry_bytes (bundle_of kind a t keys []))) (out-is : out' ≡ placed out at (joined entry_bytes (bundle_of kind a t keys []))) where
    pub writing_turn : Writing k a (t + 1) at' from trace keys' out₀ out'
    unfolding first
    writing_turn =
        let b = joined entry_bytes (bundle_of kind a t keys []) in
        let after = bundles_of k a (t + 1) (drop (t + 1) trace) keys' in
        let d = joined entry_bytes after in
        let e : joined entry_bytes (bundles_of k a t (drop t trace) keys) ≡ b ++ d
        = ap (joined entry_bytes) (bundles_turn k a t kind trace lefts keys ready w.stands more kind_is next keys' next_is served)
        ∙ joined_bundle kind a t keys after in
        let f : at + length b ≤ length out = first_fits in
        let g = length_placed out at b f in
        record {
          stands = stands k a t kind trace lefts keys ready w.stands more kind_is next keys' next_is served;
          room = omega (arith, w.room, ap length e, length-append b d, ap length out-is);
          same = ap length out-is ∙ g ∙ w.same;
          whole = rw (out-is, at-is) (placed_join out at b d f ∙ ap (placed out at) (sym e) ∙ w.whole);
        }

pub writing_ends : (k a t at from : ℕ) (trace keys out₀ out : List ℕ) → Writing k a t at from trace keys out₀ out → length trace ≤ t
    → out ≡ placed out₀ from (joined entry_bytes (bundles_of k a 0 trace []))
writing_ends k a t at from trace keys out₀ out w h =
    let e : t ≡ length trace = omega (arith, w.stands.within) in
    let f : joined entry_bytes (bundles_of k a t (drop t trace) keys) ≡ [] = rw (e, drop-length trace) in
    placed_none out at ∙ ap (placed out at) (sym f) ∙ w.whole

-- The whole schedule

pub schedule_is : (k a : ℕ) {trace : List ℕ} → Pages trace → min_schedule k a trace ≡ schedule_bytes k a (bundles_of k a 0 trace [])
unfolding min_schedule
schedule_is k a {trace} b = ap (schedule_bytes k a) (sym (bundles_same k a 0 b (kept_none trace)))

pub schedule_length_is : (k a size bundles : ℕ) (trace : List ℕ) → a ≤ k → size ≡ 6 + bundles * ev_length a → bundles ≡ best_count k a trace
    → size ≡ length (min_schedule k a trace)
schedule_length_is k a size bundles trace h e f = e ∙ ap (λ (m : ℕ). 6 + m * ev_length a) f ∙ sym (schedule_long k a trace h)

pub best_few : (k a : ℕ) {trace : List ℕ} → Pages trace → best_count k a trace ≤ length trace
best_few k a {trace} b = omega (arith, best_same k a b, count_kinds is_bundled k a trace)

-- KA, then the EVs
module _ (k a from : ℕ) (trace out out₁ out₂ : List ℕ) (pages : Pages trace) (long : length (min_schedule k a trace) ≤ length out)
    (from_is : from ≡ put_length false (ka_bytes k a) out) (ka-is : out₁ ≡ put_bytes false (ka_bytes k a) out) where
  whole_fits : 6 + length (joined entry_bytes (bundles_of k a 0 trace [])) ≤ length out
  whole_fits = omega (arith, ap length (schedule_is k a pages))

  from_six : from ≡ 6
  from_six = from_is ∙ simp (le-ltb (length out) 6 (omega (arith, whole_fits)))

  ka_placed : out₁ ≡ placed out 0 (ka_bytes k a)
  ka_placed = ka-is ∙ simp (le-ltb (length out) 6 (omega (arith, whole_fits)))

  pub evs_fit : from + length (joined entry_bytes (bundles_of k a 0 trace [])) ≤ length out₁
  evs_fit = omega (arith, from_six, whole_fits, ap length ka_placed, length_placed out 0 (ka_bytes k a) (omega (arith, whole_fits)))

  pub schedule_placed : out₂ ≡ placed out₁ from (joined entry_bytes (bundles_of k a 0 trace []))
      → out₂ ≡ min_schedule k a trace ++ drop (length (min_schedule k a trace)) out
  schedule_placed e =
      let es = joined entry_bytes (bundles_of k a 0 trace []) in
      let j : placed (placed out 0 (ka_bytes k a)) 6 es ≡ placed out 0 (ka_bytes k a ++ es)
      = placed_join out 0 (ka_bytes k a) es (omega (arith, whole_fits)) in
      let z : placed out 0 (ka_bytes k a ++ es) ≡ (ka_bytes k a ++ es) ++ drop (length (ka_bytes k a ++ es)) out
      = ap (λ (m : ℕ). (ka_bytes k a ++ es) ++ drop m out) (zero-add (length (ka_bytes k a ++ es))) in
      rw (schedule_is k a pages) (e ∙ ap (λ (l : List ℕ). placed l from es) ka_placed ∙ ap (λ (m : ℕ). placed (placed out 0 (ka_bytes k a)) m es) from_six ∙ j ∙ z)
