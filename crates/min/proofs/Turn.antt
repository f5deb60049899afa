-- One turn of a pass over a trace: the request's kind, its place among the keys, and the rest of the trace.
use Prim.Native.Nat.{ℕ, suc, ◌+◌, ◌-◌, ◌≤◌, ◌<◌}
use native.Mathlib.Numerals.{add-one}
use native.Mathlib.Omega.{arith}
use mathlib.Core.Bool.{Bool}
use mathlib.Core.List.{List, [], ◌∷◌}
use mathlib.Core.Path.{◌≡◌, refl, sym, ◌∙◌, ap}
use lib.Dec.{ltb, eqb}
use lib.ListN.{length, take, drop, get_or, length-take, length-drop}
use lib.Seq.{get_or-take, drop-cons, drop-length}
use Rattle.lists.specs.Pages.{bit, count}
use Rattle.lists.proofs.Choice.{tests, cases}
use Rattle.lists.proofs.Pages.{count_length}
use Rattle.lists.proofs.Stable.{length_behind}
use Rattle.paging.specs.Policy.{Kind, hit, load, bundled, is_bundled, is_load}
use Rattle.next_use.specs.Left.{left, lefts_of}
use Rattle.next_use.proofs.Chains.{lefts_at, length_lefts}
use Rattle.keys.specs.Keys.{key_of, less_near, key, last_of, kind_in, serve_keys, kinds_of, bundle_of, bundles_of, Room}
use Rattle.keys.proofs.Order.{left_now}
use Rattle.min.specs.inner.Run.{PassReady, Standing, Counting}

-- what a kind says of the keys
kind_cases : (P : Kind → Type 0) (k x : ℕ) (keys : List ℕ)
    → (last_of keys ≡ x → P hit) → (length keys < k → P load) → (k ≤ length keys → P bundled) → P (kind_in k x keys)
kind_cases P k x keys f g h =
    cases (eqb (last_of keys) x)
    (λ e. rw e (f (omega tests)))
    (λ e. cases (ltb (length keys) k) (λ d. rw (e, d) (g (omega tests))) (λ d. rw (e, d) (h (omega tests))))

last_some : (x : ℕ) (keys : List ℕ) → 0 < x → last_of keys ≡ x → 0 < length keys
last_some x [] h e = omega arith
last_some x (y ∷ ys) h e = omega arith

-- the keys are what the request asks for
room_for : (k a x : ℕ) (keys : List ℕ) → length keys ≤ k → k ≤ 256 → 0 < a → a ≤ k → 0 < x → Room (kind_in k x keys) a 256 keys
room_for k a x keys h g s f b =
    kind_cases (λ kind. Room kind a 256 keys) k x keys (λ d. last_some x keys b d) (λ d. omega arith) (λ d. (s, omega arith))

-- and again after the request
served_fits : (k a x next : ℕ) (keys : List ℕ) → length keys ≤ k → 0 < a → a ≤ k → 0 < x
    → length (serve_keys (kind_in k x keys) a next keys) ≤ k
served_fits k a x next keys h s f b =
    kind_cases (λ kind. length (serve_keys kind a next keys) ≤ k) k x keys
    (λ d. omega (arith, length_behind less_near next (take (length keys - 1) keys), length-take (length keys - 1) keys, last_some x keys b d))
    (λ d. omega (arith, length_behind less_near next keys))
    (λ d. omega (arith, length_behind less_near next (drop a keys), length-drop a keys))

-- every request has its left
pub lefts_reach : (trace lefts : List ℕ) → take (length trace) lefts ≡ lefts_of trace → length trace ≤ length lefts
lefts_reach trace lefts filled = omega (arith, ap length filled, length-take (length trace) lefts, length_lefts trace)

pub lefts_long : (k a : ℕ) (trace lefts : List ℕ) → PassReady k a trace lefts → length trace ≤ length lefts
lefts_long k a trace lefts ready = lefts_reach trace lefts ready.filled

-- Request t: the keys of its page, as the code makes them

module _ (t : ℕ) (trace : List ℕ) (more : t < length trace) where
  rest : drop t trace ≡ get_or trace t 0 ∷ drop (suc t) trace
  rest = drop-cons trace t 0 more

  present_left : left (get_or trace t 0) (drop t trace) ≡ length trace - t
  present_left = rw rest (left_now (get_or trace t 0) (drop (suc t) trace) ∙ omega (arith, length-drop (suc t) trace))

  pub key_present : (present : ℕ) → present ≡ key_of (length trace - t) (get_or trace t 0) → present ≡ key (drop t trace) (get_or trace t 0)
  key_present present e = e ∙ ap (λ (x : ℕ). key_of x (get_or trace t 0)) (sym present_left)

  pub key_next : (k a next : ℕ) (lefts : List ℕ) → PassReady k a trace lefts → next ≡ key_of (get_or lefts t 0) (get_or trace t 0)
      → next ≡ key (drop (t + 1) trace) (get_or trace t 0)
  key_next k a next lefts ready e =
      let p = get_or trace t 0 in
      let f : get_or lefts t 0 ≡ left p (drop (suc t) trace)
      = sym (get_or-take (length trace) lefts t 0 more) ∙ ap (λ (l : List ℕ). get_or l t 0) ready.filled ∙ lefts_at trace t more in
      e ∙ ap (λ (x : ℕ). key_of x p) (rw (add-one t) f)

-- Before it, and what it is
module _ (k a t : ℕ) (kind : Kind) (trace lefts keys : List ℕ) (ready : PassReady k a trace lefts) (at : Standing k t trace keys) (more : t < length trace)
    (kind_is : kind ≡ kind_in k (key (drop t trace) (get_or trace t 0)) keys) where
  above : 0 < key (drop t trace) (get_or trace t 0)
  above = omega (arith, present_left t trace more)

  -- what serving asks for
  pub room : Room kind a 256 keys
  room = rw kind_is (room_for k a _ keys at.held ready.sizes.k_high ready.sizes.a_low ready.sizes.a_high above)

  -- the bundle comes first among those to come
  pub bundles_now : bundles_of k a t (drop t trace) keys
      ≡ bundle_of kind a t keys
      (bundles_of k a (suc t) (drop (suc t) trace) (serve_keys kind a (key (drop (suc t) trace) (get_or trace t 0)) keys))
  bundles_now = rw (kind_is, rest t trace more) refl

  -- and after it
  module _ (next : ℕ) (keys' : List ℕ) (next_is : next ≡ key (drop (t + 1) trace) (get_or trace t 0)) (served : keys' ≡ serve_keys kind a next keys) where
    pub stands : Standing k (t + 1) trace keys'
    stands =
        let f = served_fits k a _ next keys at.held ready.sizes.a_low ready.sizes.a_high above in
        record { within = omega arith; held = rw (served, kind_is) f }

    pub kinds_turn : kinds_of k a (drop t trace) keys ≡ kind ∷ kinds_of k a (drop (t + 1) trace) keys'
    kinds_turn = rw (served, next_is, kind_is, add-one t, rest t trace more) refl

    pub bundles_turn : bundles_of k a t (drop t trace) keys ≡ bundle_of kind a t keys (bundles_of k a (t + 1) (drop (t + 1) trace) keys')
    bundles_turn = rw (served, next_is, add-one t) bundles_now

    -- counting goes on
    pub counting_turn : (bundles loads : ℕ) → Counting k a t bundles loads trace keys
        → Counting k a (t + 1) (bundles + bit (is_bundled kind)) (loads + bit (is_load kind)) trace keys'
    counting_turn bundles loads c =
        record {
          stands = stands;
          bundled = omega (arith, c.bundled, ap (count is_bundled) kinds_turn);
          loaded = omega (arith, c.loaded, ap (count is_load) kinds_turn);
        }

-- Over the whole trace

pub standing_starts : (k : ℕ) (trace : List ℕ) → Standing k 0 trace []
standing_starts k trace = record { within = omega arith; held = omega arith }

pub counting_starts : (k a : ℕ) (trace : List ℕ) → Counting k a 0 0 0 trace []
counting_starts k a trace = record { stands = standing_starts k trace; bundled = omega arith; loaded = omega arith }

length_kinds : (k a : ℕ) (trace keys : List ℕ) → length (kinds_of k a trace keys) ≡ length trace
length_kinds k a [] keys = refl
length_kinds k a (p ∷ ps) keys =
    ap suc (length_kinds k a ps (serve_keys (kind_in k (key (p ∷ ps) p) keys) a (key ps p) keys))

pub count_kinds : (f : Kind → Bool) (k a : ℕ) (trace : List ℕ) → count f (kinds_of k a trace []) ≤ length trace
count_kinds f k a trace = omega (arith, count_length f (kinds_of k a trace []), length_kinds k a trace [])

pub counting_ends : (k a t bundles loads : ℕ) (trace keys : List ℕ) → Counting k a t bundles loads trace keys → length trace ≤ t
    → (bundles ≡ count is_bundled (kinds_of k a trace [])) × (loads ≡ count is_load (kinds_of k a trace []))
counting_ends k a t bundles loads trace keys c h =
    let e : t ≡ length trace = omega (arith, c.stands.within) in
    let f : kinds_of k a (drop t trace) keys ≡ [] = rw (e, drop-length trace) in
    (omega (arith, c.bundled, ap (count is_bundled) f), omega (arith, c.loaded, ap (count is_load) f))
