-- Well formed as plain facts, and what each test of the code tells of it.
use Prim.Native.Nat.{ℕ, suc, ◌+◌, ◌≤◌, ◌<◌}
use native.Mathlib.Numerals.{add-one}
use native.Mathlib.Omega.{arith}
use mathlib.Core.Bool.{Bool, true, false, not, ◌&&◌, ◌||◌}
use mathlib.Core.List.{List, []}
use mathlib.Core.Path.{◌≡◌, refl, sym, ap, ◌∙◌}
use lib.Dec.{eqb, leb, ltb}
use lib.ListN.{length, take, drop, get_or, drop_of_length-le}
use lib.Seq.{drop-cons}
use borrow.Author.Tests.{eqb-true, eq-eqb, leb-true, le-leb, ltb-false, le-ltb, lt-leb, not-false}
use Rattle.lists.specs.Choice.{◌and◌, ◌or◌}
use Rattle.lists.proofs.Choice.{tests, cases, and_i, and_l, and_r, and_false_l, and_false_r, or_none, or_none_l, or_none_r}
use Rattle.marking.specs.Lists.{rising, all_marks}
use Rattle.mark.specs.Calls.{lists_refused}
use Rattle.mark.specs.Formed.{record_formed, buffer_formed, times_formed}
use Rattle.mark.specs.Lent.{Lent}
use Rattle.mark.specs.declared.MarkRun.{MarkRun}

-- The record

pub record Recorded (run : MarkRun) : Type 0 where
  pub evictions_low : run.evictions ≤ run.loads
  pub loads_low : run.loads ≤ run.requests
  pub time_low : run.t ≤ run.requests
  pub one_k : run.layers.k ≡ run.k
  pub one_a : run.layers.a ≡ run.a
  pub one_count : run.layers.requests ≡ run.requests

pub record_facts : (run : MarkRun) → record_formed run ≡ true → Recorded run
unfolding record_formed
record_facts run w =
    let w1 = and_r _ _ w in
    let w2 = and_r _ _ w1 in
    let w3 = and_r _ _ w2 in
    let w4 = and_r _ _ w3 in
    record {
      evictions_low = leb-true _ _ (and_l _ _ w);
      loads_low = leb-true _ _ (and_l _ _ w1);
      time_low = leb-true _ _ (and_l _ _ w2);
      one_k = eqb-true _ _ (and_l _ _ w3);
      one_a = eqb-true _ _ (and_l _ _ w4);
      one_count = eqb-true _ _ (and_r _ _ w4);
    }

pub record_well : (run : MarkRun) → Recorded run → record_formed run ≡ true
unfolding record_formed
record_well run R =
    and_i _ _ (le-leb _ _ R.evictions_low)
    (and_i _ _ (le-leb _ _ R.loads_low)
    (and_i _ _ (le-leb _ _ R.time_low)
    (and_i _ _ (eq-eqb _ _ R.one_k)
    (and_i _ _ (eq-eqb _ _ R.one_a) (eq-eqb _ _ R.one_count)))))

-- The lengths

pub record Roomy (k a : ℕ) (x : Lent) : Type 0 where
  pub cache_room : k ≤ length x.cache
  pub marks_even : length x.marks ≡ length x.cache
  pub priorities_even : length x.priorities ≡ length x.cache
  pub evicted_room : a ≤ length x.evicted
  pub numbers_even : length x.numbers ≡ length x.pages
  pub times_even : length x.times ≡ length x.pages

pub lists_facts : (k a : ℕ) (x : Lent) → lists_refused k a x ≡ false → Roomy k a x
unfolding lists_refused
lists_facts k a x w =
    let w1 = or_none_r _ _ w in
    let w2 = or_none_r _ _ w1 in
    let w3 = or_none_r _ _ w2 in
    let w4 = or_none_r _ _ w3 in
    record {
      cache_room = ltb-false _ _ (or_none_l _ _ w);
      marks_even = eqb-true _ _ (not-false _ (or_none_l _ _ w1));
      priorities_even = eqb-true _ _ (not-false _ (or_none_l _ _ w2));
      evicted_room = ltb-false _ _ (or_none_l _ _ w3);
      numbers_even = eqb-true _ _ (not-false _ (or_none_l _ _ w4));
      times_even = eqb-true _ _ (not-false _ (or_none_r _ _ w4));
    }

pub lists_right : (k a : ℕ) (x : Lent) → Roomy k a x → lists_refused k a x ≡ false
unfolding lists_refused
lists_right k a x R =
    or_none _ _ (le-ltb _ _ R.cache_room)
    (or_none _ _ (ap not (eq-eqb _ _ R.marks_even))
    (or_none _ _ (ap not (eq-eqb _ _ R.priorities_even))
    (or_none _ _ (le-ltb _ _ R.evicted_room)
    (or_none _ _ (ap not (eq-eqb _ _ R.numbers_even)) (ap not (eq-eqb _ _ R.times_even))))))

-- t0 beside the table, from place to place: nothing wrong before place i, and nothing behind it

pub times_turn : (t i : ℕ) (bad : Bool) (ns ts : List ℕ) → length ts ≡ length ns → i < length ts
    → times_formed t ns ts ≡ not bad and times_formed t (drop i ns) (drop i ts)
    → times_formed t ns ts
    ≡ not (bad || (ltb t (get_or ts i 0) || (eqb (get_or ns i 0) 0 && not (eqb (get_or ts i 0) 0)))) and times_formed t (drop (i + 1) ns) (drop (i + 1) ts)
unfolding ◌and◌ ◌or◌
times_turn t i bad ns ts e h told =
    let one = drop-cons ns i 0 (omega arith) in
    let two = drop-cons ts i 0 h in
    told ∙ rw (one, two, add-one i) (here bad (get_or ns i 0) (get_or ts i 0) (times_formed t (drop (suc i) ns) (drop (suc i) ts)))
  where
    first : (b : Bool) (n x : ℕ) (rest : Bool) → leb x t ≡ not b
        → (leb x t and (ltb 0 n or eqb x 0) and rest) ≡ not (b || (eqb n 0 && not (eqb x 0))) and rest
    first b n x rest eq =
        cases (eqb n 0)
        (λ z. let low : ltb 0 n ≡ false = omega tests in rw (eq, z, low) (second b (eqb x 0) rest))
        (λ z. let up : ltb 0 n ≡ true = omega tests in rw (eq, z, up) (third b rest))
      where
        second : (b c rest : Bool) → (not b and (false or c) and rest) ≡ not (b || (true && not c)) and rest
        second true true rest = refl
        second true false rest = refl
        second false true rest = refl
        second false false rest = refl

        third : (b rest : Bool) → (not b and (true or eqb x 0) and rest) ≡ not (b || (false && not (eqb x 0))) and rest
        third true rest = refl
        third false rest = refl

    here : (bad : Bool) (n x : ℕ) (rest : Bool)
        → (not bad and (leb x t and (ltb 0 n or eqb x 0) and rest)) ≡ not (bad || (ltb t x || (eqb n 0 && not (eqb x 0)))) and rest
    here true n x rest = refl
    here false n x rest = first (ltb t x) n x rest (cases (ltb t x) (λ z. rw z (omega tests)) (λ z. rw z (omega tests)))

pub times_start : (t : ℕ) (ns ts : List ℕ) → times_formed t ns ts ≡ not false and times_formed t (drop 0 ns) (drop 0 ts)
unfolding ◌and◌
times_start t ns ts = refl

pub times_end : (t i : ℕ) (bad : Bool) (ns ts : List ℕ) → length ts ≡ length ns → length ts ≤ i
    → times_formed t ns ts ≡ not bad and times_formed t (drop i ns) (drop i ts) → not bad ≡ times_formed t ns ts
unfolding ◌and◌
times_end t i true ns ts e h told = sym told
times_end t i false ns ts e h told =
    let past : length ns ≤ i = omega arith in
    let none : drop i ns ≡ [] = drop_of_length-le ns past in sym (told ∙ rw none refl)

-- The cached pages

pub buffer_many : (k n : ℕ) (cache marks : List ℕ) → k < n → false ≡ buffer_formed k n cache marks
unfolding buffer_formed
buffer_many k n cache marks h = sym (and_false_l _ _ (lt-leb _ _ h))

pub buffer_unordered : (k n : ℕ) (cache marks : List ℕ) → rising (take n cache) ≡ false → false ≡ buffer_formed k n cache marks
unfolding buffer_formed
buffer_unordered k n cache marks e = sym (and_false_r _ _ (and_false_l _ _ e))

pub buffer_marks : (k n : ℕ) (cache marks : List ℕ) → n ≤ k → rising (take n cache) ≡ true → all_marks (take n marks) ≡ buffer_formed k n cache marks
unfolding buffer_formed ◌and◌
buffer_marks k n cache marks h e = rw (le-leb n k h, e) refl
