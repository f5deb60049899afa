-- What the code finds is the request's kind, and what it then writes and answers is what the definitions say for that kind.
use Prim.Native.Nat.{ℕ, suc, ◌+◌, ◌-◌, ◌≤◌, ◌<◌}
use native.Mathlib.Omega.{arith}
use mathlib.Core.Bool.{true, false}
use mathlib.Core.List.{List, [], ◌∷◌, ◌++◌, append-nil}
use mathlib.Core.Path.{◌≡◌, refl, sym, ap, ◌∙◌}
use lib.Dec.{eqb, ltb}
use lib.ListN.{length, take, drop, length-append, length-drop}
use lib.Seq.{length-take-le, take-take, take_all}
use Rattle.std.proofs.Common.{drop_of_length-le}
use borrow.Author.Tests.{lt-ltb, le-ltb, ltb-true, ltb-false, eqb-true}
use Rattle.lists.specs.Pages.{mem}
use Rattle.lists.specs.Places.{place, moved_to_end, laid}
use Rattle.lists.proofs.Choice.{cases, tests}
use Rattle.lists.proofs.Leaves.{mem_place, length_moved, moved_to_end_lem}
use Rattle.lists.proofs.Pages.{erase_all_take}
use Rattle.paging.specs.Policy.{after_hit}
use Rattle.paging.specs.declared.Keeping.{Keeping}
use Rattle.paging.specs.declared.Keeping.TheVariants.{ByRequest, ByLoad}
use Rattle.queue.specs.Answers.{ReplyAnswer}
use Rattle.queue.specs.Serving.{cache_served, evicted_served, reply_served}
use Rattle.queue.specs.declared.Run.{Run}
use Rattle.queue.specs.declared.serving.Found.{Found}
use Rattle.queue.specs.declared.serving.Found.TheVariants.{Held, Room, Full}
use Rattle.queue.specs.inner.Cases.{found_in, reply_for, evicted_for, moved_from, cache_for}
use Rattle.queue.specs.inner.Ready.{RequestReady, AnswerReady, SettleReady}

-- Finding

module _ (k page : ℕ) (held : List ℕ) where
  pub finds_held : (at : ℕ) → at ≡ place page held → at < length held → Held at ≡ found_in k page held
  finds_held at e h = rw (mem_place page held, ← e, lt-ltb at (length held) h) refl

  pub finds_room : (at : ℕ) → at ≡ place page held → length held ≤ at → length held < k → Room ≡ found_in k page held
  finds_room at e h r = rw (mem_place page held, ← e, le-ltb at (length held) h, lt-ltb (length held) k r) refl

  pub finds_full : (at : ℕ) → at ≡ place page held → length held ≤ at → k ≤ length held → Full ≡ found_in k page held
  finds_full at e h r = rw (mem_place page held, ← e, le-ltb at (length held) h, le-ltb (length held) k r) refl

  never : {A : Type 0} → ◌≡◌ {A = ℕ} 0 1 → A
  never z = absurd (omega arith)

  pub held_told : (at : ℕ) → found_in k page held ≡ Held at → (mem page held ≡ true) × (at ≡ place page held)
  held_told at e =
      cases (mem page held)
      (λ m. (m, (let e' = rw m at e in (cc))))
      (λ m. cases (ltb (length held) k)
      (λ r. let e' = rw (m, r) at e in never (cc))
      (λ r. let e' = rw (m, r) at e in never (cc)))

  pub room_told : found_in k page held ≡ Room → (mem page held ≡ false) × (length held < k)
  room_told e =
      cases (mem page held)
      (λ m. let e' = rw m at e in never (cc))
      (λ m. cases (ltb (length held) k)
      (λ r. (m, ltb-true _ _ r))
      (λ r. let e' = rw (m, r) at e in never (cc)))

  pub full_told : found_in k page held ≡ Full → (mem page held ≡ false) × (k ≤ length held)
  full_told e =
      cases (mem page held)
      (λ m. let e' = rw m at e in never (cc))
      (λ m. cases (ltb (length held) k)
      (λ r. let e' = rw (m, r) at e in never (cc))
      (λ r. (m, ltb-false _ _ r)))

pub ruleset finds_rules =
    (finds_held, finds_room, finds_full)

-- the cache list as it is left on a hit
pub hit_settled : (keeping : Keeping) (found : Found) (at from n k a page : ℕ) (cache y : List ℕ) → found ≡ Held at → from ≡ moved_from keeping at n
    → y ≡ laid k (moved_to_end from (take n cache)) cache → y ≡ cache_for keeping found n k a page cache
hit_settled keeping found at from n k a page cache y f e h = rw (f, ← e) h

-- from a place where no page stands none moves
moved_none : (at : ℕ) (d : List ℕ) → length d ≤ at → d ≡ moved_to_end at d
moved_none at d h = rw (take_all at d h, drop_of_length-le d {i = suc at} (omega arith), drop_of_length-le d {i = at} h) (simp append-nil)

-- Writing and answering: y and v are the cache list and the evicted list as they were left

-- what the step promises of its answer and of the two lists
abbrev pub Served : Keeping → (run : Run) (count : ℕ) (cache evicted : List ℕ) (page : ℕ) → ReplyAnswer → (y v : List ℕ) → Type 0
Served keeping run count cache evicted page reply y v =
    (reply ≡ reply_served keeping run count cache page)
    × ((y ≡ cache_served keeping run count cache page) × (v ≡ evicted_served run count cache evicted page))

-- and what a preview tells of it, for either way of keeping the list
abbrev pub Tells : (run : Run) (count : ℕ) (cache evicted : List ℕ) (page : ℕ) → ReplyAnswer → (v : List ℕ) → Type 0
Tells run count cache evicted page reply v =
    (keeping : Keeping) → (reply ≡ reply_served keeping run count cache page) × (v ≡ evicted_served run count cache evicted page)

module _ (run : Run) (count : ℕ) (cache evicted : List ℕ) (page : ℕ) (ready : RequestReady run count cache evicted) where
  length_held : length (take count cache) ≡ count
  length_held = length-take-le count cache (omega arith)

  -- the page found at its place: moved from there it is the last, and from the count no page moves
  hit_moves : (kept : Keeping) (at : ℕ) → mem page (take count cache) ≡ true → at ≡ place page (take count cache)
      → moved_to_end (moved_from kept at count) (take count cache) ≡ after_hit kept page (take count cache)
  hit_moves ByRequest at m e = ap (λ (x : ℕ). moved_to_end x (take count cache)) e ∙ moved_to_end_lem page (take count cache) ready.once m
  hit_moves ByLoad at m e = sym (moved_none count (take count cache) (omega (arith, length_held)))

  -- what is told and written for what was found is what the definitions say
  served_by : (keeping : Keeping) (found : Found) → found ≡ found_in run.k page (take count cache)
      → Served keeping run count cache evicted page (reply_for found run count) (cache_for keeping found count run.k run.a page cache) (evicted_for found run.a cache evicted)
  served_by keeping (Held at) f =
      let held = take count cache in
      let t = held_told run.k page held at (sym f) in
      let m : mem page held ≡ true = t.0 in
      let w : moved_to_end (moved_from keeping at count) held ≡ after_hit keeping page held = hit_moves keeping at m t.1 in
      let n : length (after_hit keeping page held) ≡ count = sym (ap length w) ∙ length_moved (moved_from keeping at count) held ∙ length_held in
      (rw (m, n) refl, (rw (m, w) refl, rw m refl))
  served_by keeping Room f =
      let held = take count cache in
      let t = room_told run.k page held (sym f) in
      let n : length (held ++ (page ∷ [])) ≡ count + 1 = simp (length-append, length_held) refl in
      (rw (t.0, lt-ltb _ _ t.1, n) refl, (rw (t.0, lt-ltb _ _ t.1) refl, rw (t.0, lt-ltb _ _ t.1) refl))
  served_by keeping Full f =
      let held = take count cache in
      let t = full_told run.k page held (sym f) in
      let n : length (drop run.a held ++ (page ∷ [])) ≡ count - run.a + 1 = simp (length-append, length-drop, length_held) refl in
      let b : take run.a held ≡ take run.a cache = take-take run.a count cache (omega (arith, length_held, ready.sizes.a_high)) in (
        rw (t.0, le-ltb _ _ t.1, erase_all_take run.a held, n) refl,
        (
          rw (t.0, le-ltb _ _ t.1, erase_all_take run.a held) refl,
          rw (t.0, le-ltb _ _ t.1, b) refl,
        ),
      )

  -- the steps one after the other
  pub acted : (keeping : Keeping) (found : Found) (reply : ReplyAnswer) (y v : List ℕ) → found ≡ found_in run.k page (take count cache) → reply ≡ reply_for found run count
      → y ≡ cache_for keeping found count run.k run.a page cache → v ≡ evicted_for found run.a cache evicted
      → Served keeping run count cache evicted page reply y v
  acted keeping found reply y v f r c e =
      let s = served_by keeping found f in
      (r ∙ s.0, (c ∙ s.1.0, e ∙ s.1.1))

  -- the step that puts the page into the cache list, alone
  pub settled : (keeping : Keeping) (found : Found) → found ≡ found_in run.k page (take count cache)
      → cache_for keeping found count run.k run.a page cache ≡ cache_served keeping run count cache page
  settled keeping found f = (served_by keeping found f).1.0

  -- and the other two: what is told and the bundle do not hang on how that list is kept
  pub told : (found : Found) (reply : ReplyAnswer) (v : List ℕ) → found ≡ found_in run.k page (take count cache) → reply ≡ reply_for found run count
      → v ≡ evicted_for found run.a cache evicted → Tells run count cache evicted page reply v
  told found reply v f r e keeping =
      let s = served_by keeping found f in
      (r ∙ s.0, e ∙ s.1.1)

  -- and each may be made
  pub can_settle : (found : Found) → found ≡ found_in run.k page (take count cache) → SettleReady found count run.k run.a cache
  can_settle found f =
      record {
        count_most = ready.count_most;
        cache_room = ready.cache_room;
        free = λ e. let t = (room_told run.k page (take count cache) (sym f ∙ e)).1 in omega (arith, length_held);
        enough = λ e.
            let t = (full_told run.k page (take count cache) (sym f ∙ e)).1 in
            (ready.sizes.a_low, omega (arith, length_held, ready.sizes.a_high));
      }

  pub can_answer : (found : Found) → run.requests < 4294967296 → found ≡ found_in run.k page (take count cache) → AnswerReady found run count
  can_answer found wide f =
      let further = ready.further in
      let requests : run.requests < 4294967295 = cases (eqb run.requests 4294967295) (λ e. absurd (further (eqb-true _ _ e))) (λ e. omega tests) in
      record {
        fits = record {
          requests_fit = requests;
          loads_fit = omega (arith, ready.loads_most);
          evictions_fit = omega (arith, ready.loads_most, ready.evictions_most);
        };
        count_most = omega (arith, ready.count_most, ready.sizes.k_high);
        enough = λ e. ((can_settle found f).enough e).1;
      }
