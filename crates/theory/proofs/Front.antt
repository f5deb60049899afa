-- A policy that evicts from the front of its list protects pages since MIN's last bundle, and they stand behind the others: least recent use those
-- requested since then, oldest load those loaded since then. So the factor holds for both.
use Prim.Native.Nat.{ℕ, ◌*◌, ◌≤◌}
use native.Mathlib.Omega.{arith}
use mathlib.Core.Bool.{Bool, true, false}
use mathlib.Core.List.{List, [], ◌∷◌, ◌++◌, map}
use mathlib.Core.Logic.{◌⊎◌, inl, inr}
use mathlib.Core.Path.{◌≡◌, refl, ap, ◌∙◌}
use lib.Dec.{ltb}
use lib.ListN.{length, take, drop}
use lib.Seq.{length-take-le}
use borrow.Author.Tests.{eqb-true}
use Rattle.lists.specs.Choice.{pick}
use Rattle.lists.specs.Pages.{mem, without, distinct, count}
use Rattle.lists.proofs.Choice.{tests, cases, split, clash, or_r, or_split}
use Rattle.lists.proofs.Pages.{distinct_once, mem_here, mem_snoc_split, without_gone, find_some, to_end_same, erase_all_take}
use Rattle.paging.specs.Front.{front_rule, lru_rule}
use Rattle.paging.specs.Layers.{join_count}
use Rattle.paging.specs.Min.{min_rule, best_count}
use Rattle.paging.specs.Policy.{Rule, Kind, is_bundled, kind_of, after_hit, serve_by, serve, kinds_by, kinds, bundle_count_by, bundle_count}
use Rattle.paging.specs.declared.Keeping.{Keeping}
use Rattle.paging.specs.declared.Keeping.TheVariants.{ByRequest, ByLoad}
use Rattle.theory.specs.Factor.{ceil_div, SamePages, Policy, policy_kinds, Step, Protects}
use Rattle.theory.proofs.Best.{layers_count_best}
use Rattle.theory.proofs.Bundles.{not_absent, absent_after, by_kind_kept}
use Rattle.theory.proofs.Factor.{bundles_within_factor}
use Rattle.theory.proofs.Orders.{min_rule_is_farthest}
use Rattle.theory.proofs.Phases.{ceil_div_covers}
use Rattle.theory.proofs.Trailing.{Trailing, trailing_without, trailing_drop, trailing_snoc, trailing_take, take_held}

-- the pages held, with those protected since MIN's last bundle
pub record FrontState : Type 0 where
  pub held : List ℕ
  pub since : List ℕ

-- the protected pages after a request for p
abbrev protected_after : Keeping → (p : ℕ) → (held since : List ℕ) → List ℕ
protected_after ByRequest p held since = p ∷ since
protected_after ByLoad p held since = pick (mem p held) since (p ∷ since)

abbrev pub front_policy : Keeping → (k a : ℕ) → Policy
front_policy keeping k a =
    record {
      State = FrontState;
      start = record { held = []; since = [] };
      cleared = λ x. record { held = x.held; since = [] };
      served = λ x p.
          record {
            held = serve_by keeping (front_rule a) k p [] x.held;
            since = protected_after keeping p x.held x.since;
          };
      pages = λ x. x.held;
      guards = λ x q. mem q x.since;
    }

abbrev front_stands : FrontState → Type 0
front_stands x = Trailing (λ q. mem q x.since) x.held

-- A request protects its page where it loads it, keeps what was protected, and protects no other page

module _ (p : ℕ) (held since : List ℕ) where
  protects_loaded : (keeping : Keeping) → mem p held ≡ false → protected_after keeping p held since ≡ p ∷ since
  protects_loaded ByRequest m = refl
  protects_loaded ByLoad m = rw m refl

  protects_still : (keeping : Keeping) (q : ℕ) → mem q since ≡ true → mem q (protected_after keeping p held since) ≡ true
  protects_still ByRequest q g = or_r _ _ g
  protects_still ByLoad q g = cases (mem p held) (λ m. rw m g) (λ m. rw m (or_r _ _ g))

  protects_only : (keeping : Keeping) (q : ℕ) → mem q (protected_after keeping p held since) ≡ true → (mem q since ≡ true) ⊎ (q ≡ p)
  protects_only ByRequest q g = split (or_split _ _ g) (λ e. inr (eqb-true q p e)) (λ e. inl e)
  protects_only ByLoad q g =
      cases (mem p held)
      (λ m. inl (rw m at g))
      (λ m. split (or_split _ _ (rw m at g)) (λ e. inr (eqb-true q p e)) (λ e. inl e))

hit_same : (keeping : Keeping) (p : ℕ) (held : List ℕ) → mem p held ≡ true → distinct held ≡ true → SamePages (after_hit keeping p held) held
hit_same ByRequest p held m d = to_end_same p held m (distinct_once held d p)
hit_same ByLoad p held m d = λ f. refl

-- p, absent among `rest`, behind it
trailing_loaded : (p : ℕ) (since rest : List ℕ) → mem p rest ≡ false → Trailing (λ q. mem q since) rest → Trailing (λ q. mem q (p ∷ since)) (rest ++ (p ∷ []))
trailing_loaded p since rest m s =
    trailing_snoc (λ q. mem q since) (λ q. mem q (p ∷ since)) p rest
    (λ q i h. split (or_split _ _ h) (λ e. clash _ e (not_absent p rest m q i)) (λ e. e)) (λ q h. or_r _ _ h) (mem_here p since) s

module _ (keeping : Keeping) (k a : ℕ) (le : a ≤ k) where
  front_goes_on : (x : FrontState) (p : ℕ) → front_stands x → front_stands ((front_policy keeping k a).served x p)
  front_goes_on x p t =
      by_kind_kept keeping (λ kind after. Trailing (λ q. mem q (protected_after keeping p x.held x.since)) after) (front_rule a) k p [] x.held
      (again keeping)
      (λ m l. rw (protects_loaded p x.held x.since keeping m) (trailing_loaded p x.since x.held m t))
      (λ m l. rw (protects_loaded p x.held x.since keeping m, erase_all_take a x.held)
      (trailing_loaded p x.since (drop a x.held) (dropped m) (trailing_drop (λ q. mem q x.since) a x.held t)))
    where
      again : (kept : Keeping) → mem p x.held ≡ true → Trailing (λ q. mem q (protected_after kept p x.held x.since)) (after_hit kept p x.held)
      again ByRequest m = trailing_loaded p x.since (without p x.held) (without_gone p x.held) (trailing_without (λ q. mem q x.since) p x.held t)
      again ByLoad m = rw m t

      dropped : mem p x.held ≡ false → mem p (drop a x.held) ≡ false
      dropped m = rw (← erase_all_take a x.held) (absent_after p (take a x.held) x.held m)

  front_steps : (x : FrontState) (p : ℕ) → front_stands x → distinct x.held ≡ true → Step (front_policy keeping k a) k a p x ((front_policy keeping k a).served x p)
  front_steps x p t d =
      record {
        hit = λ m. rw m (hit_same keeping p x.held m d);
        load = λ m l. let e : ltb (length x.held) k ≡ true = omega tests in rw (m, e) (λ f. refl);
        bundle = λ m l. let e : ltb (length x.held) k ≡ false = omega tests in
            record {
              bundle = take a x.held;
              size = length-take-le a x.held (omega arith);
              in_hand = take_held a x.held;
              after = rw (m, e) (λ f. refl);
              protects = split (find_some (λ q. mem q x.since) (take a x.held))
                  (λ s. inr (rw (m, e, erase_all_take a x.held)
                  (λ q i. split (mem_snoc_split q p (drop a x.held) i)
                  (λ j. inl (trailing_take (λ r. mem r x.since) a x.held t s.0 s.1 s.2 q j)) (λ j. inr j))))
                  (λ n. inl n);
            };
        keeps = λ q i g. protects_still p x.held x.since keeping q g;
        guards_loaded = λ m. rw (protects_loaded p x.held x.since keeping m) (mem_here p x.since);
        guards_only = λ q g. protects_only p x.held x.since keeping q g;
      }

  pub front_protects : Protects (front_policy keeping k a) k a
  front_protects =
      record {
        stands = front_stands;
        starts = tt;
        empty = refl;
        clears = λ x t. cleared_stands x.held;
        clears_pages = λ x f. refl;
        clears_guards = λ x q. refl;
        goes_on = λ x p t d. front_goes_on x p t;
        steps = front_steps;
      }
    where
      cleared_stands : (xs : List ℕ) → Trailing (λ q. mem q []) xs
      cleared_stands [] = tt
      cleared_stands (x ∷ xs) = (λ h r i. clash false h refl, cleared_stands xs)

  -- its requests are those of the plain rule
  front_kinds : (trace later other : List ℕ) (held : List ℕ) (x : FrontState) → x.held ≡ held → (rule : Rule) (M : List ℕ)
      → policy_kinds (front_policy keeping k a) k trace (map is_bundled (kinds rule k trace other M)) x ≡ kinds_by keeping (front_rule a) k trace later held
  front_kinds [] later other held x e rule M = refl
  front_kinds (p ∷ ps) later other held x e rule M =
      let y = pick (is_bundled (kind_of k p M)) ((front_policy keeping k a).cleared x) x in
      let same : y.held ≡ held = either (is_bundled (kind_of k p M)) ∙ e in
      let rest = front_kinds ps later other (serve_by keeping (front_rule a) k p (ps ++ later) held) ((front_policy keeping k a).served y p)
      (ap (λ (h : List ℕ). serve_by keeping (front_rule a) k p [] h) same) rule (serve rule k p (ps ++ other) M) in
      λ i. kind_of k p (same i) ∷ rest i
    where
      either : (b : Bool) → (pick b ((front_policy keeping k a).cleared x) x).held ≡ x.held
      either true = refl
      either false = refl

-- a policy that evicts from the front makes at most k/a, rounded up, times the best count of bundles
pub front_within_factor : (keeping : Keeping) (k a : ℕ) → 1 ≤ a → a ≤ k → (trace : List ℕ)
    → bundle_count_by keeping (front_rule a) k trace ≤ ceil_div k a * best_count k a trace
front_within_factor keeping k a pos le trace =
    omega (
      arith,
      bundles_within_factor k a (ceil_div k a) pos le (ceil_div_covers k a pos) (front_policy keeping k a) (front_protects keeping k a le)
          (min_rule a) (min_rule_is_farthest a) trace [],
      ap (λ (ks : List Kind). count is_bundled ks) (front_kinds keeping k a le trace [] [] [] (front_policy keeping k a).start refl (min_rule a) []),
    )

-- least recent use does
pub lru_within_factor : (k a : ℕ) → 1 ≤ a → a ≤ k → (trace : List ℕ) → bundle_count (lru_rule a) k trace ≤ ceil_div k a * best_count k a trace
lru_within_factor = front_within_factor ByRequest

-- and oldest load
pub fifo_within_factor : (k a : ℕ) → 1 ≤ a → a ≤ k → (trace : List ℕ) → bundle_count_by ByLoad (front_rule a) k trace ≤ ceil_div k a * best_count k a trace
fifo_within_factor = front_within_factor ByLoad

-- as document 02's request 01 says it: against the layers' count
pub fifo_within_layers : (k a : ℕ) → 1 ≤ a → a ≤ k → (trace : List ℕ) → bundle_count_by ByLoad (front_rule a) k trace ≤ ceil_div k a * join_count k a trace
fifo_within_layers k a pos le trace = rw (layers_count_best k a pos le trace) (fifo_within_factor k a pos le trace)
