-- A run over two traces, one behind the other, is the run over the first and then, from where that led, the run over the second.
-- What the first run sees to come is the second trace.
use Prim.Native.Nat.{ℕ, suc, ◌+◌, ◌≤◌}
use native.Mathlib.Omega.{arith}
use mathlib.Core.List.{List, [], ◌∷◌, ◌++◌, append_assoc}
use mathlib.Core.Path.{◌≡◌, refl, ap, ◌∙◌}
use lib.Dec.{ltb}
use lib.ListN.{length}
use Rattle.lists.specs.Choice.{pick}
use Rattle.lists.specs.Pages.{mem, count, bit}
use Rattle.lists.proofs.Choice.{cases, tests}
use Rattle.paging.specs.Front.{front_rule}
use Rattle.paging.specs.Policy.{Rule, Kind, hit, load, bundled, is_bundled, kind_of, serve_by, holds_by, kinds_by, bundles_by, serve, kinds, bundles}
use Rattle.paging.specs.Schedule.{Entry, ev, entries_cost}
use Rattle.paging.specs.declared.Keeping.{Keeping}

-- what a request is, by cases: a bundle is made only where k pages are held
pub kind_of_cases : (P : Kind → Type 0) (k p : ℕ) (held : List ℕ) → P hit → P load → (k ≤ length held → P bundled) → P (kind_of k p held)
kind_of_cases P k p held f g h =
    cases (mem p held) (λ e. rw e f) (λ e. rw e (cases (ltb (length held) k) (λ d. rw d g) (λ d. rw d (h (omega tests)))))

module _ (keeping : Keeping) (rule : Rule) (k : ℕ) where
  pub holds_append : (xs ys later held : List ℕ)
      → holds_by keeping rule k (xs ++ ys) later held ≡ holds_by keeping rule k ys later (holds_by keeping rule k xs (ys ++ later) held)
  holds_append [] ys later held = refl
  holds_append (x ∷ xs) ys later held =
      ap (λ (l : List ℕ). holds_by keeping rule k (xs ++ ys) later (serve_by keeping rule k x l held)) (append_assoc xs ys later) ∙ holds_append xs ys later _

  pub kinds_append : (xs ys later held : List ℕ)
      → kinds_by keeping rule k (xs ++ ys) later held
      ≡ kinds_by keeping rule k xs (ys ++ later) held ++ kinds_by keeping rule k ys later (holds_by keeping rule k xs (ys ++ later) held)
  kinds_append [] ys later held = refl
  kinds_append (x ∷ xs) ys later held =
      rw (append_assoc xs ys later) (ap (λ (l : List Kind). kind_of k x held ∷ l) (kinds_append xs ys later _))

  pub bundles_append : (t : ℕ) (xs ys later held : List ℕ)
      → bundles_by keeping rule k t (xs ++ ys) later held
      ≡ bundles_by keeping rule k t xs (ys ++ later) held
      ++ bundles_by keeping rule k (t + length xs) ys later (holds_by keeping rule k xs (ys ++ later) held)
  bundles_append t [] ys later held =
      let e : t ≡ t + 0 = omega arith in ap (λ (n : ℕ). bundles_by keeping rule k n ys later held) e
  bundles_append t (x ∷ xs) ys later held =
      let e : suc t + length xs ≡ t + suc (length xs) = omega arith in
      rw (append_assoc xs ys later, bundles_append (suc t) xs ys later (serve_by keeping rule k x (xs ++ (ys ++ later)) held), e)
      (cases (is_bundled (kind_of k x held)) (λ b. rw b) (λ b. rw b))

cost_kind : (x : Kind) (t : ℕ) (b : List ℕ) (rest : List Entry)
    → entries_cost (pick (is_bundled x) (ev t b ∷ rest) rest) ≡ bit (is_bundled x) + entries_cost rest
cost_kind hit t b rest = omega arith
cost_kind load t b rest = omega arith
cost_kind bundled t b rest = omega arith

-- there are as many EVs as requests with a bundle
pub bundles_cost : (rule : Rule) (k t : ℕ) (trace later held : List ℕ)
    → entries_cost (bundles rule k t trace later held) ≡ count is_bundled (kinds rule k trace later held)
bundles_cost rule k t [] later held = refl
bundles_cost rule k t (p ∷ ps) later held =
    cost_kind (kind_of k p held) t (rule (ps ++ later) held) _ ∙ omega (arith, bundles_cost rule k (suc t) ps later (serve rule k p (ps ++ later) held))

-- a rule that takes from the front does not look at what is to come
module _ (keeping : Keeping) (a k : ℕ) where
  pub front_holds_any : (xs later other held : List ℕ) → holds_by keeping (front_rule a) k xs later held ≡ holds_by keeping (front_rule a) k xs other held
  front_holds_any [] later other held = refl
  front_holds_any (x ∷ xs) later other held = front_holds_any xs later other _

  pub front_kinds_any : (xs later other held : List ℕ) → kinds_by keeping (front_rule a) k xs later held ≡ kinds_by keeping (front_rule a) k xs other held
  front_kinds_any [] later other held = refl
  front_kinds_any (x ∷ xs) later other held = ap (λ (l : List Kind). kind_of k x held ∷ l) (front_kinds_any xs later other _)
