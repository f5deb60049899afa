-- What the factor asks of a policy: it evicts only where its buffer is full, in bundles of a pages, and it protects pages since MIN's last
-- bundle, so that a bundle that takes a protected page leaves protected pages only. Least recent use protects the pages requested since
-- then, oldest load those loaded since then, marking those marked since then.
use Rattle.std.specs.Prelude.{ℕ, ◌+◌, ◌-◌, ◌/◌, ◌≤◌, ◌<◌, Bool, true, false, List, [], ◌∷◌, ◌++◌, ◌⊎◌, ◌≡◌, length}
use Rattle.lists.specs.Choice.{pick}
use Rattle.lists.specs.Pages.{mem, erase_all, distinct, count}
use Rattle.paging.specs.Policy.{Kind, kind_of}
use Rattle.paging.specs.Schedule.{held_in_turn}

-- k/a, rounded up
abbrev pub ceil_div : (k a : ℕ) → ℕ
ceil_div k a = (k + (a - 1)) / a

-- a policy: its states, the pages that it holds and those that it protects; what it does where MIN makes a bundle, before the request is
-- served (marking clears its marks); and serving a request
pub record Policy : Type 1 where
  pub State : Type 0
  pub start : State
  pub cleared : State → State
  pub served : State → ℕ → State
  pub pages : State → List ℕ
  pub guards : State → ℕ → Bool

-- what each request of the trace was for the policy; `min_bundles` says at each request whether MIN makes one there
abbrev pub policy_kinds : (P : Policy) → (k : ℕ) → (trace : List ℕ) → (min_bundles : List Bool) → P.State → List Kind
policy_kinds P k [] min_bundles x = []
policy_kinds P k (p ∷ ps) [] x = []
policy_kinds P k (p ∷ ps) (b ∷ bs) x =
    let y = pick b (P.cleared x) x in
    kind_of k p (P.pages y) ∷ policy_kinds P k ps bs (P.served y p)

-- two lists have the same pages, each as often
abbrev pub SamePages : List ℕ → List ℕ → Type 0
SamePages xs ys = (f : ℕ → Bool) → count f xs ≡ count f ys

-- the bundle that a policy takes in state x, on a request for p that leads to state y
pub record Taken (P : Policy) (a p : ℕ) (x y : P.State) : Type 0 where
  pub bundle : List ℕ
  pub size : length bundle ≡ a
  pub in_hand : held_in_turn bundle (P.pages x) ≡ true
  pub after : SamePages (P.pages y) (erase_all bundle (P.pages x) ++ (p ∷ []))
  -- it spares the protected pages, or leaves protected pages only, and p
  pub protects :
      ((q : ℕ) → mem q bundle ≡ true → P.guards x q ≡ false)
      ⊎ ((q : ℕ) → mem q (P.pages y) ≡ true → (P.guards x q ≡ true) ⊎ (q ≡ p))

-- serving p leads from x to y
pub record Step (P : Policy) (k a p : ℕ) (x y : P.State) : Type 0 where
  pub hit : mem p (P.pages x) ≡ true → SamePages (P.pages y) (P.pages x)
  pub load : mem p (P.pages x) ≡ false → length (P.pages x) < k → SamePages (P.pages y) (P.pages x ++ (p ∷ []))
  pub bundle : mem p (P.pages x) ≡ false → k ≤ length (P.pages x) → Taken P a p x y
  -- a protected page that stays is protected further, so is a page that is loaded, and no other page comes to be protected
  pub keeps : (q : ℕ) → mem q (P.pages y) ≡ true → P.guards x q ≡ true → P.guards y q ≡ true
  pub guards_loaded : mem p (P.pages x) ≡ false → P.guards y p ≡ true
  pub guards_only : (q : ℕ) → P.guards y q ≡ true → (P.guards x q ≡ true) ⊎ (q ≡ p)

-- a policy that protects its pages. `stands` may say what its states have besides
pub record Protects (P : Policy) (k a : ℕ) : Type 1 where
  pub stands : P.State → Type 0
  pub starts : stands P.start
  pub empty : P.pages P.start ≡ []
  pub clears : (x : P.State) → stands x → stands (P.cleared x)
  pub clears_pages : (x : P.State) → SamePages (P.pages (P.cleared x)) (P.pages x)
  pub clears_guards : (x : P.State) (q : ℕ) → P.guards (P.cleared x) q ≡ false
  pub goes_on : (x : P.State) (p : ℕ) → stands x → distinct (P.pages x) ≡ true → stands (P.served x p)
  pub steps : (x : P.State) (p : ℕ) → stands x → distinct (P.pages x) ≡ true → Step P k a p x (P.served x p)
