-- The layers (document 01, "Layers"; source document 001, Figure 1) as a map: each page has the number of its layer, 0 for L0.
-- The proof of the source's Theorem 1 exchanges the names 1a and 1b; the figure's names are used here.
use Rattle.std.specs.Prelude.{ℕ, zero, suc, ◌+◌, ◌-◌, ◌<◌, min, Bool, true, false, List, [], ◌∷◌, ◌≡◌, eqb, leb, ltb, length}
use Rattle.lists.specs.Choice.{pick, ◌and◌}
use Rattle.lists.specs.Pages.{count}

-- the number of each page's layer, and s, the number of the last layer
pub record Layers : Type 0 where
  pub of : ℕ → ℕ
  pub top : ℕ

-- every page is in L0
abbrev pub no_layers : Layers
no_layers = record { of = λ q. 0; top = 0 }

-- the rule that applied: 1a appends a layer, 1b joins layers, 1c lifts a page out of its layer
pub data LayerRule : Type 0 where
  append : LayerRule
  join : LayerRule
  lift : LayerRule

abbrev pub is_append : LayerRule → Bool
is_append append = true
is_append join = false
is_append lift = false

abbrev pub is_join : LayerRule → Bool
is_join append = false
is_join join = true
is_join lift = false

abbrev pub is_lift : LayerRule → Bool
is_lift append = false
is_lift join = false
is_lift lift = true

-- the rule for a page with number i
abbrev pub layer_rule : (k i s : ℕ) → LayerRule
layer_rule k i s = pick (eqb i 0) (pick (ltb s k) append join) lift

-- the number after the request of a page other than the requested one, which had the number n. i is the requested page's number.
-- 1b: layers k - a to k become layer k - a. 1c: the rest of layer i joins the layer below, and higher layers move down one
abbrev pub renumbered : LayerRule → (k a i n : ℕ) → ℕ
renumbered append k a i n = n
renumbered join k a i n = min n (k - a)
renumbered lift k a i n = pick (leb i n) (n - 1) n

-- s after the request: the number of the layer that holds just the requested page
abbrev pub top_after : LayerRule → (k a s : ℕ) → ℕ
top_after append k a s = s + 1
top_after join k a s = (k - a) + 1
top_after lift k a s = s

-- the layers after a request for p
abbrev pub layered : (k a p : ℕ) → Layers → Layers
layered k a p L =
    let rule = layer_rule k (L.of p) L.top in
    let s = top_after rule k a L.top in
    record { of = λ q. pick (eqb q p) s (renumbered rule k a (L.of p) (L.of q)); top = s }

-- the layers after the requests of a trace
abbrev pub layers_after : (k a : ℕ) → (trace : List ℕ) → Layers → Layers
layers_after k a [] L = L
layers_after k a (p ∷ ps) L = layers_after k a ps (layered k a p L)

-- the rule that applied at each request
abbrev pub layer_rules : (k a : ℕ) → (trace : List ℕ) → Layers → List LayerRule
layer_rules k a [] L = []
layer_rules k a (p ∷ ps) L = layer_rule k (L.of p) L.top ∷ layer_rules k a ps (layered k a p L)

-- the bundles that the layers count
abbrev pub join_count : (k a : ℕ) → (trace : List ℕ) → ℕ
join_count k a trace = count is_join (layer_rules k a trace no_layers)

-- Possible sets (document 01, "Possible set"; source document 001, Lemma 1)

-- how many pages of the set are in L0 to Li
abbrev pub up_to : Layers → ℕ → (set : List ℕ) → ℕ
up_to L i set = count (λ q. leb (L.of q) i) set

-- the rule breaks at layer i: more than i pages of the set are in L0 to Li
abbrev pub breaks_at : Layers → (set : List ℕ) → ℕ → Bool
breaks_at L set i = ltb i (up_to L i set)

-- the rule holds at each layer from 0 to i
abbrev pub holds_up_to : Layers → (set : List ℕ) → ℕ → Bool
holds_up_to L set zero = leb (up_to L 0 set) 0
holds_up_to L set (suc i) = leb (up_to L (suc i) set) (suc i) and holds_up_to L set i

-- a set, its pages each named once, is possible: s pages, and at each i from 0 to s at most i of them from L0 to Li
abbrev pub possible : Layers → (set : List ℕ) → Bool
possible L set = eqb (length set) L.top and holds_up_to L set L.top

-- the smallest layer from 0 to i at which the rule breaks, for a set that breaks it at one of them (document 02, request 06): the last of them
-- where the rule holds at all below it, else the smallest of those below
abbrev pub lowest_broken : Layers → (set : List ℕ) → ℕ → ℕ
lowest_broken L set zero = 0
lowest_broken L set (suc i) = pick (holds_up_to L set i) (suc i) (lowest_broken L set i)

-- the rule breaks at layer i, and at none below it
pub record BreaksFirstAt (L : Layers) (set : List ℕ) (i : ℕ) : Type 0 where
  pub breaks : breaks_at L set i ≡ true
  pub none_lower : (j : ℕ) → j < i → breaks_at L set j ≡ false
