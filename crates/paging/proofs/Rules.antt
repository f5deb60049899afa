-- The layers and the rules along a trace: one rule a request, each of them 1a, 1b or 1c.
use Prim.Native.Nat.{ℕ, suc, ◌+◌}
use native.Mathlib.Omega.{arith}
use mathlib.Core.List.{List, [], ◌∷◌, ◌++◌}
use mathlib.Core.Path.{◌≡◌, refl, ap}
use lib.ListN.{length}
use Rattle.lists.specs.Pages.{count}
use Rattle.paging.specs.Layers.{Layers, LayerRule, append, join, lift, is_append, is_join, is_lift, layer_rule, layered, layers_after, layer_rules}

pub rules_length : (k a : ℕ) (trace : List ℕ) (L : Layers) → length (layer_rules k a trace L) ≡ length trace
rules_length k a [] L = refl
rules_length k a (p ∷ ps) L = ap suc (rules_length k a ps (layered k a p L))

pub layers_snoc : (k a : ℕ) (trace : List ℕ) (p : ℕ) (L : Layers) → layers_after k a (trace ++ (p ∷ [])) L ≡ layered k a p (layers_after k a trace L)
layers_snoc k a [] p L = refl
layers_snoc k a (q ∷ qs) p L = layers_snoc k a qs p (layered k a q L)

pub rules_snoc : (k a : ℕ) (trace : List ℕ) (p : ℕ) (L : Layers)
    → layer_rules k a (trace ++ (p ∷ [])) L
    ≡ layer_rules k a trace L ++ (layer_rule k ((layers_after k a trace L).of p) (layers_after k a trace L).top ∷ [])
rules_snoc k a [] p L = refl
rules_snoc k a (q ∷ qs) p L = ap (λ rules. layer_rule k (L.of q) L.top ∷ rules) (rules_snoc k a qs p (layered k a q L))

-- every rule is counted by exactly one of the three tests
pub rules_add_up : (rules : List LayerRule) → count is_append rules + count is_join rules + count is_lift rules ≡ length rules
rules_add_up [] = refl
rules_add_up (append ∷ rules) = omega (arith, rules_add_up rules)
rules_add_up (join ∷ rules) = omega (arith, rules_add_up rules)
rules_add_up (lift ∷ rules) = omega (arith, rules_add_up rules)
