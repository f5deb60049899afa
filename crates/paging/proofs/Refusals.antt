-- Laws of the lists of refusals, and of refusals 1, 2 and 3, which the calls judge first.
use Prim.Native.Nat.{ℕ, ◌≤◌, ◌<◌}
use native.Mathlib.Omega.{arith}
use mathlib.Core.Bool.{Bool, false}
use mathlib.Core.List.{List}
use mathlib.Core.Path.{◌≡◌, refl, sym, ◌∙◌}
use lib.Dec.{eqb, ltb}
use lib.ListN.{length}
use borrow.Author.Tests.{eq-eqb, ne_eqb, lt-ltb, le-ltb, eqb-true, ltb-false}
use Rattle.lists.specs.Choice.{pick, ◌or◌}
use Rattle.lists.proofs.Choice.{tests, cases, or_none_l, or_none_r}
use Rattle.paging.specs.Refusals.{longest_trace, refuse, sizes_refusal, trace_refusal, SizesRight}

-- one condition of a list that is passed
pub pass : (b : Bool) (number rest : ℕ) → b ≡ false → refuse b number rest ≡ rest
pass b number rest e = rw e

pub zero_pass : (b : Bool) (number rest : ℕ) → (number ≡ 0 → ⊥) → refuse b number rest ≡ 0 → (b ≡ false) × (rest ≡ 0)
zero_pass b number rest n e =
    cases b (λ t. absurd (n (rw t at e))) (λ t. (t, rw t at e))

-- A list of conditions is a function of what is judged behind it: where a condition holds, that does not matter

abbrev pub Chain : (ℕ → ℕ) → Type 0
Chain f = (rest : ℕ) → f rest ≡ pick (eqb (f 0) 0) rest (f 0)

pub chain_end : Chain (λ rest. rest)
chain_end rest = refl

pub chain_refuse : (b : Bool) (number : ℕ) (f : ℕ → ℕ) → (number ≡ 0 → ⊥) → Chain f → Chain (λ rest. refuse b number (f rest))
chain_refuse b number f n chain rest =
    cases b (λ t. rw (t, ne_eqb number 0 n) refl) (λ t. rw t (chain rest))

-- one list behind another
pub chain_behind : (f g : ℕ → ℕ) → Chain f → Chain g → Chain (λ rest. f (g rest))
chain_behind f g first second rest =
    cases (eqb (f 0) 0)
    (λ t. rw (first (g rest), first (g 0), t) (second rest))
    (λ t. rw (first (g rest), first (g 0), t, t) refl)

module _ (f : ℕ → ℕ) (chain : Chain f) where
  pub chain_pass : (rest : ℕ) → f 0 ≡ 0 → f rest ≡ rest
  chain_pass rest e = chain rest ∙ rw e

  pub chain_fall : (rest number : ℕ) → number ≡ f 0 → (number ≡ 0 → ⊥) → f rest ≡ number
  chain_fall rest number e n = chain rest ∙ rw (← e, ne_eqb number 0 n)

  pub chain_zero : (rest : ℕ) → f rest ≡ 0 → f 0 ≡ 0
  chain_zero rest e = cases (eqb (f 0) 0) (λ t. eqb-true _ 0 t) (λ t. sym (chain rest ∙ rw t) ∙ e)

-- 1 and 2

pub sizes_chain : (k a : ℕ) → Chain (sizes_refusal k a)
unfolding sizes_refusal
sizes_chain k a =
    chain_refuse (eqb k 0 or ltb 256 k) 1 (λ rest. refuse (eqb a 0 or ltb k a) 2 rest) (λ z. omega arith)
    (chain_refuse (eqb a 0 or ltb k a) 2 (λ rest. rest) (λ z. omega arith) chain_end)

-- the four ways to be refused, and the one not to be
pub sizes_k_zero : (k a : ℕ) → k ≡ 0 → 1 ≡ sizes_refusal k a 0
unfolding sizes_refusal ◌or◌
sizes_k_zero k a e = rw (eq-eqb k 0 e)

pub sizes_k_high : (k a : ℕ) → 256 < k → 1 ≡ sizes_refusal k a 0
unfolding sizes_refusal ◌or◌
sizes_k_high k a l = rw (ne_eqb k 0 (λ e. omega arith), lt-ltb 256 k l)

pub sizes_a_zero : (k a : ℕ) → (k ≡ 0 → ⊥) → k ≤ 256 → a ≡ 0 → 2 ≡ sizes_refusal k a 0
unfolding sizes_refusal ◌or◌
sizes_a_zero k a n m e = rw (ne_eqb k 0 n, le-ltb 256 k m, eq-eqb a 0 e)

pub sizes_a_high : (k a : ℕ) → (k ≡ 0 → ⊥) → k ≤ 256 → k < a → 2 ≡ sizes_refusal k a 0
unfolding sizes_refusal ◌or◌
sizes_a_high k a n m l = rw (ne_eqb k 0 n, le-ltb 256 k m) (rw (ne_eqb a 0 (λ e. omega arith), lt-ltb k a l))

pub sizes_none : (k a : ℕ) → (k ≡ 0 → ⊥) → k ≤ 256 → (a ≡ 0 → ⊥) → a ≤ k → 0 ≡ sizes_refusal k a 0
unfolding sizes_refusal ◌or◌
sizes_none k a n m z h = rw (ne_eqb k 0 n, le-ltb 256 k m) (rw (ne_eqb a 0 z, le-ltb k a h))

pub ruleset sizes_rules = (sizes_k_zero, sizes_k_high, sizes_a_zero, sizes_a_high, sizes_none)

pub sizes_pass : (k a rest : ℕ) → sizes_refusal k a 0 ≡ 0 → sizes_refusal k a rest ≡ rest
sizes_pass k a rest e = chain_pass (sizes_refusal k a) (sizes_chain k a) rest e

pub sizes_fall : (k a rest number : ℕ) → number ≡ sizes_refusal k a 0 → (number ≡ 0 → ⊥) → sizes_refusal k a rest ≡ number
sizes_fall k a rest number e n = chain_fall (sizes_refusal k a) (sizes_chain k a) rest number e n

pub sizes_right : (k a : ℕ) → sizes_refusal k a 0 ≡ 0 → SizesRight k a
unfolding sizes_refusal ◌or◌
sizes_right k a e =
    let first = zero_pass (eqb k 0 or ltb 256 k) 1 _ (λ z. omega arith) e in
    let second = zero_pass (eqb a 0 or ltb k a) 2 _ (λ z. omega arith) first.1 in
    let k1 = or_none_l (eqb k 0) (ltb 256 k) first.0 in
    let k2 = or_none_r (eqb k 0) (ltb 256 k) first.0 in
    let a1 = or_none_l (eqb a 0) (ltb k a) second.0 in
    let a2 = or_none_r (eqb a 0) (ltb k a) second.0 in
    record { a_low = omega tests; a_high = omega tests; k_high = omega tests }

pub sizes_taken : (k a : ℕ) → SizesRight k a → (rest : ℕ) → sizes_refusal k a rest ≡ rest
unfolding sizes_refusal ◌or◌
sizes_taken k a r rest =
    let l = r.a_low in
    let h = r.a_high in
    let m = r.k_high in
    rw (ne_eqb k 0 (λ e. omega arith), le-ltb 256 k m, ne_eqb a 0 (λ e. omega arith), le-ltb k a h)

-- what is known where a list that begins with 1 and 2 refuses nothing
pub sizes_rest : (k a rest : ℕ) → sizes_refusal k a rest ≡ 0 → SizesRight k a × (rest ≡ 0)
sizes_rest k a rest e =
    let z = chain_zero (sizes_refusal k a) (sizes_chain k a) rest e in
    (sizes_right k a z, sym (sizes_pass k a rest z) ∙ e)

-- 1, 2 and 3

-- the three ways to be judged
pub trace_sizes : (k a : ℕ) (trace : List ℕ) (number : ℕ) → number ≡ sizes_refusal k a 0 → (number ≡ 0 → ⊥) → number ≡ trace_refusal k a trace 0
unfolding trace_refusal
trace_sizes k a trace number e n = sym (sizes_fall k a _ number e n)

pub trace_long : (k a : ℕ) (trace : List ℕ) → 0 ≡ sizes_refusal k a 0 → longest_trace < length trace → 3 ≡ trace_refusal k a trace 0
unfolding trace_refusal
trace_long k a trace e l = sym (sizes_pass k a _ (sym e) ∙ rw (lt-ltb longest_trace (length trace) l))

pub trace_none : (k a : ℕ) (trace : List ℕ) → 0 ≡ sizes_refusal k a 0 → length trace ≤ longest_trace → 0 ≡ trace_refusal k a trace 0
unfolding trace_refusal
trace_none k a trace e h = sym (sizes_pass k a _ (sym e) ∙ rw (le-ltb longest_trace (length trace) h))

pub ruleset trace_rules = (trace_sizes, trace_long, trace_none)

module _ (k a : ℕ) (trace : List ℕ) where
  pub trace_chain : Chain (trace_refusal k a trace)
  unfolding trace_refusal sizes_refusal
  trace_chain =
      chain_refuse (eqb k 0 or ltb 256 k) 1 (λ rest. refuse (eqb a 0 or ltb k a) 2 (refuse (ltb longest_trace (length trace)) 3 rest)) (λ z. omega arith)
      (chain_refuse (eqb a 0 or ltb k a) 2 (λ rest. refuse (ltb longest_trace (length trace)) 3 rest) (λ z. omega arith)
      (chain_refuse (ltb longest_trace (length trace)) 3 (λ rest. rest) (λ z. omega arith) chain_end))

  pub trace_pass : (rest : ℕ) → trace_refusal k a trace 0 ≡ 0 → trace_refusal k a trace rest ≡ rest
  trace_pass = chain_pass (trace_refusal k a trace) trace_chain

  pub trace_fall : (rest number : ℕ) → number ≡ trace_refusal k a trace 0 → (number ≡ 0 → ⊥) → trace_refusal k a trace rest ≡ number
  trace_fall = chain_fall (trace_refusal k a trace) trace_chain

  -- where it refuses nothing, the sizes are right, the trace is short enough, and what is behind it refuses nothing
  pub trace_right : (rest : ℕ) → trace_refusal k a trace rest ≡ 0 → SizesRight k a × (length trace ≤ longest_trace) × (rest ≡ 0)
  unfolding trace_refusal
  trace_right rest e =
      let sizes = sizes_rest k a _ e in
      let three = zero_pass (ltb longest_trace (length trace)) 3 rest (λ z. omega arith) sizes.1 in
      (sizes.0, ltb-false _ _ three.0, three.1)

  pub trace_taken : SizesRight k a → length trace ≤ longest_trace → (rest : ℕ) → trace_refusal k a trace rest ≡ rest
  unfolding trace_refusal
  trace_taken r h rest = sizes_taken k a r _ ∙ rw (le-ltb longest_trace (length trace) h)
