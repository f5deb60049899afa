-- One request of a policy beside one of a rule that takes farthest pages. With R the pages requested since the rule's last bundle, e and E
-- the bundles of the policy and of the rule so far, and Q the factor, one of two phases holds: the policy holds pages of R only and e ≤ Q E;
-- or, for some x, e ≤ Q (E - 1) + x, and a x plus the pages held is at most k plus the protected pages.
use Prim.Native.Nat.{ℕ, suc, ◌+◌, ◌*◌, ◌-◌, ◌≤◌, ◌<◌}
use native.Mathlib.Nat.{mul-suc, mul-add, mul-one, mul-zero, mul-le-mul_left, div-add-mod, mod-lt}
use native.Mathlib.Omega.{arith}
use mathlib.Core.Bool.{Bool, true, false}
use mathlib.Core.List.{List, [], ◌∷◌, ◌++◌}
use mathlib.Core.Logic.{◌⊎◌, inl, inr}
use mathlib.Core.Path.{◌≡◌, refl, sym, ap, ◌∙◌}
use lib.Dec.{eqb, leb, ltb}
use lib.ListN.{length, length-append}
use borrow.Author.Tests.{eqb-true}
use Rattle.lists.specs.Choice.{◌or◌}
use Rattle.lists.specs.Pages.{mem, erase_all, count}
use Rattle.lists.proofs.Choice.{tests, cases, split, clash, or_l, or_r, or_split, bit_true, eqb_self}
use Rattle.lists.proofs.Pages.{Same, once_snoc, mem_same, length_same, mem_here, mem_snoc_split, count_snoc, count_length, count_mono, count_members, count_none, count_all}
use Rattle.lists.proofs.Pages.{count_incl}
use Rattle.theory.specs.Factor.{ceil_div, Policy, Step}
use Rattle.theory.proofs.Bundles.{count_taken, length_taken, Fits}

-- k/a rounded up is the least Q with k ≤ a Q

pub ceil_div_covers : (k a : ℕ) → 1 ≤ a → k ≤ a * ceil_div k a
ceil_div_covers k a pos = omega (arith, div-add-mod (k + (a - 1)) a, mod-lt (k + (a - 1)) {m = a} (omega arith))

pub ceil_div_least : (k a Q : ℕ) → 1 ≤ a → k ≤ a * Q → ceil_div k a ≤ Q
ceil_div_least k a Q pos h =
    cases (leb (ceil_div k a) Q) (λ e. omega tests)
    (λ e. let more : a * suc Q ≤ a * ceil_div k a = mul-le-mul_left a (omega tests) in
    absurd (omega (arith, div-add-mod (k + (a - 1)) a, mul-suc a Q)))

-- where a x is at most a Q, x is at most Q
at_most_factor : (a x Q n : ℕ) → a * x + n ≤ a * Q → 1 ≤ a → x ≤ Q
at_most_factor a x Q n h pos =
    cases (leb x Q) (λ e. omega tests)
    (λ e. let more : a * suc Q ≤ a * x = mul-le-mul_left a (omega tests) in absurd (omega (arith, mul-suc a Q)))

less_than_factor : (a x Q n : ℕ) → a * x + n < a * Q → x < Q
less_than_factor a x Q n h =
    cases (ltb x Q) (λ e. omega tests)
    (λ e. let more : a * Q ≤ a * x = mul-le-mul_left a (omega tests) in absurd (omega arith))

-- a page that is p stands in front where p does
mem_named : (q p : ℕ) (R : List ℕ) → q ≡ p → mem q (p ∷ R) ≡ true
mem_named q p R e = ap (λ (x : ℕ). mem x (p ∷ R)) e ∙ mem_here p R

-- the two phases
pub record Confined (Q : ℕ) (R pages : List ℕ) (e E : ℕ) : Type 0 where
  pub within : (q : ℕ) → mem q pages ≡ true → mem q R ≡ true
  pub paid : e ≤ Q * E

pub record Spending (k a Q : ℕ) (R pages : List ℕ) (guards : ℕ → Bool) (e E : ℕ) : Type 0 where
  pub x : ℕ
  pub paid : e + Q ≤ Q * E + x
  pub weighed : a * x + length pages ≤ k + count guards pages
  pub within : (q : ℕ) → guards q ≡ true → mem q R ≡ true

abbrev pub Phase : (k a Q : ℕ) (R pages : List ℕ) (guards : ℕ → Bool) (e E : ℕ) → Type 0
Phase k a Q R pages guards e E = Confined Q R pages e E ⊎ Spending k a Q R pages guards e E

module _ (k a Q : ℕ) (pos : 1 ≤ a) (covers : k ≤ a * Q) where
  -- in either phase e is at most Q E
  pub phase_paid : (R pages : List ℕ) (guards : ℕ → Bool) (e E : ℕ) → Phase k a Q R pages guards e E → e ≤ Q * E
  phase_paid R pages guards e E s =
      split s (λ c. c.paid)
      (λ c. let few : c.x ≤ Q = at_most_factor a c.x Q 0 (omega (arith, c.weighed, count_length guards pages)) pos in
      omega (arith, c.paid))

  -- the rule makes a bundle: spending begins anew
  pub phase_clear : (R pages after : List ℕ) (guards guards' : ℕ → Bool) (e E : ℕ) → Same after pages → length pages ≤ k
      → ((q : ℕ) → guards' q ≡ false)
      → Phase k a Q R pages guards e E → Phase k a Q [] after guards' e (E + 1)
  phase_clear R pages after guards guards' e E same most none s =
      inr (record {
        x = 0;
        paid = omega (arith, phase_paid R pages guards e E s, mul-add Q E 1, mul-one Q);
        weighed = omega (arith, mul-zero a, length_same after pages same);
        within = λ q g. clash _ g (none q);
      })

  module _ (P : Policy) (p : ℕ) (x y : P.State) (S : Step P k a p x y) (R : List ℕ) (e E : ℕ) (A : Fits k (P.pages x)) where
    -- the pages of R, and p, are held by the rule, which holds at most k pages
    pub phase_hit : mem p (P.pages x) ≡ true → Phase k a Q R (P.pages x) (P.guards x) e E
        → Phase k a Q (p ∷ R) (P.pages y) (P.guards y) e E
    phase_hit m s =
        let same = S.hit m in
        split s
        (λ c. inl (record { within = λ q i. or_r _ _ (c.within q (sym (mem_same (P.pages y) (P.pages x) same q) ∙ i)); paid = c.paid }))
        (λ c. inr (record {
          x = c.x;
          paid = c.paid;
          weighed = omega (
            arith,
            c.weighed,
            length_same (P.pages y) (P.pages x) same,
            same (P.guards x),
            count_members (P.guards x) (P.guards y) (P.pages y) S.keeps,
          );
          within = λ q g. split (S.guards_only q g) (λ h. or_r _ _ (c.within q h)) (λ h. mem_named _ p R h);
        }))

    -- p is loaded, and protected, beside what stays of the protected pages
    guarded_more : (rest : List ℕ) → Same (P.pages y) (rest ++ (p ∷ [])) → mem p (P.pages x) ≡ false
        → count (P.guards x) rest + 1 ≤ count (P.guards y) (P.pages y)
    guarded_more rest same m =
        let h : ℕ → Bool = λ q. P.guards x q or eqb q p in
        omega (
          arith,
          same h,
          count_snoc h rest p,
          bit_true (h p) (or_r _ _ (eqb_self p)),
          count_mono (P.guards x) h rest (λ q g. or_l _ _ g),
          count_members h (P.guards y) (P.pages y) (λ q i t. split (or_split _ _ t) (λ g. S.keeps q i g) (λ g. rw (eqb-true q p g) (S.guards_loaded m))),
        )

    loaded_within : (rest : List ℕ) → Same (P.pages y) (rest ++ (p ∷ [])) → ((q : ℕ) → mem q rest ≡ true → mem q R ≡ true) → (q : ℕ)
        → mem q (P.pages y) ≡ true → mem q (p ∷ R) ≡ true
    loaded_within rest same h q i =
        split (mem_snoc_split q p rest (sym (mem_same (P.pages y) (rest ++ (p ∷ [])) same q) ∙ i)) (λ g. or_r _ _ (h q g)) (λ g. mem_named _ p R g)

    guards_within : ((q : ℕ) → P.guards x q ≡ true → mem q R ≡ true) → (q : ℕ) → P.guards y q ≡ true → mem q (p ∷ R) ≡ true
    guards_within h q g = split (S.guards_only q g) (λ i. or_r _ _ (h q i)) (λ i. mem_named _ p R i)

    length_loaded : (rest : List ℕ) → Same (P.pages y) (rest ++ (p ∷ [])) → length (P.pages y) ≡ length rest + 1
    length_loaded rest same = length_same (P.pages y) (rest ++ (p ∷ [])) same ∙ length-append rest (p ∷ [])

    pub phase_load : mem p (P.pages x) ≡ false → length (P.pages x) < k → Phase k a Q R (P.pages x) (P.guards x) e E
        → Phase k a Q (p ∷ R) (P.pages y) (P.guards y) e E
    phase_load m l s =
        let same = S.load m l in
        split s
        (λ c. inl (record { within = loaded_within (P.pages x) same c.within; paid = c.paid }))
        (λ c. inr (record {
          x = c.x;
          paid = c.paid;
          weighed = omega (arith, c.weighed, guarded_more (P.pages x) same m, length_loaded (P.pages x) same);
          within = guards_within c.within;
        }))

    -- pages of R and p are at most k, since the rule holds them
    few_since : (M : List ℕ) → length M ≤ k → ((q : ℕ) → mem q (p ∷ R) ≡ true → mem q M ≡ true) → (f : ℕ → Bool)
        → ((q : ℕ) → mem q (P.pages x) ≡ true → f q ≡ true → mem q R ≡ true)
        → mem p (P.pages x) ≡ false → count f (P.pages x) + 1 ≤ k
    few_since M most since f h m =
        let g : ℕ → Bool = λ q. f q or eqb q p in
        let both = P.pages x ++ (p ∷ []) in
        omega (
          arith,
          count_snoc g (P.pages x) p,
          bit_true (g p) (or_r _ _ (eqb_self p)),
          count_mono f g (P.pages x) (λ q t. or_l _ _ t),
          count_length (λ q. true) M,
          count_incl g (λ q. true) both M (once_snoc p (P.pages x) A.once m)
              (λ q i t. (
                since q (split (or_split _ _ t)
                    (λ t'. split (mem_snoc_split q p (P.pages x) i) (λ j. or_r _ _ (h q j t')) (λ j. mem_named _ p R j))
                    (λ t'. mem_named q p R (eqb-true q p t'))),
                refl,
              )),
        )

    pub phase_bundle : (M : List ℕ) → length M ≤ k → ((q : ℕ) → mem q (p ∷ R) ≡ true → mem q M ≡ true) → mem p (P.pages x) ≡ false
        → k ≤ length (P.pages x)
        → Phase k a Q R (P.pages x) (P.guards x) e E → Phase k a Q (p ∷ R) (P.pages y) (P.guards y) (e + 1) E
    phase_bundle M most since m l s =
        let t = S.bundle m l in
        let rest = erase_all t.bundle (P.pages x) in
        split s
        (λ c. absurd (omega (arith, few_since M most since (λ q. true) (λ q i j. c.within q i) m, count_all (λ q. true) (P.pages x) (λ q i. refl))))
        (λ c. split t.protects
        (λ spared. inr (record {
          x = c.x + 1;
          paid = omega (arith, c.paid);
          weighed = omega (
            arith,
            c.weighed,
            guarded_more rest t.after m,
            length_loaded rest t.after,
            mul-add a c.x 1,
            mul-one a,
            count_taken (P.guards x) t.bundle (P.pages x) t.in_hand,
            count_none (P.guards x) t.bundle spared,
            length_taken t.bundle (P.pages x) t.in_hand,
            t.size,
          );
          within = guards_within c.within;
        }))
        (λ took.
        let few = few_since M most since (P.guards x) (λ q i g. c.within q g) m in
        let less : c.x < Q = less_than_factor a c.x Q 0 (omega (arith, c.weighed)) in
        inl (record {
          within = λ q i. split (took q i) (λ g. or_r _ _ (c.within q g)) (λ g. mem_named _ p R g);
          paid = omega (arith, c.paid);
        })))
