-- What a bundle takes out, and how next uses and the nearest requests are joined.
use Prim.Native.Nat.{ℕ, zero, suc, ◌+◌, ◌≤◌, ◌<◌}
use native.Mathlib.Omega.{arith}
use mathlib.Core.Bool.{Bool, true, false}
use mathlib.Core.List.{List, [], ◌∷◌, ◌++◌}
use mathlib.Core.Logic.{◌⊎◌, inl, inr}
use mathlib.Core.Path.{◌≡◌, refl}
use lib.Dec.{eqb, ltb}
use lib.ListN.{length, take, length-append}
use borrow.Author.Tests.{eqb-true, ltb-true, ltb-false}
use Rattle.lists.specs.Pages.{mem, to_end, erase, erase_all, count}
use Rattle.lists.proofs.Choice.{cases, split, clash, and_l, and_r, and_i, or_l, or_r, or_split, bit_true, eqb_self}
use Rattle.lists.proofs.Pages.{Once, count_erase, count_all, count_some, mem_of_count, find_some, mem_erase_all, length_same, to_end_same, once_snoc, once_to_end, once_erase_all}
use Rattle.paging.specs.Min.{next_use}
use Rattle.paging.specs.Policy.{Rule, Kind, hit, load, bundled, kind_of, after_hit, serve_by, serve}
use Rattle.paging.specs.Schedule.{held_in_turn}
use Rattle.paging.specs.declared.Keeping.{Keeping}
use Rattle.paging.specs.declared.Keeping.TheVariants.{ByRequest}
use Rattle.theory.specs.Farthest.{Farthest}

-- Taking out pages that are held

pub count_taken : (f : ℕ → Bool) (b held : List ℕ) → held_in_turn b held ≡ true → count f (erase_all b held) + count f b ≡ count f held
count_taken f [] held h = omega arith
count_taken f (p ∷ ps) held h =
    omega (arith, count_erase f p held (and_l _ _ h), count_taken f ps (erase p held) (and_r _ _ h))

pub length_taken : (b held : List ℕ) → held_in_turn b held ≡ true → length (erase_all b held) + length b ≡ length held
length_taken b held h =
    let all : ℕ → Bool = λ q. true in
    omega (arith, count_taken all b held h, count_all all held (λ q m. refl), count_all all b (λ q m. refl), count_all all (erase_all b held) (λ q m. refl))

-- a page of the bundle was held, and where no page stood twice it is gone
pub taken_held : (b held : List ℕ) → held_in_turn b held ≡ true → (q : ℕ) → mem q b ≡ true → mem q held ≡ true
taken_held b held h q m =
    mem_of_count q held (omega (arith, count_taken (eqb q) b held h, count_some (eqb q) q b m (eqb_self q)))

-- a page that is held is not one that is absent
pub not_absent : (p : ℕ) (held : List ℕ) → mem p held ≡ false → (q : ℕ) → mem q held ≡ true → eqb q p ≡ false
not_absent p held m q i = cases (eqb q p) (λ e. let i' : mem p held ≡ true = rw (eqb-true q p e) at i in clash _ i' m) (λ e. e)

-- pages that are counted are held, each in its turn
pub counted_held : (b held : List ℕ) → ((f : ℕ → Bool) → count f b ≤ count f held) → held_in_turn b held ≡ true
counted_held [] held h = refl
counted_held (p ∷ ps) held h =
    let m : mem p held ≡ true = mem_of_count p held (omega (arith, h (eqb p), bit_true (eqb p p) (eqb_self p))) in
    and_i _ _ m (counted_held ps (erase p held) (λ f. omega (arith, h f, count_erase f p held m)))

-- Serving a request, by its kind: what holds of the three kinds holds of the request

pub by_kind_kept : (keeping : Keeping) (P : Kind → List ℕ → Type 0) (rule : Rule) (k p : ℕ) (later held : List ℕ)
    → (mem p held ≡ true → P hit (after_hit keeping p held))
    → (mem p held ≡ false → length held < k → P load (held ++ (p ∷ [])))
    → (mem p held ≡ false → k ≤ length held → P bundled (erase_all (rule later held) held ++ (p ∷ [])))
    → P (kind_of k p held) (serve_by keeping rule k p later held)
by_kind_kept keeping P rule k p later held h l b =
    cases (mem p held)
    (λ m. rw m (h m))
    (λ m. cases (ltb (length held) k) (λ e. rw (m, e) (l m (ltb-true _ _ e))) (λ e. rw (m, e) (b m (ltb-false _ _ e))))

-- the same for a list kept by request
pub by_kind : (P : Kind → List ℕ → Type 0) (rule : Rule) (k p : ℕ) (later held : List ℕ)
    → (mem p held ≡ true → P hit (to_end p held))
    → (mem p held ≡ false → length held < k → P load (held ++ (p ∷ [])))
    → (mem p held ≡ false → k ≤ length held → P bundled (erase_all (rule later held) held ++ (p ∷ [])))
    → P (kind_of k p held) (serve rule k p later held)
by_kind = by_kind_kept ByRequest

-- what a buffer keeps along a run: no page twice, at most k pages
pub record Fits (k : ℕ) (held : List ℕ) : Type 0 where
  pub once : Once held
  pub most : length held ≤ k

-- a bundle leaves no new page
pub absent_after : (p : ℕ) (b held : List ℕ) → mem p held ≡ false → mem p (erase_all b held) ≡ false
absent_after p b held m = cases (mem p (erase_all b held)) (λ h. clash _ (mem_erase_all p b held h) m) (λ h. h)

pub fits_serve : (k a : ℕ) → 1 ≤ a → a ≤ k → (rule : Rule) → Farthest a rule → (p : ℕ) (later held : List ℕ) → Fits k held
    → Fits k (serve rule k p later held)
fits_serve k a pos le rule F p later held A =
    by_kind (λ x after. Fits k after) rule k p later held
    (λ m. record { once = once_to_end p held A.once; most = omega (arith, A.most, length_same (to_end p held) held (to_end_same p held m (A.once p))) })
    (λ m l. record { once = once_snoc p held A.once m; most = omega (arith, length-append held (p ∷ [])) })
    (λ m l. let b = rule later held in
    let enough : a ≤ length held = omega arith in
    record {
      once = once_snoc p (erase_all b held) (once_erase_all b held A.once) (absent_after p b held m);
      most = omega (arith, A.most, length-append (erase_all b held) (p ∷ []), length_taken b held (F.in_hand later held enough), F.size later held enough);
    })

pub fits_start : (k : ℕ) → Fits k []
fits_start k = record { once = λ q. omega arith; most = omega arith }

-- Near and far

pub near_use : (p T : ℕ) (later : List ℕ) → mem p (take T later) ≡ true → (next_use p later < T) × (next_use p later < length later)
near_use p zero later m = clash false m refl
near_use p (suc T) [] m = clash false m refl
near_use p (suc T) (x ∷ xs) m =
    cases (eqb p x)
    (λ e. rw e (omega arith, omega arith))
    (λ e. let h = near_use p T xs (split (or_split _ _ m) (λ g. clash _ g e) (λ g. g)) in rw e (omega arith, omega arith))

pub use_near : (p T : ℕ) (later : List ℕ) → next_use p later < T → next_use p later < length later → mem p (take T later) ≡ true
use_near p zero later h g = absurd (omega arith)
use_near p (suc T) [] h g = absurd (omega arith)
use_near p (suc T) (x ∷ xs) h g =
    cases (eqb p x)
    (λ e. or_l _ _ e)
    (λ e. or_r _ _ (use_near p T xs (let h' : suc (next_use p xs) < suc T = rw e at h in omega arith) (let g' : suc (next_use p xs) < suc (length xs) = rw e at g in omega arith)))

-- of a farthest bundle: no page that goes is among the next T requests, or each that stays is
pub farthest_cut : (a : ℕ) (rule : Rule) → Farthest a rule → (later held : List ℕ) → a ≤ length held → (T : ℕ)
    → ((q : ℕ) → mem q (rule later held) ≡ true → mem q (take T later) ≡ false) ⊎ ((q : ℕ) → mem q (erase_all (rule later held) held) ≡ true → mem q (take T later) ≡ true)
farthest_cut a rule F later held h T =
    split (find_some (λ q. mem q (take T later)) (rule later held))
    (λ s. inr (λ q m. let u = near_use s.0 T later s.2 in let v = F.far later held h s.0 q s.1 m in use_near q T later (omega arith) (omega arith)))
    (λ n. inl n)
