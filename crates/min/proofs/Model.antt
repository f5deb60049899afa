-- The kept keys are the model's MIN: request by request the same kind, the same bundle, and again the sorted keys of the pages held.
use Prim.Native.Nat.{ℕ, zero, suc, ◌*◌, ◌-◌, ◌<◌}
use native.Mathlib.Omega.{arith}
use mathlib.Core.Bool.{true, false, false≢true}
use mathlib.Core.List.{List, [], ◌∷◌, ◌++◌, map, append-nil}
use mathlib.Core.Path.{◌≡◌, refl, sym, ◌∙◌, ap, subst}
use lib.Dec.{ltb, eqb}
use lib.ListN.{length, take, drop, get_or, length-append, length-map}
use lib.Seq.{get_or_at, take_at}
use borrow.Author.Tests.{ne_eqb, eq-eqb, eqb-true}
use Rattle.lists.specs.Pages.{mem, without, erase_all, count}
use Rattle.lists.specs.Sorting.{sort_by, insert_behind}
use Rattle.lists.proofs.Choice.{cases, clash, bit_true, eqb_self, or_none}
use Rattle.lists.proofs.Pages.{Once, count_some, without_absent, without_gone, mem_erase_all, once_snoc, once_without, once_erase_all}
use Rattle.lists.proofs.Sorting.{length_sort}
use Rattle.paging.specs.Min.{min_rule, farther, best_count, min_loads}
use Rattle.paging.specs.Policy.{Kind, hit, is_bundled, is_load, kind_of, serve, kinds, bundles}
use Rattle.keys.specs.Keys.{page_of, less_near, key, last_of, kind_in, stay, serve_keys, kinds_of, bundles_of}
use Rattle.keys.proofs.Order.{Pages, left_now, near_now, less_near_now, key_other, key_sort, page_of_keys, keys_other, keys_below, keys_erase_all}
use Rattle.keys.proofs.Sorting.{insert, sort, sort_snoc, sort_erase_all, Below, none, also, below_sort, below_take, below_erase_all, below_without, below_snoc, below_at, insert_last, insert_before}

-- the pages held and their keys, with `later` to come
pub record Kept (later held keys : List ℕ) : Type 0 where
  pub order : keys ≡ sort (map (key later) held)
  pub pages : Pages held
  pub once : Once held

snoc_map : {A B : Type 0} (f : A → B) (l : List A) (x : A) → map f (l ++ (x ∷ [])) ≡ map f l ++ (f x ∷ [])
snoc_map f [] x = refl
snoc_map {A} {B} f (y ∷ l) x = ap (λ (r : List B). f y ∷ r) (snoc_map f l x)

pub take_map : {A B : Type 0} (f : A → B) (a : ℕ) (l : List A) → take a (map f l) ≡ map f (take a l)
take_map f zero l = refl
take_map f (suc a) [] = refl
take_map {A} {B} f (suc a) (x ∷ l) = ap (λ (r : List B). f x ∷ r) (take_map f a l)

once_absent : (p : ℕ) (l : List ℕ) → Once (p ∷ l) → mem p l ≡ false
once_absent p l o =
    cases (mem p l)
    (λ m. absurd (omega (arith, o p, bit_true (eqb p p) (eqb_self p), count_some (eqb p) p l m (eqb_self p))))
    (λ m. m)

-- the requested page, where it is held first, is the last of the sorted keys
held_first : (p : ℕ) (later : List ℕ) {l : List ℕ} → Pages l → Once (p ∷ l)
    → sort (map (key (p ∷ later)) (p ∷ l)) ≡ sort (map (key later) (without p (p ∷ l))) ++ (key (p ∷ later) p ∷ [])
held_first p later {l} g o =
    let n = once_absent p l o in
    let w : without p (p ∷ l) ≡ without p l = rw (eqb_self p) in
    insert_last (suc (length later)) (key (p ∷ later) p) (near_now p later) (below_sort less_near (keys_below p later g n))
    ∙ ap (λ (x : List ℕ). sort x ++ (key (p ∷ later) p ∷ [])) (keys_other p later l n ∙ ap (map (key later)) (sym (w ∙ without_absent p l n)))

-- the requested page, where it is held, is the last of the sorted keys
held_last : (p : ℕ) (later : List ℕ) {held : List ℕ} → Pages held → Once held → mem p held ≡ true
    → sort (map (key (p ∷ later)) held) ≡ sort (map (key later) (without p held)) ++ (key (p ∷ later) p ∷ [])
held_last p later none o h = absurd (false≢true h)
held_last p later (also {x = q} {l = l} b g) o h =
    cases (eqb p q)
    (λ e.
    let f : p ≡ q = eqb-true p q e in
    subst (λ (x : ℕ). sort (map (key (p ∷ later)) (x ∷ l)) ≡ sort (map (key later) (without p (x ∷ l))) ++ (key (p ∷ later) p ∷ [])) f
    (held_first p later g (subst (λ (x : ℕ). Once (x ∷ l)) (sym f) o)))
    (λ e.
    let f : mem p l ≡ true = cases (mem p l) (λ m. m) (λ m. clash (mem p (q ∷ l)) h (or_none _ _ e m)) in
    rw e
    (ap (insert (key (p ∷ later) q)) (held_last p later g (λ r. omega (arith, o r)) f)
    ∙ insert_before (key (p ∷ later) p) (key (p ∷ later) q) (sort (map (key later) (without p l))) (less_near_now p q later b e)
    ∙ ap (λ (x : ℕ). insert x (sort (map (key later) (without p l))) ++ (key (p ∷ later) p ∷ [])) (key_other p q later e)))

absent_erase_all : (p : ℕ) (ps l : List ℕ) → mem p l ≡ false → mem p (erase_all ps l) ≡ false
absent_erase_all p ps l h = cases (mem p (erase_all ps l)) (λ m. clash (mem p l) (mem_erase_all p ps l m) h) (λ m. m)

module _ (k a p : ℕ) (later held keys : List ℕ) (page : p < 4294967296) (kept : Kept (p ∷ later) held keys) where
  now_last : mem p held ≡ true → keys ≡ sort (map (key later) (without p held)) ++ (key (p ∷ later) p ∷ [])
  now_last h = kept.order ∙ held_last p later kept.pages kept.once h

  -- where the page is absent, the keys are the same without its request
  same_keys : mem p held ≡ false → keys ≡ sort (map (key later) held)
  same_keys h = kept.order ∙ ap sort (keys_other p later held h)

  many : length keys ≡ length held
  many = ap length kept.order ∙ length_sort less_near (map (key (p ∷ later)) held) ∙ length-map held (key (p ∷ later))

  last_held : mem p held ≡ true → last_of keys ≡ key (p ∷ later) p
  last_held h =
      let before = sort (map (key later) (without p held)) in
      let e = now_last h in
      let n : length before ≡ length keys - 1 = omega (arith, ap length e, length-append before (key (p ∷ later) p ∷ [])) in
      ap (λ (l : List ℕ). get_or l (length keys - 1) 0) e ∙ get_or_at before (key (p ∷ later) p) [] 0 (length keys - 1) n

  last_absent : mem p held ≡ false → last_of keys < key (p ∷ later) p
  last_absent h =
      let b : Below (suc (length later) * 4294967296) keys = rw kept.order (below_sort less_near (keys_below p later kept.pages h)) in
      omega (arith, left_now p later, below_at (length keys - 1) (omega arith) b)

  pub kind_same : kind_in k (key (p ∷ later) p) keys ≡ kind_of k p held
  kind_same =
      cases (mem p held)
      (λ h. rw (h, eq-eqb (last_of keys) (key (p ∷ later) p) (last_held h)))
      (λ h. let l = last_absent h in rw (h, ne_eqb (last_of keys) (key (p ∷ later) p) (λ e. omega arith), many))

  pub bundle_same : mem p held ≡ false → map page_of (take a keys) ≡ min_rule a later held
  bundle_same h =
      let pages = below_sort (farther later) kept.pages in
      rw (same_keys h, ← key_sort later kept.pages, take_map (key later) a (sort_by (farther later) held))
      (page_of_keys later (below_take a pages))

  -- after a request for p, where these pages stay: their keys, and p's own
  with_page_lem : (stays : List ℕ) → Pages stays → Once stays → mem p stays ≡ false
      → Kept later (stays ++ (p ∷ [])) (insert_behind less_near (key later p) (sort (map (key later) stays)))
  with_page_lem stays b o h =
      record {
        order = sym (ap sort (snoc_map (key later) stays p) ∙ sort_snoc (map (key later) stays) (key later p));
        pages = below_snoc b page;
        once = once_snoc p stays o h;
      }

  stay_hit : mem p held ≡ true → stay hit a keys ≡ sort (map (key later) (without p held))
  stay_hit h =
      let before = sort (map (key later) (without p held)) in
      let e = now_last h in
      let n : length before ≡ length keys - 1 = omega (arith, ap length e, length-append before (key (p ∷ later) p ∷ [])) in
      ap (take (length keys - 1)) e ∙ take_at before (key (p ∷ later) p ∷ []) (length keys - 1) n

  stay_bundled : mem p held ≡ false → drop a keys ≡ sort (map (key later) (erase_all (min_rule a later held) held))
  stay_bundled h =
      let pages = below_take a (below_sort (farther later) kept.pages) in
      let e : map (key later) (min_rule a later held) ≡ take a (sort (map (key later) held))
      = sym (take_map (key later) a (sort_by (farther later) held)) ∙ ap (take a) (key_sort later kept.pages) in
      rw (same_keys h, keys_erase_all later pages kept.pages, e)
      (sym (sort_erase_all a (map (key later) held) (sort (map (key later) held)) refl))

  pub kept_after : Kept later (serve (min_rule a) k p later held) (serve_keys (kind_of k p held) a (key later p) keys)
  kept_after =
      cases (mem p held)
      (λ h. rw (h, stay_hit h)
      (with_page_lem (without p held) (below_without p kept.pages) (once_without p held kept.once) (without_gone p held)))
      (λ h. rw h
      (cases (ltb (length held) k)
      (λ g. rw (g, same_keys h) (with_page_lem held kept.pages kept.once h))
      (λ g. rw (g, stay_bundled h)
      (with_page_lem (erase_all (min_rule a later held) held)
      (below_erase_all (min_rule a later held) kept.pages)
      (once_erase_all (min_rule a later held) held kept.once)
      (absent_erase_all p (min_rule a later held) held h)))))

-- Over a whole trace

pub kinds_same : (k a : ℕ) {trace held keys : List ℕ} → Pages trace → Kept trace held keys
    → kinds_of k a trace keys ≡ kinds (min_rule a) k trace [] held
kinds_same k a none kept = refl
kinds_same k a {held = held} {keys = keys} (also {x = p} {l = ps} h b) kept =
    rw (append-nil ps, kind_same k a p ps held keys h kept)
    (ap (λ (r : List Kind). kind_of k p held ∷ r) (kinds_same k a b (kept_after k a p ps held keys h kept)))

pub bundles_same : (k a t : ℕ) {trace held keys : List ℕ} → Pages trace → Kept trace held keys
    → bundles_of k a t trace keys ≡ bundles (min_rule a) k t trace [] held
bundles_same k a t none kept = refl
bundles_same k a t {held = held} {keys = keys} (also {x = p} {l = ps} h b) kept =
    rw (append-nil ps, kind_same k a p ps held keys h kept, bundles_same k a (suc t) b (kept_after k a p ps held keys h kept))
    (cases (mem p held)
    (λ g. rw g)
    (λ g. rw (g, bundle_same k a p ps held keys h kept g)))

-- from the empty buffer
pub kept_none : (trace : List ℕ) → Kept trace [] []
kept_none trace = record { order = refl; pages = none; once = λ q. omega arith }

-- so that the bundles and loads are the model's
pub best_same : (k a : ℕ) {trace : List ℕ} → Pages trace → count is_bundled (kinds_of k a trace []) ≡ best_count k a trace
best_same k a {trace} b = ap (count is_bundled) (kinds_same k a b (kept_none trace))

pub loads_same : (k a : ℕ) {trace : List ℕ} → Pages trace → count is_load (kinds_of k a trace []) ≡ min_loads k a trace
loads_same k a {trace} b = ap (count is_load) (kinds_same k a b (kept_none trace))

-- what a pass over just this trace with these sizes counts
module _ {k a k' a' : ℕ} {trace trace' : List ℕ} (over : (k' ≡ k) × ((a' ≡ a) × (trace' ≡ trace))) (pages : Pages trace) (n : ℕ) where
  pub best_counted : n ≡ count is_bundled (kinds_of k' a' trace' []) → n ≡ best_count k a trace
  best_counted e = rw (e, over.0, over.1.0, over.1.1) (best_same k a pages)

  pub loads_counted : n ≡ count is_load (kinds_of k' a' trace' []) → n ≡ min_loads k a trace
  loads_counted e = rw (e, over.0, over.1.0, over.1.1) (loads_same k a pages)
