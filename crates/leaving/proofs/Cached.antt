-- Laws of the three lists as one list of cached pages: the lists back from it, entries, parts; and of cached pages that stand in front of the lists.
use Prim.Native.Nat.{ℕ, zero, suc, ◌+◌, ◌-◌, ◌≤◌, ◌<◌}
use native.Mathlib.Omega.{arith}
use mathlib.Core.List.{List, [], ◌∷◌, ◌++◌, map, append_assoc}
use mathlib.Core.Path.{◌≡◌, refl, sym, ap, ◌∙◌}
use lib.ListN.{length, take, drop, get_or, set, length-set, length-map, get_or-map}
use lib.Seq.{length-take-le, drop_at, take-append_seam, take-set-lt, drop-set-lt, drop-drop, get_or-take}
use Rattle.lists.specs.Places.{moved_to_end}
use Rattle.lists.proofs.Leaves.{length_moved}
use Rattle.marking.specs.Marking.{Cached, cached_at, pages_in, marks_in, priorities_in}
use Rattle.marking.specs.Lists.{cached_of, cached_in}
use Rattle.leaving.specs.Buffer.{gone_at, Roomy, Fronted, LeftWith, no_cached}

pub cached_eq : (x : Cached) (p m n : ℕ) → x.page ≡ p → x.mark ≡ m → x.priority ≡ n → x ≡ cached_at p m n
cached_eq x p m n e f g = λ i. record { page = e i; mark = f i; priority = g i }

-- the cached pages back from their lists
pub cached_back : (xs : List Cached) → cached_of (pages_in xs) (marks_in xs) (priorities_in xs) ≡ xs
cached_back [] = refl
cached_back (x ∷ xs) = ap (λ (l : List Cached). x ∷ l) (cached_back xs)

-- and the lists from the cached pages, where they are of one length

pages_back : (ps ms ns : List ℕ) → length ms ≡ length ps → length ns ≡ length ps → pages_in (cached_of ps ms ns) ≡ ps
pages_back [] ms ns e f = refl
pages_back (p ∷ ps) [] ns e f = absurd (omega arith)
pages_back (p ∷ ps) (m ∷ ms) [] e f = absurd (omega arith)
pages_back (p ∷ ps) (m ∷ ms) (n ∷ ns) e f = ap (λ (l : List ℕ). p ∷ l) (pages_back ps ms ns (omega arith) (omega arith))

marks_back : (ps ms ns : List ℕ) → length ms ≡ length ps → length ns ≡ length ps → marks_in (cached_of ps ms ns) ≡ ms
marks_back [] [] ns e f = refl
marks_back [] (m ∷ ms) ns e f = absurd (omega arith)
marks_back (p ∷ ps) [] ns e f = absurd (omega arith)
marks_back (p ∷ ps) (m ∷ ms) [] e f = absurd (omega arith)
marks_back (p ∷ ps) (m ∷ ms) (n ∷ ns) e f = ap (λ (l : List ℕ). m ∷ l) (marks_back ps ms ns (omega arith) (omega arith))

priorities_back : (ps ms ns : List ℕ) → length ms ≡ length ps → length ns ≡ length ps → priorities_in (cached_of ps ms ns) ≡ ns
priorities_back [] ms [] e f = refl
priorities_back [] ms (n ∷ ns) e f = absurd (omega arith)
priorities_back (p ∷ ps) [] ns e f = absurd (omega arith)
priorities_back (p ∷ ps) (m ∷ ms) [] e f = absurd (omega arith)
priorities_back (p ∷ ps) (m ∷ ms) (n ∷ ns) e f = ap (λ (l : List ℕ). n ∷ l) (priorities_back ps ms ns (omega arith) (omega arith))

-- The first n places

module _ (n : ℕ) (cache marks priorities : List ℕ) (R : Roomy n cache marks priorities) where
  marks_even : length (take n marks) ≡ length (take n cache)
  marks_even = length-take-le n marks R.marks_room ∙ sym (length-take-le n cache R.cache_room)

  priorities_even : length (take n priorities) ≡ length (take n cache)
  priorities_even = length-take-le n priorities R.priorities_room ∙ sym (length-take-le n cache R.cache_room)

  pub pages_in_lem : pages_in (cached_in n cache marks priorities) ≡ take n cache
  pages_in_lem = pages_back (take n cache) (take n marks) (take n priorities) marks_even priorities_even

  pub marks_in_lem : marks_in (cached_in n cache marks priorities) ≡ take n marks
  marks_in_lem = marks_back (take n cache) (take n marks) (take n priorities) marks_even priorities_even

  pub priorities_in_lem : priorities_in (cached_in n cache marks priorities) ≡ take n priorities
  priorities_in_lem = priorities_back (take n cache) (take n marks) (take n priorities) marks_even priorities_even

  pub length_cached : length (cached_in n cache marks priorities) ≡ n
  length_cached =
      sym (length-map (cached_in n cache marks priorities) (λ x. x.page)) ∙ ap length pages_in_lem ∙ length-take-le n cache R.cache_room

  pub cached_get : (i : ℕ) → i < n
      → get_or (cached_in n cache marks priorities) i no_cached ≡ cached_at (get_or cache i 0) (get_or marks i 0) (get_or priorities i 0)
  cached_get i h =
      let xs = cached_in n cache marks priorities in
      cached_eq (get_or xs i no_cached) (get_or cache i 0) (get_or marks i 0) (get_or priorities i 0)
      (sym (get_or-map (λ (x : Cached). x.page) xs i no_cached) ∙ ap (λ (l : List ℕ). get_or l i 0) pages_in_lem ∙ get_or-take n cache i 0 h)
      (sym (get_or-map (λ (x : Cached). x.mark) xs i no_cached) ∙ ap (λ (l : List ℕ). get_or l i 0) marks_in_lem ∙ get_or-take n marks i 0 h)
      (sym (get_or-map (λ (x : Cached). x.priority) xs i no_cached) ∙ ap (λ (l : List ℕ). get_or l i 0) priorities_in_lem ∙ get_or-take n priorities i 0 h)

-- Parts of the list of cached pages, in each of the three

pub map_gone : (f : Cached → ℕ) (r : ℕ) (xs : List Cached) → map f (gone_at r xs) ≡ gone_at r (map f xs)
map_gone f zero [] = refl
map_gone f zero (x ∷ xs) = refl
map_gone f (suc r) [] = refl
map_gone f (suc r) (x ∷ xs) = ap (λ (l : List ℕ). f x ∷ l) (map_gone f r xs)

-- Entries that stand in front of a list

pub behind_on : {A : Type 0} (n k : ℕ) (xs ys : List A) → n ≤ k → drop n xs ≡ drop n ys → drop k xs ≡ drop k ys
behind_on n k xs ys h e =
    let s : n + (k - n) ≡ k = omega arith in
    ap (λ (i : ℕ). drop i xs) (sym s) ∙ sym (drop-drop (k - n) n xs) ∙ ap (drop (k - n)) e ∙ drop-drop (k - n) n ys ∙ ap (λ (i : ℕ). drop i ys) s

-- also after an earlier change, and with more of the list left out
pub fronted_on : (n k : ℕ) (held l l₁ l₂ : List ℕ) → n ≤ k → drop k l₁ ≡ drop k l → Fronted n held l₁ l₂ → Fronted k held l l₂
fronted_on n k held l l₁ l₂ h e F = record { front = F.front; behind = behind_on n k l₂ l₁ h F.behind ∙ e }

pub fronted_whole : (n : ℕ) (held l y : List ℕ) → length held ≡ n → y ≡ held → Fronted n held l (y ++ drop n l)
fronted_whole n held l y m e = rw e record { front = take-append_seam held (drop n l); behind = drop_at held (drop n l) n m }

pub fronted_part : (n : ℕ) (held more l y : List ℕ) → length (held ++ more) ≡ n → y ≡ held ++ more → Fronted n held l (y ++ drop n l)
fronted_part n held more l y m e =
    rw e record {
      front = rw (append_assoc held more (drop n l)) (take-append_seam held (more ++ drop n l));
      behind = drop_at (held ++ more) (drop n l) n m;
    }

-- a list whose entry at a place went to the end
pub gone_fronted : (n at : ℕ) (d y : List ℕ) → n ≤ length d → y ≡ moved_to_end at (take n d) → Fronted n (gone_at at (take n d)) d (y ++ drop n d)
gone_fronted n at d y h e =
    fronted_part n (gone_at at (take n d)) (take 1 (drop at (take n d))) d y (length_moved at (take n d) ∙ length-take-le n d h) e

-- a list with a store at a place
pub set_fronted : (n k at v : ℕ) (d : List ℕ) → at < n → n ≤ k → n ≤ length d → Fronted k (set (take n d) at v) d (set d at v)
set_fronted n k at v d h g l =
    let m : length (set (take n d) at v) ≡ n = length-set (take n d) at v ∙ length-take-le n d l in
    record { front = rw m (take-set-lt n d at v h); behind = drop-set-lt k d at v (omega arith) }

pub kept_fronted : (n k : ℕ) (d : List ℕ) → n ≤ length d → Fronted k (take n d) d d
kept_fronted n k d l = record { front = rw (length-take-le n d l) refl; behind = refl }

-- Cached pages that stand in front of the three lists

pub cached_left : (k n : ℕ) (after : List Cached) (c m p c' m' p' : List ℕ) → length after ≡ n → LeftWith k after c m p c' m' p' → cached_in n c' m' p' ≡ after
cached_left k n after c m p c' m' p' e L =
    let tp : take n c' ≡ pages_in after = rw (length-map after (λ (x : Cached). x.page), e) at L.pages_left.front in
    let tm : take n m' ≡ marks_in after = rw (length-map after (λ (x : Cached). x.mark), e) at L.marks_left.front in
    let tn : take n p' ≡ priorities_in after = rw (length-map after (λ (x : Cached). x.priority), e) at L.priorities_left.front in
    rw (tp, tm, tn) (cached_back after)

pub gone_left : {n : ℕ} (at : ℕ) {c m p y z w : List ℕ} → Roomy n c m p
    → y ≡ moved_to_end at (take n c) → z ≡ moved_to_end at (take n m) → w ≡ moved_to_end at (take n p)
    → LeftWith n (gone_at at (cached_in n c m p)) c m p (y ++ drop n c) (z ++ drop n m) (w ++ drop n p)
gone_left {n = n} at {c = c} {m = m} {p = p} {y = y} {z = z} {w = w} R ey ez ew =
    let xs = cached_in n c m p in
    let gp : pages_in (gone_at at xs) ≡ gone_at at (take n c) = map_gone (λ x. x.page) at xs ∙ ap (gone_at at) (pages_in_lem n c m p R) in
    let gm : marks_in (gone_at at xs) ≡ gone_at at (take n m) = map_gone (λ x. x.mark) at xs ∙ ap (gone_at at) (marks_in_lem n c m p R) in
    let gn : priorities_in (gone_at at xs) ≡ gone_at at (take n p) = map_gone (λ x. x.priority) at xs ∙ ap (gone_at at) (priorities_in_lem n c m p R) in
    record {
      pages_left = rw gp (gone_fronted n at c y R.cache_room ey);
      marks_left = rw gm (gone_fronted n at m z R.marks_room ez);
      priorities_left = rw gn (gone_fronted n at p w R.priorities_room ew);
    }
