-- Laws of numbers in bytes: what was written is read, what was read is what stands there, and how stores join.
use Prim.Native.Nat.{ℕ, zero, suc, ◌+◌, ◌*◌, ◌/◌, ◌%◌, ◌<◌, ◌≤◌}
use native.Mathlib.Nat.{add-zero}
use native.Mathlib.Numerals.{add-one, add-two, add-three}
use native.Mathlib.Omega.{arith}
use mathlib.Core.List.{List, [], ◌∷◌, ◌++◌, append_assoc, append-nil}
use mathlib.Core.Path.{◌≡◌, refl, sym, ap, ◌∙◌}
use lib.ListN.{length, get_or, take, drop, set, length-append, length-take, length-drop, take-append-drop}
use lib.Seq.{get_or-drop, drop-drop, sets-eq, take_at, drop_at, take-add}
use Rattle.wire.specs.Numbers.{Bytes, bytes16, bytes32, num16, num32, all_bytes32, nums32, placed}

-- ---- reading at an offset

pub num16_at : (s : List ℕ) (at : ℕ) → num16 (drop at s) ≡ get_or s at 0 + 256 * get_or s (at + 1) 0
num16_at s at = simp (get_or-drop, add-zero)

pub num32_at : (s : List ℕ) (at : ℕ)
    → num32 (drop at s) ≡ get_or s at 0 + 256 * get_or s (at + 1) 0 + 65536 * get_or s (at + 2) 0 + 16777216 * get_or s (at + 3) 0
num32_at s at = simp (get_or-drop, add-zero)

-- ---- the round trip, both ways

pub num16_bytes16 : (x : ℕ) (r : List ℕ) → num16 (bytes16 x ++ r) ≡ x
num16_bytes16 x r = omega arith

pub num32_bytes32 : (x : ℕ) (r : List ℕ) → num32 (bytes32 x ++ r) ≡ x
num32_bytes32 x r = omega arith

pub bytes_drop : (s : List ℕ) (at : ℕ) → Bytes s → Bytes (drop at s)
bytes_drop s at h i = rw get_or-drop (h (at + i))

pub bytes16_num16 : (b : List ℕ) → Bytes b → 2 ≤ length b → bytes16 (num16 b) ≡ take 2 b
bytes16_num16 [] h n = absurd (omega arith)
bytes16_num16 (x ∷ []) h n = absurd (omega arith)
bytes16_num16 (x ∷ y ∷ b) h n =
    let hx : x < 256 = h 0 in
    let ex : (x + 256 * y) % 256 ≡ x = omega arith in
    let ey : (x + 256 * y) / 256 ≡ y = omega arith in
    rw (ex, ey)

low : (x y : ℕ) → x < 256 → (x + 256 * y) % 256 ≡ x
low x y h = omega arith

pub bytes32_num32 : (b : List ℕ) → Bytes b → 4 ≤ length b → bytes32 (num32 b) ≡ take 4 b
bytes32_num32 [] h n = absurd (omega arith)
bytes32_num32 (x ∷ []) h n = absurd (omega arith)
bytes32_num32 (x ∷ y ∷ []) h n = absurd (omega arith)
bytes32_num32 (x ∷ y ∷ z ∷ []) h n = absurd (omega arith)
bytes32_num32 (x ∷ y ∷ z ∷ w ∷ b) h n =
    let hx : x < 256 = h 0 in
    let hy : y < 256 = h 1 in
    let hz : z < 256 = h 2 in
    let ex : (x + 256 * y + 65536 * z + 16777216 * w) % 256 ≡ x = omega arith in
    let e1 : (x + 256 * y + 65536 * z + 16777216 * w) / 256 ≡ y + 256 * (z + 256 * w) = omega arith in
    let ey : (x + 256 * y + 65536 * z + 16777216 * w) / 256 % 256 ≡ y = rw e1 (low y (z + 256 * w) hy) in
    let e2 : (x + 256 * y + 65536 * z + 16777216 * w) / 65536 ≡ z + 256 * w = omega arith in
    let ez : (x + 256 * y + 65536 * z + 16777216 * w) / 65536 % 256 ≡ z = rw e2 (low z w hz) in
    let ew : (x + 256 * y + 65536 * z + 16777216 * w) / 16777216 ≡ w = omega arith in
    rw (ex, ey, ez, ew)

-- ---- numbers one behind the other

pub length_all_bytes32 : (xs : List ℕ) → length (all_bytes32 xs) ≡ 4 * length xs
length_all_bytes32 [] = refl
length_all_bytes32 (x ∷ xs) = omega (arith, length_all_bytes32 xs)

pub length_nums32 : (n : ℕ) (b : List ℕ) → length (nums32 n b) ≡ n
length_nums32 zero b = refl
length_nums32 (suc n) b = ap suc (length_nums32 n (drop 4 b))

pub nums32_all_bytes32 : (xs r : List ℕ) → nums32 (length xs) (all_bytes32 xs ++ r) ≡ xs
nums32_all_bytes32 [] r = refl
nums32_all_bytes32 (x ∷ xs) r = rw (num32_bytes32 x (all_bytes32 xs ++ r), nums32_all_bytes32 xs r)

pub nums32_at : (n : ℕ) (b : List ℕ) (i : ℕ) → i < n → get_or (nums32 n b) i 0 ≡ num32 (drop (4 * i) b)
nums32_at zero b i h = absurd (omega arith)
nums32_at (suc n) b zero h = refl
nums32_at (suc n) b (suc i) h =
    let e : 4 + 4 * i ≡ 4 * suc i = omega arith in
    nums32_at n (drop 4 b) i (omega arith) ∙ ap num32 (drop-drop (4 * i) 4 b ∙ ap (λ (m : ℕ). drop m b) e)

pub all_bytes32_nums32 : (n : ℕ) (b : List ℕ) → Bytes b → 4 * n ≤ length b → all_bytes32 (nums32 n b) ≡ take (4 * n) b
all_bytes32_nums32 zero b h l = refl
all_bytes32_nums32 (suc n) b h l =
    let e : 4 * suc n ≡ 4 + 4 * n = omega arith in
    let r : all_bytes32 (nums32 n (drop 4 b)) ≡ take (4 * n) (drop 4 b)
    = all_bytes32_nums32 n (drop 4 b) (bytes_drop b 4 h) (simp length-drop (omega arith)) in
    let f : bytes32 (num32 b) ≡ take 4 b = bytes32_num32 b h (omega arith) in
    rw (e, take-add 4 (4 * n) b, r, ← f)

-- ---- the bytes of numbers of their width are bytes

pub bytes_append : (xs ys : List ℕ) → Bytes xs → Bytes ys → Bytes (xs ++ ys)
bytes_append [] ys hx hy i = hy i
bytes_append (x ∷ xs) ys hx hy zero = hx 0
bytes_append (x ∷ xs) ys hx hy (suc i) = bytes_append xs ys (λ j. hx (suc j)) hy i

pub bytes16_are : (x : ℕ) → x < 65536 → Bytes (bytes16 x)
bytes16_are x h zero = omega arith
bytes16_are x h (suc zero) = omega arith
bytes16_are x h (suc (suc i)) = omega arith

pub bytes32_are : (x : ℕ) → x < 4294967296 → Bytes (bytes32 x)
bytes32_are x h zero = omega arith
bytes32_are x h (suc zero) = omega arith
bytes32_are x h (suc (suc zero)) = omega arith
bytes32_are x h (suc (suc (suc zero))) = omega arith
bytes32_are x h (suc (suc (suc (suc i)))) = omega arith

pub all_bytes32_are : (xs : List ℕ) → ((i : ℕ) → get_or xs i 0 < 4294967296) → Bytes (all_bytes32 xs)
all_bytes32_are [] h i = omega arith
all_bytes32_are (x ∷ xs) h i = bytes_append (bytes32 x) (all_bytes32 xs) (bytes32_are x (h 0)) (all_bytes32_are xs (λ j. h (suc j))) i

-- ---- stores

pub length_placed : (s : List ℕ) (at : ℕ) (b : List ℕ) → at + length b ≤ length s → length (placed s at b) ≡ length s
length_placed s at b h = simp (length-append, length-take, length-drop) (omega arith)

pub stored16 : (s : List ℕ) (at x y : ℕ) → at + 2 ≤ length s → set (set s at x) (at + 1) y ≡ placed s at (x ∷ y ∷ [])
stored16 s at x y h = rw add-one (sets-eq (x ∷ y ∷ []) s at h)

pub stored32 : (s : List ℕ) (at x y z w : ℕ) → at + 4 ≤ length s
    → set (set (set (set s at x) (at + 1) y) (at + 2) z) (at + 3) w ≡ placed s at (x ∷ y ∷ z ∷ w ∷ [])
stored32 s at x y z w h = rw (add-one, add-two, add-three) (sets-eq (x ∷ y ∷ z ∷ w ∷ []) s at h)

pub placed_none : (s : List ℕ) (at : ℕ) → s ≡ placed s at []
placed_none s at =
    let e : at + 0 ≡ at = omega arith in
    rw (append-nil (take at s), e) (sym (take-append-drop at s))

-- bytes stored right behind bytes stored before are stored with them
pub placed_join : (s : List ℕ) (at : ℕ) (b d : List ℕ) → at + length b ≤ length s
    → placed (placed s at b) (at + length b) d ≡ placed s at (b ++ d)
placed_join s at b d h =
    let lb : length (take at s ++ b) ≡ at + length b = simp (length-append, length-take) (omega arith) in
    let e1 : take (at + length b) (take at s ++ b ++ drop (at + length b) s) ≡ take at s ++ b
    = take_at (take at s ++ b) (drop (at + length b) s) (at + length b) lb in
    let e2 : drop (at + length b + length d) (take at s ++ b ++ drop (at + length b) s) ≡ drop (at + length (b ++ d)) s
    = let e3 : drop (at + length b) (take at s ++ b ++ drop (at + length b) s) ≡ drop (at + length b) s
    = drop_at (take at s ++ b) (drop (at + length b) s) (at + length b) lb in
    let e4 : at + length b + length d ≡ at + length (b ++ d) = simp length-append (omega arith) in
    sym (drop-drop (length d) (at + length b) (take at s ++ b ++ drop (at + length b) s))
    ∙ ap (drop (length d)) e3 ∙ drop-drop (length d) (at + length b) s ∙ ap (λ (m : ℕ). drop m s) e4 in
    rw (e1, e2, append_assoc (take at s) b d)

-- the numbers of a part of some bytes are those of the bytes
one_more : (n : ℕ) (b : List ℕ) → ((r : List ℕ) → nums32 n (take (4 * n) r) ≡ nums32 n r)
    → nums32 (suc n) (take (suc (suc (suc (suc (4 * n))))) b) ≡ nums32 (suc n) b
one_more n [] h = refl
one_more n (x ∷ []) h = refl
one_more n (x ∷ y ∷ []) h = refl
one_more n (x ∷ y ∷ z ∷ []) h = refl
one_more n (x ∷ y ∷ z ∷ w ∷ r) h = ap (λ (l : List ℕ). num32 (x ∷ y ∷ z ∷ w ∷ r) ∷ l) (h r)

pub nums32_take : (n : ℕ) (b : List ℕ) → nums32 n (take (4 * n) b) ≡ nums32 n b
nums32_take zero b = refl
nums32_take (suc n) b =
    let e : 4 * suc n ≡ suc (suc (suc (suc (4 * n)))) = omega arith in
    rw e (one_more n b (λ r. nums32_take n r))
