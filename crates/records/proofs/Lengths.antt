-- Each record's length is what the code's lengths say, and a record of numbers of their widths is one of bytes.
use Rattle.std.specs.Prelude.{Option, Some, None, unwrap_or}
use Rattle.std.proofs.lemmas.Option.{none-some}
use Prim.Native.Nat.{ℕ, zero, suc, ◌+◌, ◌*◌, ◌<◌, ◌≤◌}
use native.Mathlib.Omega.{arith}
use mathlib.Core.List.{List}
use mathlib.Core.Path.{◌≡◌, refl, sym, ap, ◌∙◌}
use lib.Dec.{ltb}
use Rattle.lists.proofs.Choice.{tests, cases}
use lib.ListN.{length}
use borrow.Author.Tests.{lt-ltb, le-ltb}
use Rattle.wire.proofs.Numbers.{length_all_bytes32}
use Rattle.records.specs.Bytes.{ka_bytes, rq_bytes, rr_bytes, ev_bytes, pf_bytes, ev_length, ev_length_answer}
use Rattle.records.specs.Writing.{some_length}

-- ---- lengths

-- a length as it is answered
pub some_length_of : (n : ℕ) → 0 < n → Some n ≡ some_length n
some_length_of zero h = absurd (omega arith)
some_length_of (suc n) h = refl

pub length_of_some : (size n : ℕ) → Some size ≡ some_length n → size ≡ n
length_of_some size zero e = absurd (grind arith)
length_of_some size (suc n) e = ap (λ (o : Option ℕ). unwrap_or o 0) e

-- the length that is answered is that of the record for up to 256 pages, and 0 for more
pub ev_length_is : (n : ℕ) → n ≤ 256 → ev_length_answer n ≡ ev_length n
ev_length_is n h = rw (le-ltb 256 n h)

pub no_ev_length : (n : ℕ) → 256 < n → ev_length_answer n ≡ 0
no_ev_length n h = rw (lt-ltb 256 n h)

-- as `ev_length` answers it
pub some_ev_length : (n : ℕ) → n ≤ 256 → Some (8 + 4 * n) ≡ some_length (ev_length_answer n)
some_ev_length n h = rw (ev_length_is n h) (some_length_of (ev_length n) (omega arith))

pub none_ev_length : (n : ℕ) → 256 < n → None ≡ some_length (ev_length_answer n)
none_ev_length n h = rw (no_ev_length n h)

pub ruleset length_rules = (some_ev_length, none_ev_length)

-- what an answer says of n
pub some_ev_length_says : (n size : ℕ) → Some size ≡ some_length (ev_length_answer n) → (n ≤ 256) × (size ≡ ev_length n)
some_ev_length_says n size e =
    cases (ltb 256 n)
    (λ t. absurd (none-some size (sym (e ∙ sym (none_ev_length n (omega tests))))))
    (λ t. (omega tests, length_of_some size (ev_length n) (e ∙ ap some_length (ev_length_is n (omega tests)))))

pub none_ev_length_says : (n : ℕ) → None ≡ some_length (ev_length_answer n) → 256 < n
none_ev_length_says n e =
    cases (ltb 256 n)
    (λ t. omega tests)
    (λ t. absurd (none-some (8 + 4 * n) (e ∙ sym (some_ev_length n (omega tests)))))

pub length_ev_bytes : (t : ℕ) (pages : List ℕ) → length (ev_bytes t pages) ≡ ev_length (length pages)
length_ev_bytes t pages = omega (arith, length_all_bytes32 pages)

-- what `ev_length` answers is the length of the record
pub ev_length_right : (t : ℕ) (pages : List ℕ) → length pages ≤ 256 → length (ev_bytes t pages) ≡ ev_length_answer (length pages)
ev_length_right t pages h = length_ev_bytes t pages ∙ sym (ev_length_is (length pages) h)

pub length_ka_bytes : (k a : ℕ) → length (ka_bytes k a) ≡ 6
length_ka_bytes k a = refl

pub length_rq_bytes : (page : ℕ) → length (rq_bytes page) ≡ 6
length_rq_bytes page = refl

pub length_rr_bytes : (page times : ℕ) → length (rr_bytes page times) ≡ 8
length_rr_bytes page times = refl

pub length_pf_bytes : (t page : ℕ) → length (pf_bytes t page) ≡ 10
length_pf_bytes t page = refl
