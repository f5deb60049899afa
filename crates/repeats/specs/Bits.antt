-- Marks for pages: 2,097,152 bits, 32 to a word, of which each page has two. Pages share bits, so a mark that is set says little; one
-- that is not set says that the page was not marked.
use Rattle.std.specs.Prelude.{ℕ, ◌+◌, ◌*◌, ◌/◌, ◌%◌, ◌^◌, Bool, true, List, ◌≡◌, ltb, get_or, set}
use Rattle.std.specs.Int.Bits.{bit_and, bit_or, bit_xor}
use Rattle.lists.specs.Choice.{◌and◌}
use Rattle.lists.specs.Pages.{mem}

-- how many words the marks have
abbrev pub words : ℕ
words = 65536

-- a page's first bit, in the first half: its low 20 bits, with its high 20 bits folded in
unfoldable pub fold_of : ℕ → ℕ
fold_of page = bit_and (bit_xor page (page / 4096)) 1048575

-- its second, in the second half: 20 bits of a product
unfoldable pub product_of : ℕ → ℕ
product_of page = 1048576 + bit_and (page * 2654435769 / 4096) 1048575

-- a bit's place in its word
unfoldable pub bit_of : ℕ → ℕ
bit_of bit = 2 ^ (bit % 32)

unfoldable pub is_set : (marks : List ℕ) → (bit : ℕ) → Bool
is_set marks bit = ltb 0 (bit_and (get_or marks (bit / 32) 0) (bit_of bit))

unfoldable pub with_bit : (marks : List ℕ) → (bit : ℕ) → List ℕ
with_bit marks bit = set marks (bit / 32) (bit_or (get_or marks (bit / 32) 0) (bit_of bit))

-- a page's mark is set where both its bits are
unfoldable pub is_marked : (marks : List ℕ) → (page : ℕ) → Bool
is_marked marks page = is_set marks (fold_of page) and is_set marks (product_of page)

unfoldable pub with_mark : (marks : List ℕ) → (page : ℕ) → List ℕ
with_mark marks page = with_bit (with_bit marks (fold_of page)) (product_of page)

-- the mark of each of these pages is set
unfoldable pub AllMarked : (marks pages : List ℕ) → Type 0
AllMarked marks pages = (q : ℕ) → mem q pages ≡ true → is_marked marks q ≡ true
