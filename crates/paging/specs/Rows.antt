-- The layer table (document 01, "Layers"): two lists of one length, layer numbers and pages, read as one list of rows.
use Rattle.std.specs.Prelude.{ℕ, ◌-◌, List, [], ◌∷◌, ◌++◌, length, replicate}
use Rattle.lists.specs.Pages.{filter}
use Rattle.lists.specs.Sorting.{Row}
use Rattle.paging.specs.Table.{above_zero}

abbrev pub row_at : (number page : ℕ) → Row
row_at n p = record { number = n; page = p }

-- the rows of the places; a place past the end of the shorter list has none
abbrev pub rows_of : (numbers pages : List ℕ) → List Row
rows_of [] pages = []
rows_of (n ∷ numbers) [] = []
rows_of (n ∷ numbers) (p ∷ pages) = row_at n p ∷ rows_of numbers pages

-- the two lists of a table
abbrev pub numbers_of : List Row → List ℕ
numbers_of [] = []
numbers_of (row ∷ rows) = row.number ∷ numbers_of rows

abbrev pub pages_of : List Row → List ℕ
pages_of [] = []
pages_of (row ∷ rows) = row.page ∷ pages_of rows

-- an unused place has layer number 0 and page 0
abbrev pub unused : Row
unused = row_at 0 0

-- a place is used if its layer number is above 0; page 0 is a page like any other
abbrev pub used_rows : List Row → List Row
used_rows rows = filter above_zero rows

-- a table of so many places that holds the rows: unused places come after all used ones
abbrev pub table_of : (places : ℕ) → List Row → List Row
table_of places rows = rows ++ replicate (places - length rows) unused
