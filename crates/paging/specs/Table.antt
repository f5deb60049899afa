-- The layers as a table (document 01, "Layers"): rows of a layer number and a page, by number rising and page rising within it. Pages of
-- L0 have no row. One pass renumbers, drops what has come to L0, sorts, and puts the requested page last.
use Rattle.std.specs.Prelude.{ℕ, zero, suc, ◌+◌, max, Bool, not, List, [], ◌∷◌, ◌++◌, map, eqb, ltb}
use Rattle.lists.specs.Choice.{pick}
use Rattle.lists.specs.Pages.{bit, count, filter}
use Rattle.lists.specs.Sorting.{Row, sort_rows}
use Rattle.paging.specs.Layers.{LayerRule, layer_rule, is_join, renumbered, top_after}

-- the number of a page: the largest of its rows, 0 where it has none
abbrev pub number_in : List Row → ℕ → ℕ
number_in [] p = 0
number_in (row ∷ rows) p = max (pick (eqb row.page p) row.number 0) (number_in rows p)

-- the row of a page other than the requested one, after the request
abbrev pub renumbered_row : LayerRule → (k a i : ℕ) → Row → Row
renumbered_row rule k a i row = record { number = renumbered rule k a i row.number; page = row.page }

-- rows that are not in L0
abbrev pub above_zero : Row → Bool
above_zero row = ltb 0 row.number

-- the rows of the pages other than p after a request for p, in order
abbrev pub others_after : LayerRule → (k a i p : ℕ) → List Row → List Row
others_after rule k a i p rows =
    sort_rows (filter above_zero (map (renumbered_row rule k a i) (filter (λ row. not (eqb row.page p)) rows)))

-- the rows after a request for p, which has number i; s is the number of the last layer before the request
abbrev pub rows_by : LayerRule → (k a i s p : ℕ) → List Row → List Row
rows_by rule k a i s p rows = others_after rule k a i p rows ++ (record { number = top_after rule k a s; page = p } ∷ [])

-- the rule that applies to a request for p
abbrev pub rule_in : (k s p : ℕ) → List Row → LayerRule
rule_in k s p rows = layer_rule k (number_in rows p) s

abbrev pub rows_after : (k a s p : ℕ) → List Row → List Row
rows_after k a s p rows = rows_by (rule_in k s p rows) k a (number_in rows p) s p rows

-- how many pages layer i has
abbrev pub size_of : ℕ → List Row → ℕ
size_of i rows = count (λ row. eqb row.number i) rows

-- Revealed pages (document 01): the longest run of single-page layers that ends at layer i, L0 never counted
abbrev pub revealed : ℕ → List Row → ℕ
revealed zero rows = 0
revealed (suc i) rows = pick (eqb (size_of (suc i) rows) 1) (suc (revealed i rows)) 0

-- Along a trace, from the empty table

-- the used rows, s, and the bundles counted so far
pub record Tabled : Type 0 where
  pub rows : List Row
  pub s : ℕ
  pub joins : ℕ

abbrev pub nothing_yet : Tabled
nothing_yet = record { rows = []; s = 0; joins = 0 }

-- after one request
abbrev pub tabled_next : (k a p : ℕ) → Tabled → Tabled
tabled_next k a p T =
    let rule = rule_in k T.s p T.rows in
    record {
      rows = rows_after k a T.s p T.rows;
      s = top_after rule k a T.s;
      joins = T.joins + bit (is_join rule);
    }

-- after the requests of a trace
abbrev pub tabled_after : (k a : ℕ) → (trace : List ℕ) → Tabled → Tabled
tabled_after k a [] T = T
tabled_after k a (p ∷ ps) T = tabled_after k a ps (tabled_next k a p T)
