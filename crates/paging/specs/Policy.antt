-- Serving a trace with a rule for bundles (document 01, "LRU" and "MIN", which differ only in the rule; document 02, request 01, "oldest load
-- first", which differs from LRU only in what a hit does). The pages held are a list.
use Rattle.std.specs.Prelude.{ℕ, suc, Bool, true, false, List, [], ◌∷◌, ◌++◌, ltb, length}
use Rattle.lists.specs.Choice.{pick}
use Rattle.lists.specs.Pages.{mem, to_end, erase_all, count}
use Rattle.paging.specs.Schedule.{Entry, ev}
use Rattle.paging.specs.declared.Keeping.{Keeping}
use Rattle.paging.specs.declared.Keeping.TheVariants.{ByRequest, ByLoad}

-- a rule for bundles: of the requests after the present one and the pages held, the pages of the bundle, in their order
abbrev pub Rule : Type 0
Rule = (later held : List ℕ) → List ℕ

-- what a request is: the page is held; it is loaded; it is loaded after a bundle
pub data Kind : Type 0 where
  hit : Kind
  load : Kind
  bundled : Kind

-- document 01's answer of a request
abbrev pub kind_number : Kind → ℕ
kind_number hit = 0
kind_number load = 1
kind_number bundled = 2

abbrev pub is_bundled : Kind → Bool
is_bundled hit = false
is_bundled load = false
is_bundled bundled = true

-- a load, after a bundle or not
abbrev pub is_load : Kind → Bool
is_load hit = false
is_load load = true
is_load bundled = true

abbrev pub kind_of : (k p : ℕ) → (held : List ℕ) → Kind
kind_of k p held = pick (mem p held) hit (pick (ltb (length held) k) load bundled)

-- the pages held after a hit on p. `Keeping` (src/lib.rt) says how the list is kept: by request it runs from the least to the most recently
-- requested page, and p becomes the last; by load it runs from the oldest load to the newest, and no page moves
abbrev pub after_hit : Keeping → ℕ → (held : List ℕ) → List ℕ
after_hit ByRequest p held = to_end p held
after_hit ByLoad p held = held

-- the pages held after a request for p of this kind; a bundle's pages go first
abbrev pub after_kind : Keeping → Kind → ℕ → (bundle held : List ℕ) → List ℕ
after_kind keeping hit p bundle held = after_hit keeping p held
after_kind keeping load p bundle held = held ++ (p ∷ [])
after_kind keeping bundled p bundle held = erase_all bundle held ++ (p ∷ [])

-- the pages held after a request for p, with `later` to follow
abbrev pub serve_by : Keeping → Rule → (k p : ℕ) → (later held : List ℕ) → List ℕ
serve_by keeping rule k p later held = after_kind keeping (kind_of k p held) p (rule later held) held

-- Over the requests of `trace`, which `later` follows, from the pages held

-- the pages held at the end
abbrev pub holds_by : Keeping → Rule → (k : ℕ) → (trace later held : List ℕ) → List ℕ
holds_by keeping rule k [] later held = held
holds_by keeping rule k (p ∷ ps) later held = holds_by keeping rule k ps later (serve_by keeping rule k p (ps ++ later) held)

-- what each request was
abbrev pub kinds_by : Keeping → Rule → (k : ℕ) → (trace later held : List ℕ) → List Kind
kinds_by keeping rule k [] later held = []
kinds_by keeping rule k (p ∷ ps) later held = kind_of k p held ∷ kinds_by keeping rule k ps later (serve_by keeping rule k p (ps ++ later) held)

-- the bundles as entries of a schedule, the first request being number t
abbrev pub bundles_by : Keeping → Rule → (k t : ℕ) → (trace later held : List ℕ) → List Entry
bundles_by keeping rule k t [] later held = []
bundles_by keeping rule k t (p ∷ ps) later held =
    let rest = bundles_by keeping rule k (suc t) ps later (serve_by keeping rule k p (ps ++ later) held) in
    pick (is_bundled (kind_of k p held)) (ev t (rule (ps ++ later) held) ∷ rest) rest

-- From the empty buffer, over a whole trace: the number of bundles and the number of loads

abbrev pub bundle_count_by : Keeping → Rule → (k : ℕ) → (trace : List ℕ) → ℕ
bundle_count_by keeping rule k trace = count is_bundled (kinds_by keeping rule k trace [] [])

abbrev pub load_count_by : Keeping → Rule → (k : ℕ) → (trace : List ℕ) → ℕ
load_count_by keeping rule k trace = count is_load (kinds_by keeping rule k trace [] [])

-- The same for a list from the least to the most recently requested page, as LRU and MIN keep it

abbrev pub serve : Rule → (k p : ℕ) → (later held : List ℕ) → List ℕ
serve = serve_by ByRequest

abbrev pub holds : Rule → (k : ℕ) → (trace later held : List ℕ) → List ℕ
holds = holds_by ByRequest

abbrev pub kinds : Rule → (k : ℕ) → (trace later held : List ℕ) → List Kind
kinds = kinds_by ByRequest

abbrev pub bundles : Rule → (k t : ℕ) → (trace later held : List ℕ) → List Entry
bundles = bundles_by ByRequest

abbrev pub bundle_count : Rule → (k : ℕ) → (trace : List ℕ) → ℕ
bundle_count = bundle_count_by ByRequest

abbrev pub load_count : Rule → (k : ℕ) → (trace : List ℕ) → ℕ
load_count = load_count_by ByRequest
