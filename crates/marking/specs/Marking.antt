-- Marking with priorities (document 02, request 09; source document 001, Algorithm 1), for any rule of priorities. A request that the layers serve by
-- rule 1b clears all marks first. Where the page is absent and k pages are held, a pages leave: unmarked ones before marked ones, lower priorities
-- first. Then the page is loaded if absent, and marked.
use Rattle.std.specs.Prelude.{ℕ, Bool, true, false, not, List, [], ◌∷◌, ◌++◌, map, eqb, ltb, take}
use Rattle.lists.specs.Choice.{pick, ◌and◌, ◌or◌}
use Rattle.lists.specs.Pages.{mem, count, filter}
use Rattle.lists.specs.Sorting.{insert_by, sort_by}
use Rattle.paging.specs.Layers.{Layers, no_layers, is_join, layer_rule, layered}
use Rattle.paging.specs.Policy.{Kind, hit, load, bundled, is_bundled, is_load, kind_of}

-- a cached page with what stands beside it: its mark, 1 if it is marked and 0 if not, and its priority
pub record Cached : Type 0 where
  pub page : ℕ
  pub mark : ℕ
  pub priority : ℕ

abbrev pub cached_at : (page mark priority : ℕ) → Cached
cached_at p m n = record { page = p; mark = m; priority = n }

-- the three lists of cached pages
abbrev pub pages_in : List Cached → List ℕ
pages_in xs = map (λ x. x.page) xs

abbrev pub marks_in : List Cached → List ℕ
marks_in xs = map (λ x. x.mark) xs

abbrev pub priorities_in : List Cached → List ℕ
priorities_in xs = map (λ x. x.priority) xs

-- x leaves before y: unmarked pages first, then the lower priority, and among equal priorities the lower page number
unfoldable pub sooner : Cached → Cached → Bool
sooner x y =
    ltb x.mark y.mark
    or (eqb x.mark y.mark and (ltb x.priority y.priority
    or (eqb x.priority y.priority and ltb x.page y.page)))

-- cached pages are kept by page rising
abbrev pub by_page : Cached → Cached → Bool
by_page x y = ltb x.page y.page

-- on each 1b all marks are cleared before the request is served
abbrev pub cleared : (joins : Bool) → List Cached → List Cached
cleared true xs = map (λ x. cached_at x.page 0 x.priority) xs
cleared false xs = xs

-- the a pages that an eviction takes, the first of them first
abbrev pub mark_bundle : (a : ℕ) → List Cached → List Cached
mark_bundle a xs = take a (sort_by sooner xs)

-- the cached pages without those of a bundle
abbrev pub spared : (bundle xs : List Cached) → List Cached
spared bundle xs = filter (λ x. not (mem x.page (pages_in bundle))) xs

-- the cached pages after a request for p of this kind, which gets the priority n: p is marked, and is loaded if it is absent
abbrev pub marked_by : Kind → (a p n : ℕ) → List Cached → List Cached
marked_by hit a p n xs = map (λ x. pick (eqb x.page p) (cached_at p 1 n) x) xs
marked_by load a p n xs = insert_by by_page (cached_at p 1 n) xs
marked_by bundled a p n xs = insert_by by_page (cached_at p 1 n) (spared (mark_bundle a xs) xs)

-- what a request for p is; marks do not matter for it
abbrev pub mark_kind : (k p : ℕ) → List Cached → Kind
mark_kind k p xs = kind_of k p (pages_in xs)

-- the cached pages after a request for p, which gets the priority n; `joins` says whether the layers serve it by 1b
abbrev pub mark_served : (k a : ℕ) → (joins : Bool) → (p n : ℕ) → List Cached → List Cached
mark_served k a joins p n xs = marked_by (mark_kind k p xs) a p n (cleared joins xs)

-- Along a trace

-- a rule of priorities: the priority that a request gets, by the requests before it and its page
abbrev pub PriorityRule : Type 0
PriorityRule = (before : List ℕ) → (p : ℕ) → ℕ

abbrev pub joins_at : (k p : ℕ) → Layers → Bool
joins_at k p L = is_join (layer_rule k (L.of p) L.top)

-- over the requests of `trace`, which follow those of `before`; L are the layers, and xs the cached pages: what each request is
abbrev pub mark_kinds : PriorityRule → (k a : ℕ) → (before trace : List ℕ) → Layers → List Cached → List Kind
mark_kinds rule k a before [] L xs = []
mark_kinds rule k a before (p ∷ ps) L xs =
    mark_kind k p xs ∷ mark_kinds rule k a (before ++ (p ∷ [])) ps (layered k a p L) (mark_served k a (joins_at k p L) p (rule before p) xs)

-- the cached pages at the end
abbrev pub mark_holds : PriorityRule → (k a : ℕ) → (before trace : List ℕ) → Layers → List Cached → List Cached
mark_holds rule k a before [] L xs = xs
mark_holds rule k a before (p ∷ ps) L xs =
    mark_holds rule k a (before ++ (p ∷ [])) ps (layered k a p L) (mark_served k a (joins_at k p L) p (rule before p) xs)

-- From the empty buffer and empty layers, over a whole trace: the number of bundles and the number of loads

abbrev pub mark_bundles : PriorityRule → (k a : ℕ) → (trace : List ℕ) → ℕ
mark_bundles rule k a trace = count is_bundled (mark_kinds rule k a [] trace no_layers [])

abbrev pub mark_loads : PriorityRule → (k a : ℕ) → (trace : List ℕ) → ℕ
mark_loads rule k a trace = count is_load (mark_kinds rule k a [] trace no_layers [])
