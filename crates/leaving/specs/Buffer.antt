-- Cached pages in three lists beside each other, and what a bundle asks of them and leaves.
use Rattle.std.specs.Prelude.{ℕ, suc, ◌-◌, ◌≤◌, ◌<◌, true, List, ◌++◌, ◌≡◌, length, take, drop, get_or}
use Rattle.lists.specs.Pages.{distinct}
use Rattle.lists.specs.Sorting.{Least}
use Rattle.marking.specs.Marking.{Cached, cached_at, pages_in, marks_in, priorities_in, sooner, mark_bundle, spared}
use Rattle.marking.specs.Lists.{cached_in}

-- a list without the entry at a place
abbrev pub gone_at {ℓ} : {A : Type ℓ} → (at : ℕ) → List A → List A
gone_at at list = take at list ++ drop (suc at) list

-- the three lists have so many places
pub record Roomy (n : ℕ) (cache marks priorities : List ℕ) : Type 0 where
  pub cache_room : n ≤ length cache
  pub marks_room : n ≤ length marks
  pub priorities_room : n ≤ length priorities

-- `held` stands in front of the list now, and the places from k on are as they were
pub record Fronted {A : Type 0} (k : ℕ) (held list list' : List A) : Type 0 where
  pub front : take (length held) list' ≡ held
  pub behind : drop k list' ≡ drop k list

-- these cached pages stand in front of the three lists now, and the places from k on are as they were
pub record LeftWith (k : ℕ) (after : List Cached) (cache marks priorities cache' marks' priorities' : List ℕ) : Type 0 where
  pub pages_left : Fronted k (pages_in after) cache cache'
  pub marks_left : Fronted k (marks_in after) marks marks'
  pub priorities_left : Fronted k (priorities_in after) priorities priorities'

-- the cached page of a place that has none
abbrev pub no_cached : Cached
no_cached = cached_at 0 0 0

-- of the cached pages none leaves before that at the place
pub record LeastFound (n : ℕ) (cache marks priorities : List ℕ) (at : ℕ) : Type 0 where
  pub within : at < n
  pub least : Least sooner (get_or (cached_in n cache marks priorities) at no_cached) (cached_in n cache marks priorities)

-- a pages can be taken out of n
pub record BundleReady (a n : ℕ) (cache marks priorities evicted : List ℕ) : Type 0 where
  pub room : Roomy n cache marks priorities
  pub enough : a ≤ n
  pub most : n ≤ 256
  pub evicted_room : a ≤ length evicted
  pub once : distinct (take n cache) ≡ true

-- they were taken out: the others stand in front of the lists, and the bundle's pages in front of the evicted list
pub record BundleLeft (a n : ℕ) (cache marks priorities evicted cache' marks' priorities' evicted' : List ℕ) : Type 0 where
  pub spared_left : LeftWith n (spared (mark_bundle a (cached_in n cache marks priorities)) (cached_in n cache marks priorities))
      cache marks priorities cache' marks' priorities'
  pub spared_count : length (spared (mark_bundle a (cached_in n cache marks priorities)) (cached_in n cache marks priorities)) ≡ n - a
  pub evicted_told : evicted' ≡ pages_in (mark_bundle a (cached_in n cache marks priorities)) ++ drop a evicted
