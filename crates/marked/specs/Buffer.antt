-- The buffer of marked pages as three lent lists beside each other: cached pages by page rising, their marks, and their priorities. Only the first
-- places, up to the count, are cached pages. What one request on it asks for, answers and leaves.
use Rattle.std.specs.Prelude.{ℕ, ◌≤◌, Bool, true, List, ◌++◌, ◌≡◌, length, take, drop}
use Rattle.lists.specs.Choice.{pick}
use Rattle.lists.specs.Places.{laid}
use Rattle.paging.specs.Numbers.{kind_of_outcome}
use Rattle.paging.specs.Policy.{is_bundled}
use Rattle.marking.specs.Lists.{cached_in, rising}
use Rattle.marking.specs.Marking.{pages_in, marks_in, priorities_in, cleared, mark_bundle, mark_kind, mark_served}
use Rattle.marked.specs.declared.Served.{Served}

-- what a request may count on, for n cached pages
pub record BufferReady (k a n : ℕ) (cache marks priorities evicted : List ℕ) : Type 0 where
  pub a_low : 1 ≤ a
  pub a_high : a ≤ k
  pub k_high : k ≤ 256
  pub count_most : n ≤ k
  pub cache_room : k ≤ length cache
  pub marks_room : k ≤ length marks
  pub priorities_room : k ≤ length priorities
  pub evicted_room : a ≤ length evicted
  pub rises : rising (take n cache) ≡ true

-- what a request for p answers, which gets the priority, and the four lists after it; with `clear` all marks are cleared first
pub record ServedTo (k a n p priority : ℕ) (clear : Bool) (cache marks priorities evicted cache' marks' priorities' evicted' : List ℕ) (r : Served) : Type 0 where
  pub outcome_told : kind_of_outcome r.outcome ≡ mark_kind k p (cached_in n cache marks priorities)
  pub count_told : r.count ≡ length (mark_served k a clear p priority (cached_in n cache marks priorities))
  pub cache_told : cache' ≡ laid k (pages_in (mark_served k a clear p priority (cached_in n cache marks priorities))) cache
  pub marks_told : marks' ≡ laid k (marks_in (mark_served k a clear p priority (cached_in n cache marks priorities))) marks
  pub priorities_told : priorities' ≡ laid k (priorities_in (mark_served k a clear p priority (cached_in n cache marks priorities))) priorities
  pub evicted_told : evicted'
      ≡ pick (is_bundled (mark_kind k p (cached_in n cache marks priorities)))
      (pages_in (mark_bundle a (cleared clear (cached_in n cache marks priorities))) ++ drop a evicted)
      evicted
