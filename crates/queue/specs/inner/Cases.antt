-- What the code finds before it changes a list: the request's kind, with the page's place where it is held; and what it then tells and writes.
use Rattle.std.specs.Prelude.{ℕ, ◌+◌, ◌-◌, List, [], ◌∷◌, ◌++◌, ltb, length, take, drop}
use Rattle.lists.specs.Choice.{pick}
use Rattle.lists.specs.Pages.{mem}
use Rattle.lists.specs.Places.{place, moved_to_end, laid}
use Rattle.paging.specs.declared.Keeping.{Keeping}
use Rattle.paging.specs.declared.Keeping.TheVariants.{ByRequest, ByLoad}
use Rattle.queue.specs.Answers.{ReplyAnswer}
use Rattle.queue.specs.Serving.{counted_run}
use Rattle.queue.specs.declared.Run.{Run}
use Rattle.queue.specs.declared.serving.Found.{Found}
use Rattle.queue.specs.declared.serving.Found.TheVariants.{Held, Room, Full}

abbrev pub found_in : (k page : ℕ) → (held : List ℕ) → Found
found_in k page held = pick (mem page held) (Held (place page held)) (pick (ltb (length held) k) Room Full)

-- the pages held after a load: the first `out` go as a bundle, in their order; then the page is added. A load without a bundle is the case 0
abbrev pub loaded : (out page : ℕ) → (held : List ℕ) → List ℕ
loaded out page held = drop out held ++ (page ∷ [])

-- What is told and written for what was found

abbrev pub reply_for : Found → Run → (count : ℕ) → ReplyAnswer
reply_for (Held at) run count = record { refusal = 0; run = counted_run run 0 0; count = count; answer = 0 }
reply_for Room run count = record { refusal = 0; run = counted_run run 1 0; count = count + 1; answer = 1 }
reply_for Full run count = record { refusal = 0; run = counted_run run 1 1; count = count - run.a + 1; answer = 2 }

abbrev pub evicted_for : Found → (a : ℕ) → (cache evicted : List ℕ) → List ℕ
evicted_for (Held at) a cache evicted = evicted
evicted_for Room a cache evicted = evicted
evicted_for Full a cache evicted = take a cache ++ drop a evicted

-- on a hit at a place of the n pages held: the place whose page becomes the last. By load it is n, where no page stands, and none moves
abbrev pub moved_from : Keeping → (at n : ℕ) → ℕ
moved_from ByRequest at n = at
moved_from ByLoad at n = n

abbrev pub cache_for : Keeping → Found → (n k a page : ℕ) → (cache : List ℕ) → List ℕ
cache_for keeping (Held at) n k a page cache = laid k (moved_to_end (moved_from keeping at n) (take n cache)) cache
cache_for keeping Room n k a page cache = laid k (loaded 0 page (take n cache)) cache
cache_for keeping Full n k a page cache = laid k (loaded a page (take n cache)) cache
