-- What a caller may count on who asks before serving (document 02, request 05), for either way of keeping the list and in every state, sound or not.
use Rattle.std.specs.Prelude.{ℕ, ◌≤◌, List, [], ◌∷◌, ◌≡◌, length, take}
use Rattle.paging.specs.declared.Keeping.{Keeping}
use Rattle.queue.specs.Answers.{ReplyAnswer}
use Rattle.queue.specs.Calls.{evicted_of, Answered, PreviewedBy}
use Rattle.queue.specs.Standing.{Call, State, called, after_calls}
use Rattle.queue.specs.declared.Run.{Run}

-- Previews and requests in any order. A preview leaves the record, the count and the cache list, which it gets by value or only to look at; either
-- leaves its bundle in the evicted list, which the next one is lent as it then is

pub data Ask : Type 0 where
  preview : (page : ℕ) → Ask
  request : (page : ℕ) → Ask

abbrev pub call_for : (page : ℕ) → (evicted : List ℕ) → Call
call_for page evicted = record { page = page; evicted = evicted }

abbrev pub evicted_after : (page : ℕ) → State → (evicted : List ℕ) → List ℕ
evicted_after page S evicted = evicted_of S.run S.count S.cache evicted page

abbrev pub after_asks : Keeping → List Ask → State → (evicted : List ℕ) → State
after_asks keeping [] S evicted = S
after_asks keeping (preview page ∷ asks) S evicted = after_asks keeping asks S (evicted_after page S evicted)
after_asks keeping (request page ∷ asks) S evicted = after_asks keeping asks (called keeping (call_for page evicted) S) (evicted_after page S evicted)

-- the requests alone, each lent the evicted list as it was at the start
abbrev pub requests_in : List Ask → (evicted : List ℕ) → List Call
requests_in [] evicted = []
requests_in (preview page ∷ asks) evicted = requests_in asks evicted
requests_in (request page ∷ asks) evicted = call_for page evicted ∷ requests_in asks evicted

pub record PreviewsHold (keeping : Keeping) : Type 0 where
  -- whoever previews a request and then makes it, with the evicted list as the preview left it, gets the reply that was told, and the evicted list is
  -- again as the preview left it
  pub then_served : (run : Run) (count : ℕ) (cache evicted : List ℕ) (page : ℕ) (told reply : ReplyAnswer) (shown cache_left evicted_left : List ℕ)
      → PreviewedBy keeping run count cache evicted page told shown → Answered keeping run count cache shown page reply cache_left evicted_left
      → (reply ≡ told) × (evicted_left ≡ shown)
  -- with another evicted list, where both have room for a bundle, the reply is the same, and so is the bundle if there is one
  pub then_served_elsewhere : (run : Run) (count : ℕ) (cache evicted other : List ℕ) (page : ℕ) (told reply : ReplyAnswer) (shown cache_left evicted_left : List ℕ)
      → run.a ≤ length evicted → run.a ≤ length other
      → PreviewedBy keeping run count cache evicted page told shown → Answered keeping run count cache other page reply cache_left evicted_left
      → (reply ≡ told) × (told.answer ≡ 2 → take run.a evicted_left ≡ take run.a shown)
  -- "A preview counts as no request in any total": after previews and requests the record, the count and the cache list are those after the requests
  -- alone
  pub counts_as_no_request : (asks : List Ask) (S : State) (evicted : List ℕ)
      → after_asks keeping asks S evicted ≡ after_calls keeping (requests_in asks evicted) S
