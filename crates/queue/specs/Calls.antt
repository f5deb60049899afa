-- The call, for any record, count and lists: its refusals (document 01, "Who can cause a refusal" and "Well formed"), and what it
-- answers and leaves. A refusal is its number with zeros elsewhere, and changes nothing.
use Rattle.std.specs.Prelude.{ℕ, Bool, false, not, List, ◌≡◌, eqb, leb, ltb, length, take}
use Rattle.paging.specs.Numbers.{TotalsAnswer}
use Rattle.lists.specs.Choice.{pick, ◌and◌, ◌or◌}
use Rattle.lists.specs.Pages.{distinct}
use Rattle.paging.specs.Front.{front_rule}
use Rattle.paging.specs.Policy.{bundle_count_by, load_count_by}
use Rattle.paging.specs.Refusals.{full_counter, refuse, sizes_refusal, trace_refusal}
use Rattle.paging.specs.declared.Keeping.{Keeping}
use Rattle.queue.specs.Answers.{ReplyAnswer}
use Rattle.queue.specs.Serving.{empty_run, cache_served, evicted_served, reply_served}
use Rattle.queue.specs.declared.Run.{Run}

-- document 01's "Well formed": only the first `count` places are looked at
unfoldable pub well_formed : Run → (count : ℕ) → (cache : List ℕ) → Bool
well_formed run count cache =
    leb count run.k
    and leb run.evictions run.loads
    and leb run.loads run.requests
    and distinct (take count cache)

-- the refusals of every call on this state, in order: 1, 2, 8, 9, 12, then the call's own. `ill` is a further reason for 9
unfoldable pub run_refusal : Run → (count : ℕ) → (cache evicted : List ℕ) → (ill : Bool) → (rest : ℕ) → ℕ
run_refusal run count cache evicted ill rest =
    sizes_refusal run.k run.a
    (refuse (ltb (length cache) run.k or ltb (length evicted) run.a) 8
    (refuse (not (well_formed run count cache) or ill) 9
    (refuse (eqb run.requests full_counter) 12
    rest)))

-- a request has none of its own
abbrev pub request_refusal : Run → (count : ℕ) → (cache evicted : List ℕ) → ℕ
request_refusal run count cache evicted = run_refusal run count cache evicted false 0

abbrev pub refused : (number : ℕ) → ReplyAnswer
refused number = record { refusal = number; run = empty_run 0 0; count = 0; answer = 0 }

-- What the call answers, and the two lists after it. The bundle and the refusals are the same however the list is kept

abbrev pub reply_of : Keeping → Run → (count : ℕ) → (cache evicted : List ℕ) → (page : ℕ) → ReplyAnswer
reply_of keeping run count cache evicted page =
    pick (eqb (request_refusal run count cache evicted) 0)
    (reply_served keeping run count cache page)
    (refused (request_refusal run count cache evicted))

abbrev pub cache_of : Keeping → Run → (count : ℕ) → (cache evicted : List ℕ) → (page : ℕ) → List ℕ
cache_of keeping run count cache evicted page =
    pick (eqb (request_refusal run count cache evicted) 0) (cache_served keeping run count cache page) cache

abbrev pub evicted_of : Run → (count : ℕ) → (cache evicted : List ℕ) → (page : ℕ) → List ℕ
evicted_of run count cache evicted page =
    pick (eqb (request_refusal run count cache evicted) 0) (evicted_served run count cache evicted page) evicted

-- the promise of a request: its answer, and the two lists as it leaves them
abbrev pub Answered : Keeping → Run → (count : ℕ) → (cache evicted : List ℕ) → (page : ℕ) → ReplyAnswer → (cache_left evicted_left : List ℕ) → Type 0
Answered keeping run count cache evicted page reply cache_left evicted_left =
    (reply ≡ reply_of keeping run count cache evicted page)
    × ((cache_left ≡ cache_of keeping run count cache evicted page) × (evicted_left ≡ evicted_of run count cache evicted page))

-- that of a preview (document 02, request 05): "the answer and the evicted list are those of serving the request on a copy of the state, refusals
-- included". The record is the caller's own, and the cache list is only looked at
abbrev pub PreviewedBy : Keeping → Run → (count : ℕ) → (cache evicted : List ℕ) → (page : ℕ) → ReplyAnswer → (evicted_left : List ℕ) → Type 0
PreviewedBy keeping run count cache evicted page reply evicted_left =
    (reply ≡ reply_of keeping run count cache evicted page) × (evicted_left ≡ evicted_of run count cache evicted page)

-- at once for either way of keeping the list
abbrev pub Previewed : Run → (count : ℕ) → (cache evicted : List ℕ) → (page : ℕ) → ReplyAnswer → (evicted_left : List ℕ) → Type 0
Previewed run count cache evicted page reply evicted_left = (keeping : Keeping) → PreviewedBy keeping run count cache evicted page reply evicted_left

-- Over a whole trace, from the empty buffer

abbrev pub totals_of : Keeping → (k a : ℕ) → (trace : List ℕ) → TotalsAnswer
totals_of keeping k a trace =
    pick (eqb (trace_refusal k a trace 0) 0)
    (record { refusal = 0; bundles = bundle_count_by keeping (front_rule a) k trace; loads = load_count_by keeping (front_rule a) k trace })
    (record { refusal = trace_refusal k a trace 0; bundles = 0; loads = 0 })
