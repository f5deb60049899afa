-- What is told of a request before the page goes into the cache list: the reply, and with it what the request found; or the refusal.
use Rattle.std.specs.Prelude.{ℕ, List, Result, Ok, Err, ◌≡◌, ◌≢◌, take}
use Rattle.paging.specs.declared.reasons.Refusal.{Refusal}
use Rattle.queue.specs.Answers.{reply_answer}
use Rattle.queue.specs.Calls.{request_refusal, Previewed}
use Rattle.queue.specs.declared.Reply.{Reply}
use Rattle.queue.specs.declared.Run.{Run}
use Rattle.queue.specs.declared.serving.Found.{Found}
use Rattle.queue.specs.inner.Cases.{found_in}

abbrev pub Told : Run → (count : ℕ) → (cache evicted : List ℕ) → (page : ℕ) → Result (Reply × Found) Refusal → (evicted_left : List ℕ) → Type 0
Told run count cache evicted page (Ok told) evicted_left =
    Previewed run count cache evicted page (reply_answer (Ok told.0)) evicted_left
    × ((request_refusal run count cache evicted ≡ 0) × (told.1 ≡ found_in run.k page (take count cache)))
Told run count cache evicted page (Err reason) evicted_left =
    Previewed run count cache evicted page (reply_answer (Err reason)) evicted_left × (request_refusal run count cache evicted ≢ 0)
