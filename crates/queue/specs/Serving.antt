-- One request served by a policy that evicts from the front of its list: the run record, the cache list with its count, and the evicted list
-- after it. The pages held are the first `count` of the cache list. Kept by request they run from the least to the most recently requested page
-- (document 01, "LRU"), kept by load from the oldest load to the newest (document 02, request 01).
use Rattle.std.specs.Prelude.{ℕ, ◌+◌, List, [], ◌++◌, length, take, drop}
use Rattle.lists.specs.Choice.{pick}
use Rattle.lists.specs.Pages.{bit}
use Rattle.lists.specs.Places.{laid}
use Rattle.paging.specs.Front.{front_rule}
use Rattle.paging.specs.Policy.{Kind, kind_of, kind_number, is_bundled, is_load, serve_by}
use Rattle.paging.specs.declared.Keeping.{Keeping}
use Rattle.queue.specs.Answers.{ReplyAnswer}
use Rattle.queue.specs.declared.Run.{Run}

-- the empty start of a run
abbrev pub empty_run : (k a : ℕ) → Run
empty_run k a = record { k = k; a = a; requests = 0; loads = 0; evictions = 0 }

-- what the request is: decided by k, the page and the pages held
abbrev pub kind_in : Run → (count : ℕ) → (cache : List ℕ) → (page : ℕ) → Kind
kind_in run count cache page = kind_of run.k page (take count cache)

-- the pages held after it
abbrev pub held_after : Keeping → Run → (count : ℕ) → (cache : List ℕ) → (page : ℕ) → List ℕ
held_after keeping run count cache page = serve_by keeping (front_rule run.a) run.k page [] (take count cache)

-- The state after an accepted request

-- one more request, with the loads and bundles it made
abbrev pub counted_run : Run → (loads bundles : ℕ) → Run
counted_run run loads bundles =
    record {
      k = run.k;
      a = run.a;
      requests = run.requests + 1;
      loads = run.loads + loads;
      evictions = run.evictions + bundles;
    }

abbrev pub run_served : Kind → Run → Run
run_served kind run = counted_run run (bit (is_load kind)) (bit (is_bundled kind))

abbrev pub cache_served : Keeping → Run → (count : ℕ) → (cache : List ℕ) → (page : ℕ) → List ℕ
cache_served keeping run count cache page = laid run.k (held_after keeping run count cache page) cache

-- a bundle in the first a places; no bundle, no change
abbrev pub evicted_served : Run → (count : ℕ) → (cache evicted : List ℕ) → (page : ℕ) → List ℕ
evicted_served run count cache evicted page =
    pick (is_bundled (kind_in run count cache page)) (front_rule run.a [] (take count cache) ++ drop run.a evicted) evicted

abbrev pub reply_served : Keeping → Run → (count : ℕ) → (cache : List ℕ) → (page : ℕ) → ReplyAnswer
reply_served keeping run count cache page =
    record {
      refusal = 0;
      run = run_served (kind_in run count cache page) run;
      count = length (held_after keeping run count cache page);
      answer = kind_number (kind_in run count cache page);
    }
