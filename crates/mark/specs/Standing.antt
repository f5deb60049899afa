-- Lists of calls to marking with RDM (document 01, "What demand 3 compares"; document 02, request 09), refused ones included. Each step is what the promise
-- of a request says of it.
use Rattle.std.specs.Prelude.{ℕ, Bool, List, [], ◌∷◌, ◌++◌, eqb, replicate}
use Rattle.lists.specs.Choice.{pick}
use Rattle.mark.specs.Calls.{empty_run, request_refusal, reply_of, lent_after}
use Rattle.mark.specs.Lent.{Lent, lent}
use Rattle.mark.specs.declared.MarkRun.{MarkRun}

-- a call, with the evicted list lent to it, and the state that calls are made on
pub record Call : Type 0 where
  pub page : ℕ
  pub evicted : List ℕ

pub record State : Type 0 where
  pub run : MarkRun
  pub count : ℕ
  pub cache : List ℕ
  pub marks : List ℕ
  pub priorities : List ℕ
  pub pages : List ℕ
  pub numbers : List ℕ
  pub times : List ℕ

-- the seven lists of a call
abbrev pub lent_to : Call → State → Lent
lent_to call S = lent S.cache S.marks S.priorities call.evicted S.pages S.numbers S.times

-- "from an empty buffer and empty layers": the empty record, count 0, any lists of cached pages, and a table of so many places, all unused, with zeros beside it
abbrev pub empty_state : (k a : ℕ) → (cache marks priorities : List ℕ) → (places : ℕ) → State
empty_state k a cache marks priorities places =
    record {
      run = empty_run k a;
      count = 0;
      cache = cache;
      marks = marks;
      priorities = priorities;
      pages = replicate places 0;
      numbers = replicate places 0;
      times = replicate places 0;
    }

abbrev pub accepts : Call → State → Bool
accepts call S = eqb (request_refusal S.run S.count (lent_to call S) call.page) 0

-- what a call answers and leaves
abbrev pub after_call : Call → State → State
after_call call S =
    let reply = reply_of S.run S.count (lent_to call S) call.page in
    let left = lent_after S.run S.count (lent_to call S) call.page in
    record {
      run = reply.run;
      count = reply.count;
      cache = left.cache;
      marks = left.marks;
      priorities = left.priorities;
      pages = left.pages;
      numbers = left.numbers;
      times = left.times;
    }

-- the state that the next call gets: a refusal's zeros go no further
abbrev pub called : Call → State → State
called call S = pick (accepts call S) (after_call call S) S

-- the state after calls one after the other, and the pages of the accepted ones
abbrev pub after_calls : List Call → State → State
after_calls [] S = S
after_calls (call ∷ calls) S = after_calls calls (called call S)

abbrev pub accepted_pages : List Call → State → List ℕ
accepted_pages [] S = []
accepted_pages (call ∷ calls) S = pick (accepts call S) (call.page ∷ []) [] ++ accepted_pages calls (called call S)
