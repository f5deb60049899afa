-- What the calls answer, in the words of document 01: a refusal's number, and beside it the values, which are zero where there is a refusal.
use Rattle.std.specs.Prelude.{ℕ, Result, Ok, Err}
use Rattle.paging.specs.Numbers.{number_of, kind_of_outcome}
use Rattle.paging.specs.Policy.{kind_number}
use Rattle.paging.specs.declared.reasons.Refusal.{Refusal}
use Rattle.queue.specs.declared.Reply.{Reply}
use Rattle.queue.specs.declared.Run.{Run}

-- of a request: the new record and count, and 0 for a hit, 1 for a load, 2 for a load after a bundle
pub record ReplyAnswer : Type 0 where
  pub refusal : ℕ
  pub run : Run
  pub count : ℕ
  pub answer : ℕ

abbrev pub accepted : Reply → ReplyAnswer
accepted reply =
    record {
      refusal = 0;
      run = reply.run;
      count = reply.count;
      answer = kind_number (kind_of_outcome reply.outcome);
    }

abbrev pub reply_answer : Result Reply Refusal → ReplyAnswer
reply_answer (Ok reply) = accepted reply
reply_answer (Err reason) =
    record {
      refusal = number_of reason;
      run = record { k = 0; a = 0; requests = 0; loads = 0; evictions = 0 };
      count = 0;
      answer = 0;
    }
