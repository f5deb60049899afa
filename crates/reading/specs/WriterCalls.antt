-- Lists of calls to the writers: each call is made at the offset that the one before it answered, on the lent bytes as that one left them.
-- Of such lists demand 2 says that a schedule that we write reads back as the same bundles and fetches (document 01, "Files": each writer
-- writes "into lent bytes from an offset" and "answers with the offset after it"). Each step is what the promises of crate `records` say of a call.
use Rattle.std.specs.Prelude.{ℕ, Bool, true, List, [], ◌∷◌, map, ◌≡◌, eqb, length, take, drop}
use Rattle.lists.specs.Choice.{◌and◌}
use Rattle.paging.specs.Schedule.{Entry, ev, pf}
use Rattle.records.specs.Bytes.{TraceEntry, ka_bytes, trace_entry_bytes, entry_bytes}
use Rattle.records.specs.Bytes as bytes
use Rattle.records.specs.Writing.{Wrote, stored, refused, ka_refusal, rq_refusal, rr_refusal, ev_refusal, pf_refusal, wrote, out_after}

-- a call writes a KA, a record of a trace behind it (an RQ or an RR), or an entry of a schedule: an EV or a PF
pub data WriterCall : Type 0 where
  ka : (k a : ℕ) → WriterCall
  asked : (e : TraceEntry) → WriterCall
  entry : (e : Entry) → WriterCall

abbrev pub call_bytes : WriterCall → List ℕ
call_bytes (ka k a) = ka_bytes k a
call_bytes (asked e) = trace_entry_bytes e
call_bytes (entry e) = entry_bytes e

abbrev pub call_refusal : WriterCall → (out : List ℕ) → (at : ℕ) → ℕ
call_refusal (ka k a) out at = ka_refusal k a out at
call_refusal (asked (bytes.rq page)) out at = rq_refusal page out at
call_refusal (asked (bytes.rr page times)) out at = rr_refusal page times out at
call_refusal (entry (ev t pages)) out at = ev_refusal t pages out at
call_refusal (entry (pf t page)) out at = pf_refusal t page out at

-- the lent bytes, and the offset at which the next call is made
pub record WriterState : Type 0 where
  pub out : List ℕ
  pub at : ℕ

abbrev pub writer_start : (out : List ℕ) → WriterState
writer_start out = record { out = out; at = 0 }

-- a refusal answers no offset: the next call is made where the refused one was
abbrev pub offset_after : (at : ℕ) → Wrote → ℕ
offset_after at (stored next) = next
offset_after at (refused number) = at

abbrev pub writer_next : WriterCall → WriterState → WriterState
writer_next call x =
    record {
      out = out_after (call_refusal call x.out x.at) (call_bytes call) x.out x.at;
      at = offset_after x.at (wrote (call_refusal call x.out x.at) (call_bytes call) x.at);
    }

abbrev pub writer_after_calls : List WriterCall → WriterState → WriterState
writer_after_calls [] x = x
writer_after_calls (call ∷ calls) x = writer_after_calls calls (writer_next call x)

-- no call is refused
abbrev pub all_accepted : List WriterCall → WriterState → Bool
all_accepted [] x = true
all_accepted (call ∷ calls) x = eqb (call_refusal call x.out x.at) 0 and all_accepted calls (writer_next call x)

-- the calls that write a trace, and those that write a schedule
abbrev pub trace_calls : (k a : ℕ) → List TraceEntry → List WriterCall
trace_calls k a entries = ka k a ∷ map asked entries

abbrev pub schedule_calls : (k a : ℕ) → List Entry → List WriterCall
schedule_calls k a entries = ka k a ∷ map entry entries

-- the bytes `file`, of which `Reads` says how they are read, were written to the start of the lent bytes `out`
pub record FileWritten (file : List ℕ) (Reads : List ℕ → Type 0) (out : List ℕ) (x : WriterState) : Type 0 where
  -- the offset answered last is the file's length; the bytes before it are the file, and those from it on are as they were lent
  pub offset : x.at ≡ length file
  pub front : take x.at x.out ≡ file
  pub rest : drop x.at x.out ≡ drop x.at out
  -- the bytes before the offset read so; and all of them do where the lent bytes were just as many
  pub reads_back : Reads (take x.at x.out)
  pub whole_reads_back : length out ≡ x.at → Reads x.out
