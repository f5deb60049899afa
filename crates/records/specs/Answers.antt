-- For each type that a function answers with: document 01's number and values of each of its cases.
use Rattle.std.specs.Prelude.{ℕ, Result, Ok, Err}
use Rattle.paging.specs.Numbers.{number_of}
use Rattle.paging.specs.declared.reasons.Refusal.{Refusal}
use Rattle.records.specs.Marks.{Mark, KA, RQ, RR, EV, PF, bad}
use Rattle.records.specs.Writing.{Wrote, stored, refused}
use Rattle.records.specs.declared.kind.Kind.{Kind}
use Rattle.records.specs.declared.kind.Kind.TheVariants as kind

abbrev pub kind_mark : Result Kind Refusal → Mark
kind_mark (Ok kind.Ka) = KA
kind_mark (Ok kind.Rq) = RQ
kind_mark (Ok kind.Rr) = RR
kind_mark (Ok kind.Ev) = EV
kind_mark (Ok kind.Pf) = PF
kind_mark (Err reason) = bad (number_of reason)

abbrev pub written_answer : Result ℕ Refusal → Wrote
written_answer (Ok next) = stored next
written_answer (Err reason) = refused (number_of reason)
