-- `records::write::rq` meets its contract: 9 or 8, else the record is put and its length fits.
use Rattle.std.proofs.Common.{rules, refl, false, sym, ◌∙◌}
use Rattle.records.specs.Bytes.{rq_bytes}
use Rattle.records.specs.Writing.{rq_refusal}
use Rattle.records.proofs.Writing.{room_by, put_writes, room_refused}
use Rattle.records.proofs.write.rq.Goals as goal

pub returns-in_err-room : goal.returns-in_err-room
unfolding rq_refusal
returns-in_err-room c =
    let b = rq_bytes c.args.page in
    let out = c.args.out.now in
    room_refused b out c.args.at _ _ _ (search rules) (room_by b out c.args.at _ _ refl c.in_err-room.ensures)

pub returns : goal.returns
unfolding rq_refusal
returns c =
    let b = rq_bytes c.args.page in
    let out = c.args.out.now in
    let none = room_by b out c.args.at _ _ refl c.in_ok-room.ensures in
    put_writes b out c.args.at none _ _ false refl (sym c.unwrap-size.ensures ∙ c.rq.ensures.0) c.rq.ensures.1 _ (sym none)
