-- `records::write::pf` meets its contract: 9 or 8, else the record is put and its length fits.
use Rattle.std.proofs.Common.{rules, refl, false, sym, ◌∙◌}
use Rattle.records.specs.Bytes.{pf_bytes}
use Rattle.records.specs.Writing.{pf_refusal}
use Rattle.records.proofs.Writing.{room_by, put_writes, room_refused}
use Rattle.records.proofs.write.pf.Goals as goal

pub returns-in_err-room : goal.returns-in_err-room
unfolding pf_refusal
returns-in_err-room c =
    let b = pf_bytes c.args.t c.args.page in
    let out = c.args.out.now in
    room_refused b out c.args.at _ _ _ (search rules) (room_by b out c.args.at _ _ refl c.in_err-room.ensures)

pub returns : goal.returns
unfolding pf_refusal
returns c =
    let b = pf_bytes c.args.t c.args.page in
    let out = c.args.out.now in
    let none = room_by b out c.args.at _ _ refl c.in_ok-room.ensures in
    put_writes b out c.args.at none _ _ false refl (sym c.unwrap-size.ensures ∙ c.pf.ensures.0) c.pf.ensures.1 _ (sym none)
