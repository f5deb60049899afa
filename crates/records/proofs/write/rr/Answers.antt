-- `records::write::rr` meets its contract: 13, then 9 or 8, else the record is put and its length fits.
use Rattle.std.proofs.Common.{rules, arith, refl, sym, ◌∙◌}
use borrow.Author.Tests.{ne_eqb}
use Rattle.records.specs.Bytes.{rr_bytes}
use Rattle.records.specs.Writing.{rr_refusal}
use Rattle.records.proofs.Writing.{room_by, put_writes, room_refused}
use Rattle.records.proofs.write.rr.Goals as goal

pub returns-in_err-room : goal.returns-in_err-room
unfolding rr_refusal
returns-in_err-room c =
    let b = rr_bytes c.args.page c.args.times in
    let out = c.args.out.now in
    room_refused b out c.args.at (rr_refusal c.args.page c.args.times out c.args.at) c.from_residual.result c.in_err-room.field-0.0 (search rules)
    (rw (ne_eqb c.args.times 0 (λ e. omega arith)) (room_by b out c.args.at _ _ refl c.in_err-room.ensures))

pub returns : goal.returns
unfolding rr_refusal
returns c =
    let b = rr_bytes c.args.page c.args.times in
    let out = c.args.out.now in
    let none = room_by b out c.args.at _ _ refl c.in_ok-room.ensures in
    let some = ne_eqb c.args.times 0 (λ e. omega arith) in
    put_writes b out c.args.at none _ _ _ some (sym c.unwrap-size.ensures ∙ c.rr.ensures.0) c.rr.ensures.1 _ (rw some (sym none))
