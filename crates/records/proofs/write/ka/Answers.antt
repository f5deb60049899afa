-- `records::write::ka` meets its contract: 1 or 2, then 9 or 8, else the record is put and its length fits.
use Rattle.std.proofs.Common.{rules, arith, false, refl, sym, ◌∙◌}
use Rattle.paging.proofs.Refusals.{sizes_pass, sizes_right}
use Rattle.records.specs.Bytes.{ka_bytes}
use Rattle.records.specs.Writing.{ka_refusal}
use Rattle.records.proofs.Writing.{room_by, put_writes, room_refused}
use Rattle.records.proofs.write.ka.Goals as goal

pub returns-in_err-room : goal.returns-in_err-room
unfolding ka_refusal
returns-in_err-room c =
    let b = ka_bytes c.args.k c.args.a in
    let out = c.args.out.now in
    room_refused b out c.args.at _ _ _ (search rules)
    (room_by b out c.args.at _ _ refl c.in_err-room.ensures ∙ sym (sizes_pass c.args.k c.args.a _ (sym c.in_ok-check.ensures)))

pub overflow_cast-k : goal.overflow_cast-k
overflow_cast-k c =
    let right = sizes_right c.args.k c.args.a (sym c.in_ok-check.ensures) in
    omega (arith, right.k_high)

pub overflow_cast-a : goal.overflow_cast-a
overflow_cast-a c =
    let right = sizes_right c.args.k c.args.a (sym c.in_ok-check.ensures) in
    omega (arith, right.k_high, right.a_high)

pub returns : goal.returns
unfolding ka_refusal
returns c =
    let b = ka_bytes c.args.k c.args.a in
    let out = c.args.out.now in
    let none = room_by b out c.args.at _ _ refl c.in_ok-room.ensures in
    put_writes b out c.args.at none _ _ false refl (sym c.unwrap-size.ensures ∙ c.ka.ensures.0) c.ka.ensures.1 _
    (sizes_pass c.args.k c.args.a _ (sym c.in_ok-check.ensures) ∙ sym none)
