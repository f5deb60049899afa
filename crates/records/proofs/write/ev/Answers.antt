-- `records::write::ev` meets its contract: 6, then 9 or 8, else the record is put and its length fits.
use Rattle.std.proofs.Common.{rules, arith, ◌≡◌, length, sym, ◌∙◌}
use Rattle.records.specs.Bytes.{ev_bytes}
use Rattle.records.specs.Writing.{ev_refusal}
use Rattle.records.proofs.Lengths.{some_ev_length_says, length_ev_bytes}
use Rattle.records.proofs.Writing.{room_by, put_writes, put_some, room_refused, pages_fine}
use Rattle.records.proofs.write.ev.Goals as goal

pub returns-in_err-room : goal.returns-in_err-room
unfolding ev_refusal
returns-in_err-room c =
    let some : length c.args.pages.now ≡ 0 → ⊥ = λ e. omega arith in
    let b = ev_bytes c.args.t c.args.pages.now in
    let out = c.args.out.now in
    let says = some_ev_length_says _ _ (sym c.unwrap.ensures ∙ c.ev_length.ensures) in
    room_refused b out c.args.at (ev_refusal c.args.t c.args.pages.now out c.args.at) c.from_residual.result c.in_err-room.field-0.0 (search rules)
    (rw (pages_fine _ some says.0) (room_by b out c.args.at _ _ (says.1 ∙ sym (length_ev_bytes c.args.t c.args.pages.now)) c.in_err-room.ensures))

pub unwrap-size-requires : goal.unwrap-size-requires
unwrap-size-requires c =
    let some : length c.args.pages.now ≡ 0 → ⊥ = λ e. omega arith in
    let b = ev_bytes c.args.t c.args.pages.now in
    let out = c.args.out.now in
    let says = some_ev_length_says _ _ (sym c.unwrap.ensures ∙ c.ev_length.ensures) in
    let l = length_ev_bytes c.args.t c.args.pages.now in
    let none = room_by b out c.args.at _ _ (says.1 ∙ sym l) c.in_ok-room.ensures in
    put_some b out c.args.at none _ (pages_fine _ some says.0) _ (omega (arith, l)) c.ev.ensures.0

pub returns : goal.returns
unfolding ev_refusal
returns c =
    let some : length c.args.pages.now ≡ 0 → ⊥ = λ e. omega arith in
    let b = ev_bytes c.args.t c.args.pages.now in
    let out = c.args.out.now in
    let says = some_ev_length_says _ _ (sym c.unwrap.ensures ∙ c.ev_length.ensures) in
    let none = room_by b out c.args.at _ _ (says.1 ∙ sym (length_ev_bytes c.args.t c.args.pages.now)) c.in_ok-room.ensures in
    let fine = pages_fine _ some says.0 in
    put_writes b out c.args.at none _ _ _ fine (sym c.unwrap-size.ensures ∙ c.ev.ensures.0) c.ev.ensures.1 _ (rw fine (sym none))
