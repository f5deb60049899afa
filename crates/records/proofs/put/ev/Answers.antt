-- `records::put::ev` meets its contract: the fixed fields and the pages, stored one behind the other, are the record.
use Rattle.std.proofs.Common.{rules, arith, None, ◌≡◌, ◌∙◌, sym}
use Rattle.wire.specs.Numbers.{bytes16, bytes32, all_bytes32}
use Rattle.records.specs.Bytes.{ev_bytes}
use Rattle.records.specs.Marks.{mark_ev}
use Rattle.records.proofs.Lengths.{some_ev_length_says, none_ev_length_says, length_ev_bytes}
use Rattle.records.proofs.Writing.{put_barred, put_short, put_whole, stored4, pages_none, pages_many, pages_fine}
use Rattle.records.proofs.put.ev.Goals.{then-n-eq0-via-then-n-eq0, then-n-eq0-via-else-n-eq0+then-rest-size}
use Rattle.records.proofs.put.ev.Goals as goal

pub returns-in_err-size : goal.returns-in_err-size
returns-in_err-size c =
    let e : c.from_residual.result ≡ None = search rules in
    let many = none_ev_length_says _ c.in_err-size.ensures in
    rw e (put_barred (ev_bytes c.args.t c.args.pages.now) c.args.rest.now _ (pages_many _ (λ z. omega arith) many))

pub returns-then-n-eq0 : goal.returns-then-n-eq0
returns-then-n-eq0 c =
    let b = ev_bytes c.args.t c.args.pages.now in
    let says = some_ev_length_says _ _ c.in_ok-size.ensures in
    elim c.then-n-eq0.branch [
      | then-n-eq0-via-then-n-eq0 w ↦ put_barred b c.args.rest.now _ (pages_none _ w.if-n-eq0.true)
      | then-n-eq0-via-else-n-eq0+then-rest-size w ↦ put_short b c.args.rest.now _ (pages_fine _ w.if-n-eq0.false says.0)
          (omega (arith, w.if-rest-size.true, says.1, length_ev_bytes c.args.t c.args.pages.now))
    ]

pub returns : goal.returns
returns c =
    let rest = c.args.rest.now in
    let t = c.args.t in
    let pages = c.args.pages.now in
    let says = some_ev_length_says _ _ c.in_ok-size.ensures in
    let l = length_ev_bytes t pages in
    put_whole (ev_bytes t pages) rest _ _ _ (pages_fine _ c.if-n-eq0.false says.0) (says.1 ∙ sym l) (omega (arith, l, says.1)) (omega (arith, says.1))
    (stored4 rest (bytes16 mark_ev) (bytes32 t) (bytes16 _) (all_bytes32 pages) _ _ _ _ (omega (arith, says.1))
    c.write16.ensures c.write32.ensures c.write16-2.ensures c.list.ensures)
