-- `records::put::rr_at` meets its contract: three stores, one behind the other, are the record.
use native.Mathlib.Omega.{arith}
use mathlib.Core.List.{◌++◌}
use Rattle.wire.specs.Numbers.{bytes16, bytes32}
use Rattle.records.specs.Marks.{mark_rr}
use Rattle.records.proofs.Writing.{stored2}
use Rattle.records.proofs.put.rr_at.Goals as goal

pub returns : goal.returns
returns c =
    let room = c.requires in
    let out = c.args.out.now in
    let head = bytes16 mark_rr ++ bytes32 c.args.page in
    let write16 = c.write16 in
    let write32 = c.write32 in
    let write162 = c.write16-2 in
    let two = stored2 out c.args.at (bytes16 mark_rr) (bytes32 c.args.page) write16.new.s write32.new.s (omega arith) write16.ensures
    write32.ensures in
    stored2 out c.args.at head (bytes16 c.args.times) write32.new.s write162.new.s (omega arith) two write162.ensures
