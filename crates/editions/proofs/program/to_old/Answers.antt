-- `program::to_old` meets its contract: the call with 4,096 requests; the bytes read and the room lent are enough.
use Rattle.editions.specs.Editions.{old_bytes}
use Rattle.editions.proofs.Programs.{old_is_short, program_promises}
use Rattle.editions.proofs.program.to_old.Goals as goal

pub returns : goal.returns
returns c =
    let p = program_promises old_bytes old_is_short c.args.input.now c.args.out.now _ _ c.within.ensures in
    record { value = p.0; read_enough = p.1.0; room_enough = p.1.1.0; output_inside = p.1.1.1 }
