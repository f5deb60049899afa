-- `records::put::list` meets its contract: after i turns the first i pages stand behind the fixed fields, and nothing else has changed.
use mathlib.Core.Path.{◌≡◌}
use lib.ListN.{take}
use Rattle.wire.specs.Numbers.{all_bytes32, placed}
use Rattle.records.proofs.put.list.Given as goal

abbrev pub invariant-loop-i : goal.invariant-loop-i
invariant-loop-i l = l.rest ≡ placed l.initial.rest 8 (all_bytes32 (take l.i l.pages))
