-- `traces::count` meets its contract: the KA is refused, the requests behind it are, or they are counted.
use Rattle.std.proofs.Common.{rules, refl, ◌≡◌, Err, ap}
use Rattle.traces.specs.Calls.{count_of}
use Rattle.traces.proofs.CallLaws.{starts_damaged, starts_barred, starts_whole}
use Rattle.paging.proofs.Numbers.{number_above}
use Rattle.traces.proofs.count.Goals as goal

pub returns-in_err-k : goal.returns-in_err-k
returns-in_err-k c =
    let e : c.from_residual.result ≡ Err c.in_err-k.field-0.0 = search rules in
    rw e (ap count_of (starts_damaged _ _ _ c.in_err-k.ensures))

pub returns-in_err-requests : goal.returns-in_err-requests
returns-in_err-requests c =
    let e : c.from_residual-in_err-requests.result ≡ Err c.in_err-requests.field-0.0 = search rules in
    rw e (ap count_of (starts_barred _ _ _ _ c.in_ok-k.ensures _ c.in_err-requests.ensures (number_above _)))

pub returns : goal.returns
returns c = starts_whole _ _ _ _ c.in_ok-k.ensures _ c.in_ok-requests.ensures refl
