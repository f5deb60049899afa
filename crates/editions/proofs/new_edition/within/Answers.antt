-- `new_edition::within` meets its contract: the input's own refusals, then 8, else the KA and the records behind it.
use native.Mathlib.Omega.{arith}
use mathlib.Core.Path.{◌≡◌}
use Rattle.std.proofs.Common.{Err, rules}
use Rattle.paging.proofs.Numbers.{number_above}
use Rattle.editions.proofs.CallLaws.{short_by, enough_by, new_starts_damaged, new_barred, new_told, new_length_is, sizes_small, turned_short, turned_whole}
use Rattle.editions.proofs.new_edition.within.Goals as goal

pub returns-in_err-k : goal.returns-in_err-k
returns-in_err-k c =
    let e : c.from_residual.result ≡ Err c.in_err-k.field-0.0 = search rules in
    rw e (new_starts_damaged _ _ _ _ c.in_err-k.ensures)

pub returns-in_err-all : goal.returns-in_err-all
returns-in_err-all c =
    let e : c.from_residual-in_err-all.result ≡ Err c.in_err-all.field-0.0 = search rules in
    rw e (new_barred _ _ _ _ _ c.in_ok-k.ensures _ c.in_err-all.ensures (number_above _))

pub returns-then-out-all : goal.returns-then-out-all
returns-then-out-all c =
    let told = new_told _ _ c.args.out.now _ _ c.in_ok-k.ensures _ _ c.in_ok-all.ensures in
    let long = new_length_is _ _ c.args.out.now _ _ c.in_ok-k.ensures _ _ c.in_ok-all.ensures in
    turned_short told c.args.out.now (short_by _ _ _ long c.if-out-all.true)

pub overflow_cast-k : goal.overflow_cast-k
overflow_cast-k c =
    let small = (sizes_small (new_told _ _ c.args.out.now _ _ c.in_ok-k.ensures _ _ c.in_ok-all.ensures)).0 in
    omega arith

pub overflow_cast-a : goal.overflow_cast-a
overflow_cast-a c =
    let small = (sizes_small (new_told _ _ c.args.out.now _ _ c.in_ok-k.ensures _ _ c.in_ok-all.ensures)).1 in
    omega arith

pub returns : goal.returns
returns c =
    let told = new_told _ _ c.args.out.now _ _ c.in_ok-k.ensures _ _ c.in_ok-all.ensures in
    let long = new_length_is _ _ c.args.out.now _ _ c.in_ok-k.ensures _ _ c.in_ok-all.ensures in
    turned_whole told c.args.out.now (enough_by _ _ _ long c.if-out-all.false) c.ka-2.new.rest c.ka-2.ensures.1 _ _ long c.put_runs.ensures
