-- `old_edition::within` meets its contract: the input's own refusals, then 8, else the KA and the records behind it.
use native.Mathlib.Omega.{arith}
use Rattle.reading.specs.Files.{requests_from}
use Rattle.editions.proofs.CallLaws.{short_by, enough_by, old_length_is, old_told, sizes_small, requests_are, turned_short, behind_fits, turned_whole}
use Rattle.editions.proofs.old_edition.within.Goals as goal

pub size-length-requires : goal.size-length-requires
size-length-requires c =
    let few = (requests_are (old_told _ _ _ _ _ c.in_ok-told.ensures)).1 in
    omega arith

pub returns-then-out-length : goal.returns-then-out-length
returns-then-out-length c =
    let told = old_told _ _ _ _ _ c.in_ok-told.ensures in
    let long = old_length_is (requests_from c.args.input.now 6).held _ _ (requests_are told).0 c.size-length.ensures in
    turned_short told c.args.out.now (short_by _ _ _ long c.if-out-length.true)

pub overflow_cast-told : goal.overflow_cast-told
overflow_cast-told c =
    let small = (sizes_small (old_told _ _ _ _ _ c.in_ok-told.ensures)).0 in
    omega arith

pub overflow_cast-told-2 : goal.overflow_cast-told-2
overflow_cast-told-2 c =
    let small = (sizes_small (old_told _ _ _ _ _ c.in_ok-told.ensures)).1 in
    omega arith

pub put_singles-requires : goal.put_singles-requires
put_singles-requires c =
    let told = old_told _ _ _ _ _ c.in_ok-told.ensures in
    let are = (requests_are told).0 in
    let long = old_length_is (requests_from c.args.input.now 6).held _ _ are c.size-length.ensures in
    let fits = behind_fits told c.args.out.now (enough_by _ _ _ long c.if-out-length.false) c.ka.new.rest c.ka.ensures.1 in
    (are, omega arith)

pub returns : goal.returns
returns c =
    let told = old_told _ _ _ _ _ c.in_ok-told.ensures in
    let long = old_length_is (requests_from c.args.input.now 6).held _ _ (requests_are told).0 c.size-length.ensures in
    turned_whole told c.args.out.now (enough_by _ _ _ long c.if-out-length.false) c.ka.new.rest c.ka.ensures.1 _ _ long c.put_singles.ensures
