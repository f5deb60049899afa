use native.Mathlib.Omega.{arith}
use mathlib.Core.Path.{sym, ◌∙◌}
use lib.ListN.{length, take}
use Rattle.records.proofs.Lengths.{length_of_some}
use Rattle.min.proofs.Written.{some_put, put_bundle_long, put_bundle_is}
use Rattle.min.proofs.write.put_bundle.Goals as goal

pub unwrap-requires : goal.unwrap-requires
unwrap-requires c =
    let bundle = c.args.bundle.now in
    some_put c.ev.result _ c.ev.ensures.0
    (omega (arith, put_bundle_long c.args.t (take (length bundle) c.copy_pages.new.pages) bundle c.args.rest.now c.requires c.copy_pages.ensures))

pub returns : goal.returns
returns c =
    let bundle = c.args.bundle.now in
    put_bundle_is c.args.t _ (take (length bundle) c.copy_pages.new.pages) bundle c.args.rest.now c.ev.new.rest c.requires
    c.copy_pages.ensures (length_of_some _ _ (sym c.unwrap.ensures ∙ c.ev.ensures.0)) c.ev.ensures.1
