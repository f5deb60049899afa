use Rattle.mark.proofs.WholeBundles.{whole_ready, whole_served}
use Rattle.mark.proofs.trace.serve_all.Goals as goal

pub serve_whole_bundles-requires : goal.serve_whole_bundles-requires
serve_whole_bundles-requires c =
    let if1 = c.if-a-k in
    whole_ready _ _ _ _ if1.true c.requires

pub returns-then-a-k : goal.returns-then-a-k
returns-then-a-k c =
    let if1 = c.if-a-k in
    let serve-whole-bundles = c.serve_whole_bundles in
    whole_served _ _ _ _ _ serve-whole-bundles.result if1.true serve-whole-bundles.ensures

pub serve_buffered-requires : goal.serve_buffered-requires
serve_buffered-requires c =
    c.requires

pub returns : goal.returns
returns c =
    let serve-buffered = c.serve_buffered in
    serve-buffered.ensures
