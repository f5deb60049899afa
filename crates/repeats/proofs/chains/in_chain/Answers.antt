use Prim.Native.Nat.{◌-◌}
use native.Mathlib.Omega.{arith}
use mathlib.Core.Path.{refl, sym, ◌∙◌}
use Rattle.repeats.proofs.ChainLaws.{chain_ended, chain_here, chain_next}
use Rattle.repeats.proofs.chains.in_chain.Goals as goal

pub loop-link-init : goal.loop-link-init
loop-link-init c = (omega arith, refl)

pub bounds-before-place : goal.bounds-before-place
bounds-before-place c =
    let pre = c.requires in
    let fits = pre.linked in omega arith

pub overflow_cast-link-in-loop-link : goal.overflow_cast-link-in-loop-link
overflow_cast-link-in-loop-link c =
    let link = c.loop-link.link in
    omega (arith, c.type_inv.before (link - 1))

pub bounds-pages-place : goal.bounds-pages-place
bounds-pages-place c =
    let pre = c.requires in
    let fits = pre.within in omega arith

pub returns-then-pages-place : goal.returns-then-pages-place
returns-then-pages-place c =
    let before = c.args.before.now in
    let page = c.args.page in
    let pages = c.args.pages.now in
    let start = c.args.start in
    let pre = c.requires in
    let loop = c.loop-link in
    let loop-test = c.loop-link-test in
    let at = loop in
    sym (at.invariant.1 ∙ chain_here pages before page at.link start loop-test.true at.invariant.0 pre.falls c.if-pages-place.true)

pub loop-link-smaller : goal.loop-link-smaller
loop-link-smaller c =
    let pre = c.requires in
    let loop = c.loop-link in
    let at = loop in
    let down = pre.falls (at.link - 1) (omega arith) in
    omega arith

pub loop-link-preserved : goal.loop-link-preserved
loop-link-preserved c =
    let before = c.args.before.now in
    let page = c.args.page in
    let pages = c.args.pages.now in
    let start = c.args.start in
    let pre = c.requires in
    let loop = c.loop-link in
    let loop-test = c.loop-link-test in
    let at = loop in
    let down = pre.falls (at.link - 1) (omega arith) in
    (omega arith, at.invariant.1 ∙ chain_next pages before page at.link start loop-test.true at.invariant.0 pre.falls c.if-pages-place.false)

pub returns : goal.returns
returns c =
    let before = c.args.before.now in
    let page = c.args.page in
    let pages = c.args.pages.now in
    sym (c.loop-link.invariant.1 ∙ chain_ended pages before page c.loop-link.link c.loop-link-test.false)
