use Prim.Native.Nat.{◌-◌}
use mathlib.Core.List.{List, map}
use borrow.Author.Rules.{rules}
use Rattle.paging.specs.declared.outcomes.Outcome.TheVariants.{LoadAfterBundle}
use mathlib.Core.Path.{◌≡◌, ap, ◌∙◌}
use Prim.Native.Nat.{ℕ}
use lib.ListN.{length, take, drop}
use Rattle.wire.specs.Numbers.{placed}
use Rattle.records.specs.Bytes.{ev_length, ev_bytes}
use Rattle.keys.specs.Keys.{page_of}
use Rattle.min.proofs.Written.{ev_room, puts_some}
use Rattle.min.proofs.write.put_if_bundled.Goals as goal

pub put_bundle-size-requires : goal.put_bundle-size-requires
put_bundle-size-requires c =
    let e : c.args.outcome ≡ LoadAfterBundle = search rules in
    let room = rw e at c.requires in
    rw c.keys.ensures (ev_room c.args.a c.args.t c.args.at c.args.held.now c.args.out.now room)

pub returns : goal.returns
returns c =
    let a = c.args.a in
    let t = c.args.t in
    let offset = c.args.at in
    let out = c.args.out.now in
    let e : c.args.outcome ≡ LoadAfterBundle = search rules in
    let room = rw e at c.requires in
    let put = c.put_bundle-size in
    rw e
    (puts_some a t offset c.args.held.now out room put.result put.new.rest
    (put.ensures.0 ∙ ap (λ (keys : List ℕ). ev_length (length (take a keys))) c.keys.ensures)
    (put.ensures.1 ∙ ap (λ (keys : List ℕ). placed (take (length out - offset) (drop offset out)) 0 (ev_bytes t (map page_of (take a keys)))) c.keys.ensures))
