use Prim.Native.Nat.{ℕ, ◌+◌, ◌*◌, ◌-◌}
use native.Mathlib.Omega.{arith}
use mathlib.Core.Bool.{false}
use mathlib.Core.Path.{◌≡◌, sym, ap, ◌∙◌}
use lib.ListN.{take, drop}
use Rattle.lists.specs.Pages.{mem}
use Rattle.lists.specs.Places.{place}
use Rattle.lists.proofs.Leaves.{part_passed}
use Rattle.lists.proofs.parts_without.Goals as goal

pub loop-part-preserved : goal.loop-part-preserved
loop-part-preserved c =
    let page = c.args.page in
    let pages = c.args.pages.now in
    let from = c.loop-part.part * 32 in
    let n : from + 32 - from ≡ 32 = omega arith in
    let e : mem page (take 32 (drop from pages)) ≡ false = ap (λ (x : ℕ). mem page (take x (drop from pages))) (sym n) ∙ sym c.has.ensures ∙ c.if-has.false in
    let next : from + 32 ≡ (c.loop-part.part + 1) * 32 = omega arith in
    c.loop-part.invariant ∙ part_passed page from 32 pages (omega arith) e ∙ ap (λ (x : ℕ). x + place page (drop x pages)) next
