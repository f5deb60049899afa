use native.Mathlib.Omega.{arith}
use mathlib.Core.Path.{sym, ◌∙◌, ap}
use lib.ListN.{length-take}
use borrow.Author.Tests.{lt-leb}
use Rattle.lists.specs.Pages.{distinct}
use Rattle.lists.proofs.Choice.{clash}
use Rattle.paging.specs.Rows.{rows_of}
use Rattle.layers.proofs.WellFormed.{ill_formed, used_pages, used_most, above_numbers, sized_numbers, formed_sized}
use Rattle.layers.proofs.formed.table_formed.Goals as goal
use Rattle.layers.proofs.formed.table_formed.Goals.{then-run-via-then-run, then-run-via-else-run+then-run-2, then-run-via-else-run+else-run-2+then-not-in_order, then-no_page_twice, else-no_page_twice}

pub returns-then-run : goal.returns-then-run
returns-then-run c =
    let run = c.args.run in
    elim c.then-run.branch [
      | then-run-via-then-run w ↦ ill_formed run _ _ (lt-leb _ _ w.if-run.true) (λ f. f.counted)
      | then-run-via-else-run+then-run-2 w ↦ ill_formed run _ _ (lt-leb _ _ w.if-run-2.true) (λ f. f.s_low)
      | then-run-via-else-run+else-run-2+then-not-in_order w ↦ ill_formed run _ _ (sym w.in_order.ensures ∙ w.if-not-in_order.true) (λ f. f.in_order)
    ]

pub slice_bounds-no_page_twice-end : goal.slice_bounds-no_page_twice-end
slice_bounds-no_page_twice-end c =
    let used = c.used-n in
    let most = used_most c.args.numbers.now used.result used.ensures in
    simp length-take (omega arith)

pub returns-else-none_above : goal.returns-else-none_above
returns-else-none_above c =
    let numbers = c.args.numbers.now in
    let pages = c.args.pages.now in
    let run = c.args.run in
    let pre = c.requires in
    let parts = used_pages numbers pages c.used-n.result pre.0 c.used-n.ensures (sym c.in_order.ensures ∙ c.if-not-in_order.false) in
    c.if-none_above.false
    ∙ elim c.if-no_page_twice.branch [
      | then-no_page_twice w ↦
          ill_formed run (rows_of numbers pages) _ (sym (w.none_above.ensures ∙ above_numbers numbers pages _ pre.0) ∙ sym w.value-is ∙ c.if-none_above.false) (λ f. f.none_higher)
      | else-no_page_twice w ↦
          ill_formed run (rows_of numbers pages) _ (sym (c.no_page_twice.ensures ∙ ap distinct parts) ∙ w.if-no_page_twice.false) (λ f. f.once)
    ]

pub returns-then-none_above : goal.returns-then-none_above
returns-then-none_above c =
    let numbers = c.args.numbers.now in
    let pages = c.args.pages.now in
    let run = c.args.run in
    let pre = c.requires in
    let parts = used_pages numbers pages c.used-n.result pre.0 c.used-n.ensures (sym c.in_order.ensures ∙ c.if-not-in_order.false) in
    elim c.if-no_page_twice.branch [
      | then-no_page_twice w ↦
          c.layers_sized.ensures ∙ sized_numbers run numbers pages pre.0
          ∙ formed_sized run (rows_of numbers pages) c.if-run.false (sym (c.no_page_twice.ensures ∙ ap distinct parts) ∙ w.if-no_page_twice.true)
          (sym c.in_order.ensures ∙ c.if-not-in_order.false)
          (sym (w.none_above.ensures ∙ above_numbers numbers pages _ pre.0) ∙ sym w.value-is ∙ c.if-none_above.true) c.if-run-2.false
      | else-no_page_twice w ↦ clash c.if-no_page_twice.value c.if-none_above.true (w.value-is ∙ w.if-no_page_twice.false)
    ]
