use Rattle.std.proofs.Common.{arith, sym, ◌∙◌}
use Rattle.cursor.proofs.Laws.{run_begun}
use Rattle.cursor.proofs.next_record.Goals as goal

pub returns-then-read16-eq-RR : goal.returns-then-read16-eq-RR
returns-then-read16-eq-RR c =
    let mark = sym c.read16.ensures ∙ c.if-read16-eq-RR.true in
    run_begun c.args.file.now c.args.from c.requires.0 c.requires.1 mark _ _ c.read32-page.ensures
    (c.from.ensures ∙ c.read16-then-read16-eq-RR.ensures) (omega arith)
