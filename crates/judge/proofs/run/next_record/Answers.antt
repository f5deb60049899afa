use Rattle.std.proofs.Common.{arith}
use Rattle.std.proofs.lemmas.Result.{err_from_is_err_and}
use Rattle.judge.proofs.RunLaws.{ev_fact, ev_goes_on, ev_halts, ev_onward, pf_fact, pf_halts, pf_goes_on, pf_onward, end_answer, refused_answer, no_sizes}
use Rattle.judge.proofs.run.next_record.Goals as goal

pub returns-in_err-t-clause-answer : goal.returns-in_err-t-clause-answer
returns-in_err-t-clause-answer c =
    let p = err_from_is_err_and c.from_residual.result c.from_residual.ensures.1 in
    rw (p.1, p.2) (refused_answer _ _ _ c.requires _ c.in_err-t.ensures)

pub bundle-requires : goal.bundle-requires
bundle-requires c =
    let w = c.in_ok-t.ensures in
    let e = ev_fact _ _ _ c.requires c.in-Bundle.t c.in-Bundle.n c.in-Bundle.from c.in-Bundle.next (rw c.in-Bundle.is at w) in
    let pages = e.pages in
    let behind = e.behind in
    let inside = e.inside in
    (c.requires, omega arith, omega arith, omega arith)

pub returns-in_err-behind-in-Bundle-clause-answer : goal.returns-in_err-behind-in-Bundle-clause-answer
returns-in_err-behind-in-Bundle-clause-answer c =
    let w = c.in_ok-t.ensures in
    let p = err_from_is_err_and c.from_residual-in_err-behind-in-Bundle.result c.from_residual-in_err-behind-in-Bundle.ensures.1 in
    rw (p.1, p.2)
    (ev_halts _ _ _ c.requires c.in-Bundle.t c.in-Bundle.n c.in-Bundle.from c.in-Bundle.next (rw c.in-Bundle.is at w) c.bundle.new.held _
    c.in_err-behind-in-Bundle.ensures.step)

pub fetch-requires : goal.fetch-requires
fetch-requires c =
    let w = c.in_ok-t.ensures in
    let e = pf_fact _ _ _ c.requires c.in-Fetch.t c.in-Fetch.page c.in-Fetch.next (rw c.in-Fetch.is at w) in
    (c.requires, e.inside, e.page_is)

pub returns-in_err-fetched-in-Fetch-clause-answer : goal.returns-in_err-fetched-in-Fetch-clause-answer
returns-in_err-fetched-in-Fetch-clause-answer c =
    let w = c.in_ok-t.ensures in
    let p = err_from_is_err_and c.from_residual-in_err-fetched-in-Fetch.result c.from_residual-in_err-fetched-in-Fetch.ensures.1 in
    rw (p.1, p.2)
    (pf_halts _ _ _ c.requires c.in-Fetch.t c.in-Fetch.page c.in-Fetch.next (rw c.in-Fetch.is at w) c.fetch.new.held _ c.in_err-fetched-in-Fetch.ensures.step)

pub returns-in_err-behind-in-Fetch-clause-answer : goal.returns-in_err-behind-in-Fetch-clause-answer
returns-in_err-behind-in-Fetch-clause-answer c =
    let w = c.in_ok-t.ensures in
    let p = err_from_is_err_and c.from_residual-in_err-behind-in-Fetch.result c.from_residual-in_err-behind-in-Fetch.ensures.1 in
    rw (p.1, p.2)
    (pf_goes_on _ _ _ c.requires c.in-Fetch.t c.in-Fetch.page c.in-Fetch.next (rw c.in-Fetch.is at w) c.fetch.new.held _
    c.in_ok-fetched-in-Fetch.ensures.sound _ c.in_ok-fetched-in-Fetch.ensures.step c.in_err-behind-in-Fetch.ensures)

pub returns-in_ok-behind-in-Bundle-clause-answer : goal.returns-in_ok-behind-in-Bundle-clause-answer
returns-in_ok-behind-in-Bundle-clause-answer c =
    let w = c.in_ok-t.ensures in
    ev_goes_on _ _ _ c.requires c.in-Bundle.t c.in-Bundle.n c.in-Bundle.from c.in-Bundle.next (rw c.in-Bundle.is at w) c.bundle.new.held _
    c.in_ok-behind-in-Bundle.ensures.step c.in_ok-behind-in-Bundle.ensures.sound

pub returns-in_ok-behind-in-Bundle-clause-sound : goal.returns-in_ok-behind-in-Bundle-clause-sound
returns-in_ok-behind-in-Bundle-clause-sound c =
    let w = c.in_ok-t.ensures in
    ev_onward _ _ _ c.requires c.in-Bundle.t c.in-Bundle.n c.in-Bundle.from c.in-Bundle.next (rw c.in-Bundle.is at w) c.bundle.new.held _
    c.in_ok-behind-in-Bundle.ensures.sound

pub returns-in_ok-behind-in-Fetch-clause-answer : goal.returns-in_ok-behind-in-Fetch-clause-answer
returns-in_ok-behind-in-Fetch-clause-answer c =
    let w = c.in_ok-t.ensures in
    pf_goes_on _ _ _ c.requires c.in-Fetch.t c.in-Fetch.page c.in-Fetch.next (rw c.in-Fetch.is at w) c.fetch.new.held _
    c.in_ok-fetched-in-Fetch.ensures.sound _ c.in_ok-fetched-in-Fetch.ensures.step c.in_ok-behind-in-Fetch.ensures

pub returns-in_ok-behind-in-Fetch-clause-sound : goal.returns-in_ok-behind-in-Fetch-clause-sound
returns-in_ok-behind-in-Fetch-clause-sound c =
    let w = c.in_ok-t.ensures in
    pf_onward _ _ _ c.requires c.in-Fetch.t c.in-Fetch.page c.in-Fetch.next (rw c.in-Fetch.is at w) c.fetch.new.held _
    c.in_ok-fetched-in-Fetch.ensures.sound _ c.in_ok-behind-in-Fetch.ensures.more

pub returns-in-End-clause-answer : goal.returns-in-End-clause-answer
returns-in-End-clause-answer c = let w = c.in_ok-t.ensures in end_answer _ _ _ c.requires (rw c.in-End.is at w)

pub returns-in-Sizes-clause-answer : goal.returns-in-Sizes-clause-answer
returns-in-Sizes-clause-answer c = let w = c.in_ok-t.ensures in absurd (no_sizes _ _ _ c.requires _ _ _ (rw c.in-Sizes.is at w))
