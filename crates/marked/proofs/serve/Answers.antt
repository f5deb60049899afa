-- `marked::serve` meets its contract: the page's place says what the request is, and each part leaves the lists as the next asks for them.
use native.Mathlib.Omega.{arith}
use mathlib.Core.Path.{◌∙◌}
use lib.ListN.{length-take, length-set}
use Rattle.marked.proofs.Requests.{marks_long, wipe_ready, hit_ready, hit_told, load_ready, load_told, bundle_ready, rest_ready, bundle_told}
use Rattle.marked.proofs.serve.Goals as goal

pub slice_bounds-find-end-2 : goal.slice_bounds-find-end-2
slice_bounds-find-end-2 c = simp length-take (omega arith)

pub slice_bounds-clear_marks-end-2 : goal.slice_bounds-clear_marks-end-2
slice_bounds-clear_marks-end-2 c = simp length-take (omega arith)

pub bounds-marks-at : goal.bounds-marks-at
bounds-marks-at c =
    let cleared = c.clear_marks in
    let long = marks_long c.requires cleared.new.marks cleared.auto.marks in
    omega arith

pub wipe-requires : goal.wipe-requires
wipe-requires c =
    let cleared = c.clear_marks in
    hit_ready c.requires cleared.new.marks cleared.auto.marks c.find-at.result _ c.args.priority

pub shape_of-cache-then-at-n : goal.shape_of-cache-then-at-n
shape_of-cache-then-at-n c =
    c.wipe.auto.cache

pub shape_of-marks-then-at-n : goal.shape_of-marks-then-at-n
shape_of-marks-then-at-n c =
    let cleared = c.clear_marks in
    let kept = simp length-set at c.wipe.auto.marks in
    kept ∙ marks_long c.requires cleared.new.marks cleared.auto.marks

pub shape_of-priorities-then-at-n : goal.shape_of-priorities-then-at-n
shape_of-priorities-then-at-n c =
    c.wipe.auto.priorities ∙ length-set c.args.priorities.now c.find-at.result c.args.priority

pub returns-then-at-n : goal.returns-then-at-n
returns-then-at-n c =
    let cleared = c.clear_marks in
    let told = c.wipe.ensures in
    rw (told.0, told.1.0, told.1.1)
    (hit_told c.requires cleared.new.marks cleared.auto.marks c.args.clear cleared.ensures
    c.find-at.ensures c.if-at-n.true)

pub load-requires : goal.load-requires
load-requires c =
    let cleared = c.clear_marks in
    load_ready c.requires cleared.new.marks cleared.auto.marks c.if-n-k.true

pub wipe-requires-then-n-k : goal.wipe-requires-then-n-k
wipe-requires-then-n-k c =
    let cleared = c.clear_marks in
    let kept = c.load.auto in
    wipe_ready c.requires cleared.new.marks cleared.auto.marks (omega arith)
    kept.cache kept.marks kept.priorities

pub shape_of-cache-then-n-k : goal.shape_of-cache-then-n-k
shape_of-cache-then-n-k c =
    c.wipe-then-n-k.auto.cache ∙ c.load.auto.cache

pub shape_of-marks-then-n-k : goal.shape_of-marks-then-n-k
shape_of-marks-then-n-k c =
    let cleared = c.clear_marks in
    c.wipe-then-n-k.auto.marks ∙ c.load.auto.marks
    ∙ marks_long c.requires cleared.new.marks cleared.auto.marks

pub shape_of-priorities-then-n-k : goal.shape_of-priorities-then-n-k
shape_of-priorities-then-n-k c =
    c.wipe-then-n-k.auto.priorities ∙ c.load.auto.priorities

pub returns-then-n-k : goal.returns-then-n-k
returns-then-n-k c =
    let cleared = c.clear_marks in
    let told = c.wipe-then-n-k.ensures in
    rw (told.0, told.1.0, told.1.1)
    (load_told c.requires cleared.new.marks cleared.auto.marks c.args.clear cleared.ensures
    c.find-at.ensures c.if-at-n.false
    c.if-n-k.true c.load.ensures)

pub bundle-requires : goal.bundle-requires
bundle-requires c =
    let cleared = c.clear_marks in
    bundle_ready c.requires cleared.new.marks cleared.auto.marks c.if-n-k.false

pub load-requires-2 : goal.load-requires-2
load-requires-2 c =
    let cleared = c.clear_marks in
    let kept = c.bundle.auto in
    rest_ready c.requires cleared.new.marks cleared.auto.marks
    c.if-n-k.false c.bundle.ensures kept.cache kept.marks kept.priorities

pub wipe-requires-2 : goal.wipe-requires-2
wipe-requires-2 c =
    let cleared = c.clear_marks in
    let kept = c.load-2.auto in
    let left = c.bundle.auto in
    wipe_ready c.requires cleared.new.marks cleared.auto.marks (omega arith)
    (kept.cache ∙ left.cache) (kept.marks ∙ left.marks) (kept.priorities ∙ left.priorities)

pub shape_of-cache : goal.shape_of-cache
shape_of-cache c =
    c.wipe-2.auto.cache ∙ c.load-2.auto.cache ∙ c.bundle.auto.cache

pub shape_of-marks : goal.shape_of-marks
shape_of-marks c =
    let cleared = c.clear_marks in
    c.wipe-2.auto.marks ∙ c.load-2.auto.marks ∙ c.bundle.auto.marks
    ∙ marks_long c.requires cleared.new.marks cleared.auto.marks

pub shape_of-priorities : goal.shape_of-priorities
shape_of-priorities c =
    c.wipe-2.auto.priorities ∙ c.load-2.auto.priorities ∙ c.bundle.auto.priorities

pub shape_of-evicted : goal.shape_of-evicted
shape_of-evicted c =
    c.bundle.auto.evicted

pub returns : goal.returns
returns c =
    let cleared = c.clear_marks in
    let told = c.wipe-2.ensures in
    rw (told.0, told.1.0, told.1.1)
    (bundle_told c.requires cleared.new.marks cleared.auto.marks c.args.clear cleared.ensures
    c.if-n-k.false c.bundle.ensures c.find-at.ensures
    c.if-at-n.false c.load-2.ensures)
