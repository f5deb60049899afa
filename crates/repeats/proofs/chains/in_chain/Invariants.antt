-- `lists::chains::in_chain` meets its contract: from the link on, the chain answers as from its start.
use Prim.Native.Nat.{◌≤◌}
use mathlib.Core.Path.{◌≡◌}
use Rattle.repeats.specs.Chains.{in_chain}
use Rattle.repeats.proofs.chains.in_chain.Given as goal

abbrev pub invariant-loop-link : goal.invariant-loop-link
invariant-loop-link l = (l.link ≤ l.start) × (in_chain l.pages l.before l.start l.page ≡ in_chain l.pages l.before l.link l.page)

abbrev pub decreases-loop-link : goal.decreases-loop-link
decreases-loop-link l = l.link
