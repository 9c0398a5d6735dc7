use Rattle.std.proofs.Common.{◌≡◌}
use Rattle.model.specs.Number.{gcd}
use Rattle.load.proofs.demand.gcd.Given as goal

abbrev pub invariant-loop-y : goal.invariant-loop-y
invariant-loop-y l = gcd l.a l.b ≡ gcd l.x l.y

abbrev pub decreases-loop-y : goal.decreases-loop-y
decreases-loop-y l = l.y
