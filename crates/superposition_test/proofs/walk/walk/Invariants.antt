use Rattle.std.proofs.Common.{◌-◌}
use Rattle.theory.specs.Approximation.{budget}
use Rattle.superposition_test.proofs.WalkLaws.{Walking}
use Rattle.superposition_test.proofs.walk.walk.Given as goal

abbrev pub invariant-loop-at : goal.invariant-loop-at
invariant-loop-at l = Walking l.fn.set.elements.now l.k l.h l.rows l.before l.scaled l.slope l.count l.at

abbrev pub decreases-loop-at : goal.decreases-loop-at
decreases-loop-at l = budget l.k l.fn.set.elements.now - l.count
