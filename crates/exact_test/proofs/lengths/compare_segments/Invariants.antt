use Rattle.std.proofs.Common.{◌-◌}
use Rattle.exact_test.specs.Segments.{dated}
use Rattle.exact_test.proofs.ComparingSegments.{Stage}
use Rattle.exact_test.proofs.lengths.compare_segments.Given as goal

abbrev pub invariant-loop-base : goal.invariant-loop-base
invariant-loop-base l = Stage l.set.elements.now l.bound (dated l.set.elements.now l.next) l.segment l.base l.compared

abbrev pub decreases-loop-base : goal.decreases-loop-base
decreases-loop-base l = l.bound - l.base
