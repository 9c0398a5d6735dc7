use Rattle.std.proofs.Common.{length}
use Rattle.wire.proofs.ReadingASet.{Reading}
use Rattle.wire.proofs.reading.read_elements.Given as goal

abbrev pub invariant-loop-e : goal.invariant-loop-e
invariant-loop-e l = Reading l.fn.bytes l.set l.left

abbrev pub decreases-loop-e : goal.decreases-loop-e
decreases-loop-e l = length l.left
