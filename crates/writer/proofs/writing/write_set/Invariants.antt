use Rattle.model.specs.Elements.{counted}
use Rattle.writer.proofs.WritingASet.{Putting}
use Rattle.writer.proofs.writing.write_set.Given as goal

abbrev pub invariant-loop-e : goal.invariant-loop-e
invariant-loop-e l = Putting (counted l.fn.set) l.fn.out l.out l.at l.e-index
