use Rattle.model.proofs.CheckingASet.{Checking}
use Rattle.model.proofs.legal.LegalSet.of.Given as goal

abbrev pub invariant-loop-place : goal.invariant-loop-place
invariant-loop-place l = Checking l.set l.place
