use Rattle.load.proofs.FindingH.{Finding}
use Rattle.load.proofs.demand.hyperperiod.Given as goal

abbrev pub invariant-loop-i : goal.invariant-loop-i
invariant-loop-i l = Finding l.fn.set.elements.now l.h l.i
