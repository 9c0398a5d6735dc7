use Rattle.analysis.proofs.ByteLaws.{next, end}
use Rattle.analysis.proofs.bytes.kind_byte.Goals as goal

pub loop-preserved : goal.loop-preserved
loop-preserved c = rw c.rest-left.ensures.bytes (next _ _ _ _ c.loop.invariant c.loop-test.true)

pub returns : goal.returns
returns c = end _ _ _ _ c.loop.invariant c.loop-test.false
