use Rattle.analysis.proofs.ByteLaws.{Passing}
use Rattle.analysis.proofs.bytes.kind_byte.Given as goal

abbrev pub invariant-loop : goal.invariant-loop
invariant-loop l = Passing l.bytes l.number l.counter l.left
