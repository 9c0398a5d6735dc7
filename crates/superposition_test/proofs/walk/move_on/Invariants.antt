use Rattle.superposition_test.proofs.MoveLaws.{Moving}
use Rattle.superposition_test.proofs.walk.move_on.Given as goal

abbrev pub invariant-loop-row : goal.invariant-loop-row
invariant-loop-row l = Moving l.initial.rows l.at l.rows l.row-index l.cost l.rise l.next
