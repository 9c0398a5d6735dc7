use Rattle.std.proofs.Common.{arith}
use Rattle.exact_test.proofs.SweepingASegment.{start_word, end, sums_fit, late_marked, found_late, next}
use Rattle.exact_test.proofs.segments.Segment.sweep.Goals as goal

pub loop-w-init : goal.loop-w-init
loop-w-init c = start_word c.loop-words.invariant c.loop-words-test.true (omega arith)

pub overflow_add-compared : goal.overflow_add-compared
overflow_add-compared c = omega (arith, (sums_fit c.loop-w.invariant c.loop-w-test.true).0)

pub overflow_add-compared-in-loop-w : goal.overflow_add-compared-in-loop-w
overflow_add-compared-in-loop-w c = omega (arith, (sums_fit c.loop-w.invariant c.loop-w-test.true).1)

pub invariant_of-self : goal.invariant_of-self
invariant_of-self c = late_marked c.loop-w.invariant c.loop-w-test.true

pub returns-then-at-compared-clause-value : goal.returns-then-at-compared-clause-value
returns-then-at-compared-clause-value c = found_late c.loop-w.invariant c.loop-w-test.true (omega arith)

pub loop-w-preserved : goal.loop-w-preserved
loop-w-preserved c = next c.loop-w.invariant c.loop-w-test.true (omega arith)

pub returns-clause-value : goal.returns-clause-value
returns-clause-value c = (end c.loop-words.invariant c.loop-words-test.false).0

pub returns-clause-left : goal.returns-clause-left
returns-clause-left c = (end c.loop-words.invariant c.loop-words-test.false).1
