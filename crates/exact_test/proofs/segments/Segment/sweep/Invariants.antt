use Rattle.exact_test.proofs.SweepingASegment.{Words, Marks}
use Rattle.exact_test.proofs.segments.Segment.sweep.Given as goal

abbrev pub invariant-loop-words : goal.invariant-loop-words
invariant-loop-words l = let s = l.self-inside in Words l.fn.self s.due s.marks s.seen l.base l.fn.compared l.compared l.words

abbrev pub decreases-loop-words : goal.decreases-loop-words
decreases-loop-words l = l.words

abbrev pub invariant-loop-w : goal.invariant-loop-w
invariant-loop-w l = let s = l.self-inside in Marks l.fn.self s.due s.marks s.seen l.base l.fn.compared l.compared l.words l.k l.w

abbrev pub decreases-loop-w : goal.decreases-loop-w
decreases-loop-w l = l.w
