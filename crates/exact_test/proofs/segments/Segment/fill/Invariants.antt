use Rattle.exact_test.specs.Segments.{dated}
use Rattle.exact_test.proofs.FillingASegment.{Filling}
use Rattle.exact_test.proofs.segments.Segment.fill.Given as goal

abbrev pub invariant-loop-i : goal.invariant-loop-i
invariant-loop-i l = Filling (dated l.elements l.initial.next) (dated l.elements l.next) l.self l.base l.len l.low l.i
