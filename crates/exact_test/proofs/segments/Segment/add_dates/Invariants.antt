use Rattle.std.proofs.Common.{◌-◌}
use Rattle.exact_test.proofs.AddingDates.{Adding}
use Rattle.exact_test.proofs.segments.Segment.add_dates.Given as goal

abbrev pub invariant-loop-j : goal.invariant-loop-j
invariant-loop-j l = Adding l.fn.self l.self-inside.due l.self-inside.marks l.place l.base l.len l.j l.seen

abbrev pub decreases-loop-j : goal.decreases-loop-j
decreases-loop-j l = l.len - l.j
