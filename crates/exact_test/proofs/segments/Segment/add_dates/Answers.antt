use Rattle.std.proofs.Common.{arith}
use Rattle.exact_test.proofs.AddingDates.{room, next, end}
use Rattle.exact_test.proofs.segments.Segment.add_dates.Goals as goal

pub overflow_add-self : goal.overflow_add-self
overflow_add-self c = let p = c.requires in omega (arith, room c.loop-j.invariant p.fit p.len_fits.0 c.loop-j-test.true p.sums_fit)

pub loop-j-preserved : goal.loop-j-preserved
loop-j-preserved c = let p = c.requires in next c.loop-j.invariant p.fit p.len_fits.0 c.loop-j-test.true p.len_fits.1

pub returns : goal.returns
returns c = end c.loop-j.invariant c.requires.fit c.loop-j-test.false
