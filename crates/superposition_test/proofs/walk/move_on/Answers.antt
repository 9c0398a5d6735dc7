use Rattle.std.proofs.Common.{arith, get_or}
use Rattle.superposition_test.specs.Walk.{unused}
use Rattle.superposition_test.proofs.MoveLaws.{Changed, stays, goes_on, goes_out, small, turn}
use Rattle.superposition_test.proofs.walk.move_on.Goals as goal
use Rattle.superposition_test.proofs.walk.move_on.Goals.{then-row-at+then-at-row, then-row-at+else-at-row, else-row-at}

pub overflow_add-cost : goal.overflow_add-cost
overflow_add-cost c =
    let k = c.loop-row.invariant in
    omega (arith, (small k c.loop-row-test.true).cost, k.due_small, k.fit.few, c.loop-row-test.true)

pub overflow_add-row : goal.overflow_add-row
overflow_add-row c =
    let k = c.loop-row.invariant in
    omega (arith, (small k c.loop-row-test.true).step, k.fit.low)

pub overflow_add-rise : goal.overflow_add-rise
overflow_add-rise c =
    let k = c.loop-row.invariant in
    omega (arith, (small k c.loop-row-test.true).rise, k.slope_small, k.fit.few, c.loop-row-test.true)

pub loop-row-preserved : goal.loop-row-preserved
loop-row-preserved c =
    let k = c.loop-row.invariant in
    let changed : Changed c.args.at (get_or c.loop-row.rows c.loop-row.row-index unused) c.if-row-at.row c.loop-row.cost c.if-row-at.cost c.loop-row.rise c.if-row-at.rise = elim c.if-row-at.branch [
      | then-row-at+then-at-row w ↦ rw (w.row-is, w.cost-is, w.rise-is) (goes_on _ _ _ _ w.if-row-at.true (omega (arith, w.if-at-row.true)))
      | then-row-at+else-at-row w ↦ rw (w.row-is, w.cost-is, w.rise-is) (goes_out _ _ _ _ w.if-row-at.true (omega (arith, w.if-at-row.false)))
      | else-row-at w ↦ rw (w.row-is, w.cost-is, w.rise-is) (stays _ _ _ _ w.if-row-at.false)
    ] in
    rw c.min-next.ensures (turn k c.loop-row-test.true changed)
