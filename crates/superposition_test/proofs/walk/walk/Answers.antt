use Rattle.std.proofs.Common.{arith, rules}
use Rattle.places.proofs.LayingLaws.{laid_all}
use Rattle.superposition_test.specs.Walk.{row_of}
use Rattle.superposition_test.proofs.WalkLaws.{Turning, start, none_left, movable, turn, sum_fits, due_fits, top_fits, failing, again}
use Rattle.superposition_test.proofs.walk.walk.Goals as goal
use Rattle.superposition_test.proofs.walk.walk.Goals.{After-move_on-moved}

pub loop-at-init : goal.loop-at-init
loop-at-init c =
    let s = c.args.set.elements.now in
    start s _ _ c.args.set.legal c.args.set.few c.requires _ _ (laid_all (row_of c.args.k c.args.h) s _ _ c.lay_rows.ensures (search rules)) c.least-at.ensures

pub returns-clause-verdict : goal.returns-clause-verdict
returns-clause-verdict c = none_left _ _ _ c.loop-at.invariant c.loop-at-test.false

pub move_on-moved-requires : goal.move_on-moved-requires
move_on-moved-requires c = movable _ _ _ c.loop-at.invariant (omega (arith, c.loop-at-test.true, c.loop-at.auto.at-fits))

-- every row that has the length has moved on
turned : (c : After-move_on-moved) → let moved = c.move_on-moved.result in
    Turning c.args.set.elements.now c.args.k c.args.h c.move_on-moved.new.rows
    c.loop-at.before c.loop-at.scaled c.loop-at.slope c.loop-at.count c.loop-at.at moved.cost moved.rise moved.next
turned c = turn _ _ _ c.loop-at.invariant (omega (arith, c.loop-at-test.true, c.loop-at.auto.at-fits)) c.move_on-moved.ensures

pub overflow_sub-scaled : goal.overflow_sub-scaled
overflow_sub-scaled c = omega (arith, (turned (goal.at.overflow_sub-scaled c).After-move_on-moved).later)

pub overflow_mul-scaled : goal.overflow_mul-scaled
overflow_mul-scaled c = omega (arith, sum_fits _ _ _ (turned (goal.at.overflow_mul-scaled c).After-move_on-moved))

pub overflow_mul-scaled-in-loop-at : goal.overflow_mul-scaled-in-loop-at
overflow_mul-scaled-in-loop-at c = omega (arith, sum_fits _ _ _ (turned (goal.at.overflow_mul-scaled-in-loop-at c).After-move_on-moved))

pub overflow_add-scaled : goal.overflow_add-scaled
overflow_add-scaled c = omega (arith, sum_fits _ _ _ (turned (goal.at.overflow_add-scaled c).After-move_on-moved))

pub overflow_add-scaled-in-loop-at : goal.overflow_add-scaled-in-loop-at
overflow_add-scaled-in-loop-at c = omega (arith, sum_fits _ _ _ (turned (goal.at.overflow_add-scaled-in-loop-at c).After-move_on-moved))

pub overflow_add-count : goal.overflow_add-count
overflow_add-count c =
    let w = turned (goal.at.overflow_add-count c).After-move_on-moved in
    omega (arith, w.few, w.later, w.numbers.length, due_fits _ _ _ w)

pub overflow_mul-h : goal.overflow_mul-h
overflow_mul-h c = omega (arith, top_fits _ _ _ (turned (goal.at.overflow_mul-h c).After-move_on-moved))

pub returns-then-h-at-clause-short : goal.returns-then-h-at-clause-short
returns-then-h-at-clause-short c = omega (arith, (turned (goal.at.returns-then-h-at-clause-short c).After-move_on-moved).numbers.length)

pub returns-then-h-at-clause-verdict : goal.returns-then-h-at-clause-verdict
returns-then-h-at-clause-verdict c = failing _ _ _ (turned (goal.at.returns-then-h-at-clause-verdict c).After-move_on-moved) c.if-h-at.true

pub overflow_add-slope : goal.overflow_add-slope
overflow_add-slope c = omega (arith, (turned (goal.at.overflow_add-slope c).After-move_on-moved).slope_small)

pub loop-at-smaller : goal.loop-at-smaller
loop-at-smaller c = omega (arith, (turned (goal.at.loop-at-smaller c).After-move_on-moved).within)

pub loop-at-preserved : goal.loop-at-preserved
loop-at-preserved c = again _ _ _ (turned (goal.at.loop-at-preserved c).After-move_on-moved) c.if-h-at.false
