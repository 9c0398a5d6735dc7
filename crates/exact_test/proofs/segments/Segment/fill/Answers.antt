use Rattle.std.proofs.Common.{arith, length, ◌<◌}
use Rattle.std.proofs.lemmas.List.{get_or-set_same}
use Rattle.exact_test.proofs.DatedPlaces.{dated_long}
use Rattle.exact_test.proofs.FillingASegment.{start, place_fits, place_room, place_added, place_passed, end}
use Rattle.exact_test.proofs.segments.Segment.fill.Goals as goal
use Rattle.exact_test.proofs.segments.Segment.fill.Goals.{then-next-i, else-next-i}

pub loop-i-init : goal.loop-i-init
loop-i-init c = start c.requires.nothing_due (omega arith)

pub add_dates-requires-clause-fit : goal.add_dates-requires-clause-fit
add_dates-requires-clause-fit c = rw c.place_of.ensures (place_fits _ c.args.next.now c.loop-i.next c.loop-i.invariant c.requires.addable c.loop-i-test.true)

pub add_dates-requires-clause-sums_fit : goal.add_dates-requires-clause-sums_fit
add_dates-requires-clause-sums_fit c = rw c.place_of.ensures (place_room _ c.args.next.now c.loop-i.next c.loop-i.invariant c.requires.addable c.loop-i-test.true)

pub loop-i-preserved : goal.loop-i-preserved
loop-i-preserved c =
    let v = c.loop-i.invariant in
    let p = c.requires in
    let h = c.loop-i-test.true in
    let s = c.args.elements.now in
    let long : c.loop-i.i < length c.loop-i.next = omega arith in
    rw c.min-low.ensures
    (elim c.if-next-i.branch [
      | then-next-i w ↦
          rw (w.self-is, w.next-is, get_or-set_same c.loop-i.next c.loop-i.i w.add_dates.result 0 long)
          (place_added s c.args.next.now c.loop-i.next v p.addable h long (rw w.place_of.ensures at w.add_dates.ensures))
      | else-next-i w ↦ rw (w.self-is, w.next-is) (place_passed s c.args.next.now c.loop-i.next v p.addable h long w.if-next-i.false)
    ])

pub returns : goal.returns
returns c = end c.loop-i.invariant (omega (arith, dated_long c.args.elements.now c.args.next.now))
