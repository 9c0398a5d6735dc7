use Rattle.std.proofs.Common.{rules, sym, ◌∙◌}
use Rattle.std.proofs.lemmas.Result.{err_from_is_err_and}
use Rattle.model.specs.Demand.{f}
use Rattle.places.proofs.LayingLaws.{laid_all}
use Rattle.exact_test.proofs.SegmentsMeetDemand.{none_marked}
use Rattle.exact_test.proofs.DatedPlaces.{dated_first}
use Rattle.exact_test.proofs.ComparingSegments.{start, end, sweep_fits, swept, next_stage}
use Rattle.exact_test.proofs.lengths.compare_segments.Goals as goal

pub invariant_of-segment : goal.invariant_of-segment
invariant_of-segment c = none_marked

pub loop-base-init : goal.loop-base-init
loop-base-init c =
    let s = c.args.set.elements.now in
    rw (laid_all f s _ _ c.lay_rows.ensures (search rules), dated_first s) (start c.args.set.legal c.args.set.few c.requires)

pub sweep-requires-clause-sums_fit : goal.sweep-requires-clause-sums_fit
sweep-requires-clause-sums_fit c = sweep_fits c.loop-base.invariant c.loop-base-test.true c.min-len.ensures c.fill-low.ensures

pub returns-in_err-compared : goal.returns-in_err-compared
returns-in_err-compared c =
    let p = err_from_is_err_and c.from_residual.result c.from_residual.ensures.1 in
    let met = swept c.loop-base.invariant c.loop-base-test.true c.min-len.ensures c.fill-low.ensures in
    rw (p.1, p.2) (sym (rw (sym c.sweep.ensures.value ∙ c.in_err-compared.was) at met))

pub loop-base-preserved : goal.loop-base-preserved
loop-base-preserved c =
    next_stage c.loop-base.invariant c.loop-base-test.true c.min-len.ensures c.fill-low.ensures
    (sym c.sweep.ensures.value ∙ c.in_ok-compared.was) c.in_ok-compared.ensures.left

pub returns : goal.returns
returns c = end c.loop-base.invariant c.loop-base-test.false
