use Rattle.std.proofs.Common.{sym}
use Rattle.std.proofs.lemmas.Result.{err_from_is_err_and}
use Rattle.model.specs.Elements.{filler}
use Rattle.model.proofs.CheckingASet.{too_many, start, end, next, found, legal_elements, few_elements}
use Rattle.model.proofs.legal.LegalSet.of.Goals as goal

pub returns-in_err-unless : goal.returns-in_err-unless
returns-in_err-unless c =
    let p = err_from_is_err_and c.from_residual.result c.from_residual.ensures.1 in
    rw (p.1, p.2) (sym (too_many _ c.in_err-unless.ensures))

pub loop-place-init : goal.loop-place-init
loop-place-init c = start _ (sym c.in_ok-unless.ensures)

pub returns-in_err-check_element : goal.returns-in_err-check_element
returns-in_err-check_element c =
    let p = err_from_is_err_and c.from_residual-in_err-check_element.result c.from_residual-in_err-check_element.ensures.1 in
    rw (p.1, p.2) (sym (found _ _ c.loop-place.invariant _ c.counted-elements.ensures.holds filler c.loop-place-test.true c.in_err-check_element.ensures))

pub loop-place-preserved : goal.loop-place-preserved
loop-place-preserved c = next _ _ c.loop-place.invariant _ c.counted-elements.ensures.holds filler c.loop-place-test.true c.in_ok-check_element.ensures

pub invariant_of-result : goal.invariant_of-result
invariant_of-result c =
    let fine = end _ _ c.loop-place.invariant _ c.counted-elements.ensures.holds c.loop-place-test.false in
    record { legal = legal_elements _ fine _ c.counted-elements.ensures.holds; few = few_elements _ fine _ c.counted-elements.ensures.holds }

pub returns : goal.returns
returns c = (sym (end _ _ c.loop-place.invariant _ c.counted-elements.ensures.holds c.loop-place-test.false), c.counted-elements.ensures)
