use Rattle.std.proofs.Common.{sym, ap, ◌∙◌, Ok}
use Rattle.std.proofs.lemmas.Result.{err_from_is_err_and}
use Rattle.wire.proofs.ReadingASet.{start, stop_refused, stop_end, room, next, less}
use Rattle.wire.proofs.reading.read_elements.Goals as goal

pub loop-e-init : goal.loop-e-init
loop-e-init c = rw c.requires (start _)

pub returns-in_err-e : goal.returns-in_err-e
returns-in_err-e c =
    let p = err_from_is_err_and c.from_residual.result c.from_residual.ensures.1 in
    rw (p.1, p.2) (stop_refused _ _ _ c.loop-e.invariant (sym c.read_next.ensures ∙ c.in_err-e.was))

pub bounds-set-set : goal.bounds-set-set
bounds-set-set c = room _ _ _ c.loop-e.invariant (sym c.read_next.ensures ∙ c.in_ok-e.was ∙ ap Ok c.in-Some.is)

pub loop-e-smaller : goal.loop-e-smaller
loop-e-smaller c =
    rw c.rest-left.ensures.bytes (less _ _ _ c.loop-e.invariant (sym c.read_next.ensures ∙ c.in_ok-e.was ∙ ap Ok c.in-Some.is))

pub loop-e-preserved : goal.loop-e-preserved
loop-e-preserved c =
    rw c.rest-left.ensures.bytes (next _ _ _ c.loop-e.invariant (sym c.read_next.ensures ∙ c.in_ok-e.was ∙ ap Ok c.in-Some.is))

pub returns : goal.returns
returns c = stop_end _ _ _ c.loop-e.invariant (sym c.read_next.ensures ∙ c.in_ok-e.was ∙ ap Ok c.in_default.is)
