use Rattle.std.proofs.Common.{arith, ◌≡◌, sym, ap, ◌∙◌, length-take}
use Rattle.std.proofs.lemmas.Result.{err_from_is_err_and}
use Rattle.std.specs.Prelude.{Ok}
use Rattle.model.specs.TurnedAway.{check_k}
use Rattle.model.proofs.ElementLaws.{legal_set}
use Rattle.model.proofs.TurnedAwayLaws.{set_fine, k_fine}
use Rattle.theory.proofs.AnswerLaws.{superposition_refused_k, superposition_refused, superposition_overload, superposition_compared}
use Rattle.load.specs.declared.overload.Loaded.TheVariants.{AtMostOne}
use Rattle.load.proofs.LoadedLaws.{Goes, load_tells, demand_at_lem}
use Rattle.superposition_test.proofs.superposition.Goals as goal
use Rattle.superposition_test.proofs.superposition.Goals.{In_ok-check_k, In-AtMostOne}

fine : (c : In_ok-check_k) → check_k c.args.k ≡ Ok tt
fine c = sym c.in_ok-check_k.ensures

-- F, H and Q, of a legal set with load at most one
tells : (c : In-AtMostOne) → let h = c.in-AtMostOne in Goes c.args.set (Ok (AtMostOne h.first h.hyperperiod h.load))
tells c = load_tells _ _ (ap Ok (sym c.in-AtMostOne.is) ∙ c.in_ok-loaded.ensures)

pub returns-in_err-check_k : goal.returns-in_err-check_k
returns-in_err-check_k c =
    let p = err_from_is_err_and c.from_residual.result c.from_residual.ensures.1 in
    rw (p.1, p.2) (superposition_refused_k _ _ (sym c.in_err-check_k.ensures))

pub returns-in_err-loaded : goal.returns-in_err-loaded
returns-in_err-loaded c =
    let p = err_from_is_err_and c.from_residual-in_err-loaded.result c.from_residual-in_err-loaded.ensures.1 in
    rw (p.1, p.2) (superposition_refused _ _ (fine (goal.at.returns-in_err-loaded c).In_ok-check_k) (load_tells _ _ c.in_err-loaded.ensures))

pub invariant_of-legal : goal.invariant_of-legal
invariant_of-legal c =
    let k = (legal_set _).0 ((set_fine _).0 (tells (goal.at.invariant_of-legal c).In-AtMostOne).0) in
    record { legal = rw c.counted.ensures.holds k.1; few = rw c.counted.ensures.holds (omega (arith, length-take c.args.set.count c.args.set.table, k.0)) }

pub walk-requires : goal.walk-requires
walk-requires c =
    let at = goal.at.walk-requires c in
    let w = k_fine _ (fine at.In_ok-check_k) in
    let k = tells at.In-AtMostOne in
    rw (c.counted.ensures.holds, c.from.ensures)
    (record { low = w.0; high = w.1; hyperperiod = k.2; small = omega (arith, k.2, k.4); load = omega (arith, k.2, k.5) })

pub returns-in-AboveOne : goal.returns-in-AboveOne
returns-in-AboveOne c =
    let k = load_tells _ _ (ap Ok (sym c.in-AboveOne.is) ∙ c.in_ok-loaded.ensures) in
    rw k.1 (superposition_overload _ _ (fine (goal.at.returns-in-AboveOne c).In_ok-check_k) k.0 k.2 k.3)

pub returns-in-Ok : goal.returns-in-Ok
returns-in-Ok c =
    let at = goal.at.returns-in-Ok c in
    let k = tells at.In-AtMostOne in
    let v = rw (c.in-Ok.is, c.counted.ensures.holds, c.from.ensures) at c.walk.ensures.verdict in
    rw v (superposition_compared _ _ (fine at.In_ok-check_k) k.0 k.4 k.5)

pub returns-in-Err : goal.returns-in-Err
returns-in-Err c =
    let at = goal.at.returns-in-Err c in
    let k = tells at.In-AtMostOne in
    let l = (set_fine _).0 k.0 in
    let v = rw (c.in-Err.is, c.counted.ensures.holds, c.from.ensures) at c.walk.ensures.verdict in
    let n = rw c.in-Err.is at c.walk.ensures.short in
    rw (c.demand_at.ensures ∙ sym (demand_at_lem _ _ l n), v) (superposition_compared _ _ (fine at.In_ok-check_k) k.0 k.4 k.5)
