use Rattle.std.proofs.Common.{arith, ◌+◌, ◌≤◌, sym, ap, ◌∙◌}
use Rattle.std.proofs.lemmas.Result.{err_from_is_err_and}
use Rattle.std.specs.Prelude.{Ok}
use Rattle.theory.proofs.SizeLaws.{first_small}
use Rattle.theory.proofs.TakenSetsAreLegal.{fine_is_legal}
use Rattle.theory.proofs.AnswerLaws.{exact_refused, exact_overload, exact_compared}
use Rattle.load.specs.declared.overload.Loaded.TheVariants.{AtMostOne}
use Rattle.places.specs.Dates.{most_bound}
use Rattle.load.proofs.LoadedLaws.{Goes, load_tells}
use Rattle.exact_test.proofs.exact.Goals as goal
use Rattle.exact_test.proofs.exact.Goals.{In-AtMostOne}

-- F and H, of a legal set with load at most one
tells : (c : In-AtMostOne) → let h = c.in-AtMostOne in Goes c.args.set (Ok (AtMostOne h.first h.hyperperiod h.load))
tells c = load_tells _ _ (ap Ok (sym c.in-AtMostOne.is) ∙ c.in_ok-loaded.ensures)

bound : (c : In-AtMostOne) → c.in-AtMostOne.first + c.in-AtMostOne.hyperperiod ≤ most_bound
bound c = let k = tells c in omega (arith, k.1, k.2, k.4, first_small _ (fine_is_legal _ k.0).0)

pub returns-in_err-loaded : goal.returns-in_err-loaded
returns-in_err-loaded c =
    let p = err_from_is_err_and c.from_residual.result c.from_residual.ensures.1 in
    rw (p.1, p.2) (exact_refused _ (load_tells _ _ c.in_err-loaded.ensures))

pub invariant_of-legal-clause-legal : goal.invariant_of-legal-clause-legal
invariant_of-legal-clause-legal c = rw c.counted.ensures.holds (fine_is_legal _ (tells (goal.at.invariant_of-legal-clause-legal c).In-AtMostOne).0).0

pub invariant_of-legal-clause-few : goal.invariant_of-legal-clause-few
invariant_of-legal-clause-few c = rw c.counted.ensures.holds (fine_is_legal _ (tells (goal.at.invariant_of-legal-clause-few c).In-AtMostOne).0).1

pub overflow_add-first : goal.overflow_add-first
overflow_add-first c = omega (arith, bound (goal.at.overflow_add-first c).In-AtMostOne)

pub compare_lengths-requires : goal.compare_lengths-requires
compare_lengths-requires c = omega (arith, bound (goal.at.compare_lengths-requires c).In-AtMostOne)

pub returns-in-AboveOne : goal.returns-in-AboveOne
returns-in-AboveOne c =
    let k = load_tells _ _ (ap Ok (sym c.in-AboveOne.is) ∙ c.in_ok-loaded.ensures) in
    rw k.1 (exact_overload _ k.0 k.2 k.3)

pub returns-in-AtMostOne : goal.returns-in-AtMostOne
returns-in-AtMostOne c =
    let k = tells (goal.at.returns-in-AtMostOne c).In-AtMostOne in
    rw (c.compare_lengths.ensures, c.counted.ensures.holds) (exact_compared _ k.0 k.4 k.5 _ (omega (arith, k.1, k.2)))
