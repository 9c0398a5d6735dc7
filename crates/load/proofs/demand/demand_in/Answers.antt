use Rattle.std.proofs.Common.{rules, tests, arith, ◌≡◌, ◌<◌, ◌^◌, true, ◌∙◌}
use Rattle.std.specs.List.{sum_by}
use Rattle.std.proofs.iter.runs.Made.{chains}
use Rattle.std.proofs.lemmas.Iterator.{YieldsList-from_slice}
use Rattle.std.proofs.lemmas.Iterator.Adapters.{serves_from_places}
use Rattle.model.specs.Elements.{is_legal}
use Rattle.model.specs.Demand.{demand_of}
use Rattle.theory.proofs.SizeLaws.{demand_small}
use Rattle.load.proofs.ListLaws.{demand_sum, legal_at}
use Rattle.load.proofs.demand.demand_in.Goals as goal

pub sum-requires-clause-can : goal.sum-requires-clause-can
sum-requires-clause-can c =
    let s = c.args.set.elements.now in (
      tt,
      serves_from_places (YieldsList-from_slice s cc) (λ x q r. search (rules, tests))
          (λ x i l e. let legal : is_legal x.now ≡ true = rw e (legal_at s c.args.set.legal x.now i l) in search (rules, tests)),
    )

pub sum-requires-clause-fits : goal.sum-requires-clause-fits
sum-requires-clause-fits c =
    let s = c.args.set.elements.now in
    let I = c.args.length in
    let small : sum_by (λ e. demand_of e I) s < 2 ^ 64 = omega (arith, demand_sum s I, demand_small s c.args.set.legal c.args.set.few I) in
    search (rules, chains)

pub returns : goal.returns
returns c =
    let s = c.args.set.elements.now in
    let sum : c.sum.result ≡ sum_by (λ e. demand_of e c.args.length) s = search (rules, chains) in
    sum ∙ demand_sum s c.args.length
