use Rattle.std.proofs.Common.{rules, tests, unwrap_or, ap, ◌∙◌}
use Rattle.std.proofs.lemmas.Iterator.{YieldsList-from_slice, YieldsList-from_map}
use Rattle.std.proofs.lemmas.Iterator.Consumers.{reduce_from_yields_List}
use Rattle.std.proofs.lemmas.List.Folds.{max_of_map}
use Rattle.model.specs.Demand.{f}
use Rattle.load.proofs.ListLaws.{first_max}
use Rattle.load.proofs.demand.largest_first.Goals as goal

pub returns : goal.returns
returns c =
    let s = c.args.set.elements.now in
    c.unwrap_or.ensures
    ∙ ap (λ o. unwrap_or o 0)
    (reduce_from_yields_List _ c.map.result _ c.max.ensures.ran
    (YieldsList-from_map _ f (YieldsList-from_slice s cc) c.map.ensures.closure (λ x b q k. search (rules, tests))))
    ∙ max_of_map f s
    ∙ first_max s
