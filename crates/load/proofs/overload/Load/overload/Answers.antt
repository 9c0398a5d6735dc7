use Rattle.std.proofs.Common.{arith, ◌+◌, ◌-◌, ◌*◌, ◌/◌, ◌≤◌}
use Rattle.theory.proofs.SizeLaws.{first_small}
use Rattle.theory.proofs.OverloadLaws.{later_demand}
use Rattle.load.proofs.overload.Load.overload.Goals as goal
use Rattle.load.proofs.overload.Load.overload.Goals.{Else-first-demand}

-- Q for each turn
demand_small : (c : Else-first-demand) →
    let l = c.args.self in
    ((l.first - c.demand_in-demand.result) / (l.load - l.hyperperiod) + 1) * l.load ≤ 2341871807847153664
demand_small c =
    let l = c.args.self in
    later_demand _ l.set.legal l.set.few _ _ _ l.numbers c.requires _ c.demand_in-demand.ensures c.if-first-demand.false

pub overflow_mul-result-2 : goal.overflow_mul-result-2
overflow_mul-result-2 c = omega (arith, demand_small c)

pub overflow_add-result-2 : goal.overflow_add-result-2
overflow_add-result-2 c = omega (arith, demand_small c, first_small _ c.args.self.set.legal)
