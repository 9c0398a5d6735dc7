-- Demand is monotone. Assumes nothing.
use Prim.Native.Nat.{ℕ, ◌≤◌}
use mathlib.Core.List.{List}
use Rattle.model.specs.declared.elements.Element.{Element}
use Rattle.model.specs.Elements.{AllLegal}
use Rattle.model.specs.Demand.{demand_of, D}
use Rattle.model.proofs.OverLaws.{each_map, sum_le}
use Rattle.model.proofs.ElementLaws.{all_legal}
use Rattle.theory.proofs.DemandLaws.{demand_of_rises}

-- THEOREM: D is monotone
pub demand_rises : (s : List Element) (I J : ℕ) → AllLegal s → I ≤ J → D s I ≤ D s J
unfolding D
demand_rises s I J legal b = sum_le s (λ e. demand_of e I) (λ e. demand_of e J) (each_map s (demand_of_rises I J b) (all_legal s legal))
