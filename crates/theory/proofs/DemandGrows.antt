-- Demand grows at a test length by the cost due there, and at no other. Assumes nothing.
use Prim.Native.Nat.{ℕ, suc, ◌+◌}
use mathlib.Core.Path.{◌≡◌, ◌∙◌}
use mathlib.Core.Bool.{cond}
use mathlib.Core.List.{List}
use Rattle.model.specs.declared.elements.Element.{Element}
use Rattle.model.specs.Elements.{AllLegal}
use Rattle.model.specs.Demand.{demand_of, D, is_test_of}
use Rattle.theory.specs.Growth.{cost_of, due_at}
use Rattle.model.proofs.OverLaws.{each_map, sum_same, sum_plus}
use Rattle.model.proofs.ElementLaws.{all_legal}
use Rattle.theory.proofs.DemandLaws.{demand_of_steps}

-- THEOREM: D(I + 1) is D(I) and the cost due at I + 1
pub demand_grows : (s : List Element) (I : ℕ) → AllLegal s → D s (suc I) ≡ D s I + due_at s (suc I)
unfolding D cost_of
demand_grows s I legal =
    sum_same s (λ e. demand_of e (suc I)) (λ e. demand_of e I + cond (is_test_of e (suc I)) e.cost 0) (each_map s (demand_of_steps I) (all_legal s legal))
    ∙ sum_plus s (λ e. demand_of e I) (λ e. cond (is_test_of e (suc I)) e.cost 0)
