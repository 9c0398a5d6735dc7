-- If superposition holds back at a length, exact demand there, times k + 1, is more than k times the length. Assumes nothing.
use Prim.Native.Nat.{ℕ, ◌+◌, ◌*◌, ◌≤◌}
use mathlib.Core.Path.{◌≡◌, ap}
use mathlib.Core.List.{List}
use mathlib.Core.Logic.{⊎_elim}
use native.Mathlib.Omega.{arith}
use native.Mathlib.Nat.{mul-le-mul_left, lt_of_mul-lt-mul_left}
use Rattle.model.specs.declared.elements.Element.{Element}
use Rattle.model.specs.Elements.{AllLegal}
use Rattle.model.specs.Demand.{H, demand_of, D, Q}
use Rattle.model.specs.Answers.{values}
use Rattle.model.specs.Superposition.{scaled_by, scaled_in, superposition}
use Rattle.theory.specs.Approximation.{NearOverrun}
use Rattle.model.proofs.OverLaws.{each_map₂, sum_le, sum_times}
use Rattle.model.proofs.ElementLaws.{all_legal}
use Rattle.theory.proofs.SuperpositionLaws.{below}
use Rattle.theory.proofs.HyperperiodIsLeast.{hyperperiod_is_common_multiple}
use Rattle.theory.proofs.SuperpositionAnswers.{superposition_answers}

-- k times approximated demand is at most k + 1 times demand, at every length
scaled_below : (k : ℕ) (s : List Element) (I : ℕ) → AllLegal s → 1 ≤ k → k * scaled_in k (H s) s I ≤ (k + 1) * (H s * D s I)
unfolding D scaled_in
scaled_below k s I legal l =
    omega (
      arith,
      sum_times s k (λ e. scaled_by e.period k (H s) e I),
      sum_times s (k + 1) (λ e. H s * demand_of e I),
      ap (λ z. (k + 1) * z) (sum_times s (H s) (λ e. demand_of e I)),
      sum_le s (λ e. k * scaled_by e.period k (H s) e I) (λ e. (k + 1) * (H s * demand_of e I))
          (each_map₂ s (below k (H s) l I) (all_legal s legal) (hyperperiod_is_common_multiple s legal)),
    )

-- THEOREM: if the verdict is 3 at I, then D(I) times k + 1 is more than k times I; and the demand shown is D(I)
pub near_overrun_if_superposition_holds_back :
    (k : ℕ) (s : List Element) → AllLegal s → 1 ≤ k → Q s ≤ H s → (values (superposition k s)).verdict ≡ 3 →
    NearOverrun k s (values (superposition k s)).interval × ((values (superposition k s)).demand ≡ D s (values (superposition k s)).interval)
near_overrun_if_superposition_holds_back k s legal l load v = ⊎_elim
    (λ w. (
      lt_of_mul-lt-mul_left (H s) (omega (arith, scaled_below k s (values (superposition k s)).interval legal l, mul-le-mul_left k w.above)),
      w.demand,
    ))
    (λ w. absurd (omega (arith, w.verdict)))
    (superposition_answers k s load)
