-- Every sum in either test fits 64 bits: it follows from document 01's limits. Assumes nothing.
use Prim.Native.Nat.{ℕ, ◌+◌, ◌*◌, ◌^◌, ◌≤◌, ◌<◌}
use mathlib.Core.Path.{◌≡◌, refl, subst}
use mathlib.Core.Bool.{true}
use mathlib.Core.List.{List}
use mathlib.Core.Logic.{⊎_elim}
use native.Mathlib.Omega.{arith}
use native.Mathlib.Nat.{mul-le-mul, mul-le-mul_left, le_of_mul-le-mul_left}
use lib.ListN.{length}
use Rattle.model.specs.declared.elements.Element.{Element}
use Rattle.model.specs.declared.answers.Verdict.{Verdict}
use Rattle.model.specs.Elements.{most_cost, places, most_h, most_k, AllLegal}
use Rattle.model.specs.Demand.{F, H, D, load_in, Q}
use Rattle.model.specs.Answers.{values}
use Rattle.model.specs.ExactTest.{overload_at, overload}
use Rattle.model.specs.Superposition.{scaled_by, scaled_in, HD', is_visited}
use Rattle.model.proofs.Cases.{lt_or_le}
use Rattle.model.proofs.OverLaws.{each_map₂, sum_le, sum_plus, sum_times}
use Rattle.model.proofs.ElementLaws.{all_legal}
use Rattle.theory.specs.Growth.{rise_of}
use Rattle.theory.specs.Sizes.{most_length, IsLoad, costs, StaysNear, AboveOneFits, ExactFits, SuperpositionFits, EverySumFits}
use Rattle.theory.proofs.HyperperiodIsLeast.{hyperperiod_is_positive, hyperperiod_is_common_multiple}
use Rattle.theory.proofs.DemandRises.{demand_rises}
use Rattle.theory.proofs.OverloadLaws.{at_first, at_later, later_ticks, later_demand}
use Rattle.theory.proofs.SizeLaws.{first_small, visited_small, load_small, demand_small, costs_small}
use Rattle.theory.proofs.SuperpositionLaws.{under}
use Rattle.theory.proofs.SuperpositionIsSafe.{scaled_above}

module _ (s : List Element) (legal : AllLegal s) where
  -- H D'(I) is under the line of the load, all costs higher
  under_the_load : (k I : ℕ) → 1 ≤ k → HD' k s I ≤ I * Q s + H s * costs s
  unfolding scaled_in load_in costs
  under_the_load k I l =
      omega (
        arith,
        sum_le s (λ e. scaled_by e.period k (H s) e I) (λ e. I * rise_of (H s) e + H s * e.cost)
            (each_map₂ s (under k (H s) l I) (all_legal s legal) (hyperperiod_is_common_multiple s legal)),
        sum_plus s (λ e. I * rise_of (H s) e) (λ e. H s * e.cost),
        sum_times s I (rise_of (H s)),
        sum_times s (H s) (λ e. e.cost),
      )

  module _ (load : Q s ≤ H s) where
    -- THEOREM: with load at most one approximated demand is at no length more than all costs above it
    pub demand_stays_near : (k I : ℕ) → 1 ≤ k → StaysNear k s I
    demand_stays_near k I l = omega (arith, under_the_load k I l, mul-le-mul_left I load)

    -- so exact demand is not either
    exact_near : (I : ℕ) → D s I ≤ I + costs s
    exact_near I =
        let above = scaled_above 1 (H s) s (omega arith) (all_legal s legal) I (hyperperiod_is_common_multiple s legal) in
        le_of_mul-le-mul_left (omega (arith, above, demand_stays_near 1 I (omega arith))) (hyperperiod_is_positive s legal)

  module _ (few : length s ≤ places) (small : H s ≤ most_h) where
    -- VERDICT 2: what is shown, and no length up to the interval has more demand
    abbrev Small : Verdict → Type 0
    Small v = ((values v).interval < 2 ^ 56) × ((values v).demand < 2 ^ 62)

    overload_small : H s < Q s → Small (overload s)
    overload_small heavy =
        let w : IsLoad s (F s) (H s) (Q s) = record { firsts = refl; multiple = refl; load = refl; small = small } in
        ⊎_elim
        (λ (o : F s < D s (F s)).
        subst Small (at_first s legal few (F s) (H s) (Q s) w heavy (D s (F s)) refl o)
        (omega (arith, first_small s legal), omega (arith, demand_small s legal few (F s), first_small s legal)))
        (λ (o : D s (F s) ≤ F s).
        subst Small (at_later s legal few (F s) (H s) (Q s) w heavy (D s (F s)) refl o) (
          omega (arith, first_small s legal, later_ticks s legal few (F s) (H s) (Q s) w heavy (D s (F s)) refl o),
          omega (arith, first_small s legal, later_demand s legal few (F s) (H s) (Q s) w heavy (D s (F s)) refl o),
        ))
        (lt_or_le (F s) (D s (F s)))

    above_one_fits : H s < Q s → (I : ℕ) → I ≤ overload_at s → AboveOneFits s I
    unfolding overload
    above_one_fits heavy I l =
        let w = overload_small heavy in
        record { length = omega (arith, w.0); demand = omega (arith, w.1, demand_rises s I (overload_at s) legal l) }

    -- LOAD AT MOST ONE
    module _ (load : Q s ≤ H s) where
      exact_fits : (I : ℕ) → I < F s + H s → ExactFits s I
      exact_fits I l =
          let near = exact_near load I in
          record { length = omega (arith, first_small s legal); demand = omega (arith, first_small s legal, costs_small s legal few) }

      module _ (k : ℕ) (low : 1 ≤ k) (high : k ≤ most_k) (I : ℕ) (v : is_visited k s I ≡ true) where
        superposition_fits : SuperpositionFits k s I
        superposition_fits =
            let far = visited_small s legal k high I v in
            let all = costs_small s legal few in
            let near = exact_near load I in
            let top = mul-le-mul {n₁ = H s} {m₁ = I} {n₂ = most_h} {m₂ = most_length} small far in
            let line = mul-le-mul {n₁ = H s} {m₁ = I + costs s} {n₂ = most_h} {m₂ = most_length + places * most_cost} small (omega arith) in
            record {
              length = omega arith;
              demand = omega arith;
              scaled_length = omega arith;
              scaled_demand = omega (arith, demand_stays_near load k I low);
            }

    -- THEOREM: of every legal set with H within its limit
    pub every_sum_fits : EverySumFits s
    every_sum_fits = record {
      load = omega (arith, load_small s legal few (H s) small);
      above_one = above_one_fits;
      exact = exact_fits;
      superposition = superposition_fits;
    }
