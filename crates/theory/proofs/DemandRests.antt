-- Demand changes only at test lengths, and begins with 0. Assumes nothing.
use Prim.Native.Nat.{ℕ, zero, suc, ◌+◌, ◌≤◌, ◌<◌}
use mathlib.Core.Path.{◌≡◌, ap, ◌∙◌}
use mathlib.Core.Bool.{false}
use mathlib.Core.List.{List}
use native.Mathlib.Omega.{arith}
use Rattle.model.specs.declared.elements.Element.{Element}
use Rattle.model.specs.Elements.{AllLegal}
use Rattle.model.specs.Demand.{demand_of, D, is_test_of, is_test}
use Rattle.model.proofs.OverLaws.{each_map, each_map₂, none_each, sum_same, sum_zero}
use Rattle.model.proofs.ElementLaws.{all_legal}
use Rattle.theory.proofs.DemandLaws.{demand_of_rests, demand_of_zero}

pub demand_at_zero : (s : List Element) → AllLegal s → D s 0 ≡ 0
unfolding D
demand_at_zero s legal = sum_zero s (λ e. demand_of e 0) (each_map s demand_of_zero (all_legal s legal))

-- the next length is no test length
pub demand_rests : (s : List Element) (I : ℕ) → AllLegal s → is_test s (suc I) ≡ false → D s (suc I) ≡ D s I
unfolding D is_test
demand_rests s I legal o =
    sum_same s (λ e. demand_of e (suc I)) (λ e. demand_of e I)
    (each_map₂ s (demand_of_rests I) (all_legal s legal) (none_each s (λ e. is_test_of e (suc I)) o))

-- THEOREM: D changes only at test lengths. It is the same at I and n ticks later, where no test length is past I and up to there
pub demand_changes_only_at_test_lengths :
    (s : List Element) (I n : ℕ) → AllLegal s → ((J : ℕ) → I < J → J ≤ I + n → is_test s J ≡ false) → D s (I + n) ≡ D s I
demand_changes_only_at_test_lengths s I zero legal quiet = ap (D s) (let e : I + 0 ≡ I = omega arith in e)
demand_changes_only_at_test_lengths s I (suc n) legal quiet =
    let e : I + suc n ≡ suc (I + n) = omega arith in
    ap (D s) e
    ∙ demand_rests s (I + n) legal (quiet (suc (I + n)) (omega arith) (omega arith))
    ∙ demand_changes_only_at_test_lengths s I n legal (λ J l u. quiet J l (omega arith))
