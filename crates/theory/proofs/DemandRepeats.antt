-- From F on, demand grows by Q in each hyperperiod. Assumes nothing.
use Prim.Native.Nat.{ℕ, zero, suc, ◌+◌, ◌*◌, ◌≤◌}
use mathlib.Core.Path.{◌≡◌, ap, ◌∙◌}
use mathlib.Core.List.{List}
use native.Mathlib.Omega.{arith}
use Rattle.model.specs.declared.elements.Element.{Element}
use Rattle.model.specs.Over.{Each}
use Rattle.model.specs.Elements.{AllLegal}
use Rattle.model.specs.Demand.{f, F, H, demand_of, D, turns, load_in, Q}
use Rattle.model.specs.ExactTest.{multiple}
use Rattle.theory.specs.Multiples.{CommonMultiple}
use Rattle.model.proofs.OverLaws.{each_map₃, largest_each, sum_same, sum_plus}
use Rattle.model.proofs.ElementLaws.{Legal, all_legal}
use Rattle.theory.proofs.DemandLaws.{demand_of_repeats}
use Rattle.theory.proofs.HyperperiodIsLeast.{hyperperiod_is_common_multiple}

-- h ticks later, for any common multiple h of the periods
repeats : (s : List Element) (I h : ℕ) → Each s Legal → CommonMultiple s h → F s ≤ I → D s (I + h) ≡ D s I + load_in s h
unfolding D F load_in
repeats s I h l c b =
    sum_same s (λ e. demand_of e (I + h)) (λ e. demand_of e I + e.cost * turns e.period h)
    (each_map₃ s (demand_of_repeats I h) l c (largest_each s f I b))
    ∙ sum_plus s (λ e. demand_of e I) (λ e. e.cost * turns e.period h)

-- THEOREM: D(I + H) = D(I) + Q for I at least F
pub demand_repeats : (s : List Element) (I : ℕ) → AllLegal s → F s ≤ I → D s (I + H s) ≡ D s I + Q s
demand_repeats s I legal b = repeats s I (H s) (all_legal s legal) (hyperperiod_is_common_multiple s legal) b

-- at F + j H
pub demand_at_multiple : (s : List Element) (j : ℕ) → AllLegal s → D s (multiple s j) ≡ D s (F s) + j * Q s
unfolding multiple
demand_at_multiple s zero legal = ap (D s) (let e : F s + 0 * H s ≡ F s = omega arith in e) ∙ (omega arith)
demand_at_multiple s (suc j) legal =
    let e : F s + suc j * H s ≡ F s + j * H s + H s = omega arith in
    let d = demand_repeats s (F s + j * H s) legal (omega arith) in
    omega (arith, ap (D s) e, demand_at_multiple s j legal)
