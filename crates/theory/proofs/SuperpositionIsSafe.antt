-- If superposition accepts, exact demand exceeds no length at all. Assumes nothing.
use Prim.Native.Nat.{ℕ, zero, suc, ◌+◌, ◌*◌, ◌≤◌}
use mathlib.Core.Path.{◌≡◌}
use mathlib.Core.Bool.{true, false, ◌&&◌}
use mathlib.Core.List.{List}
use mathlib.Core.Logic.{⊎_elim}
use native.Mathlib.Omega.{arith}
use native.Mathlib.Nat.{le_of_mul-le-mul_left}
use lib.Dec.{leb}
use Rattle.model.specs.declared.elements.Element.{Element}
use Rattle.model.specs.Over.{Each}
use Rattle.model.specs.Elements.{AllLegal}
use Rattle.model.specs.Demand.{H, demand_of, D, turns, load_in, Q, is_test_of}
use Rattle.model.specs.Answers.{values}
use Rattle.model.specs.Superposition.{m, scaled_by, scaled_in, is_visited, superposition}
use Rattle.theory.specs.Multiples.{CommonMultiple}
use Rattle.model.proofs.Cases.{test}
use Rattle.model.proofs.OverLaws.{each_map, each_map₂, none_each, sum_le, sum_zero, sum_plus, sum_times}
use Rattle.model.proofs.ElementLaws.{Legal, all_legal}
use Rattle.theory.proofs.SuperpositionLaws.{above, rises, starts}
use Rattle.theory.proofs.HyperperiodIsLeast.{hyperperiod_is_positive, hyperperiod_is_common_multiple}
use Rattle.theory.proofs.SuperpositionAnswers.{superposition_answers}

module _ (k h : ℕ) (s : List Element) (l : 1 ≤ k) (legal : Each s Legal) where
  pub scaled_above : (I : ℕ) → CommonMultiple s h → h * D s I ≤ scaled_in k h s I
  unfolding D scaled_in
  scaled_above I c =
      omega (
        arith,
        sum_times s h (λ e. demand_of e I),
        sum_le s (λ e. h * demand_of e I) (λ e. scaled_by e.period k h e I) (each_map₂ s (above k h l I) legal c),
      )

  -- between visited lengths it grows no faster than the load
  scaled_rises : (I : ℕ) → is_visited k s (suc I) ≡ false → scaled_in k h s (suc I) ≤ scaled_in k h s I + load_in s h
  unfolding scaled_in is_visited load_in
  scaled_rises I o =
      omega (
        arith,
        sum_plus s (λ e. scaled_by e.period k h e I) (λ e. e.cost * turns e.period h),
        sum_le s (λ e. scaled_by e.period k h e (suc I)) (λ e. scaled_by e.period k h e I + e.cost * turns e.period h)
            (each_map₂ s (rises k h l I) legal (none_each s (λ e. is_test_of e (suc I) && leb (suc I) (m k e)) o)),
      )

  pub scaled_starts : scaled_in k h s 0 ≡ 0
  unfolding scaled_in
  scaled_starts = sum_zero s (λ e. scaled_by e.period k h e 0) (each_map s (starts k h l) legal)

  -- not above the length where visited, so nowhere
  nowhere_above : load_in s h ≤ h → ((I : ℕ) → is_visited k s I ≡ true → scaled_in k h s I ≤ h * I) → (I : ℕ) → scaled_in k h s I ≤ h * I
  nowhere_above q holds zero = omega (arith, scaled_starts)
  nowhere_above q holds (suc I) = next (nowhere_above q holds I)
    where
      next : scaled_in k h s I ≤ h * I → scaled_in k h s (suc I) ≤ h * suc I
      next ih = ⊎_elim (holds (suc I)) (λ o. omega (arith, scaled_rises I o)) (test (is_visited k s (suc I)))

-- THEOREM: if the verdict is 0, then D(I) is at most I for every I
pub no_overrun_if_superposition_accepts :
    (k : ℕ) (s : List Element) → AllLegal s → 1 ≤ k → Q s ≤ H s → (values (superposition k s)).verdict ≡ 0 → (I : ℕ) → D s I ≤ I
no_overrun_if_superposition_accepts k s legal l load v I = ⊎_elim
    (λ w. absurd (omega (arith, w.verdict)))
    (λ w. let b = nowhere_above k (H s) s l (all_legal s legal) load w.holds I in
    le_of_mul-le-mul_left (omega (arith, scaled_above k (H s) s l (all_legal s legal) I (hyperperiod_is_common_multiple s legal))) (hyperperiod_is_positive s legal))
    (superposition_answers k s load)
