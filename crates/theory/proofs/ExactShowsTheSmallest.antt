-- With load at most one the exact test says overloaded exactly when some length has more demand than length, and shows the smallest. Assumes nothing.
use Prim.Native.Nat.{ℕ, zero, suc, ◌+◌, ◌-◌, ◌≤◌, ◌<◌}
use mathlib.Core.Path.{◌≡◌, refl}
use mathlib.Core.Bool.{true, false}
use mathlib.Core.List.{List}
use mathlib.Core.Logic.{◌⊎◌, inl, inr, ⊎_elim, ◌↔◌}
use native.Mathlib.Omega.{arith}
use Rattle.model.specs.declared.elements.Element.{Element}
use Rattle.model.specs.declared.answers.Verdict.{Verdict}
use Rattle.model.specs.declared.answers.Verdict.TheVariants.{Passes, Overrun}
use Rattle.model.specs.Number.{least, how_many}
use Rattle.model.specs.Elements.{AllLegal}
use Rattle.model.specs.Demand.{F, H, D, Q, is_test}
use Rattle.model.specs.Answers.{values}
use Rattle.model.specs.ExactTest.{is_overrun, comparing, exact_lengths, exact}
use Rattle.theory.specs.Exactness.{Overloaded, IsSmallest, ShowsTheSmallest}
use Rattle.model.proofs.Cases.{test, clash, lt_or_le}
use Rattle.model.proofs.NumberLaws.{least_first}
use Rattle.theory.proofs.ExactTestLaws.{overrun, no_overrun, is_overrun_lem, Compared, compared, load_at_most}
use Rattle.theory.proofs.HyperperiodIsLeast.{hyperperiod_is_positive}
use Rattle.theory.proofs.DemandRepeats.{demand_repeats}
use Rattle.theory.proofs.DemandRests.{demand_at_zero, demand_rests}

module _ (s : List Element) (legal : AllLegal s) where
  smallest_positive : (I : ℕ) → I < D s I → 1 ≤ I
  smallest_positive zero o = absurd (omega (arith, demand_at_zero s legal))
  smallest_positive (suc I) o = omega arith

  -- THE SMALLEST OVERRUN is a test length: at another, demand is that of the length before
  smallest_tests : (I : ℕ) → IsSmallest s I → is_test s I ≡ true
  smallest_tests zero w = absurd (omega (arith, w.positive))
  smallest_tests (suc I) w =
      ⊎_elim (λ t. t) (λ t. absurd (omega (arith, demand_rests s I legal t, w.over, w.none I (omega arith)))) (test (is_test s (suc I)))

  -- it is below F + H: a hyperperiod earlier demand is less by Q, which is at most H
  smallest_below : (I : ℕ) → Q s ≤ H s → IsSmallest s I → I < F s + H s
  smallest_below I q w = ⊎_elim (λ l. l) (λ l. absurd (low l)) (lt_or_le I (F s + H s))
    where
      low : F s + H s ≤ I → ⊥
      low l =
          let p = hyperperiod_is_positive s legal in
          let d = demand_repeats s (I - H s) legal (omega arith) in
          let e : I - H s + H s ≡ I = omega arith in
          let d₁ = rw e at d in
          omega (arith, w.over, w.none (I - H s) (omega arith))

  -- where there is an overrun there is a smallest
  smallest_of : (I : ℕ) → I < D s I → (J : ℕ) × (J ≤ I) × IsSmallest s J
  smallest_of I o =
      let w = least_first (is_overrun s) I (is_overrun_lem s I o) in
      let over = overrun s (least (is_overrun s) I) w.0.passes in (
        least (is_overrun s) I,
        w.1,
        record { positive = smallest_positive (least (is_overrun s) I) over; over = over; none = λ J l. no_overrun s J (w.0.none J l) },
      )

  -- so where every test length below n holds, every length below n does
  all_below_hold : (n : ℕ) → ((I : ℕ) → I < n → is_test s I ≡ true → is_overrun s I ≡ false) → (I : ℕ) → I < n → D s I ≤ I
  all_below_hold n holds I l = ⊎_elim
      (λ o. let x = smallest_of I o in
      absurd (clash (is_overrun_lem s x.0 x.2.over) (holds x.0 (omega (arith, x.1)) (smallest_tests x.0 x.2))))
      (λ o. o)
      (lt_or_le I (D s I))

  -- and where every length below F + H holds, every length of any size does
  all_hold : Q s ≤ H s → ((I : ℕ) → I < F s + H s → D s I ≤ I) → (I : ℕ) → D s I ≤ I
  all_hold q holds I = ⊎_elim
      (λ o. let x = smallest_of I o in
      absurd (omega (arith, x.2.over, holds x.0 (smallest_below x.0 q x.2))))
      (λ o. o)
      (lt_or_le I (D s I))

module _ (s : List Element) (legal : AllLegal s) (load : Q s ≤ H s) where
  -- what the exact test finds: the smallest overrun, or none of any size
  abbrev Found : Verdict → Type 0
  Found v =
      ((I : ℕ) × IsSmallest s I × (v ≡ Overrun I (D s I) (how_many (is_test s) (suc I)))) ⊎
      (((I : ℕ) → D s I ≤ I) × (v ≡ Passes (how_many (is_test s) (F s + H s))))

  found : Found (exact s)
  unfolding exact
  found = rw (load_at_most s (comparing s Overrun (exact_lengths s)) load) (go (compared s Overrun (exact_lengths s)))
    where
      go : Compared s Overrun (exact_lengths s) (comparing s Overrun (exact_lengths s)) → Found (comparing s Overrun (exact_lengths s))
      go (inl w) =
          let over = overrun s w.0 w.1.failure in
          inl (
            w.0,
            record { positive = smallest_positive s legal w.0 over; over = over; none = all_below_hold s legal w.0 w.1.before },
            w.2,
          )
      go (inr w) = inr (all_hold s legal load (all_below_hold s legal (F s + H s) w.0), w.1)

  overloaded_when : (v : Verdict) → Found v → ((values v).verdict ≡ 1) ↔ Overloaded s
  overloaded_when v (inl w) = (λ e. (w.0, w.1.positive, w.1.over), λ o. rw w.2)
  overloaded_when v (inr w) = (λ e. absurd (omega (arith, rw w.1 at e)), λ o. absurd (omega (arith, w.0 o.0, o.2)))

  smallest_when : (v : Verdict) → Found v → (values v).verdict ≡ 1 → ShowsTheSmallest s (values v)
  smallest_when v (inl w) e = rw w.2 (record { smallest = w.1; demand = refl; count = refl })
  smallest_when v (inr w) e = absurd (omega (arith, rw w.1 at e))

  passes_when : (v : Verdict) → Found v → (Overloaded s → ⊥) → v ≡ Passes (how_many (is_test s) (F s + H s))
  passes_when v (inl w) n = absurd (n (w.0, w.1.positive, w.1.over))
  passes_when v (inr w) n = w.1

  -- THEOREM: with Q at most H the verdict is 1 exactly when some length of any size has more demand than length
  pub overloaded_exactly_when : ((values (exact s)).verdict ≡ 1) ↔ Overloaded s
  overloaded_exactly_when = overloaded_when (exact s) found

  -- THEOREM: its interval is then the smallest such length, and its demand is D there
  pub shows_the_smallest : (values (exact s)).verdict ≡ 1 → ShowsTheSmallest s (values (exact s))
  shows_the_smallest = smallest_when (exact s) found

  -- THEOREM: otherwise it is 0, and every test length below F + H was compared
  pub otherwise_passes : (Overloaded s → ⊥) → exact s ≡ Passes (how_many (is_test s) (F s + H s))
  otherwise_passes = passes_when (exact s) found
