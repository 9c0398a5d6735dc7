-- With load above one the verdict is 2: it shows an overrun, the first among F, F + H, F + 2H and so on. Assumes nothing.
use Prim.Native.Nat.{ℕ, ◌+◌, ◌<◌}
use mathlib.Core.Path.{refl}
use mathlib.Core.List.{List}
use mathlib.Core.Logic.{⊎_elim}
use native.Mathlib.Omega.{arith}
use native.Mathlib.Nat.{mul-le-mul_left, mul-le-mul_right}
use Rattle.model.specs.declared.elements.Element.{Element}
use Rattle.model.specs.declared.answers.Verdict.TheVariants.{Overrun, NotShown}
use Rattle.model.specs.Number.{least}
use Rattle.model.specs.Elements.{AllLegal}
use Rattle.model.specs.Demand.{F, H, D, Q}
use Rattle.model.specs.Answers.{values}
use Rattle.model.specs.ExactTest.{is_overrun, multiple, overload_at, overload, comparing, exact_lengths, exact}
use Rattle.model.specs.Superposition.{superposition_lengths, superposition}
use Rattle.theory.specs.Exactness.{ShowsTheFirst}
use Rattle.model.proofs.Cases.{lt_or_le}
use Rattle.model.proofs.NumberLaws.{least_first}
use Rattle.theory.proofs.ExactTestLaws.{overrun, no_overrun, is_overrun_lem, load_above}
use Rattle.theory.proofs.DemandRepeats.{demand_at_multiple}

module _ (s : List Element) where
  -- an earlier multiple is an earlier j
  earlier : (i j : ℕ) → multiple s j < multiple s i → j < i
  unfolding multiple
  earlier i j h = ⊎_elim (λ l. l) (λ l. absurd (omega (arith, mul-le-mul_right (H s) l))) (lt_or_le j i)

  -- F + (F + 1) H is an overrun
  last_over : AllLegal s → H s < Q s → multiple s (F s + 1) < D s (multiple s (F s + 1))
  unfolding multiple
  last_over legal q = omega (arith, demand_at_multiple s (F s + 1) legal, mul-le-mul_left (F s + 1) q)

  shows : AllLegal s → H s < Q s → ShowsTheFirst s (values (overload s))
  unfolding overload overload_at multiple
  shows legal q =
      let first = (least_first (λ j. is_overrun s (multiple s j)) (F s + 1) (is_overrun_lem s _ (last_over legal q))).0 in
      let i = least (λ j. is_overrun s (multiple s j)) (F s + 1) in
      record {
        verdict = refl;
        among = (i, refl);
        over = overrun s (multiple s i) first.passes;
        first = λ j l. no_overrun s (multiple s j) (first.none j (earlier i j l));
        demand = refl;
        count = refl;
      }

  -- THEOREM: with Q above H the exact test's verdict is 2, and its interval is the first overrun among F, F + H, F + 2H and so on
  pub exact_shows_the_first : AllLegal s → H s < Q s → ShowsTheFirst s (values (exact s))
  unfolding exact
  exact_shows_the_first legal q = rw (load_above s (comparing s Overrun (exact_lengths s)) q) (shows legal q)

  -- THEOREM: superposition shows the same
  pub superposition_shows_the_first : (k : ℕ) → AllLegal s → H s < Q s → ShowsTheFirst s (values (superposition k s))
  unfolding superposition
  superposition_shows_the_first k legal q = rw (load_above s (comparing s NotShown (superposition_lengths k s)) q) (shows legal q)
