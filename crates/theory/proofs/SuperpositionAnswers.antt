-- With load at most one superposition holds back at the first visited length with D'(I) > I, or accepts where there is none; and its count is
-- of the distinct lengths that it compared. Assumes nothing.
use Prim.Native.Nat.{ℕ, suc, ◌≤◌, ◌<◌}
use mathlib.Core.Path.{◌≡◌, refl}
use mathlib.Core.Bool.{true, ◌&&◌}
use mathlib.Core.List.{List}
use mathlib.Core.Logic.{◌⊎◌, inl, inr}
use native.Mathlib.Omega.{arith}
use lib.Dec.{leb}
use borrow.Author.Tests.{leb-true}
use Rattle.model.specs.declared.elements.Element.{Element}
use Rattle.model.specs.declared.answers.Verdict.{Verdict}
use Rattle.model.specs.declared.answers.Verdict.TheVariants.{NotShown}
use Rattle.model.specs.Over.{largest_over}
use Rattle.model.specs.Demand.{H, Q, is_test_of}
use Rattle.model.specs.Answers.{values}
use Rattle.model.specs.ExactTest.{comparing}
use Rattle.model.specs.Superposition.{m, is_visited, superposition_lengths, superposition}
use Rattle.theory.specs.Approximation.{HoldsBack, Accepts}
use Rattle.model.proofs.Cases.{and_right}
use Rattle.model.proofs.NumberLaws.{how_many_all}
use Rattle.model.proofs.OverLaws.{some_largest}
use Rattle.theory.proofs.ExactTestLaws.{Compared, compared, load_at_most}
use Rattle.theory.proofs.SuperpositionLaws.{is_above_lem, not_above}

module _ (k : ℕ) (s : List Element) where
  pub visited_below : (I : ℕ) → is_visited k s I ≡ true → I < suc (largest_over s (m k))
  unfolding is_visited
  visited_below I t =
      omega (arith, some_largest s (λ e. is_test_of e I && leb I (m k e)) (m k) I (λ e p. leb-true I (m k e) (and_right (is_test_of e I) (leb I (m k e)) p)) t)

  answers_by : (v : Verdict) → Compared s NotShown (superposition_lengths k s) v → HoldsBack k s (values v) ⊎ Accepts k s (values v)
  answers_by v (inl w) = rw w.2 (inl (record {
    verdict = refl;
    visited = w.1.visit;
    above = is_above_lem k s w.0 w.1.failure;
    before = λ I l t. not_above k s I (w.1.before I l t);
    demand = refl;
    count = refl;
  }))
  answers_by v (inr w) = rw w.1 (inr (record {
    verdict = refl;
    interval = refl;
    demand = refl;
    holds = λ I t. not_above k s I (w.0 I (visited_below I t) t);
    count = λ n b. how_many_all (is_visited k s) (suc (largest_over s (m k))) n visited_below b;
  }))

  -- THEOREM: it holds back or accepts; the count is of the distinct visited lengths up to and including the last compared
  pub superposition_answers : Q s ≤ H s → HoldsBack k s (values (superposition k s)) ⊎ Accepts k s (values (superposition k s))
  unfolding superposition
  superposition_answers load =
      rw (load_at_most s (comparing s NotShown (superposition_lengths k s)) load) (answers_by _ (compared s NotShown (superposition_lengths k s)))
