-- What the answer of an analysis comes to, way by way. Assumes nothing.
use Prim.Native.Nat.{ℕ, ◌+◌, ◌≤◌, ◌<◌}
use mathlib.Core.Path.{◌≡◌, sym, ap, ◌∙◌}
use mathlib.Core.List.{List}
use borrow.Author.Tests.{le-leb}
use Rattle.std.specs.Prelude.{Ok, Err}
use Rattle.model.specs.declared.elements.Element.{Element}
use Rattle.model.specs.declared.elements.TaskSet.{TaskSet}
use Rattle.model.specs.declared.answers.Refusal.{Refusal}
use Rattle.model.specs.declared.answers.Verdict.{Verdict}
use Rattle.model.specs.declared.answers.Verdict.TheVariants.{Overrun, NotShown}
use Rattle.model.specs.Answers.{Check}
use Rattle.model.specs.Elements.{most_h, counted}
use Rattle.model.specs.Demand.{F, H, Q}
use Rattle.model.specs.ExactTest.{overload, comparing, exact}
use Rattle.model.specs.Superposition.{superposition_lengths, superposition}
use Rattle.model.specs.TurnedAway.{unless, ◌then◌, check_set, check_h, check_k, answered, analysis, exact_answer, superposition_answer}
use Rattle.theory.specs.TestLengths.{lengths_below}
use Rattle.theory.proofs.ExactTestLaws.{load_above, load_at_most}

module _ (before : Check) (place_of : ℕ → ℕ) (verdict : List Element → Verdict) (s : List Element) where
  -- what is checked before 8 decides, then 8, or nothing of it
  pub refused_before : {r : Refusal} → before ≡ Err r → Err r ≡ analysis before place_of verdict s
  unfolding analysis
  refused_before h = rw h

  pub fine_before : before ≡ Ok tt → analysis (Ok tt) place_of verdict s ≡ analysis before place_of verdict s
  fine_before h = rw h

  pub refused_up_to_8 : {r : Refusal} → (before then check_h place_of s) ≡ Err r → Err r ≡ analysis before place_of verdict s
  unfolding analysis
  refused_up_to_8 h = ap (λ c. answered c (verdict s)) (sym h)

  pub gives : before ≡ Ok tt → H s ≤ most_h → Ok (verdict s) ≡ analysis before place_of verdict s
  unfolding analysis check_h unless
  gives fine small = rw (fine, le-leb (H s) most_h small)

-- THE TWO TESTS of a set in memory
module _ (t : TaskSet) where
  abbrev s : List Element
  s = counted t

  pub exact_refused : {r : Refusal} → (check_set t then check_h (λ place. place) s) ≡ Err r → Err r ≡ exact_answer t
  unfolding exact_answer
  exact_refused h = refused_up_to_8 (check_set t) (λ place. place) exact s h

  module _ (fine : check_set t ≡ Ok tt) (small : H s ≤ most_h) where
    exact_given : Ok (exact s) ≡ exact_answer t
    unfolding exact_answer
    exact_given = gives (check_set t) (λ place. place) exact s fine small

    pub exact_overload : H s < Q s → Ok (overload s) ≡ exact_answer t
    unfolding exact
    exact_overload over = ap Ok (sym (load_above s _ over)) ∙ exact_given

    -- the lengths below a bound that is F + H
    pub exact_compared : Q s ≤ H s → (bound : ℕ) → bound ≡ F s + H s → Ok (comparing s Overrun (lengths_below s bound)) ≡ exact_answer t
    unfolding exact
    exact_compared load bound e = rw e (ap Ok (sym (load_at_most s _ load)) ∙ exact_given)

  module _ (k : ℕ) where
    pub superposition_refused_k : {r : Refusal} → check_k k ≡ Err r → Err r ≡ superposition_answer k t
    unfolding superposition_answer
    superposition_refused_k h = refused_before (check_k k then check_set t) (λ place. place) (superposition k) s (rw h)

    module _ (fine-k : check_k k ≡ Ok tt) where
      pub superposition_refused : {r : Refusal} → (check_set t then check_h (λ place. place) s) ≡ Err r → Err r ≡ superposition_answer k t
      unfolding superposition_answer
      superposition_refused h = refused_up_to_8 (check_k k then check_set t) (λ place. place) (superposition k) s (rw fine-k h)

      module _ (fine : check_set t ≡ Ok tt) (small : H s ≤ most_h) where
        superposition_given : Ok (superposition k s) ≡ superposition_answer k t
        unfolding superposition_answer
        superposition_given = gives (check_k k then check_set t) (λ place. place) (superposition k) s (rw (fine-k, fine)) small

        pub superposition_overload : H s < Q s → Ok (overload s) ≡ superposition_answer k t
        unfolding superposition
        superposition_overload over = ap Ok (sym (load_above s _ over)) ∙ superposition_given

        pub superposition_compared : Q s ≤ H s → Ok (comparing s NotShown (superposition_lengths k s)) ≡ superposition_answer k t
        unfolding superposition
        superposition_compared load = ap Ok (sym (load_at_most s _ load)) ∙ superposition_given
