-- THE THREE DEMANDS of whatever the entry points answer, for a set in memory and a set as bytes alike, and of their code. Assumes nothing.
use Prim.Native.Nat.{ℕ, zero, suc, ◌+◌, ◌≤◌, ◌<◌}
use mathlib.Core.Path.{◌≡◌, refl, sym, ◌∙◌}
use mathlib.Core.List.{List}
use mathlib.Core.Logic.{⊎_elim}
use native.Mathlib.Omega.{arith}
use Rattle.std.specs.Prelude.{Ok}
use Rattle.model.specs.declared.elements.Element.{Element}
use Rattle.model.specs.declared.elements.TaskSet.{TaskSet}
use Rattle.model.specs.declared.answers.Verdict.{Verdict}
use Rattle.model.specs.declared.answers.Verdict.TheVariants.{Passes}
use Rattle.model.specs.Number.{how_many}
use Rattle.model.specs.Elements.{AllLegal, Same}
use Rattle.model.specs.Demand.{F, H, D, Q, is_test}
use Rattle.model.specs.Answers.{values, Answer}
use Rattle.model.specs.ExactTest.{exact}
use Rattle.model.specs.Superposition.{superposition}
use Rattle.model.specs.TurnedAway.{◌then◌, check_h, check_k, analysis}
use Rattle.model.specs.Promises.{Promises}
use Rattle.model.proofs.Cases.{lt_or_le}
use Rattle.model.proofs.TurnedAwayLaws.{then_fine, k_fine}
use Rattle.model.proofs.PromiseLaws.{promises_what_follows}
use Rattle.theory.proofs.DemandRests.{demand_at_zero}
use Rattle.theory.proofs.OverloadShowsTheFirst.{exact_shows_the_first, superposition_shows_the_first}
use Rattle.theory.proofs.ExactShowsTheSmallest.{overloaded_exactly_when, shows_the_smallest, otherwise_passes}
use Rattle.theory.proofs.SuperpositionAnswers.{superposition_answers}
use Rattle.theory.proofs.SuperpositionIsSafe.{no_overrun_if_superposition_accepts}
use Rattle.theory.proofs.SuperpositionIsClose.{near_overrun_if_superposition_holds_back}
use Rattle.theory.proofs.SuperpositionIsShort.{compares_at_most}
use Rattle.theory.proofs.TakenSetsAreLegal.{verdict_is}
use Rattle.theory.proofs.NothingPastTheCount.{same_exact_answer, same_superposition_answer}
use Rattle.exact_test.specs.FunctionContracts.{ExactSays}
use Rattle.exact_test.specs.contracts.exact as exact_contract
use Rattle.exact_test.proofs.exact as exact_function
use Rattle.exact_test.proofs.Outcomes.{exact_keeps}
use Rattle.superposition_test.specs.FunctionContracts.{SuperpositionSays}
use Rattle.superposition_test.specs.contracts.superposition as superposition_contract
use Rattle.superposition_test.proofs.superposition as superposition_function
use Rattle.superposition_test.proofs.Outcomes.{superposition_keeps}
use Rattle.analysis.specs.Demands.{Input, in_memory, as_bytes, elements, place_in, ExactSaysOf, SuperpositionSaysOf, MeetsDemand2, MeetsDemand3, ExactMeets, SuperpositionMeets}
use Rattle.analysis.specs.contracts
use Rattle.analysis.proofs.bytes
use Rattle.analysis.proofs.HowAnAnalysisEnds.{check_input, input_legal, exact_on, exact_ends, superposition_on, superposition_ends}
use Rattle.analysis.proofs.Outcomes.{exact_of_bytes_keeps, superposition_of_bytes_keeps}

-- OF ELEMENTS THAT ARE LEGAL
module _ (s : List Element) (legal : AllLegal s) where
  positive : (I : ℕ) → I < D s I → 1 ≤ I
  positive zero o = absurd (omega (arith, demand_at_zero s legal))
  positive (suc I) o = omega arith

  no_overrun_if_passed : (values (exact s)).verdict ≡ 0 → (I : ℕ) → D s I ≤ I
  no_overrun_if_passed passed I = ⊎_elim
      (λ over. absurd (omega (arith, (exact_shows_the_first s legal over).verdict)))
      (λ load. ⊎_elim
      (λ (o : I < D s I). absurd (omega (arith, (overloaded_exactly_when s legal load).1 (I, positive I o, o))))
      (λ (o : D s I ≤ I). o)
      (lt_or_le I (D s I)))
      (lt_or_le (H s) (Q s))

  exact_verdict_meets : MeetsDemand2 s (exact s)
  exact_verdict_meets = record {
    overloaded_exactly_when = overloaded_exactly_when s legal;
    shows_the_smallest = shows_the_smallest s legal;
    passes_otherwise = otherwise_passes s legal;
    shows_load_above_one = exact_shows_the_first s legal;
    no_overrun_if_passed = no_overrun_if_passed;
  }

  module _ (k : ℕ) (low : 1 ≤ k) where
    no_overrun_if_accepted : (values (superposition k s)).verdict ≡ 0 → (I : ℕ) → D s I ≤ I
    no_overrun_if_accepted accepted = ⊎_elim
        (λ over. absurd (omega (arith, (superposition_shows_the_first s k legal over).verdict)))
        (λ load. no_overrun_if_superposition_accepts k s legal low load accepted)
        (lt_or_le (H s) (Q s))

    superposition_verdict_meets : MeetsDemand3 k s (superposition k s)
    superposition_verdict_meets = record {
      compares_at_most = compares_at_most k s legal low;
      holds_back_or_accepts = superposition_answers k s;
      no_overrun_if_accepted = no_overrun_if_accepted;
      near_overrun_if_held_back = near_overrun_if_superposition_holds_back k s legal low;
      shows_load_above_one = superposition_shows_the_first s k legal;
    }

-- OF WHATEVER THEY ANSWER
-- a verdict that is given is the definition's, of elements that are legal
exact_verdict : (x : Input) (a : Answer) → ExactSaysOf x a → (v : Verdict) → a ≡ Ok v → AllLegal (elements x) × (v ≡ exact (elements x))
exact_verdict x a says v e =
    let g = verdict_is (check_input x) (place_in x) exact (elements x) v (sym (exact_on x a says) ∙ e) in
    ((input_legal x g.0).0, g.2)

superposition_verdict :
    (x : Input) (k : ℕ) (a : Answer) →
    SuperpositionSaysOf x k a → (v : Verdict) → a ≡ Ok v →
    (check_input x ≡ Ok tt) × (check_h (place_in x) (elements x) ≡ Ok tt) × (1 ≤ k) × (v ≡ superposition k (elements x))
superposition_verdict x k a says v e =
    let g = verdict_is (check_k k then check_input x) (place_in x) (superposition k) (elements x) v (sym (superposition_on x k a says) ∙ e) in
    let f = (then_fine (check_k k) (check_input x)).0 g.0 in
    (f.1, g.1, (k_fine k f.0).0, g.2)

-- THEOREM: the exact test
pub exact_meets : (x : Input) (a : Answer) → ExactSaysOf x a → ExactMeets x a
exact_meets x a says = record { ends = exact_ends x a says; verdict = λ v e. let w = exact_verdict x a says v e in rw w.1 (exact_verdict_meets (elements x) w.0) }

-- THEOREM: superposition
pub superposition_meets : (x : Input) (k : ℕ) (a : Answer) → SuperpositionSaysOf x k a → SuperpositionMeets x k a
superposition_meets x k a says = record {
  ends = superposition_ends x k a says;
  verdict = λ v e.
      let w = superposition_verdict x k a says v e in
      rw w.3 (superposition_verdict_meets (elements x) (input_legal x w.0).0 k w.2);
}

-- THE TWO TESTS TOGETHER
-- THEOREM: if superposition passes an input, with any k, the exact test does
pub exact_passes_if_superposition_does :
    (x : Input) (k : ℕ) (a b : Answer) →
    SuperpositionSaysOf x k a → ExactSaysOf x b →
    (v : Verdict) → a ≡ Ok v → (values v).verdict ≡ 0 →
    b ≡ Ok (Passes (how_many (is_test (elements x)) (F (elements x) + H (elements x))))
unfolding analysis
exact_passes_if_superposition_does x k a b p q v e passed =
    let s = elements x in
    let w = superposition_verdict x k a p v e in
    let legal = (input_legal x w.0).0 in
    let meets = (superposition_meets x k a p).verdict v e in
    let none = meets.no_overrun_if_accepted passed in
    let load : Q s ≤ H s = ⊎_elim (λ over. absurd (omega (arith, (meets.shows_load_above_one over).verdict))) (λ load. load) (lt_or_le (H s) (Q s)) in
    exact_on x b q
    ∙ rw (w.0, w.1, otherwise_passes s legal load (λ o. omega (arith, none o.0, o.2))) refl

-- "Nothing past the count affects any answer"
module _ (t u : TaskSet) (same : Same t u) (a b : Answer) where
  -- THEOREM
  pub same_sets_same_exact : ExactSays t a → ExactSays u b → a ≡ b
  same_sets_same_exact p q = p ∙ same_exact_answer t u same ∙ sym q

  -- THEOREM
  pub same_sets_same_superposition : (k : ℕ) → SuperpositionSays t k a → SuperpositionSays u k b → a ≡ b
  same_sets_same_superposition k p q = p ∙ same_superposition_answer t u same k ∙ sym q

-- OF THEIR CODE: for every argument each ends, and what it returns meets the demands
-- THEOREM
pub exact_code_meets : Promises exact_contract.ended exact_function.Symbol.code exact_function.Symbol.name (λ κs given r after. ExactMeets (in_memory given.0) r)
exact_code_meets = promises_what_follows (λ κs given r after. exact_meets (in_memory given.0) r) exact_keeps

-- THEOREM
pub exact_of_bytes_code_meets :
    Promises contracts.bytes.exact_of_bytes.ended bytes.exact_of_bytes.Symbol.code bytes.exact_of_bytes.Symbol.name (λ κs given r after. ExactMeets (as_bytes given.0.now) r)
exact_of_bytes_code_meets = promises_what_follows (λ κs given r after. exact_meets (as_bytes given.0.now) r) exact_of_bytes_keeps

-- THEOREM
pub superposition_code_meets :
    Promises superposition_contract.ended superposition_function.Symbol.code superposition_function.Symbol.name (λ κs given r after. SuperpositionMeets (in_memory given.0) given.1.0 r)
superposition_code_meets =
    promises_what_follows (λ κs given r after. superposition_meets (in_memory given.0) given.1.0 r) superposition_keeps

-- THEOREM
pub superposition_of_bytes_code_meets :
    Promises contracts.bytes.superposition_of_bytes.ended bytes.superposition_of_bytes.Symbol.code bytes.superposition_of_bytes.Symbol.name (λ κs given r after.
    SuperpositionMeets (as_bytes given.0.now) given.1.0 r)
superposition_of_bytes_code_meets =
    promises_what_follows (λ κs given r after. superposition_meets (as_bytes given.0.now) given.1.0 r) superposition_of_bytes_keeps
