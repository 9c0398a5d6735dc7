-- The contracts of the calls: the code keeps each, and no two outcomes satisfy it, in the value or in what it was lent. Assumes nothing.
use Prim.Native.Nat.{ℕ}
use mathlib.Core.Path.{◌≡◌, sym, ◌∙◌}
use mathlib.Core.List.{List}
use Rattle.model.specs.declared.answers.Numbers.{Numbers}
use Rattle.model.specs.Promises.{Promises}
use Rattle.capi.specs.Calls.{CallAnswers}
use Rattle.capi.specs.FunctionContracts.{ExactCallSays, SuperpositionCallSays, RewriteCallSays}
use Rattle.capi.specs.contracts
use Rattle.capi.proofs.calls

-- THE CODE KEEPS THEM
pub exact_call_keeps :
    Promises contracts.calls.simaurkoi_exact.ended calls.simaurkoi_exact.Symbol.code calls.simaurkoi_exact.Symbol.name (λ κs given r after.
    ExactCallSays given.0.now given.1.0.now r after.1.0.now)
exact_call_keeps = record { met = λ M. calls.simaurkoi_exact.Met.met }

pub superposition_call_keeps :
    Promises contracts.calls.simaurkoi_superposition.ended calls.simaurkoi_superposition.Symbol.code calls.simaurkoi_superposition.Symbol.name (λ κs given r after.
    SuperpositionCallSays given.0.now given.1.0 given.1.1.0.now r after.1.1.0.now)
superposition_call_keeps = record { met = λ M. calls.simaurkoi_superposition.Met.met }

pub rewrite_call_keeps :
    Promises contracts.calls.simaurkoi_rewrite.ended calls.simaurkoi_rewrite.Symbol.code calls.simaurkoi_rewrite.Symbol.name (λ κs given r after.
    RewriteCallSays given.0.now given.1.0.now given.1.1.0.now r after.1.0.now after.1.1.0.now)
rewrite_call_keeps = record { met = λ M. calls.simaurkoi_rewrite.Met.met }

-- NO TWO OUTCOMES
answer_is_decided : (n : Numbers) (answer : List ℕ) (r s : ℕ) (x y : List ℕ) → CallAnswers n answer r x → CallAnswers n answer s y → (r ≡ s) × (x ≡ y)
answer_is_decided n answer r s x y p q = (p.0 ∙ sym q.0, p.1 ∙ sym q.1)

module _ (b answer : List ℕ) (r s : ℕ) (x y : List ℕ) where
  pub exact_call_is_decided : ExactCallSays b answer r x → ExactCallSays b answer s y → (r ≡ s) × (x ≡ y)
  exact_call_is_decided = answer_is_decided _ answer r s x y

  pub superposition_call_is_decided : (k : ℕ) → SuperpositionCallSays b k answer r x → SuperpositionCallSays b k answer s y → (r ≡ s) × (x ≡ y)
  superposition_call_is_decided k = answer_is_decided _ answer r s x y

  pub rewrite_call_is_decided :
      (out v w : List ℕ) →
      RewriteCallSays b out answer r v x →
      RewriteCallSays b out answer s w y →
      ((r ≡ s) × (x ≡ y)) × (v ≡ w)
  rewrite_call_is_decided out v w p q = (answer_is_decided _ answer r s x y p.0 q.0, p.1 ∙ sym q.1)
