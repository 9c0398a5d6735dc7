-- The contract of `superposition`: the code keeps it, and no two outcomes satisfy it. Assumes nothing.
use Prim.Native.Nat.{ℕ}
use mathlib.Core.Path.{◌≡◌, sym, ◌∙◌}
use Rattle.model.specs.declared.elements.TaskSet.{TaskSet}
use Rattle.model.specs.Answers.{Answer}
use Rattle.model.specs.Promises.{Promises}
use Rattle.superposition_test.specs.FunctionContracts.{SuperpositionSays}
use Rattle.superposition_test.specs.contracts
use Rattle.superposition_test.proofs.superposition

pub superposition_keeps : Promises contracts.superposition.ended superposition.Symbol.code superposition.Symbol.name (λ κs given r after. SuperpositionSays given.0 given.1.0 r)
superposition_keeps = record { met = λ M. superposition.Met.met }

pub superposition_is_decided : (t : TaskSet) (k : ℕ) (a b : Answer) → SuperpositionSays t k a → SuperpositionSays t k b → a ≡ b
superposition_is_decided t k a b p q = p ∙ sym q
