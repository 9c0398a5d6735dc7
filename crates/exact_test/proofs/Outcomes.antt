-- The contract of `exact`: the code keeps it, and no two outcomes satisfy it. Assumes nothing.
use mathlib.Core.Path.{◌≡◌, sym, ◌∙◌}
use Rattle.model.specs.declared.elements.TaskSet.{TaskSet}
use Rattle.model.specs.Answers.{Answer}
use Rattle.model.specs.Promises.{Promises}
use Rattle.exact_test.specs.FunctionContracts.{ExactSays}
use Rattle.exact_test.specs.contracts
use Rattle.exact_test.proofs.exact

pub exact_keeps : Promises contracts.exact.ended exact.Symbol.code exact.Symbol.name (λ κs given r after. ExactSays given.0 r)
exact_keeps = record { met = λ M. exact.Met.met }

pub exact_is_decided : (t : TaskSet) (a b : Answer) → ExactSays t a → ExactSays t b → a ≡ b
exact_is_decided t a b p q = p ∙ sym q
