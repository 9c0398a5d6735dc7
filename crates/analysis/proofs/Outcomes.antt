-- The contracts of the public functions: the code keeps each, and no two outcomes satisfy it. Assumes nothing.
use Prim.Native.Nat.{ℕ}
use mathlib.Core.Path.{◌≡◌, sym, ◌∙◌}
use mathlib.Core.List.{List}
use Rattle.model.specs.Answers.{Answer}
use Rattle.model.specs.Promises.{Promises}
use Rattle.analysis.specs.FunctionContracts.{ExactOfBytesSays, SuperpositionOfBytesSays}
use Rattle.analysis.specs.contracts
use Rattle.analysis.proofs.bytes

-- THE CODE KEEPS THEM
pub exact_of_bytes_keeps : Promises contracts.bytes.exact_of_bytes.ended bytes.exact_of_bytes.Symbol.code bytes.exact_of_bytes.Symbol.name (λ κs given r after. ExactOfBytesSays given.0.now r)
exact_of_bytes_keeps = record { met = λ M. bytes.exact_of_bytes.Met.met }

pub superposition_of_bytes_keeps :
    Promises contracts.bytes.superposition_of_bytes.ended bytes.superposition_of_bytes.Symbol.code bytes.superposition_of_bytes.Symbol.name (λ κs given r after.
    SuperpositionOfBytesSays given.0.now given.1.0 r)
superposition_of_bytes_keeps = record { met = λ M. bytes.superposition_of_bytes.Met.met }

-- NO TWO OUTCOMES
pub exact_of_bytes_is_decided : (s : List ℕ) (a b : Answer) → ExactOfBytesSays s a → ExactOfBytesSays s b → a ≡ b
exact_of_bytes_is_decided s a b p q = p ∙ sym q

pub superposition_of_bytes_is_decided : (s : List ℕ) (k : ℕ) (a b : Answer) → SuperpositionOfBytesSays s k a → SuperpositionOfBytesSays s k b → a ≡ b
superposition_of_bytes_is_decided s k a b p q = p ∙ sym q
