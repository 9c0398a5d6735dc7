-- The contracts of this crate's public functions: what each says of the bytes, of k, and of what it returns, r.
use Rattle.std.specs.Prelude.{ℕ, ◌≡◌, List}
use Rattle.model.specs.Answers.{Answer}
use Rattle.analysis.specs.InBytes.{exact_of_bytes, superposition_of_bytes}

abbrev pub ExactOfBytesSays : List ℕ → Answer → Type 0
ExactOfBytesSays b r = r ≡ exact_of_bytes b

abbrev pub SuperpositionOfBytesSays : List ℕ → ℕ → Answer → Type 0
SuperpositionOfBytesSays b k r = r ≡ superposition_of_bytes k b
