-- The contracts of the calls from C: what each says of what it was given and lent, of what it returns, r, and of what it was lent, after it.
use Rattle.std.specs.Prelude.{ℕ, ◌≡◌, List, length}
use Rattle.model.specs.Answers.{numbers}
use Rattle.analysis.specs.InBytes.{exact_of_bytes, superposition_of_bytes}
use Rattle.capi.specs.Calls.{CallAnswers, rewrite, rewrite_numbers, out_after}

abbrev pub ExactCallSays : List ℕ → List ℕ → ℕ → List ℕ → Type 0
ExactCallSays b answer r answer' = CallAnswers (numbers (exact_of_bytes b)) answer r answer'

abbrev pub SuperpositionCallSays : List ℕ → ℕ → List ℕ → ℕ → List ℕ → Type 0
SuperpositionCallSays b k answer r answer' = CallAnswers (numbers (superposition_of_bytes k b)) answer r answer'

abbrev pub RewriteCallSays : List ℕ → List ℕ → List ℕ → ℕ → List ℕ → List ℕ → Type 0
RewriteCallSays b out answer r out' answer' =
    CallAnswers (rewrite_numbers (rewrite b (length out))) answer r answer' × (out' ≡ out_after b out answer)
