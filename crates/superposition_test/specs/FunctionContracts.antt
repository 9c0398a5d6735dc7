-- The contract of `superposition`: what it says of a set, k, and what it returns, r.
use Rattle.std.specs.Prelude.{ℕ, ◌≡◌}
use Rattle.model.specs.declared.elements.TaskSet.{TaskSet}
use Rattle.model.specs.Answers.{Answer}
use Rattle.model.specs.TurnedAway.{superposition_answer}

abbrev pub SuperpositionSays : TaskSet → ℕ → Answer → Type 0
SuperpositionSays t k r = r ≡ superposition_answer k t
