-- The contract of `exact`: what it says of a set and what it returns, r.
use Rattle.std.specs.Prelude.{◌≡◌}
use Rattle.model.specs.declared.elements.TaskSet.{TaskSet}
use Rattle.model.specs.Answers.{Answer}
use Rattle.model.specs.TurnedAway.{exact_answer}

abbrev pub ExactSays : TaskSet → Answer → Type 0
ExactSays t r = r ≡ exact_answer t
