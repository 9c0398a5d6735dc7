-- The contracts of this crate's public functions: what each says of what it was given and what it returns, r.
use Rattle.std.specs.Prelude.{ℕ, ◌≡◌, Result}
use Rattle.model.specs.declared.elements.TaskSet.{TaskSet}
use Rattle.model.specs.declared.answers.Refusal.{Refusal}
use Rattle.load.specs.declared.overload.Loaded.{Loaded}
use Rattle.load.specs.Load.{loaded_of, demand_at}

abbrev pub LoadOfSays : TaskSet → Result Loaded Refusal → Type 0
LoadOfSays t r = r ≡ loaded_of t

abbrev pub DemandAtSays : TaskSet → ℕ → ℕ → Type 0
DemandAtSays t I r = r ≡ demand_at t I
