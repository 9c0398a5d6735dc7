-- The contracts of the public functions: the code keeps each, and no two outcomes satisfy it. Assumes nothing.
use Prim.Native.Nat.{ℕ}
use mathlib.Core.Path.{◌≡◌, sym, ◌∙◌}
use Rattle.std.specs.Prelude.{Result}
use Rattle.model.specs.declared.elements.TaskSet.{TaskSet}
use Rattle.model.specs.declared.answers.Refusal.{Refusal}
use Rattle.model.specs.Promises.{Promises}
use Rattle.load.specs.declared.overload.Loaded.{Loaded}
use Rattle.load.specs.FunctionContracts.{LoadOfSays, DemandAtSays}
use Rattle.load.specs.contracts
use Rattle.load.proofs.overload
use Rattle.load.proofs.demand

-- THE CODE KEEPS THEM
pub load_of_keeps : Promises contracts.overload.load_of.ended overload.load_of.Symbol.code overload.load_of.Symbol.name (λ κs given r after. LoadOfSays given.0 r)
load_of_keeps = record { met = λ M. overload.load_of.Met.met }

pub demand_at_keeps : Promises contracts.demand.demand_at.ended demand.demand_at.Symbol.code demand.demand_at.Symbol.name (λ κs given r after. DemandAtSays given.0 given.1.0 r)
demand_at_keeps = record { met = λ M. demand.demand_at.Met.met }

-- NO TWO OUTCOMES
pub load_is_decided : (t : TaskSet) (a b : Result Loaded Refusal) → LoadOfSays t a → LoadOfSays t b → a ≡ b
load_is_decided t a b p q = p ∙ sym q

pub demand_is_decided : (t : TaskSet) (I a b : ℕ) → DemandAtSays t I a → DemandAtSays t I b → a ≡ b
demand_is_decided t I a b p q = p ∙ sym q
