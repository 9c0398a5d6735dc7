-- The contract of `write_set`: the code keeps it, and no two outcomes satisfy it, in the value or in the buffer. Assumes nothing.
use Prim.Native.Nat.{ℕ}
use mathlib.Core.Path.{◌≡◌, sym, ◌∙◌}
use mathlib.Core.List.{List}
use Rattle.model.specs.declared.elements.TaskSet.{TaskSet}
use Rattle.model.specs.Promises.{Promises}
use Rattle.writer.specs.Writing.{Written}
use Rattle.writer.specs.FunctionContracts.{WriteSetSays}
use Rattle.writer.specs.contracts
use Rattle.writer.proofs.writing

pub write_set_keeps :
    Promises contracts.writing.write_set.ended writing.write_set.Symbol.code writing.write_set.Symbol.name
    (λ κs given r after. WriteSetSays given.0 given.1.0.now r after.1.0.now)
write_set_keeps = record { met = λ M. writing.write_set.Met.met }

pub write_is_decided :
    (t : TaskSet) (out : List ℕ) (a b : Written) (x y : List ℕ) →
    WriteSetSays t out a x →
    WriteSetSays t out b y →
    (a ≡ b) × (x ≡ y)
write_is_decided t out a b x y p q = (p.0 ∙ sym q.0, p.1 ∙ sym q.1)
