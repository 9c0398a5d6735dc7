-- The contract of `put_verdicts`: the code keeps it, and no two outcomes satisfy it, in the answer or in the buffer. Assumes nothing.
use Prim.Native.Nat.{ℕ}
use mathlib.Core.Path.{◌≡◌, sym, ◌∙◌}
use mathlib.Core.List.{List}
use Rattle.model.specs.Promises.{Promises}
use Rattle.verdict.specs.FunctionContracts.{PutVerdictsSays}
use Rattle.verdict.specs.contracts
use Rattle.verdict.proofs.report

pub put_verdicts_keeps :
    Promises contracts.report.put_verdicts.ended report.put_verdicts.Symbol.code report.put_verdicts.Symbol.name (λ κs given r after.
    PutVerdictsSays given.0.now given.1.0.now r after.1.0.now)
put_verdicts_keeps = record { met = λ M. report.put_verdicts.Met.met }

pub verdicts_are_decided :
    (b out : List ℕ) (m n : ℕ) (x y : List ℕ) →
    PutVerdictsSays b out m x →
    PutVerdictsSays b out n y →
    (m ≡ n) × (x ≡ y)
verdicts_are_decided b out m n x y p q = (p.0 ∙ sym q.0, p.1 ∙ sym q.1)
