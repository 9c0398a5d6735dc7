-- The contract of `put_answers`: the code keeps it, and no two outcomes satisfy it, in the answer or in the buffer. Assumes nothing.
use Prim.Native.Nat.{ℕ}
use mathlib.Core.Path.{◌≡◌, sym, ◌∙◌}
use mathlib.Core.List.{List}
use Rattle.model.specs.Promises.{Promises}
use Rattle.printer.specs.declared.answers.Lines.{Lines}
use Rattle.printer.specs.Answered.{Numbered}
use Rattle.printer.specs.FunctionContracts.{PutAnswersSays}
use Rattle.printer.specs.contracts
use Rattle.printer.proofs.answers

pub put_answers_keeps :
    Promises contracts.answers.put_answers.ended answers.put_answers.Symbol.code answers.put_answers.Symbol.name (λ κs given r after.
    PutAnswersSays given.0 given.1.0.now r after.1.0.now)
put_answers_keeps = record { met = λ M. answers.put_answers.Met.met }

pub answers_are_decided :
    (a : Lines Numbered) (out : List ℕ) (m n : ℕ) (x y : List ℕ) →
    PutAnswersSays a out m x →
    PutAnswersSays a out n y →
    (m ≡ n) × (x ≡ y)
answers_are_decided a out m n x y p q = (p.0 ∙ sym q.0, p.1 ∙ sym q.1)
