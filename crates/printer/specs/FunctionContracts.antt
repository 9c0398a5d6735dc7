-- The contract of `put_answers`: what it says of four answers and a lent buffer, of what it returns, r, and of the buffer after it.
use Rattle.std.specs.Prelude.{ℕ, ◌≡◌, ◌≤◌, List, length}
use Rattle.model.specs.Buffers.{over}
use Rattle.printer.specs.declared.answers.Lines.{Lines}
use Rattle.printer.specs.Answered.{Numbered, printed_of}

abbrev pub PutAnswersSays : Lines Numbered → List ℕ → ℕ → List ℕ → Type 0
PutAnswersSays answers out r after =
    (r ≡ length (printed_of answers)) × (after ≡ over (printed_of answers) out) × (r ≤ 356)
