-- The contract of `put_verdicts`: what it says of the bytes and a lent buffer, of what it returns, r, and of the buffer after it.
use Rattle.std.specs.Prelude.{ℕ, ◌≡◌, List, length}
use Rattle.model.specs.Buffers.{over}
use Rattle.verdict.specs.Printed.{printed}

abbrev pub PutVerdictsSays : List ℕ → List ℕ → ℕ → List ℕ → Type 0
PutVerdictsSays b out r after = (r ≡ length (printed b)) × (after ≡ over (printed b) out)
