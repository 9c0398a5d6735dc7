-- The contract of `write_set`: what it says of a set and a lent buffer, of what it returns, r, and of the buffer after it.
use Rattle.std.specs.Prelude.{ℕ, ◌≡◌, List, length}
use Rattle.model.specs.declared.elements.TaskSet.{TaskSet}
use Rattle.writer.specs.Writing.{Written, write_set, buffer_after}

abbrev pub WriteSetSays : TaskSet → List ℕ → Written → List ℕ → Type 0
WriteSetSays t out r after = (r ≡ write_set t (length out)) × (after ≡ buffer_after t out)
