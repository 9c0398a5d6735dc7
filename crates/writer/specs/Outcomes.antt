-- Words of the theorems about writing: sets that are not written.
use Rattle.std.specs.Prelude.{ℕ, ◌<◌, ◌≡◌, true, ◌⊎◌, length}
use Rattle.model.specs.declared.elements.TaskSet.{TaskSet}
use Rattle.model.specs.Elements.{is_legal_set}
use Rattle.model.specs.Rows.{IsTurnedAway}
use Rattle.writer.specs.Writing.{bytes_of}

-- A SET THAT IS NOT WRITTEN, by this number at this place: turned away by its count or a value, "then 10"
pub record HasNoRoom (t : TaskSet) (room number place : ℕ) : Type 0 where
  pub legal : is_legal_set t ≡ true
  pub by : number ≡ 10
  pub at : place ≡ length (bytes_of t)
  pub short : room < place

abbrev pub IsNotWritten : TaskSet → ℕ → ℕ → ℕ → Type 0
IsNotWritten t room number place = IsTurnedAway t number place ⊎ HasNoRoom t room number place
