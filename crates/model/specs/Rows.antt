-- Words of the theorems about refusals: the rows of document 01's table, "What is turned away", and a set in memory that they turn away.
use Rattle.std.specs.Prelude.{ℕ, ◌≤◌, ◌<◌, ◌≡◌, Bool, true, false, List, [], ◌∷◌, ◌⊎◌, Result, Err, length, take, get_or}
use Rattle.model.specs.declared.elements.Element.{Element}
use Rattle.model.specs.declared.elements.TaskSet.{TaskSet}
use Rattle.model.specs.declared.answers.Reason.{Reason}
use Rattle.model.specs.declared.answers.Refusal.{Refusal}
use Rattle.model.specs.Answers.{number_of}
use Rattle.model.specs.Elements.{places, is_period, is_offset, is_deadline, is_cost, AllLegal, filler, counted}

-- 4 to 7: "period", "offset", "deadline", "cost out of range": whether each lets pass
abbrev pub value_rows : Element → List Bool
value_rows e = is_period e.period ∷ is_offset e.offset ∷ is_deadline e.deadline ∷ is_cost e.cost ∷ []

-- of an element in memory: rows 1 to 3 do not look at it, and there is no row 0
abbrev pub element_rows : Element → List Bool
element_rows e = true ∷ true ∷ true ∷ true ∷ value_rows e

-- the first of these rows that does not let pass
pub record IsFirstRow (rs : List Bool) (number : ℕ) : Type 0 where
  pub stops : get_or rs number true ≡ false
  pub first : (earlier : ℕ) → earlier < number → get_or rs earlier true ≡ true

-- A SET IN MEMORY THAT IS TURNED AWAY by this number at this place
-- "a count above 128 by 3 with place 128"
pub record HasTooMany (t : TaskSet) (number place : ℕ) : Type 0 where
  pub many : places < t.count
  pub by : number ≡ 3
  pub at : place ≡ places

-- "then bad values by 4 to 7 with the element's place in the table, element by element"
pub record HasBadValue (t : TaskSet) (number place : ℕ) : Type 0 where
  pub few : t.count ≤ places
  pub counts : place < length (counted t)
  pub before : AllLegal (take place (counted t))
  pub row : IsFirstRow (element_rows (get_or (counted t) place filler)) number

abbrev pub IsTurnedAway : TaskSet → ℕ → ℕ → Type 0
IsTurnedAway t number place = HasTooMany t number place ⊎ HasBadValue t number place

-- what is found or answered is a refusal by this number at this place
pub record IsRefusal {A : Type 0} (r : Result A Refusal) (number place : ℕ) : Type 0 where
  pub reason : Reason
  pub numbered : number_of reason ≡ number
  pub by : r ≡ Err (record { reason = reason; place = place })
