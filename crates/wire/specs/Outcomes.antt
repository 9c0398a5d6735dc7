-- Words of the theorems about reading: the rows of document 01's table for a record, bytes that are a set or are refused.
use Rattle.std.specs.Prelude.{ℕ, ◌≤◌, ◌≡◌, Bool, true, List, ◌∷◌, ◌++◌, leb, ltb, length}
use Rattle.model.specs.declared.elements.Element.{Element}
use Rattle.model.specs.declared.answers.Reason.{Reason}
use Rattle.model.specs.Answers.{number_of}
use Rattle.model.specs.Elements.{places, AllLegal, empty_set}
use Rattle.model.specs.TurnedAway.{turned}
use Rattle.model.specs.Rows.{value_rows, IsFirstRow}
use Rattle.wire.specs.Format.{kind_of, is_kind, record_size, element_of, records_of}
use Rattle.wire.specs.Reading.{handed_back, read_set}

-- THE ROWS 1 to 7 of "What is turned away", of the record that the bytes start with, after these elements: whether each lets pass; there is no row 0
abbrev pub rows : List Element → List ℕ → List Bool
rows before from =
    true
    -- 1: "kind neither 01 nor 02"
    ∷ is_kind (kind_of from)
    -- 2: "fewer body bytes left than the kind fixes"
    ∷ leb (record_size from) (length from)
    -- 3: "a 129th element"
    ∷ ltb (length before) places
    ∷ value_rows (element_of from)

-- BYTES THAT ARE A SET: the records of these elements and nothing else
pub record AreRecords (s : List ℕ) (es : List Element) : Type 0 where
  pub bytes : s ≡ records_of es
  pub legal : AllLegal es
  pub few : length es ≤ places

-- BYTES THAT ARE REFUSED by this number at this place: after the records of legal elements stands a record that this row is the first not to let pass
pub record AreRefused (s : List ℕ) (number place : ℕ) : Type 0 where
  pub before : List Element
  pub from : List ℕ
  pub bytes : s ≡ records_of before ++ from
  pub legal : AllLegal before
  pub few : length before ≤ places
  pub more : 1 ≤ length from
  pub at : place ≡ length (records_of before)
  pub row : IsFirstRow (rows before from) number

-- reading them gives a refusal by this number at this place, and the empty set
pub record IsRefusedRead (s : List ℕ) (number place : ℕ) : Type 0 where
  pub reason : Reason
  pub numbered : number_of reason ≡ number
  pub by : read_set s ≡ handed_back (turned reason place) empty_set
