-- Document 01, "The set as bytes": reading one record, the unread rest, and reading a set; with its part of "What is turned away".
use Rattle.std.specs.Prelude.{ℕ, zero, suc, ◌+◌, ◌≡◌, Bool, cond, List, [], ◌∷◌, eqb, leb, length, drop, Option, Some, None, Result, Ok, Err}
use Rattle.std.specs.Borrow.{Bor}
use Rattle.model.specs.declared.elements.Element.{Element}
use Rattle.model.specs.declared.elements.TaskSet.{TaskSet}
use Rattle.model.specs.declared.answers.Reason.TheVariants.{UnknownKind, RecordCut, TooManyElements}
use Rattle.model.specs.declared.answers.Refusal.{Refusal}
use Rattle.model.specs.Answers.{Check}
use Rattle.model.specs.Elements.{places, set_of, empty_set}
use Rattle.model.specs.TurnedAway.{unless, ◌then◌, check_element}
use Rattle.wire.specs.Format.{kind_of, is_kind, record_size, element_of}

-- ONE RECORD, whose kind byte has this place; room is how many elements may still come
-- "Records are then checked in order, each for 1, 2, 3, 4, 5, 6, 7 as far as they apply"
unfoldable pub check_record : ℕ → ℕ → List ℕ → Check
check_record room place s =
    unless (is_kind (kind_of s)) UnknownKind place
    then unless (leb (record_size s) (length s)) RecordCut place
    then unless (leb 1 room) TooManyElements place
    then check_element place (element_of s)

-- "No bytes are an empty set."
unfoldable pub no_bytes : List ℕ → Bool
no_bytes s = eqb (length s) 0

-- "the element, the refusal or, on no bytes, the end": the end is Ok None
abbrev pub Record : Type 0
Record = Result (Option Element) Refusal

abbrev pub answer_of : Check → Element → Record
answer_of (Ok u) e = Ok (Some e)
answer_of (Err r) e = Err r

-- what an answer says of the checks; `told` gives its number and place
abbrev pub check_of : {A : Type 0} → Result A Refusal → Check
check_of (Ok x) = Ok tt
check_of (Err r) = Err r

unfoldable pub read_next : ℕ → ℕ → List ℕ → Record
read_next room place s = cond (no_bytes s) (Ok None) (answer_of (check_record room place s) (element_of s))

-- one record alone: its place is 0, and there is room for it
unfoldable pub read_record : List ℕ → Record
read_record s = read_next places 0 s

-- THE UNREAD REST
-- how many bytes the record takes: "where the record is refused, the rest is all of them"
unfoldable pub bytes_taken : Record → List ℕ → ℕ
bytes_taken (Ok (Some e)) s = record_size s
bytes_taken (Ok None) s = 0
bytes_taken (Err r) s = 0

unfoldable pub rest_of : List ℕ → List ℕ
rest_of s = drop (bytes_taken (read_record s) s) s

-- "the unread rest of the caller's bytes, as that very part and not a copy": what it holds, and where it lies
pub record IsRest (s r : Bor (List ℕ)) : Type 0 where
  pub bytes : r.now ≡ rest_of s.now
  pub part : r.ref_ptr ≡ (s.ref_ptr.0, bytes_taken (read_record s.now) s.now + s.ref_ptr.1)

-- A SET
-- "the first refused record decides"
unfoldable pub check_records : ℕ → ℕ → List ℕ → Check
check_records zero place s = cond (no_bytes s) (Ok tt) (check_record 0 place s)
check_records (suc room) place s =
    cond (no_bytes s) (Ok tt) (check_record (suc room) place s then check_records room (place + record_size s) (drop (record_size s) s))

-- the elements of the records, where none is refused
unfoldable pub elements_in : ℕ → List ℕ → List Element
elements_in zero s = []
elements_in (suc room) s = cond (no_bytes s) [] (element_of s ∷ elements_in room (drop (record_size s) s))

-- what the checks find, and the set that is handed back
pub record ReadSet : Type 0 where
  pub check : Check
  pub set : TaskSet

-- "A refused read hands back the empty set with all fillers"
abbrev pub handed_back : Check → TaskSet → ReadSet
handed_back (Ok u) t = record { check = Ok tt; set = t }
handed_back (Err r) t = record { check = Err r; set = empty_set }

unfoldable pub read_set : List ℕ → ReadSet
read_set s = handed_back (check_records places 0 s) (set_of (elements_in places s))
