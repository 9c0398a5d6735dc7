-- Document 01's bytes at their edges: S7 and S12, each refusal of the reader beside what is taken, their order and their places. All computed. Assumes nothing.
use Prim.Native.Nat.{ℕ}
use mathlib.Core.Path.{◌≡◌, refl}
use mathlib.Core.List.{List, [], ◌∷◌, ◌++◌}
use lib.ListN.{replicate}
use Rattle.model.specs.declared.answers.Reason.TheVariants.{RecordCut}
use Rattle.model.specs.declared.answers.Told.{Told}
use Rattle.model.specs.Elements.{within, is_period, is_offset, is_deadline, is_cost, set_of}
use Rattle.model.specs.Answers.{told}
use Rattle.model.specs.TurnedAway.{unless, check_element}
use Rattle.model.specs.Sums.{every, once, S7}
use Rattle.std.specs.Prelude.{Some, None, Ok}
use Rattle.wire.specs.Format.{number_bytes, number_at, is_kind, body_size, record_size, element_of, start_of, record_of, records_of}
use Rattle.wire.specs.Reading.{check_record, no_bytes, check_of, read_next, read_record, bytes_taken, rest_of, check_records, elements_in, handed_back, read_set}
use Rattle.wire.specs.Outcomes.{IsRefusedRead}

-- "Numbers are 32 bits, least significant byte first."
pub numbers_as_bytes :
    (number_bytes 67305985 ≡ 1 ∷ 2 ∷ 3 ∷ 4 ∷ [])
    × (number_at (9 ∷ 1 ∷ 2 ∷ 3 ∷ 4 ∷ []) 1 ≡ 67305985)
    × (number_at (255 ∷ 255 ∷ 255 ∷ 255 ∷ []) 0 ≡ 4294967295)
unfolding number_bytes
numbers_as_bytes = (refl, refl, refl)

-- the bytes of the verdict printer's example
abbrev s7 : List ℕ
s7 = 1 ∷ 10 ∷ 0 ∷ 0 ∷ 0 ∷ 0 ∷ 0 ∷ 0 ∷ 0 ∷ 2 ∷ 0 ∷ 0 ∷ 0 ∷ 2 ∷ 0 ∷ 0 ∷ 0 ∷ 2 ∷ 0 ∷ 0 ∷ 0 ∷ 0 ∷ 11 ∷ 0 ∷ 0 ∷ 0 ∷ 8 ∷ 0 ∷ 0 ∷ 0 ∷ []

pub S7_as_bytes : (read_set s7 ≡ handed_back (Ok tt) (set_of S7)) × (records_of S7 ≡ s7)
unfolding within is_period is_offset is_deadline is_cost unless check_element number_bytes is_kind body_size record_size element_of start_of record_of records_of check_record no_bytes check_records elements_in read_set
S7_as_bytes = (refl, refl)

abbrev refusal : ℕ → ℕ → Told
refusal number place = record { refusal = number; place = place }

abbrev none : Told
none = refusal 0 0

-- what reading one record tells, and a set
abbrev one : List ℕ → Told
one s = told (check_of (read_record s))

abbrev all : List ℕ → Told
all s = told (read_set s).check

-- S12: a period at its edges; eleven bytes after kind 02; kind 00
pub S12_as_bytes :
    (all (records_of (every 0 0 1 1 ∷ [])) ≡ refusal 4 0)
    × (all (records_of (every 16777217 0 1 1 ∷ [])) ≡ refusal 4 0)
    × (all (records_of (every 16777216 0 1 1 ∷ [])) ≡ none)
    × (all (2 ∷ replicate 11 0) ≡ refusal 2 0)
    × (all (0 ∷ []) ≡ refusal 1 0)
unfolding within is_period is_offset is_deadline is_cost unless check_element number_bytes is_kind body_size record_size element_of start_of record_of records_of check_record no_bytes check_records elements_in read_set
S12_as_bytes = (refl, refl, refl, refl, refl)

-- one record: the end, the element, and 1, 2, 4 to 7 in that order; a record takes its own bytes and no more
pub records_in_order :
    (read_record [] ≡ Ok None)
    × (read_record (record_of (once 0 1 1) ++ (7 ∷ [])) ≡ Ok (Some (once 0 1 1)))
    × (rest_of (record_of (once 0 1 1) ++ (7 ∷ [])) ≡ 7 ∷ [])
    × (rest_of (record_of (every 1 0 1 1) ++ (7 ∷ 8 ∷ [])) ≡ 7 ∷ 8 ∷ [])
    × (rest_of (7 ∷ 8 ∷ []) ≡ 7 ∷ 8 ∷ [])
    × (one (3 ∷ []) ≡ refusal 1 0)
    × (one (1 ∷ replicate 15 0) ≡ refusal 2 0)
    × (one (1 ∷ replicate 16 0) ≡ refusal 4 0)
    × (one (record_of (every 1 16777217 0 0)) ≡ refusal 5 0)
    × (one (2 ∷ replicate 12 0) ≡ refusal 6 0)
    × (one (record_of (once 0 1 16777217)) ≡ refusal 7 0)
unfolding within is_period is_offset is_deadline is_cost unless check_element number_bytes is_kind body_size record_size element_of start_of record_of check_record no_bytes read_next read_record bytes_taken rest_of
records_in_order = (refl, refl, refl, refl, refl, refl, refl, refl, refl, refl, refl)

-- a set: the place is the refused record's kind byte; the 129th record is refused by 3, after 1 and 2 and before 4 to 7
pub sets_in_order :
    (all (record_of (every 1 0 1 1) ++ (record_of (once 0 1 1) ++ (3 ∷ []))) ≡ refusal 1 30)
    × (all (record_of (once 0 1 1) ++ (record_of (once 0 1 0) ++ (3 ∷ []))) ≡ refusal 7 13)
    × IsRefusedRead (record_of (once 0 1 1) ++ (2 ∷ [])) 2 13
    × (all (records_of (replicate 128 (once 0 1 1))) ≡ none)
    × (all (records_of (replicate 129 (once 0 1 1))) ≡ refusal 3 1664)
    × (all (records_of (replicate 128 (once 0 1 1)) ++ record_of (once 0 0 0)) ≡ refusal 3 1664)
    × (all (records_of (replicate 128 (once 0 1 1)) ++ (2 ∷ replicate 11 0)) ≡ refusal 2 1664)
    × (all (records_of (replicate 128 (once 0 1 1)) ++ (0 ∷ [])) ≡ refusal 1 1664)
unfolding within is_period is_offset is_deadline is_cost unless check_element number_bytes is_kind body_size record_size element_of start_of record_of records_of check_record no_bytes check_records elements_in read_set
sets_in_order = (refl, refl, record { reason = RecordCut; numbered = refl; by = refl }, refl, refl, refl, refl, refl)
