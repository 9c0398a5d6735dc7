-- Document 01, "What is turned away", of an analysis given bytes: 1 to 7 as the reader refuses them, then 8 at a kind byte.
use Rattle.std.specs.Prelude.{ℕ, zero, suc, ◌+◌, List, drop}
use Rattle.model.specs.Answers.{Answer}
use Rattle.model.specs.Elements.{places}
use Rattle.model.specs.ExactTest.{exact}
use Rattle.model.specs.Superposition.{superposition}
use Rattle.model.specs.TurnedAway.{◌then◌, check_k, analysis}
use Rattle.wire.specs.Format.{record_size}
use Rattle.wire.specs.Reading.{check_records, elements_in}

-- the place of the kind byte of the record with this number, from 0: the records before it stand before it
unfoldable pub kind_byte : List ℕ → ℕ → ℕ
kind_byte b zero = 0
kind_byte b (suc i) = record_size b + kind_byte (drop (record_size b) b) i

-- "8: kind byte of the first record that brings it there"
unfoldable pub exact_of_bytes : List ℕ → Answer
exact_of_bytes b = analysis (check_records places 0 b) (kind_byte b) exact (elements_in places b)

-- "Superposition looks at k first. Records are then checked in order [..]. Then 8"
unfoldable pub superposition_of_bytes : ℕ → List ℕ → Answer
superposition_of_bytes k b = analysis (check_k k then check_records places 0 b) (kind_byte b) (superposition k) (elements_in places b)
