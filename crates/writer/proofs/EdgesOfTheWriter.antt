-- The writer at its edges: each refusal beside what is written, their order and their places, and the buffer. All computed. Assumes nothing.
use Prim.Native.Nat.{ℕ}
use mathlib.Core.Path.{◌≡◌, refl}
use mathlib.Core.List.{[], ◌∷◌, ◌++◌}
use lib.ListN.{replicate}
use Rattle.model.specs.declared.elements.TaskSet.{TaskSet}
use Rattle.model.specs.Elements.{within, is_period, is_offset, is_deadline, is_cost, filler, set_of, empty_set}
use Rattle.model.specs.TurnedAway.{unless, check_element, check_elements, check_set}
use Rattle.model.specs.Sums.{every, once, S7}
use Rattle.wire.specs.Format.{number_bytes, start_of, record_of, records_of}
use Rattle.writer.specs.Writing.{check_write, WrittenNumbers, written_numbers, write_set, buffer_after}

abbrev fillers : ℕ → TaskSet
fillers n = record { count = n; table = replicate 128 filler }

abbrev written : TaskSet → ℕ → WrittenNumbers
written t room = written_numbers (write_set t room)

abbrev bytes : ℕ → WrittenNumbers
bytes n = record { refusal = 0; place = 0; bytes = n }

abbrev refuses : ℕ → ℕ → WrittenNumbers
refuses number at = record { refusal = number; place = at; bytes = 0 }

-- the writer: 3, then 4 to 7 at the table place, then 10 with the bytes needed; what is past the end stays, and a refused write stores nothing
pub writer_in_order :
    (written empty_set 0 ≡ bytes 0)
    × (written (set_of S7) 30 ≡ bytes 30)
    × (written (set_of S7) 29 ≡ refuses 10 30)
    × (written (fillers 129) 0 ≡ refuses 3 128)
    × (written (fillers 1) 0 ≡ refuses 6 0)
    × (written (set_of (once 0 1 1 ∷ every 0 0 0 0 ∷ [])) 0 ≡ refuses 4 1)
    × (buffer_after (set_of S7) (replicate 32 9) ≡ records_of S7 ++ (9 ∷ 9 ∷ []))
    × (buffer_after (set_of S7) (replicate 29 9) ≡ replicate 29 9)
unfolding within is_period is_offset is_deadline is_cost unless check_element check_elements check_set number_bytes start_of record_of records_of check_write write_set buffer_after
writer_in_order = (refl, refl, refl, refl, refl, refl, refl, refl)
