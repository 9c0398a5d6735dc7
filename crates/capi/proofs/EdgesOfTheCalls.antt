-- The calls at their edges: six places, more and fewer; a set rewritten, one without room, and bytes that are none. All computed. Assumes nothing.
use mathlib.Core.Path.{◌≡◌, refl}
use mathlib.Core.List.{[], ◌∷◌, ◌++◌}
use lib.ListN.{replicate}
use Rattle.model.specs.Elements.{within, is_period, is_offset, is_deadline, is_cost}
use Rattle.model.specs.Answers.{refused}
use Rattle.model.specs.TurnedAway.{unless, check_element, check_elements, check_set}
use Rattle.model.specs.Sums.{shows, S7}
use Rattle.wire.specs.Format.{number_bytes, is_kind, body_size, record_size, element_of, start_of, record_of, records_of}
use Rattle.wire.specs.Reading.{check_record, no_bytes, check_records, elements_in, read_set}
use Rattle.writer.specs.Writing.{check_write, write_set, buffer_after}
use Rattle.capi.specs.Calls.{six, returned, answer_after, rewrite, rewrite_numbers, rewritten, out_after}

pub answers_at_their_edges :
    (answer_after (shows 3 11 10 2) (replicate 6 7) ≡ 0 ∷ 0 ∷ 3 ∷ 11 ∷ 10 ∷ 2 ∷ [])
    × (answer_after (refused 2 17) (replicate 8 7) ≡ 2 ∷ 17 ∷ 0 ∷ 0 ∷ 0 ∷ 0 ∷ 7 ∷ 7 ∷ [])
    × (answer_after (shows 3 11 10 2) (replicate 5 7) ≡ replicate 5 7)
    × (returned (shows 3 11 10 2) (replicate 6 7) ≡ 0)
    × (returned (refused 2 17) (replicate 6 7) ≡ 2)
    × (returned (refused 2 17) (replicate 5 7) ≡ 10)
unfolding six returned answer_after
answers_at_their_edges = (refl, refl, refl, refl, refl, refl)

pub rewriting_at_its_edges :
    (six (rewrite_numbers (rewrite (records_of S7) 30)) ≡ 0 ∷ 0 ∷ 30 ∷ 0 ∷ 0 ∷ 0 ∷ [])
    × (six (rewrite_numbers (rewrite (records_of S7) 29)) ≡ 10 ∷ 30 ∷ 0 ∷ 0 ∷ 0 ∷ 0 ∷ [])
    × (six (rewrite_numbers (rewrite (records_of S7 ++ (3 ∷ [])) 0)) ≡ 1 ∷ 30 ∷ 0 ∷ 0 ∷ 0 ∷ 0 ∷ [])
    × (out_after (records_of S7) (replicate 32 9) (replicate 6 7) ≡ records_of S7 ++ (9 ∷ 9 ∷ []))
    × (out_after (records_of S7) (replicate 29 9) (replicate 6 7) ≡ replicate 29 9)
    × (out_after (records_of S7) (replicate 32 9) (replicate 5 7) ≡ replicate 32 9)
    × (out_after (records_of S7 ++ (3 ∷ [])) (replicate 32 9) (replicate 6 7) ≡ replicate 32 9)
unfolding within is_period is_offset is_deadline is_cost unless check_element check_elements check_set number_bytes is_kind body_size record_size element_of start_of record_of records_of check_record no_bytes check_records elements_in read_set check_write write_set buffer_after six rewrite rewrite_numbers rewritten out_after
rewriting_at_its_edges = (refl, refl, refl, refl, refl, refl, refl)
