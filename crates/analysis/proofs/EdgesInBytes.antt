-- An analysis of bytes at its edges: S7 as document 01 prints it, the kind byte of 8, and the order of the refusals. All computed. Assumes nothing.
use mathlib.Core.Path.{◌≡◌, refl}
use mathlib.Core.List.{[], ◌∷◌, ◌++◌}
use Rattle.model.specs.Number.{gcd_in, gcd, lcm, least, how_many}
use Rattle.model.specs.Over.{sum_over, largest_over, some_over, all_over}
use Rattle.model.specs.Elements.{within, is_period, is_offset, is_deadline, is_cost}
use Rattle.model.specs.Demand.{F, H, demand_of, D, load_in, is_test_of, is_test}
use Rattle.model.specs.Answers.{refused, numbers}
use Rattle.model.specs.ExactTest.{is_overrun, multiple, overload_at, overload, failing, stop, comparing, by_load, exact}
use Rattle.model.specs.Superposition.{scaled_by, scaled_in, is_above, is_visited, superposition}
use Rattle.model.specs.Sums.{once, shows, S7, S11_refused}
use Rattle.model.specs.TurnedAway.{unless, check_element, first_above, check_h, check_k, analysis}
use Rattle.wire.specs.Format.{number_bytes, is_kind, body_size, record_size, element_of, start_of, record_of, records_of}
use Rattle.wire.specs.Reading.{check_record, no_bytes, check_records, elements_in}
use Rattle.analysis.specs.InBytes.{kind_byte, exact_of_bytes, superposition_of_bytes}

pub edges_in_bytes :
    -- S7: "it prints, whole"
    (numbers (exact_of_bytes (records_of S7)) ≡ shows 0 0 0 3)
    × (numbers (superposition_of_bytes 1 (records_of S7)) ≡ shows 3 11 10 2)
    × (numbers (superposition_of_bytes 2 (records_of S7)) ≡ shows 0 0 0 3)
    × (numbers (superposition_of_bytes 100 (records_of S7)) ≡ shows 0 0 0 101)
    -- "8: kind byte of the first record that brings it there": the second of two; the last of three; not a later one
    × (numbers (exact_of_bytes (records_of S11_refused)) ≡ refused 8 17)
    × (numbers (superposition_of_bytes 1 (records_of (once 0 1 1 ∷ S11_refused))) ≡ refused 8 30)
    × (numbers (exact_of_bytes (records_of (S11_refused ++ (once 0 1 1 ∷ [])))) ≡ refused 8 17)
    -- "Superposition looks at k first"; then a refused record, then 8
    × (numbers (superposition_of_bytes 0 (0 ∷ [])) ≡ refused 9 0)
    × (numbers (superposition_of_bytes 256 (records_of S11_refused)) ≡ refused 9 0)
    × (numbers (superposition_of_bytes 255 (0 ∷ [])) ≡ refused 1 0)
    × (numbers (exact_of_bytes (records_of S11_refused ++ (3 ∷ []))) ≡ refused 1 34)
unfolding gcd_in gcd lcm least how_many sum_over largest_over some_over all_over within is_period is_offset is_deadline is_cost F H demand_of D load_in is_test_of is_test is_overrun multiple overload_at overload failing stop comparing by_load exact scaled_by scaled_in is_above is_visited superposition unless check_element first_above check_h check_k analysis number_bytes is_kind body_size record_size element_of start_of record_of records_of check_record no_bytes check_records elements_in kind_byte exact_of_bytes superposition_of_bytes
edges_in_bytes = (refl, refl, refl, refl, refl, refl, refl, refl, refl, refl, refl)
