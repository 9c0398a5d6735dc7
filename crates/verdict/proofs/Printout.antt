-- What is printed, byte for byte: S7 as in document 01, a load above one, and two refusals. All computed. Assumes nothing.
use Prim.Native.Nat.{ℕ}
use mathlib.Core.Path.{◌≡◌, refl}
use mathlib.Core.List.{List, [], ◌∷◌}
use Rattle.model.specs.Number.{gcd_in, gcd, lcm, least, how_many}
use Rattle.model.specs.Over.{sum_over, largest_over, some_over, all_over}
use Rattle.model.specs.Elements.{within, is_period, is_offset, is_deadline, is_cost}
use Rattle.model.specs.Demand.{F, H, demand_of, D, load_in, is_test_of, is_test}
use Rattle.model.specs.ExactTest.{is_overrun, multiple, overload_at, overload, failing, stop, comparing, by_load, exact}
use Rattle.model.specs.Superposition.{scaled_by, scaled_in, is_above, is_visited, superposition}
use Rattle.model.specs.Sums.{S5, S7, S11_refused}
use Rattle.model.specs.TurnedAway.{unless, check_element, first_above, check_h, check_k, analysis}
use Rattle.wire.specs.Format.{number_bytes, is_kind, body_size, record_size, element_of, start_of, record_of, records_of}
use Rattle.wire.specs.Reading.{check_record, no_bytes, check_records, elements_in}
use Rattle.analysis.specs.InBytes.{kind_byte, exact_of_bytes, superposition_of_bytes}
use Rattle.std.specs.Fmt.{digits}
use Rattle.printer.specs.Text.{line}
use Rattle.printer.specs.Answered.{lines, first_refusal, printed_of}
use Rattle.verdict.specs.Printed.{printed}

-- "it prints, whole"
abbrev S7_text : List ℕ
S7_text =
    -- exact 0 0 0 3
    101 ∷ 120 ∷ 97 ∷ 99 ∷ 116 ∷ 32 ∷ 48 ∷ 32 ∷ 48 ∷ 32 ∷ 48 ∷ 32 ∷ 51 ∷ 10 ∷
    -- k=1 3 11 10 2
    107 ∷ 61 ∷ 49 ∷ 32 ∷ 51 ∷ 32 ∷ 49 ∷ 49 ∷ 32 ∷ 49 ∷ 48 ∷ 32 ∷ 50 ∷ 10 ∷
    -- k=2 0 0 0 3
    107 ∷ 61 ∷ 50 ∷ 32 ∷ 48 ∷ 32 ∷ 48 ∷ 32 ∷ 48 ∷ 32 ∷ 51 ∷ 10 ∷
    -- k=100 0 0 0 101
    107 ∷ 61 ∷ 49 ∷ 48 ∷ 48 ∷ 32 ∷ 48 ∷ 32 ∷ 48 ∷ 32 ∷ 48 ∷ 32 ∷ 49 ∷ 48 ∷ 49 ∷ 10 ∷
    []

abbrev S5_text : List ℕ
S5_text =
    -- exact 2 4 5 0
    101 ∷ 120 ∷ 97 ∷ 99 ∷ 116 ∷ 32 ∷ 50 ∷ 32 ∷ 52 ∷ 32 ∷ 53 ∷ 32 ∷ 48 ∷ 10 ∷
    -- k=1 2 4 5 0
    107 ∷ 61 ∷ 49 ∷ 32 ∷ 50 ∷ 32 ∷ 52 ∷ 32 ∷ 53 ∷ 32 ∷ 48 ∷ 10 ∷
    -- k=2 2 4 5 0
    107 ∷ 61 ∷ 50 ∷ 32 ∷ 50 ∷ 32 ∷ 52 ∷ 32 ∷ 53 ∷ 32 ∷ 48 ∷ 10 ∷
    -- k=100 2 4 5 0
    107 ∷ 61 ∷ 49 ∷ 48 ∷ 48 ∷ 32 ∷ 50 ∷ 32 ∷ 52 ∷ 32 ∷ 53 ∷ 32 ∷ 48 ∷ 10 ∷
    []

abbrev unknown_kind : List ℕ
unknown_kind =
    -- refused 1 0
    114 ∷ 101 ∷ 102 ∷ 117 ∷ 115 ∷ 101 ∷ 100 ∷ 32 ∷ 49 ∷ 32 ∷ 48 ∷ 10 ∷
    []

abbrev long_hyperperiod : List ℕ
long_hyperperiod =
    -- refused 8 17
    114 ∷ 101 ∷ 102 ∷ 117 ∷ 115 ∷ 101 ∷ 100 ∷ 32 ∷ 56 ∷ 32 ∷ 49 ∷ 55 ∷ 10 ∷
    []

pub printout :
    (printed (records_of S7) ≡ S7_text)
    × (printed (records_of S5) ≡ S5_text)
    × (printed (0 ∷ []) ≡ unknown_kind)
    × (printed (records_of S11_refused) ≡ long_hyperperiod)
unfolding gcd_in gcd lcm least how_many sum_over largest_over some_over all_over within is_period is_offset is_deadline is_cost F H demand_of D load_in is_test_of is_test is_overrun multiple overload_at overload failing stop comparing by_load exact scaled_by scaled_in is_above is_visited superposition unless check_element first_above check_h check_k analysis number_bytes is_kind body_size record_size element_of start_of record_of records_of check_record no_bytes check_records elements_in kind_byte exact_of_bytes superposition_of_bytes digits line lines first_refusal printed_of printed
printout = (refl, refl, refl, refl)
