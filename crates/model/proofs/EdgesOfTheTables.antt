-- Document 01's two tables at their edges: each allowed value at its least and its most, one below and one above; the refusals in their order,
-- with their places. All computed, S12's periods among them. Assumes nothing.
use Prim.Native.Nat.{ℕ}
use mathlib.Core.Path.{◌≡◌, refl}
use mathlib.Core.List.{[], ◌∷◌}
use lib.ListN.{replicate}
use Rattle.std.specs.Prelude.{Ok}
use Rattle.model.specs.declared.elements.TaskSet.{TaskSet}
use Rattle.model.specs.declared.answers.Reason.{Reason}
use Rattle.model.specs.declared.answers.Reason.TheVariants.{TooManyElements, PeriodOutOfRange, OffsetOutOfRange, DeadlineOutOfRange, CostOutOfRange, HyperperiodAboveLimit, KOutOfRange}
use Rattle.model.specs.Number.{gcd_in, gcd, lcm, least}
use Rattle.model.specs.Elements.{within, is_period, is_offset, is_deadline, is_cost, filler}
use Rattle.model.specs.Demand.{H}
use Rattle.model.specs.Answers.{number_of, told, refused, numbers}
use Rattle.model.specs.TurnedAway.{turned, unless, check_element, check_elements, check_set, first_above, check_h, check_k, analysis, superposition_answer}
use Rattle.model.specs.Rows.{IsRefusal}
use Rattle.model.specs.Sums.{every, once}

-- a check that turns away for this reason does so by its number
row : (reason : Reason) {place : ℕ} → IsRefusal {A = Unit {0}} (turned reason place) (number_of reason) place
row reason = record { reason = reason; numbered = refl; by = refl }

-- 4 to 7, each beside the values next to it that are allowed
pub values_at_their_edges :
    (check_element 9 (every 1 0 1 1) ≡ Ok tt)
    × (check_element 9 (every 16777216 16777216 16777216 16777216) ≡ Ok tt)
    × IsRefusal (check_element 9 (every 0 0 1 1)) 4 9
    × IsRefusal (check_element 9 (every 16777217 0 1 1)) 4 9
    × IsRefusal (check_element 9 (once 16777217 1 1)) 5 9
    × IsRefusal (check_element 9 (once 0 0 1)) 6 9
    × IsRefusal (check_element 9 (once 0 16777217 1)) 6 9
    × IsRefusal (check_element 9 (once 0 1 0)) 7 9
    × IsRefusal (check_element 9 (once 0 1 16777217)) 7 9
unfolding within is_period is_offset is_deadline is_cost unless check_element
values_at_their_edges = (
  refl,
  refl,
  row PeriodOutOfRange,
  row PeriodOutOfRange,
  row OffsetOutOfRange,
  row DeadlineOutOfRange,
  row DeadlineOutOfRange,
  row CostOutOfRange,
  row CostOutOfRange,
)

abbrev fillers : ℕ → TaskSet
fillers n = record { count = n; table = replicate 128 filler }

-- k, then the count, then element by element, each for 4, 5, 6, 7
pub refusals_in_order :
    IsRefusal (check_element 0 (every 0 16777217 0 0)) 4 0
    × IsRefusal (check_element 0 (once 16777217 0 0)) 5 0
    × IsRefusal (check_element 0 filler) 6 0
    × IsRefusal (check_elements 0 (once 0 1 1 ∷ once 0 1 0 ∷ once 0 0 1 ∷ [])) 7 1
    × (check_set (fillers 0) ≡ Ok tt)
    × IsRefusal (check_set (fillers 128)) 6 0
    × IsRefusal (check_set (fillers 129)) 3 128
    × (told (check_set (fillers 0)) ≡ record { refusal = 0; place = 0 })
    × (told (check_set (fillers 129)) ≡ record { refusal = 3; place = 128 })
    × (numbers (superposition_answer 0 (fillers 129)) ≡ refused 9 0)
    × (numbers (superposition_answer 1 (fillers 129)) ≡ refused 3 128)
unfolding within is_period is_offset is_deadline is_cost unless check_element check_elements check_set check_k analysis superposition_answer
refusals_in_order = (
  row PeriodOutOfRange,
  row OffsetOutOfRange,
  row DeadlineOutOfRange,
  row CostOutOfRange,
  refl,
  row DeadlineOutOfRange,
  row TooManyElements,
  refl,
  refl,
  refl,
  refl,
)

pub k_at_its_edges : IsRefusal (check_k 0) 9 0 × (check_k 1 ≡ Ok tt) × (check_k 255 ≡ Ok tt) × IsRefusal (check_k 256) 9 0
unfolding within unless check_k
k_at_its_edges = (row KOutOfRange, refl, refl, row KOutOfRange)

-- the first element that brings H above its limit, and neither the largest period nor the last element
pub eight_at_the_first :
    IsRefusal (check_h (λ place. place) (every 32768 0 1 1 ∷ every 11 0 1 1 ∷ every 32767 0 1 1 ∷ every 16777216 0 1 1 ∷ [])) 8 2
unfolding gcd_in gcd lcm least H unless first_above check_h
eight_at_the_first = row HyperperiodAboveLimit
