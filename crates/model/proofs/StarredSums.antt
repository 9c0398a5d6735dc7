-- THEOREM: the starred sums hold. All but S1 for every k are computed. Assumes nothing.
use mathlib.Core.Path.{refl}
use borrow.Author.Tests.{le-leb}
use Rattle.model.specs.Number.{gcd_in, gcd, lcm, least, how_many}
use Rattle.model.specs.Over.{sum_over, largest_over, some_over, all_over, Each}
use Rattle.model.specs.Elements.{most_k, within, is_period, is_offset, is_deadline, is_cost}
use Rattle.model.specs.Demand.{F, H, demand_of, D, load_in, is_test_of, is_test}
use Rattle.model.specs.ExactTest.{is_overrun, multiple, overload_at, overload, failing, stop, comparing, by_load, exact}
use Rattle.model.specs.Superposition.{scaled_by, scaled_in, is_above, is_visited, superposition}
use Rattle.model.specs.TurnedAway.{unless, check_element, check_elements, check_set, first_above, check_h, check_k, analysis, exact_answer, superposition_answer}
use Rattle.model.specs.Sums.{Holds, sums}

infixr 20 ◌&◌
◌&◌ : {A B : Type 0} → A → B → A × B
a & b = (a, b)

pub starred_sums : Each sums Holds
unfolding gcd_in gcd lcm least how_many sum_over largest_over some_over all_over within is_period is_offset is_deadline is_cost F H demand_of D load_in is_test_of is_test is_overrun multiple overload_at overload failing stop comparing by_load exact scaled_by scaled_in is_above is_visited superposition unless check_element check_elements check_set first_above check_h check_k analysis exact_answer superposition_answer
starred_sums =
    refl & (λ k low high. rw (le-leb 1 k low, le-leb k most_k high)) & refl & refl & refl & refl & refl & refl & refl & refl & refl & refl & refl & refl & refl & refl & refl & (refl, refl) & (refl, refl) & tt
