-- What demand grows by in a tick.
use Rattle.std.specs.Prelude.{ℕ, ◌*◌, Bool, ◌&&◌, cond, List, leb, ltb}
use Rattle.model.specs.declared.elements.Element.{Element}
use Rattle.model.specs.Over.{sum_over}
use Rattle.model.specs.Demand.{turns, is_test_of}
use Rattle.model.specs.Superposition.{m}

-- the cost of the elements that pass a test
unfoldable pub cost_of : List Element → (Element → Bool) → ℕ
cost_of s t = sum_over s (λ e. cond (t e) e.cost 0)

-- the cost due at I: of the elements that have I for a test length
abbrev pub due_at : List Element → ℕ → ℕ
due_at s I = cost_of s (λ e. is_test_of e I)

-- in superposition, of those whose dates are exact up to I
abbrev pub is_visited_by : ℕ → ℕ → Element → Bool
is_visited_by k I e = is_test_of e I && leb I (m k e)

abbrev pub visited_due_at : ℕ → List Element → ℕ → ℕ
visited_due_at k s I = cost_of s (is_visited_by k I)

-- I is its m: the last of them
abbrev pub is_last_by : ℕ → ℕ → Element → Bool
is_last_by k I e = is_visited_by k I e && leb (m k e) I

-- what the line of an element rises in a tick past m, scaled with h; and the lines of all elements at I
abbrev pub rise_of : ℕ → Element → ℕ
rise_of h e = e.cost * turns e.period h

unfoldable pub slope : ℕ → ℕ → List Element → ℕ → ℕ
slope k h s I = sum_over s (λ e. cond (ltb I (m k e)) 0 (rise_of h e))
