-- Document 01, "Superposition", with k test points for each periodic element.
use Rattle.std.specs.Prelude.{ℕ, suc, ◌+◌, ◌*◌, ◌-◌, ◌/◌, Bool, ◌&&◌, cond, List, leb, ltb}
use Rattle.model.specs.declared.elements.Period.{Period}
use Rattle.model.specs.declared.elements.Period.TheVariants.{Once, Every}
use Rattle.model.specs.declared.elements.Element.{Element}
use Rattle.model.specs.declared.answers.Verdict.{Verdict}
use Rattle.model.specs.declared.answers.Verdict.TheVariants.{NotShown}
use Rattle.model.specs.Over.{sum_over, largest_over, some_over}
use Rattle.model.specs.Demand.{f, H, demand_of, is_test_of}
use Rattle.model.specs.ExactTest.{Lengths, comparing, by_load}

-- from f to m
abbrev pub exact_part : Period → ℕ → ℕ
exact_part Once k = 0
exact_part (Every p) k = (k - 1) * p

-- "For a periodic element, m = f + (k - 1) p." A single event's only length is f
abbrev pub m : ℕ → Element → ℕ
m k e = f e + exact_part e.period k

-- "Approximated demand equals exact demand up to m; past m it is k c + c (I - m) / p, a fraction, kept exactly by scaling with H.
-- Single events are never approximated." Here scaled with h, a common multiple of the periods
unfoldable pub scaled_by : Period → ℕ → ℕ → Element → ℕ → ℕ
scaled_by Once k h e I = h * demand_of e I
scaled_by (Every p) k h e I = cond (leb I (m k e)) (h * demand_of e I) (h * (k * e.cost) + e.cost * (I - m k e) * (h / p))

unfoldable pub scaled_in : ℕ → ℕ → List Element → ℕ → ℕ
scaled_in k h s I = sum_over s (λ e. scaled_by e.period k h e I)

-- "D' is the sum.": H times D'(I)
abbrev pub HD' : ℕ → List Element → ℕ → ℕ
HD' k s I = scaled_in k (H s) s I

-- D'(I) > I
unfoldable pub is_above : ℕ → List Element → ℕ → Bool
is_above k s I = ltb (H s * I) (HD' k s I)

-- "the distinct lengths f, f + p, up to m of every periodic element and f of every single event"
unfoldable pub is_visited : ℕ → List Element → ℕ → Bool
is_visited k s I = some_over s (λ e. is_test_of e I && leb I (m k e))

-- "Otherwise the distinct lengths [..] are compared in rising order. At the first with D'(I) > I the verdict is 3." None is above the largest m
abbrev pub superposition_lengths : ℕ → List Element → Lengths
superposition_lengths k s = record { visited = is_visited k s; fails = is_above k s; end = suc (largest_over s (m k)) }

-- "If Q > H the answer is the exact test's verdict 2, count 0. Otherwise [..] 3, 'not shown', with that I and the exact D(I)."
unfoldable pub superposition : ℕ → List Element → Verdict
superposition k s = let compared = comparing s NotShown (superposition_lengths k s) in by_load s compared
