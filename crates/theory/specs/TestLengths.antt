-- The lengths that document 01 names, by place: f + j p, f of a single event; in superposition those up to m; and the test lengths below a bound.
use Rattle.std.specs.Prelude.{ℕ, ◌+◌, ◌*◌, ◌≤◌, ◌<◌, ◌≡◌, List, length, get_or}
use Rattle.model.specs.declared.elements.Period.{Period}
use Rattle.model.specs.declared.elements.Period.TheVariants.{Once, Every}
use Rattle.model.specs.declared.elements.Element.{Element}
use Rattle.model.specs.Elements.{filler}
use Rattle.model.specs.Demand.{f, is_test}
use Rattle.model.specs.ExactTest.{is_overrun, Lengths}
use Rattle.model.specs.Superposition.{m}

abbrev pub IsDate : Period → ℕ → ℕ → Type 0
IsDate Once first I = I ≡ first
IsDate (Every p) first I = (j : ℕ) × (I ≡ first + j * p)

-- the element at this place has I for a test length
abbrev pub IsTestLengthAt : List Element → ℕ → ℕ → Type 0
IsTestLengthAt s place I = (place < length s) × IsDate (get_or s place filler).period (f (get_or s place filler)) I

abbrev pub IsTestLength : List Element → ℕ → Type 0
IsTestLength s I = (place : ℕ) × IsTestLengthAt s place I

abbrev pub IsVisitedLength : ℕ → List Element → ℕ → Type 0
IsVisitedLength k s I = (place : ℕ) × IsTestLengthAt s place I × (I ≤ m k (get_or s place filler))

-- the lengths that a test compares, if it compares the test lengths below this bound
abbrev pub lengths_below : List Element → ℕ → Lengths
lengths_below s bound = record { visited = is_test s; fails = is_overrun s; end = bound }
