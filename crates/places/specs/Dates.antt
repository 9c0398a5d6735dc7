-- The places of a set as numbers: a row for each place.
use Rattle.std.specs.Prelude.{ℕ, ◌≡◌, Bool, true, List, ◌++◌, map, length, take, drop}
use Rattle.model.specs.declared.elements.Period.{Period}
use Rattle.model.specs.declared.elements.Period.TheVariants.{Once, Every}
use Rattle.model.specs.declared.elements.Element.{Element}
use Rattle.model.specs.Over.{all_over}
use Rattle.model.specs.Demand.{f}
use Rattle.places.specs.declared.dates.Place.{Place}

-- no bound of the exact test is above this
abbrev pub most_bound : ℕ
most_bound = 2147483648

-- from one date to the next; a single event's step leads past every bound
abbrev pub step_of : Period → ℕ
step_of Once = most_bound
step_of (Every p) = p

abbrev pub step_in : Element → ℕ
step_in e = step_of e.period

-- an element's row: its first due length is its next
abbrev pub place_of : Element → Place
place_of e = record { next = f e; step = step_in e; cost = e.cost }

-- one of the elements passes each test that they all pass
abbrev pub OneOf : List Element → Element → Type 0
OneOf s e = (test : Element → Bool) → all_over s test ≡ true → test e ≡ true

-- rows with that of each element put from their start on, as many as there are rows; other rows stay
unfoldable pub laid : {R : Type 0} → (Element → R) → List Element → List R → List R
laid row s rows = map row (take (length rows) s) ++ drop (length s) rows
