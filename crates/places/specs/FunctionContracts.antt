-- The contracts of this crate's public functions: what each says of what it was given, of what it returns, r, and of the rows after it.
use Rattle.std.specs.Prelude.{◌≡◌, List}
use Rattle.model.specs.declared.elements.Element.{Element}
use Rattle.places.specs.declared.dates.Place.{Place}
use Rattle.places.specs.Dates.{place_of, laid}

abbrev pub PlaceOfSays : Element → Place → Type 0
PlaceOfSays e r = r ≡ place_of e

-- of how a row is made, the elements, and the rows
abbrev pub LaySays : {R : Type 0} → (Element → R) → List Element → List R → List R → Type 0
LaySays made s rows rows' = rows' ≡ laid made s rows
