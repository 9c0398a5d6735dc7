-- Document 01, "Elements": its table of allowed values, the filler, the set in memory, and sets that are the same.
use Rattle.std.specs.Prelude.{ℕ, ◌-◌, ◌≡◌, Bool, true, ◌&&◌, List, [], ◌++◌, leb, length, take, replicate}
use Rattle.model.specs.declared.elements.Period.{Period}
use Rattle.model.specs.declared.elements.Period.TheVariants.{Once, Every}
use Rattle.model.specs.declared.elements.Element.{Element}
use Rattle.model.specs.declared.elements.TaskSet.{TaskSet}
use Rattle.model.specs.Over.{all_over}

-- THE TABLE OF ALLOWED VALUES
-- "period: 1 to 16,777,216"
abbrev pub most_period : ℕ
most_period = 16777216

-- "offset: 0 to 16,777,216"
abbrev pub most_offset : ℕ
most_offset = 16777216

-- "deadline: 1 to 16,777,216, also above the period"
abbrev pub most_deadline : ℕ
most_deadline = 16777216

-- "cost: 1 to 16,777,216, also above the period or deadline"
abbrev pub most_cost : ℕ
most_cost = 16777216

-- "elements in a set: 0 to 128"; "a set in memory is a count and a table of 128 places"
abbrev pub places : ℕ
places = 128

-- "hyperperiod H: at most 1,073,741,824"
abbrev pub most_h : ℕ
most_h = 1073741824

-- "k: 1 to 255"
abbrev pub most_k : ℕ
most_k = 255

-- from low to high
unfoldable pub within : ℕ → ℕ → ℕ → Bool
within low high x = leb low x && leb x high

-- "No number stands for 'no period'; a period of 0 is refused."
unfoldable pub is_period : Period → Bool
is_period Once = true
is_period (Every p) = within 1 most_period p

unfoldable pub is_offset : ℕ → Bool
is_offset a = within 0 most_offset a

unfoldable pub is_deadline : ℕ → Bool
is_deadline d = within 1 most_deadline d

unfoldable pub is_cost : ℕ → Bool
is_cost c = within 1 most_cost c

-- A LEGAL ELEMENT keeps to each row that it has
unfoldable pub is_legal : Element → Bool
is_legal e = is_period e.period && is_offset e.offset && is_deadline e.deadline && is_cost e.cost

-- every one of these elements is legal
abbrev pub AllLegal : List Element → Type 0
AllLegal s = all_over s is_legal ≡ true

-- "Places past the count hold a single event of all zeros [..]; such a filler is no legal element."
abbrev pub filler : Element
filler = record { period = Once; offset = 0; deadline = 0; cost = 0 }

-- the counted places of a set, in table order: all that a definition reads of a set besides its count
abbrev pub counted : TaskSet → List Element
counted t = take t.count t.table

-- A LEGAL SET
unfoldable pub is_legal_set : TaskSet → Bool
is_legal_set t = leb t.count places && all_over (counted t) is_legal

-- these elements as a set in memory, with fillers past the count
abbrev pub set_of : List Element → TaskSet
set_of s = record { count = length s; table = s ++ replicate (places - length s) filler }

abbrev pub empty_set : TaskSet
empty_set = set_of []

-- "Two sets are the same when their counts and counted places agree."
pub record Same (t u : TaskSet) : Type 0 where
  pub counts : t.count ≡ u.count
  pub elements : counted t ≡ counted u
