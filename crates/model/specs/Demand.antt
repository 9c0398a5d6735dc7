-- Document 01, "Demand". A set is here the list s of its counted elements; I is a length.
use Rattle.std.specs.Prelude.{ℕ, ◌+◌, ◌*◌, ◌-◌, ◌/◌, ◌%◌, Bool, ◌&&◌, cond, List, [], ◌∷◌, leb, ltb, eqb}
use Rattle.model.specs.declared.elements.Period.{Period}
use Rattle.model.specs.declared.elements.Period.TheVariants.{Once, Every}
use Rattle.model.specs.declared.elements.Element.{Element}
use Rattle.model.specs.Number.{lcm}
use Rattle.model.specs.Over.{sum_over, largest_over, some_over}

-- "f = a + d is an element's first due length."
abbrev pub f : Element → ℕ
f e = e.offset + e.deadline

-- "F is the largest f, 0 for the empty set."
unfoldable pub F : List Element → ℕ
F s = largest_over s f

-- the least common multiple of a period, if it is one, and h
abbrev pub joined : Period → ℕ → ℕ
joined Once h = h
joined (Every p) h = lcm p h

-- "H is the least common multiple of all periods, 1 when there are none."
unfoldable pub H : List Element → ℕ
H [] = 1
H (e ∷ s) = joined e.period (H s)

-- how often an element has been due, x ticks after the first time
abbrev pub dues : Period → ℕ → ℕ
dues Once x = 1
dues (Every p) x = x / p + 1

-- "Demand of a periodic element at length I: 0 when I < f, else (floor((I - f) / p) + 1) times c. Of a single event: 0 when I < f, else c."
unfoldable pub demand_of : Element → ℕ → ℕ
demand_of e I = cond (ltb I (f e)) 0 (dues e.period (I - f e) * e.cost)

-- "D(I) is the sum over the set."
unfoldable pub D : List Element → ℕ → ℕ
D s I = sum_over s (λ e. demand_of e I)

-- h / p of a periodic element; a single event has no part in it
abbrev pub turns : Period → ℕ → ℕ
turns Once h = 0
turns (Every p) h = h / p

-- the sum of c times h / p over periodic elements
unfoldable pub load_in : List Element → ℕ → ℕ
load_in s h = sum_over s (λ e. e.cost * turns e.period h)

-- "Q is the sum of c times H / p over periodic elements. Load above one means Q > H."
abbrev pub Q : List Element → ℕ
Q s = load_in s (H s)

-- x is 0, p, 2p and so on; 0 alone for a single event
abbrev pub on_date : Period → ℕ → Bool
on_date Once x = eqb x 0
on_date (Every p) x = eqb (x % p) 0

-- "Test lengths are f + j p for every j from 0, and f for a single event."
unfoldable pub is_test_of : Element → ℕ → Bool
is_test_of e I = leb (f e) I && on_date e.period (I - f e)

unfoldable pub is_test : List Element → ℕ → Bool
is_test s I = some_over s (λ e. is_test_of e I)
