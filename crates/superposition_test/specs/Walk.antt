-- What the parts of the superposition walk promise one another.
use Rattle.std.specs.Prelude.{ℕ, ◌+◌, ◌≤◌, ◌≡◌, min, Bool, cond, List, map, fold, sum_by, ltb, eqb, length, Result, Ok, Err}
use Rattle.model.specs.declared.elements.Element.{Element}
use Rattle.model.specs.declared.answers.Verdict.{Verdict}
use Rattle.model.specs.declared.answers.Verdict.TheVariants.{Passes, NotShown}
use Rattle.model.specs.Over.{Each}
use Rattle.model.specs.Elements.{most_cost, places, most_h, most_k}
use Rattle.model.specs.Demand.{H, D, Q}
use Rattle.model.specs.Superposition.{m}
use Rattle.theory.specs.Growth.{rise_of}
use Rattle.theory.specs.Sizes.{most_length}
use Rattle.places.specs.Dates.{most_bound, place_of}
use Rattle.superposition_test.specs.declared.walk.Row.{Row}
use Rattle.superposition_test.specs.declared.walk.Moved.{Moved}
use Rattle.superposition_test.specs.declared.walk.HeldBack.{HeldBack}

-- "none left"
abbrev pub none : ℕ
none = 18446744073709551615

-- what superposition is given with load at most one: besides a legal set, its k, and H
pub record Walkable (s : List Element) (k h : ℕ) : Type 0 where
  pub low : 1 ≤ k
  pub high : k ≤ most_k
  pub hyperperiod : h ≡ H s
  pub small : h ≤ most_h
  pub load : Q s ≤ h

-- an element's row as the walk begins: its place, its m, and c times h / p
abbrev pub row_of : ℕ → ℕ → Element → Row
row_of k h e = record { place = place_of e; last = m k e; rise = rise_of h e }

abbrev pub unused : Row
unused = record { place = record { next = 0; step = 0; cost = 0 }; last = 0; rise = 0 }

-- no element adds more than this to the slope: the largest cost times the largest H
abbrev pub most_rise : ℕ
most_rise = 18014398509481984

-- what the numbers keep to where rows move on
pub record Small (r : Row) : Type 0 where
  pub step : r.place.step ≤ most_bound
  pub cost : r.place.cost ≤ most_cost
  pub rise : r.rise ≤ most_rise

pub record Movable (rows : List Row) (at : ℕ) : Type 0 where
  pub few : length rows ≤ places
  pub small : Each rows Small
  pub low : at ≤ most_length

-- the least of their next lengths, none left where there is none
abbrev pub least_next : List Row → ℕ
least_next rows = fold (λ best r. min best r.place.next) none rows

-- whether a row has this length for its next
abbrev pub has : ℕ → Row → Bool
has at r = eqb r.place.next at

-- the next length after one that a row has
abbrev pub on_from : ℕ → ℕ → ℕ → ℕ
on_from at step last = cond (ltb at last) (at + step) none

-- what a row then adds to the slope
abbrev pub rise_from : ℕ → ℕ → ℕ → ℕ
rise_from at last rise = cond (ltb at last) 0 rise

-- "moves on every place that has it": a row after that, the cost due in it, and what the slope rises by
abbrev pub moved_on : ℕ → Row → Row
moved_on at r = record r { place = record r.place { next = cond (has at r) (on_from at r.place.step r.last) r.place.next } }

abbrev pub due_in : ℕ → Row → ℕ
due_in at r = cond (has at r) r.place.cost 0

abbrev pub rise_in : ℕ → Row → ℕ
rise_in at r = cond (has at r) (rise_from at r.last r.rise) 0

pub record MovedOn (at : ℕ) (before after : List Row) (moved : Moved) : Type 0 where
  pub rows : after ≡ map (moved_on at) before
  pub due : moved.cost ≡ sum_by (due_in at) before
  pub slope : moved.rise ≡ sum_by (rise_in at) before
  pub next : moved.next ≡ least_next after

-- the verdict of what the walk answers
abbrev pub told : List Element → Result ℕ HeldBack → Verdict
told s (Ok count) = Passes count
told s (Err x) = NotShown x.interval (D s x.interval) x.count
