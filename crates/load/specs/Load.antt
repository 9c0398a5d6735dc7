-- What every analysis starts with: document 01's refusals up to 8, verdict 2, or F, H and Q with load at most one; and D at a length.
use Rattle.std.specs.Prelude.{ℕ, ◌&&◌, cond, List, Result, Ok, Err, leb, ltb}
use Rattle.model.specs.declared.elements.Element.{Element}
use Rattle.model.specs.declared.elements.TaskSet.{TaskSet}
use Rattle.model.specs.declared.answers.Reason.TheVariants.{HyperperiodAboveLimit}
use Rattle.model.specs.declared.answers.Refusal.{Refusal}
use Rattle.model.specs.Answers.{Check}
use Rattle.model.specs.Elements.{most_h, counted, is_legal_set}
use Rattle.model.specs.Demand.{F, H, D, Q}
use Rattle.model.specs.ExactTest.{overload}
use Rattle.model.specs.TurnedAway.{◌then◌, check_set, first_above, check_h}
use Rattle.theory.specs.Sizes.{most_length}
use Rattle.load.specs.declared.overload.Loaded.{Loaded}
use Rattle.load.specs.declared.overload.Loaded.TheVariants.{AboveOne, AtMostOne}

-- H within its limit; or 8, at the first place that brings it above
abbrev pub hyperperiod_of : List Element → Result ℕ Refusal
hyperperiod_of s = cond (leb (H s) most_h) (Ok (H s)) (Err (record { reason = HyperperiodAboveLimit; place = first_above s }))

-- "If Q > H the verdict is 2"; else F, H and Q
abbrev pub by_q : List Element → Loaded
by_q s = let above = overload s in cond (ltb (H s) (Q s)) (AboveOne above) (AtMostOne (F s) (H s) (Q s))

-- a refusal, or the way that a set goes
abbrev pub unless_turned : Check → Loaded → Result Loaded Refusal
unless_turned (Ok u) way = Ok way
unless_turned (Err r) way = Err r

-- WHAT AN ANALYSIS STARTS WITH: "refuses count and values just as the writer does, then 8 at the table place of the first element that brings
-- H there"; then by Q
unfoldable pub loaded_of : TaskSet → Result Loaded Refusal
loaded_of t = let way = by_q (counted t) in unless_turned (check_set t then check_h (λ place. place) (counted t)) way

-- D AT A LENGTH, of a legal set, up to the longest length that a test asks for; 0 elsewhere
unfoldable pub demand_at : TaskSet → ℕ → ℕ
demand_at t I = cond (is_legal_set t && leb I most_length) (D (counted t) I) 0
