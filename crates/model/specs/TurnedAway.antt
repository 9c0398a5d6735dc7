-- Document 01, "What is turned away": the refusals of an analysis of a set in memory, and its answer.
use Rattle.std.specs.Prelude.{ℕ, suc, Bool, cond, List, [], ◌∷◌, leb, ltb, length, take, Ok, Err}
use Rattle.model.specs.declared.elements.Element.{Element}
use Rattle.model.specs.declared.elements.TaskSet.{TaskSet}
use Rattle.model.specs.declared.answers.Reason.{Reason}
use Rattle.model.specs.declared.answers.Reason.TheVariants.{TooManyElements, PeriodOutOfRange, OffsetOutOfRange, DeadlineOutOfRange, CostOutOfRange, HyperperiodAboveLimit, KOutOfRange}
use Rattle.model.specs.declared.answers.Verdict.{Verdict}
use Rattle.model.specs.Answers.{Answer, Check}
use Rattle.model.specs.Number.{least}
use Rattle.model.specs.Elements.{places, most_h, most_k, within, is_period, is_offset, is_deadline, is_cost, counted}
use Rattle.model.specs.Demand.{H}
use Rattle.model.specs.ExactTest.{exact}
use Rattle.model.specs.Superposition.{superposition}

infixr 20 ◌then◌
-- for this reason, at this place
abbrev pub turned : Reason → ℕ → Check
turned reason place = Err (record { reason = reason; place = place })

unfoldable pub unless : Bool → Reason → ℕ → Check
unless passes reason place = cond passes (Ok tt) (turned reason place)

-- the checks in order: the first that turns away decides
abbrev pub ◌then◌ : Check → Check → Check
Ok u then c = c
Err r then c = Err r

-- 4 to 7: period, offset, deadline, cost out of range
unfoldable pub check_element : ℕ → Element → Check
check_element place e =
    unless (is_period e.period) PeriodOutOfRange place
    then unless (is_offset e.offset) OffsetOutOfRange place
    then unless (is_deadline e.deadline) DeadlineOutOfRange place
    then unless (is_cost e.cost) CostOutOfRange place

-- "element by element", from a table place on
unfoldable pub check_elements : ℕ → List Element → Check
check_elements place [] = Ok tt
check_elements place (e ∷ s) = check_element place e then check_elements (suc place) s

-- "refuses a count above 128 by 3 with place 128, then bad values by 4 to 7 with the element's place in the table"
unfoldable pub check_set : TaskSet → Check
check_set t = unless (leb t.count places) TooManyElements places then check_elements 0 (counted t)

-- 8: "H above its limit", at the place of "the first element that brings H there"
unfoldable pub first_above : List Element → ℕ
first_above s = least (λ i. ltb most_h (H (take (suc i) s))) (length s)

unfoldable pub check_h : (ℕ → ℕ) → List Element → Check
check_h place_of s = unless (leb (H s) most_h) HyperperiodAboveLimit (place_of (first_above s))

-- 9: "k out of range", place 0
unfoldable pub check_k : ℕ → Check
check_k k = unless (within 1 most_k k) KOutOfRange 0

-- a refusal, or the verdict
abbrev pub answered : Check → Verdict → Answer
answered (Ok u) v = Ok v
answered (Err r) v = Err r

-- THE ANSWER OF AN ANALYSIS of the elements s: what is checked before 8, then 8, then the verdict. place_of gives the place of a table place. What
-- document 01 has after 8, its 11, is not looked for (request 2026-07): no number is too large (theory's every_sum_fits)
unfoldable pub analysis : Check → (ℕ → ℕ) → (List Element → Verdict) → List Element → Answer
analysis before place_of verdict s =
    let v = verdict s in
    answered (before then check_h place_of s) v

-- "An analysis given a set in memory refuses count and values just as the writer does, then 8 at the table place of the first element that
-- brings H there"
unfoldable pub exact_answer : TaskSet → Answer
exact_answer t = analysis (check_set t) (λ place. place) exact (counted t)

-- "Superposition looks at k first."
unfoldable pub superposition_answer : ℕ → TaskSet → Answer
superposition_answer k t = analysis (check_k k then check_set t) (λ place. place) (superposition k) (counted t)
