-- The answer for elements that are known to be legal; and 8 moved from its table place to its kind byte.
use Rattle.std.specs.Prelude.{ℕ, ◌≤◌, ◌≡◌, List, Ok, Err}
use Rattle.model.specs.declared.elements.Element.{Element}
use Rattle.model.specs.declared.elements.TaskSet.{TaskSet}
use Rattle.model.specs.declared.answers.Reason.{Reason}
use Rattle.model.specs.declared.answers.Reason.TheVariants.{HyperperiodAboveLimit}
use Rattle.model.specs.declared.answers.Refusal.{Refusal}
use Rattle.model.specs.declared.answers.Verdict.{Verdict}
use Rattle.model.specs.Answers.{Answer}
use Rattle.model.specs.Elements.{places, counted}
use Rattle.model.specs.TurnedAway.{check_set, analysis}
use Rattle.wire.specs.Reading.{check_records, elements_in}
use Rattle.analysis.specs.InBytes.{kind_byte}

-- 8 at the table place, then the verdict
abbrev pub answer_of : (List Element → Verdict) → List Element → Answer
answer_of verdict s = analysis (Ok tt) (λ place. place) verdict s

-- a test, whatever its verdict, of a set in memory, and of a set as bytes
abbrev pub of_set : (List Element → Verdict) → TaskSet → Answer
of_set verdict t = analysis (check_set t) (λ place. place) verdict (counted t)

abbrev pub of_bytes : (List Element → Verdict) → List ℕ → Answer
of_bytes verdict b = analysis (check_records places 0 b) (kind_byte b) verdict (elements_in places b)

-- 8 at its kind byte, each other refusal where it is
abbrev pub place_in_bytes : List ℕ → Reason → ℕ → ℕ
place_in_bytes b HyperperiodAboveLimit place = kind_byte b place
place_in_bytes b reason place = place

abbrev pub refusal_in_bytes : List ℕ → Refusal → Refusal
refusal_in_bytes b r = record { reason = r.reason; place = place_in_bytes b r.reason r.place }

abbrev pub in_bytes : List ℕ → Answer → Answer
in_bytes b (Err r) = Err (refusal_in_bytes b r)
in_bytes b (Ok v) = Ok v

-- a refusal by 8 names one of n places, or the one after them
abbrev pub Placed : ℕ → Answer → Type 0
Placed n (Err r) = r.reason ≡ HyperperiodAboveLimit → r.place ≤ n
Placed n (Ok v) = Unit {0}
