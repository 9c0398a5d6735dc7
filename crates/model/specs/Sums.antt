-- Document 01, "Sums for the blackboard": the starred ones, as one table. "Periodic elements as (p, a, d, c), single events as once (a, d, c).
-- Answers are verdict, interval, demand, count."
use Rattle.std.specs.Prelude.{ℕ, ◌≤◌, ◌≡◌, List, [], ◌∷◌, Ok}
use Rattle.model.specs.declared.elements.Period.TheVariants.{Once, Every}
use Rattle.model.specs.declared.elements.Element.{Element}
use Rattle.model.specs.Elements.{most_k, set_of}
use Rattle.model.specs.Demand.{H, D}
use Rattle.model.specs.declared.answers.Numbers.{Numbers}
use Rattle.model.specs.Answers.{refused, given, numbers}
use Rattle.model.specs.TurnedAway.{◌then◌, check_set, check_h, exact_answer, superposition_answer}

abbrev pub every : ℕ → ℕ → ℕ → ℕ → Element
every p a d c = record { period = Every p; offset = a; deadline = d; cost = c }

abbrev pub once : ℕ → ℕ → ℕ → Element
once a d c = record { period = Once; offset = a; deadline = d; cost = c }

abbrev pub shows : ℕ → ℕ → ℕ → ℕ → Numbers
shows v i d n = given (record { verdict = v; interval = i; demand = d; count = n })

-- what a sum says
pub data Sum : Type 0 where
  exactly : List Element → Numbers → Sum
  with_k : ℕ → List Element → Numbers → Sum
  any_k : List Element → Numbers → Sum
  demand_at : ℕ → List Element → ℕ → Sum
  taken_with : ℕ → List Element → Sum
  refused_with : ℕ → List Element → Numbers → Sum

abbrev pub Holds : Sum → Type 0
Holds (exactly s a) = numbers (exact_answer (set_of s)) ≡ a
Holds (with_k k s a) = numbers (superposition_answer k (set_of s)) ≡ a
Holds (any_k s a) = (k : ℕ) → 1 ≤ k → k ≤ most_k → numbers (superposition_answer k (set_of s)) ≡ a
Holds (demand_at I s d) = D s I ≡ d
Holds (taken_with h s) = (H s ≡ h) × ((check_set (set_of s) then check_h (λ place. place) s) ≡ Ok tt)
Holds (refused_with h s a) = (H s ≡ h) × (numbers (exact_answer (set_of s)) ≡ a)

-- THE SETS. S1 is the empty one; S11 has two
abbrev pub S1 : List Element
S1 = []

abbrev pub S2 : List Element
S2 = every 4 0 2 2 ∷ []

abbrev pub S3 : List Element
S3 = every 4 0 2 3 ∷ []

abbrev pub S4 : List Element
S4 = every 2 0 2 1 ∷ every 4 0 4 2 ∷ []

abbrev pub S5 : List Element
S5 = every 2 0 2 1 ∷ every 4 0 4 3 ∷ []

abbrev pub S6 : List Element
S6 = every 4 0 8 5 ∷ []

abbrev pub S7 : List Element
S7 = every 10 0 2 2 ∷ once 0 11 8 ∷ []

abbrev pub S8 : List Element
S8 = every 5 0 5 1 ∷ every 5 0 5 1 ∷ []

abbrev pub S9 : List Element
S9 = every 10 3 4 5 ∷ []

abbrev pub S11_taken : List Element
S11_taken = every 32767 0 1 1 ∷ every 32768 0 1 1 ∷ []

abbrev pub S11_refused : List Element
S11_refused = every 32768 0 1 1 ∷ every 32769 0 1 1 ∷ []

abbrev pub sums : List Sum
sums =
    exactly S1 (shows 0 0 0 0) ∷
    any_k S1 (shows 0 0 0 0) ∷
    exactly S2 (shows 0 0 0 1) ∷
    with_k 1 S2 (shows 0 0 0 1) ∷
    exactly S3 (shows 1 2 3 1) ∷
    with_k 1 S3 (shows 3 2 3 1) ∷
    exactly S4 (shows 0 0 0 3) ∷
    with_k 1 S4 (shows 0 0 0 2) ∷
    exactly S5 (shows 2 4 5 0) ∷
    exactly S6 (shows 2 24 25 0) ∷
    demand_at 20 S6 20 ∷
    exactly S7 (shows 0 0 0 3) ∷
    with_k 1 S7 (shows 3 11 10 2) ∷
    with_k 2 S7 (shows 0 0 0 3) ∷
    with_k 100 S7 (shows 0 0 0 101) ∷
    exactly S8 (shows 0 0 0 1) ∷
    exactly S9 (shows 0 0 0 1) ∷
    taken_with 1073709056 S11_taken ∷
    refused_with 1073774592 S11_refused (refused 8 1) ∷
    []
