-- A verdict that is given comes after every check and is the test's own, and a set whose count and values are fine is legal: so the theorems about legal
-- elements hold of every verdict given. Assumes nothing.
use Prim.Native.Nat.{ℕ, ◌≤◌}
use mathlib.Core.Path.{◌≡◌, refl}
use mathlib.Core.List.{List}
use native.Mathlib.Omega.{arith}
use lib.ListN.{length, length-take}
use Rattle.std.specs.Prelude.{Ok, Err}
use Rattle.model.specs.declared.elements.Element.{Element}
use Rattle.model.specs.declared.elements.TaskSet.{TaskSet}
use Rattle.model.specs.declared.answers.Verdict.{Verdict}
use Rattle.model.specs.Answers.{Check}
use Rattle.model.specs.Elements.{places, AllLegal, counted}
use Rattle.model.specs.TurnedAway.{check_set, check_h, answered, analysis}
use Rattle.model.proofs.ElementLaws.{legal_set}
use Rattle.model.proofs.TurnedAwayLaws.{then_fine, set_fine}

given_fine : (c : Check) (w v : Verdict) → answered c w ≡ Ok v → (c ≡ Ok tt) × (v ≡ w)
given_fine (Ok tt) w v h = (refl, cc)
given_fine (Err r) w v h = absurd (let z : ◌≡◌ {A = ℕ} 0 1 = cc in omega arith)

-- a verdict comes after every check, and is the test's own
pub verdict_is :
    (before : Check) (place_of : ℕ → ℕ) (verdict : List Element → Verdict) (s : List Element) (v : Verdict) →
    analysis before place_of verdict s ≡ Ok v → (before ≡ Ok tt) × (check_h place_of s ≡ Ok tt) × (v ≡ verdict s)
unfolding analysis
verdict_is before place_of verdict s v h =
    let g = given_fine _ (verdict s) v h in
    let b = (then_fine before (check_h place_of s)).0 g.0 in
    (b.0, b.1, g.1)

-- a set whose count and values are fine
pub fine_is_legal : (t : TaskSet) → check_set t ≡ Ok tt → AllLegal (counted t) × (length (counted t) ≤ places)
fine_is_legal t h =
    let g = (legal_set t).0 ((set_fine t).0 h) in
    (g.1, omega (arith, g.0, length-take t.count t.table))
