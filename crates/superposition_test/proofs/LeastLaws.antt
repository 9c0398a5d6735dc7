-- What the least of the next lengths is. Assumes nothing.
use Prim.Native.Nat.{ℕ, zero, suc, ◌≤◌, ◌<◌, min}
use mathlib.Core.Path.{◌≡◌}
use mathlib.Core.List.{List, [], ◌∷◌}
use mathlib.Core.Logic.{⊎_elim}
use native.Mathlib.Omega.{arith}
use lib.ListN.{length, get_or}
use Rattle.std.specs.List.{fold}
use Rattle.model.specs.Over.{Each}
use Rattle.model.proofs.Cases.{lt_or_le}
use Rattle.superposition_test.specs.declared.walk.Row.{Row}

abbrev pub least_from : ℕ → List Row → ℕ
least_from b rows = fold (λ best r. min best r.place.next) b rows

-- some row has this length for its next
abbrev pub Attained : List Row → ℕ → Type 0
Attained rows at = (i : ℕ) × (i < length rows) × ((d : Row) → (get_or rows i d).place.next ≡ at)

pub least_below_start : (b : ℕ) (rows : List Row) → least_from b rows ≤ b
least_below_start b [] = omega arith
least_below_start b (r ∷ rows) = omega (arith, least_below_start (min b r.place.next) rows)

pub least_below : (b : ℕ) (rows : List Row) → Each rows (λ r. least_from b rows ≤ r.place.next)
least_below b [] = tt
least_below b (r ∷ rows) = (omega (arith, least_below_start (min b r.place.next) rows), least_below (min b r.place.next) rows)

pub least_attained : (b : ℕ) (rows : List Row) → least_from b rows < b → Attained rows (least_from b rows)
least_attained b [] h = absurd (omega arith)
least_attained b (r ∷ rows) h = ⊎_elim
    (λ (l : least_from (min b r.place.next) rows < min b r.place.next).
    let w = least_attained (min b r.place.next) rows l in (suc w.0, omega (arith, w.1), w.2))
    (λ (l : min b r.place.next ≤ least_from (min b r.place.next) rows).
    let same : r.place.next ≡ least_from (min b r.place.next) rows = omega (arith, least_below_start (min b r.place.next) rows) in
    (zero, omega arith, λ d. same))
    (lt_or_le (least_from (min b r.place.next) rows) (min b r.place.next))
