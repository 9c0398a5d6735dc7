-- The elements as places with their next dates: what each place is, and a date that is put. Assumes nothing.
use Prim.Native.Nat.{ℕ, zero, suc, ◌<◌}
use mathlib.Core.Path.{◌≡◌, refl, ap}
use mathlib.Core.List.{List, [], ◌∷◌, map}
use native.Mathlib.Omega.{arith}
use lib.ListN.{length, get_or, set}
use Rattle.model.specs.declared.elements.Element.{Element}
use Rattle.model.specs.Elements.{filler}
use Rattle.model.specs.Demand.{f}
use Rattle.places.specs.Dates.{place_of}
use Rattle.exact_test.specs.Segments.{at_date, place_at, dated}

pub dated_long : (s : List Element) (next : List ℕ) → length (dated s next) ≡ length s
unfolding dated
dated_long [] next = refl
dated_long (e ∷ s) [] = ap suc (dated_long s [])
dated_long (e ∷ s) (x ∷ next) = ap suc (dated_long s next)

pub dated_at :
    (s : List Element) (next : List ℕ) (i : ℕ) → i < length s →
    place_at (dated s next) i ≡ at_date (place_of (get_or s i filler)) (get_or next i 0)
unfolding dated
dated_at [] next i h = absurd (omega arith)
dated_at (e ∷ s) next zero h = refl
dated_at (e ∷ s) [] (suc i) h = dated_at s [] i (omega arith)
dated_at (e ∷ s) (x ∷ next) (suc i) h = dated_at s next i (omega arith)

pub dated_set :
    (s : List Element) (next : List ℕ) (i x : ℕ) → i < length s → i < length next →
    set (dated s next) i (at_date (place_of (get_or s i filler)) x) ≡ dated s (set next i x)
unfolding dated
dated_set [] next i x h l = absurd (omega arith)
dated_set (e ∷ s) [] i x h l = absurd (omega arith)
dated_set (e ∷ s) (y ∷ next) zero x h l = refl
dated_set (e ∷ s) (y ∷ next) (suc i) x h l = ap (λ ps. at_date (place_of e) y ∷ ps) (dated_set s next i x (omega arith) (omega arith))

-- at the start each has its first date
pub dated_first : (s : List Element) → dated s (map f s) ≡ map place_of s
unfolding dated
dated_first [] = refl
dated_first (e ∷ s) = ap (λ ps. place_of e ∷ ps) (dated_first s)
