-- H is the least common multiple of the periods: a multiple of each, a divisor of every common multiple, and at least 1. Assumes nothing.
use Prim.Native.Nat.{ℕ, ◌≤◌, ◌<◌, ◌∣◌}
use mathlib.Core.List.{List, [], ◌∷◌}
use native.Mathlib.Omega.{arith}
use native.Mathlib.Nat.{dvd_trans, dvd_refl, one-dvd}
use Rattle.model.specs.declared.elements.Period.{Period}
use Rattle.model.specs.declared.elements.Period.TheVariants.{Once, Every}
use Rattle.model.specs.declared.elements.Element.{Element}
use Rattle.model.specs.Over.{Each}
use Rattle.model.specs.Elements.{AllLegal}
use Rattle.model.specs.Demand.{joined, H}
use Rattle.theory.specs.Multiples.{Divides, CommonMultiple}
use Rattle.model.proofs.NumberLaws.{lcm_left, lcm_right, lcm_least, lcm_positive}
use Rattle.model.proofs.OverLaws.{each_map}
use Rattle.model.proofs.ElementLaws.{Runs, Legal, all_legal}

-- ONE PERIOD MORE
joined_positive : (q : Period) (h : ℕ) → Runs q → 0 < h → 0 < joined q h
joined_positive Once h r k = k
joined_positive (Every p) h r k = lcm_positive p h r.0 k

pub joined_left : (q : Period) (h : ℕ) → Runs q → Divides q (joined q h)
joined_left Once h r = tt
joined_left (Every p) h r = lcm_left p h r.0

pub joined_right : (q : Period) (h : ℕ) → h ∣ joined q h
joined_right Once h = dvd_refl h
joined_right (Every p) h = lcm_right p h

pub joined_least : (q : Period) (h n : ℕ) → Runs q → Divides q n → h ∣ n → joined q h ∣ n
joined_least Once h n r k d = d
joined_least (Every p) h n r k d = lcm_least p h n r.0 k d

pub divides_trans : (q : Period) (h n : ℕ) → h ∣ n → Divides q h → Divides q n
divides_trans Once h n d k = tt
divides_trans (Every p) h n d k = dvd_trans p k d

-- ALL
pub positive : (s : List Element) → Each s Legal → 1 ≤ H s
unfolding H
positive [] l = omega arith
positive (e ∷ s) l = joined_positive e.period (H s) l.0.period (positive s l.1)

pub multiple : (s : List Element) → Each s Legal → CommonMultiple s (H s)
unfolding H
multiple [] l = tt
multiple (e ∷ s) l = (
  joined_left e.period (H s) l.0.period,
  each_map s (λ e₁ d. divides_trans e₁.period (H s) _ (joined_right e.period (H s)) d) (multiple s l.1),
)

pub divisor : (s : List Element) (n : ℕ) → Each s Legal → CommonMultiple s n → H s ∣ n
unfolding H
divisor [] n l c = one-dvd n
divisor (e ∷ s) n l c = joined_least e.period (H s) n l.0.period c.0 (divisor s n l.1 c.1)

-- THEOREM: H is at least 1, a multiple of every period, and divides every common multiple
module _ (s : List Element) (legal : AllLegal s) where
  pub hyperperiod_is_positive : 1 ≤ H s
  hyperperiod_is_positive = positive s (all_legal s legal)

  pub hyperperiod_is_common_multiple : CommonMultiple s (H s)
  hyperperiod_is_common_multiple = multiple s (all_legal s legal)

  pub hyperperiod_divides_common_multiples : (n : ℕ) → CommonMultiple s n → H s ∣ n
  hyperperiod_divides_common_multiples n c = divisor s n (all_legal s legal) c
