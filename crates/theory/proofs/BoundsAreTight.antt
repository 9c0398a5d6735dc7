-- Of the bounds of every_sum_fits on Q and on H D' no bit can be saved: two sets within the limits that need it, computed. Assumes nothing.
use Prim.Native.Nat.{◌^◌}
use mathlib.Core.Path.{◌≡◌, refl}
use mathlib.Core.Bool.{true}
use mathlib.Core.List.{List, ◌∷◌}
use lib.Dec.{leb, ltb}
use lib.ListN.{replicate}
use Rattle.model.specs.declared.elements.Element.{Element}
use Rattle.model.specs.Number.{gcd_in, gcd, lcm}
use Rattle.model.specs.Over.{sum_over, some_over, all_over}
use Rattle.model.specs.Elements.{most_h, within, is_period, is_offset, is_deadline, is_cost, is_legal}
use Rattle.model.specs.Demand.{H, demand_of, load_in, Q, is_test_of}
use Rattle.model.specs.Superposition.{scaled_by, scaled_in, HD', is_visited}
use Rattle.model.specs.Sums.{every, once}

-- 128 elements, of the largest cost, and nearly all of period 1
abbrev pub heavy : List Element
heavy = every 16777216 0 1 16777216 ∷ every 16515072 0 1 16777216 ∷ replicate 126 (every 1 0 1 16777216)

pub load_needs_61_bits : (all_over heavy is_legal ≡ true) × (leb (H heavy) most_h ≡ true) × (ltb (2 ^ 60) (Q heavy) ≡ true)
unfolding gcd_in gcd lcm sum_over all_over within is_period is_offset is_deadline is_cost is_legal H load_in
load_needs_61_bits = (refl, refl, refl)

-- a load of just below one, all costs of 126 events besides, and the longest length that superposition visits with k = 255
abbrev pub late : List Element
late = every 16777216 16777216 16777216 16777214 ∷ every 16515072 0 1 1 ∷ replicate 126 (once 0 1 16777216)

pub scaled_demand_needs_63_bits :
    (all_over late is_legal ≡ true)
    × (leb (H late) most_h ≡ true)
    × (leb (Q late) (H late) ≡ true)
    × (is_visited 255 late 4294967296 ≡ true)
    × (ltb (2 ^ 62) (HD' 255 late 4294967296) ≡ true)
unfolding gcd_in gcd lcm sum_over some_over all_over within is_period is_offset is_deadline is_cost is_legal H demand_of load_in is_test_of scaled_by scaled_in is_visited
scaled_demand_needs_63_bits = (refl, refl, refl, refl, refl)
