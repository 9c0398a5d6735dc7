-- What one element asks for, case by case of its period, and how large that can be. Assumes nothing.
use Prim.Native.Nat.{ℕ, ◌+◌, ◌*◌, ◌-◌, ◌/◌, ◌≤◌}
use mathlib.Core.Path.{◌≡◌, refl, sym, ap, ◌∙◌}
use mathlib.Core.Bool.{true}
use mathlib.Core.List.{List}
use mathlib.Core.Logic.{⊎_elim}
use native.Mathlib.Omega.{arith}
use native.Mathlib.Nat.{mul-le-mul, div-le_self}
use Rattle.model.specs.declared.elements.Period.{Period}
use Rattle.model.specs.declared.elements.Period.TheVariants.{Once, Every}
use Rattle.model.specs.declared.elements.Element.{Element}
use Rattle.model.specs.Number.{gcd, lcm}
use Rattle.model.specs.Over.{sum_over, largest_over}
use Rattle.model.specs.Elements.{most_period, most_cost, most_h, is_period}
use Rattle.model.specs.Demand.{f, F, joined, dues, demand_of, D, turns, load_in}
use Rattle.theory.specs.Growth.{rise_of}
use Rattle.model.proofs.Cases.{lt_or_le}
use Rattle.model.proofs.ElementLaws.{Within, Legal, period_is}
use Rattle.theory.proofs.DemandLaws.{early, late}

-- A PERIOD
module _ (q : Period) (p : ℕ) (eq : q ≡ Every p) where
  pub period_within : is_period q ≡ true → Within 1 most_period p
  period_within h = period_is (Every p) (sym (ap is_period eq) ∙ h)

  pub joined_is : (h : ℕ) → p / gcd p h * h ≡ joined q h
  unfolding lcm
  joined_is h = rw eq

  pub joined_fits : (h : ℕ) → is_period q ≡ true → h ≤ most_h → p / gcd p h * h ≤ 18014398509481984
  joined_fits h l b = mul-le-mul {n₂ = 16777216} {m₂ = 1073741824} (omega (arith, div-le_self p (gcd p h), (period_within l).1)) b

turns_most : (q : Period) (h : ℕ) → turns q h ≤ h
turns_most Once h = omega arith
turns_most (Every p) h = div-le_self h p

-- AN ELEMENT
module _ (e : Element) (l : Legal e) where
  pub rise_most : (h : ℕ) → h ≤ most_h → rise_of h e ≤ 18014398509481984
  rise_most h b = mul-le-mul {n₂ = 16777216} {m₂ = 1073741824} l.cost.1 (omega (arith, turns_most e.period h))

  dues_most : (q : Period) (x : ℕ) → dues q x ≤ x + 1
  dues_most Once x = omega arith
  dues_most (Every p) x = omega (arith, div-le_self x p)

  pub demand_most : (I : ℕ) → f e ≤ I → dues e.period (I - f e) * e.cost ≤ (I + 1) * most_cost
  demand_most I h = mul-le-mul {n₂ = I + 1} {m₂ = most_cost} (omega (arith, dues_most e.period (I - f e))) l.cost.1

  pub demand_of_most : (I : ℕ) → demand_of e I ≤ (I + 1) * most_cost
  demand_of_most I = ⊎_elim (λ h. omega (arith, early e I h)) (λ h. omega (arith, late e I h, demand_most I h)) (lt_or_le I (f e))

module _ (e : Element) (I : ℕ) (h : f e ≤ I) where
  pub demand_once : e.period ≡ Once → e.cost ≡ demand_of e I
  demand_once eq = sym (late e I h ∙ ap (λ q. dues q (I - f e) * e.cost) eq ∙ omega arith)

  pub demand_every : (p : ℕ) → e.period ≡ Every p → ((I - f e) / p + 1) * e.cost ≡ dues e.period (I - f e) * e.cost
  demand_every p eq = sym (ap (λ q. dues q (I - f e) * e.cost) eq)

-- OF A SET, as sums over its elements
module _ (s : List Element) where
  pub load_is : (h : ℕ) → sum_over s (rise_of h) ≡ load_in s h
  unfolding load_in
  load_is h = refl

  pub demand_is : (I : ℕ) → sum_over s (λ e. demand_of e I) ≡ D s I
  unfolding D
  demand_is I = refl

  pub first_is : largest_over s f ≡ F s
  unfolding F
  first_is = refl
