-- What is said over a list's elements in the words of std. Assumes nothing.
use Prim.Native.Nat.{ℕ, ◌<◌, max}
use mathlib.Core.Path.{◌≡◌, refl, ◌∙◌}
use mathlib.Core.Bool.{true}
use mathlib.Core.List.{List, [], ◌∷◌}
use native.Mathlib.Omega.{arith}
use lib.ListN.{length, get_or}
use Rattle.std.specs.List.{sum_by, fold}
use Rattle.std.proofs.lemmas.List.Sums.{sum_by-cons}
use Rattle.model.specs.declared.elements.Element.{Element}
use Rattle.model.specs.Over.{sum_over, largest_over}
use Rattle.model.specs.Elements.{is_period, is_legal, AllLegal}
use Rattle.model.specs.Demand.{f, F, demand_of, D}
use Rattle.theory.proofs.LoadLaws.{first_is, demand_is}
use Rattle.model.proofs.ElementLaws.{legal_parts}
use Rattle.model.proofs.OverLaws.{each_at, all_each}

module _ {A : Type 0} (g : A → ℕ) where
  pub sum_by_is : (s : List A) → sum_by g s ≡ sum_over s g
  unfolding sum_over
  sum_by_is [] = refl
  sum_by_is (e ∷ s) = omega (arith, sum_by-cons g e s, sum_by_is s)

  larger : (n : ℕ) (s : List A) → fold (λ a e. max a (g e)) n s ≡ max n (largest_over s g)
  unfolding largest_over
  larger n [] = omega arith
  larger n (e ∷ s) = omega (arith, larger (max n (g e)) s)

  pub largest_is : (s : List A) → fold (λ a e. max a (g e)) 0 s ≡ largest_over s g
  largest_is s = omega (arith, larger 0 s)

pub legal_at : (s : List Element) → AllLegal s → (d : Element) (i : ℕ) → i < length s → is_legal (get_or s i d) ≡ true
legal_at s h d i l = each_at (λ e. is_legal e ≡ true) s i d l (all_each s is_legal h)

pub period_at : (s : List Element) → AllLegal s → (d : Element) (i : ℕ) → i < length s → is_period (get_or s i d).period ≡ true
period_at s h d i l = ((legal_parts (get_or s i d)).0 (legal_at s h d i l)).0

pub demand_sum : (s : List Element) (I : ℕ) → sum_by (λ e. demand_of e I) s ≡ D s I
demand_sum s I = sum_by_is (λ e. demand_of e I) s ∙ demand_is s I

pub first_max : (s : List Element) → fold (λ a e. max a (f e)) 0 s ≡ F s
first_max s = largest_is f s ∙ first_is s
