-- What holds between each element and its row, in order. Assumes nothing.
use Prim.Native.Nat.{ℕ, zero, suc, ◌*◌, ◌/◌, ◌≤◌, ◌<◌}
use mathlib.Core.Path.{◌≡◌, refl, ap, ◌∙◌}
use mathlib.Core.List.{List, [], ◌∷◌, map}
use native.Mathlib.Nat.{div-eq_of_lt}
use native.Mathlib.Omega.{arith}
use lib.ListN.{length, get_or}
use Rattle.std.specs.List.{AllZip, sum_by}
use Rattle.std.proofs.lemmas.List.Sums.{sum_by-cons}
use Rattle.model.specs.declared.elements.Period.{Period}
use Rattle.model.specs.declared.elements.Period.TheVariants.{Once, Every}
use Rattle.model.specs.declared.elements.Element.{Element}
use Rattle.model.specs.Over.{sum_over, Each}
use Rattle.model.specs.Elements.{most_h}
use Rattle.model.specs.Demand.{turns}
use Rattle.theory.specs.Growth.{rise_of}
use Rattle.places.specs.Dates.{step_of, step_in}

turns_by_step : (q : Period) (h : ℕ) → h ≤ most_h → h / step_of q ≡ turns q h
turns_by_step Once h l = div-eq_of_lt (omega arith)
turns_by_step (Every p) h l = refl

-- what an element adds to the slope, by its row's step
pub rise_by_step : (e : Element) (h x : ℕ) → h ≤ most_h → x ≡ step_in e → e.cost * (h / x) ≡ rise_of h e
rise_by_step e h x l q = ap (λ y. e.cost * y) (ap (λ y. h / y) q ∙ turns_by_step e.period h l)

module _ {A B : Type 0} where
  -- rows made of their elements
  pub zip_made : (P : A → Type 0) (R : A → B → Type 0) (g : A → B) (s : List A) → ((x : A) → P x → R x (g x)) → Each s P → AllZip R s (map g s)
  zip_made P R g [] h p = tt
  zip_made P R g (x ∷ s) h p = (h x p.0, zip_made P R g s h p.1)

  -- rows that change
  pub zip_map :
      (R T : A → B → Type 0) (Q : B → Type 0) (g : B → B) (s : List A) (rows : List B) → ((x : A) (y : B) → R x y → Q y → T x (g y)) →
      AllZip R s rows → Each rows Q → AllZip T s (map g rows)
  zip_map R T Q g [] [] h z q = tt
  zip_map R T Q g [] (y ∷ rows) h z q = elim z [ ]
  zip_map R T Q g (x ∷ s) [] h z q = elim z [ ]
  zip_map R T Q g (x ∷ s) (y ∷ rows) h z q = (h x y z.0 q.0, zip_map R T Q g s rows h z.1 q.1)

  -- a sum over rows is one over their elements
  pub zip_sum :
      (R : A → B → Type 0) (Q : B → Type 0) (g : B → ℕ) (f : A → ℕ) (s : List A) (rows : List B) → ((x : A) (y : B) → R x y → Q y → g y ≡ f x) →
      AllZip R s rows → Each rows Q → sum_by g rows ≡ sum_over s f
  unfolding sum_over
  zip_sum R Q g f [] [] h z q = refl
  zip_sum R Q g f [] (y ∷ rows) h z q = elim z [ ]
  zip_sum R Q g f (x ∷ s) [] h z q = elim z [ ]
  zip_sum R Q g f (x ∷ s) (y ∷ rows) h z q = omega (arith, sum_by-cons g y rows, h x y z.0 q.0, zip_sum R Q g f s rows h z.1 q.1)

  -- what holds of each row
  pub zip_each : (R : A → B → Type 0) (Q : B → Type 0) (s : List A) (rows : List B) → ((x : A) (y : B) → R x y → Q y) → AllZip R s rows → Each rows Q
  zip_each R Q [] [] h z = tt
  zip_each R Q [] (y ∷ rows) h z = elim z [ ]
  zip_each R Q (x ∷ s) [] h z = elim z [ ]
  zip_each R Q (x ∷ s) (y ∷ rows) h z = (h x y z.0, zip_each R Q s rows h z.1)

  -- at one place
  pub zip_at : (R : A → B → Type 0) (s : List A) (rows : List B) (i : ℕ) (d : A) (e : B) → AllZip R s rows → i < length s → R (get_or s i d) (get_or rows i e)
  zip_at R [] [] i d e z l = absurd (omega arith)
  zip_at R [] (y ∷ rows) i d e z l = elim z [ ]
  zip_at R (x ∷ s) [] i d e z l = elim z [ ]
  zip_at R (x ∷ s) (y ∷ rows) zero d e z l = z.0
  zip_at R (x ∷ s) (y ∷ rows) (suc i) d e z l = zip_at R s rows i d e z.1 (omega arith)
