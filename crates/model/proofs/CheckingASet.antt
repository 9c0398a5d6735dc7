-- What holds whenever `LegalSet::of` turns to the element at i, from the first to past the last, and what its end says of the elements. Assumes nothing.
use Prim.Native.Nat.{ℕ, suc, ◌+◌, ◌≤◌, ◌<◌}
use mathlib.Core.Path.{◌≡◌, sym, ap, ◌∙◌}
use mathlib.Core.Bool.{true}
use mathlib.Core.List.{List}
use native.Mathlib.Omega.{arith}
use native.Mathlib.Numerals.{add-one}
use lib.ListN.{length, length-take, get_or, drop}
use lib.Dec.{leb}
use lib.Seq.{drop-length}
use Rattle.std.specs.Prelude.{Ok, Err}
use Rattle.model.specs.declared.elements.Element.{Element}
use Rattle.model.specs.declared.elements.TaskSet.{TaskSet}
use Rattle.model.specs.declared.answers.Reason.TheVariants.{TooManyElements}
use Rattle.model.specs.declared.answers.Refusal.{Refusal}
use Rattle.model.specs.Over.{all_over}
use Rattle.model.specs.Elements.{places, is_legal, counted}
use Rattle.model.specs.TurnedAway.{unless, ◌then◌, check_element, check_elements, check_set}
use Rattle.model.proofs.ElementLaws.{legal_set}
use Rattle.model.proofs.TurnedAwayLaws.{elements_from, set_fine}

pub record Checking (t : TaskSet) (i : ℕ) : Type 0 where
  pub upto : i ≤ length (counted t)
  pub same : check_set t ≡ check_elements i (drop i (counted t))

module _ (t : TaskSet) (few : unless (leb t.count places) TooManyElements places ≡ Ok tt) where
  pub start : Checking t 0
  unfolding check_set
  start = record { upto = omega arith; same = rw few }

pub too_many : (t : TaskSet) {r : Refusal} → Err r ≡ unless (leb t.count places) TooManyElements places → Err r ≡ check_set t
unfolding check_set
too_many t h = rw (sym h)

module _ (t : TaskSet) (i : ℕ) (k : Checking t i) (xs : List Element) (counts : xs ≡ counted t) where
  pub end : length xs ≤ i → Ok tt ≡ check_set t
  unfolding check_elements
  end h =
      let j : i ≡ length (counted t) = omega (arith, k.upto, ap length counts) in
      sym (k.same ∙ ap (λ n. check_elements i (drop n (counted t))) j ∙ rw (drop-length (counted t)))

  module _ (d : Element) (h : i < length xs) where
    from_here : check_set t ≡ (check_element i (get_or xs i d) then check_elements (suc i) (drop (suc i) (counted t)))
    from_here = k.same ∙ elements_from (counted t) d i (omega (arith, ap length counts)) ∙ rw counts

    pub next : Ok tt ≡ check_element i (get_or xs i d) → Checking t (i + 1)
    next g = record { upto = omega (arith, ap length counts); same = rw add-one (from_here ∙ rw (sym g)) }

    pub found : {r : Refusal} → Err r ≡ check_element i (get_or xs i d) → Err r ≡ check_set t
    found g = sym (from_here ∙ rw (sym g))

-- the elements of a set that is fine
module _ (t : TaskSet) (fine : Ok tt ≡ check_set t) (xs : List Element) (counts : xs ≡ counted t) where
  pub legal_elements : all_over xs is_legal ≡ true
  legal_elements = rw counts ((legal_set t).0 ((set_fine t).0 (sym fine))).1

  pub few_elements : length xs ≤ places
  few_elements = omega (arith, ap length counts, length-take t.count t.table, ((legal_set t).0 ((set_fine t).0 (sym fine))).0)
