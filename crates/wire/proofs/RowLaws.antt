-- The checks of a record are the rows of the table, one after the other. Assumes nothing.
use Prim.Native.Nat.{ℕ, zero, suc, ◌+◌, ◌≤◌}
use mathlib.Core.Path.{◌≡◌, refl, sym, ◌∙◌}
use mathlib.Core.Bool.{true}
use mathlib.Core.List.{List}
use mathlib.Core.Logic.{⊎_elim}
use native.Mathlib.Omega.{arith}
use lib.Dec.{leb, ltb}
use lib.ListN.{length, get_or-eq_default}
use borrow.Author.Tests.{le-leb, lt-leb, lt-ltb, le-ltb}
use Rattle.std.specs.Prelude.{Err}
use Rattle.model.specs.declared.elements.Element.{Element}
use Rattle.model.specs.declared.answers.Reason.TheVariants.{CostOutOfRange}
use Rattle.model.specs.declared.answers.Refusal.{Refusal}
use Rattle.model.specs.Answers.{number_of}
use Rattle.model.specs.Elements.{places, is_cost}
use Rattle.model.specs.TurnedAway.{unless, check_element}
use Rattle.model.specs.Rows.{IsFirstRow, IsRefusal}
use Rattle.model.proofs.Cases.{clash, lt_or_le}
use Rattle.model.proofs.RowLaws.{reason_at, in_order, then_nothing, turned_by, turns}
use Rattle.wire.specs.Format.{element_of}
use Rattle.wire.specs.Reading.{check_record}
use Rattle.wire.specs.Outcomes.{rows}

room_left : (a b left : ℕ) → b ≡ a + left → leb 1 left ≡ ltb a b
room_left a b left h =
    ⊎_elim
    (λ l. le-leb 1 left (omega arith) ∙ sym (lt-ltb a b l))
    (λ l. lt-leb 1 left (omega arith) ∙ sym (le-ltb a b l))
    (lt_or_le a b)

-- there are rows 1 to 7
pub first_is : (before : List Element) (from : List ℕ) (i : ℕ) → IsFirstRow (rows before from) i → (1 ≤ i) × (i ≤ 7)
first_is before from zero h = absurd (clash refl h.stops)
first_is before from (suc i) h =
    ⊎_elim
    (λ l. (omega arith, omega arith))
    (λ l. absurd (clash (get_or-eq_default (rows before from) true l) h.stops))
    (lt_or_le (suc i) 8)

-- each has the number of a reason
known : (before : List Element) (from : List ℕ) (number : ℕ) → IsFirstRow (rows before from) number → number_of (reason_at number) ≡ number
unfolding reason_at
known before from zero h = absurd (clash refl h.stops)
known before from (suc zero) h = refl
known before from (suc (suc zero)) h = refl
known before from (suc (suc (suc zero))) h = refl
known before from (suc (suc (suc (suc zero)))) h = refl
known before from (suc (suc (suc (suc (suc zero))))) h = refl
known before from (suc (suc (suc (suc (suc (suc zero)))))) h = refl
known before from (suc (suc (suc (suc (suc (suc (suc zero))))))) h = refl
known before from (suc (suc (suc (suc (suc (suc (suc (suc n)))))))) h = absurd (clash refl h.stops)

module _ (before : List Element) (from : List ℕ) (left place : ℕ) (h : places ≡ length before + left) where
  record_in_order : check_record left place from ≡ in_order 0 place (rows before from)
  unfolding check_record check_element unless in_order reason_at
  record_in_order = rw (room_left (length before) places left h, then_nothing (unless (is_cost (element_of from).cost) CostOutOfRange place))

  pub record_turned :
      {r : Refusal} →
      check_record left place from ≡ Err r →
      (number : ℕ) × IsFirstRow (rows before from) number × IsRefusal {A = Unit {0}} (Err r) number place
  record_turned = turned_by (check_record left place from) place (rows before from) (known before from) record_in_order

  pub record_turns : (number : ℕ) → IsFirstRow (rows before from) number → IsRefusal (check_record left place from) number place
  record_turns = turns (check_record left place from) place (rows before from) (known before from) record_in_order
