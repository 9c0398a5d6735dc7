-- A check that goes by rows of the table, one after the other, turns away by the first that does not let pass, and exactly then: that of an element, and
-- that of a set in memory. Assumes nothing.
use Prim.Native.Nat.{ℕ, zero, suc, ◌+◌, ◌<◌}
use mathlib.Core.Path.{◌≡◌, refl, sym, ap, subst, ◌∙◌}
use mathlib.Core.Bool.{Bool, true, false}
use mathlib.Core.List.{List, [], ◌∷◌}
use mathlib.Core.Logic.{◌↔◌, inl, inr, ⊎_elim}
use native.Mathlib.Omega.{arith}
use lib.Dec.{leb}
use lib.ListN.{get_or}
use borrow.Author.Tests.{leb-true, leb-false, le-leb, lt-leb}
use Rattle.std.specs.Prelude.{Result, Ok, Err}
use Rattle.model.specs.declared.elements.Element.{Element}
use Rattle.model.specs.declared.elements.TaskSet.{TaskSet}
use Rattle.model.specs.declared.answers.Reason.{Reason}
use Rattle.model.specs.declared.answers.Reason.TheVariants.{UnknownKind, RecordCut, TooManyElements, PeriodOutOfRange, OffsetOutOfRange, DeadlineOutOfRange, CostOutOfRange, HyperperiodAboveLimit, KOutOfRange, BufferTooShort}
use Rattle.model.specs.declared.answers.Refusal.{Refusal}
use Rattle.model.specs.Answers.{Check, number_of}
use Rattle.model.specs.Elements.{places, is_cost, filler, counted}
use Rattle.model.specs.TurnedAway.{turned, unless, ◌then◌, check_element, check_elements, check_set}
use Rattle.model.specs.Rows.{element_rows, IsFirstRow, HasTooMany, HasBadValue, IsTurnedAway, IsRefusal}
use Rattle.model.proofs.Cases.{clash}
use Rattle.model.proofs.TurnedAwayLaws.{turned_tells, then_turned, unless_turned_lem, unless_fine, elements_turned, turned_elements}

-- the reason with this number; past the table the first
unfoldable pub reason_at : ℕ → Reason
reason_at number =
    get_or
    (UnknownKind ∷ UnknownKind ∷ RecordCut ∷ TooManyElements ∷ PeriodOutOfRange ∷ OffsetOutOfRange ∷ DeadlineOutOfRange ∷ CostOutOfRange ∷ HyperperiodAboveLimit ∷ KOutOfRange ∷ BufferTooShort ∷ [])
    number
    UnknownKind

pub reason_back : (r : Reason) → reason_at (number_of r) ≡ r
unfolding reason_at
reason_back UnknownKind = refl
reason_back RecordCut = refl
reason_back TooManyElements = refl
reason_back PeriodOutOfRange = refl
reason_back OffsetOutOfRange = refl
reason_back DeadlineOutOfRange = refl
reason_back CostOutOfRange = refl
reason_back HyperperiodAboveLimit = refl
reason_back KOutOfRange = refl
reason_back BufferTooShort = refl

-- a refusal by the number of a reason is for this reason
pub refused_for : {A : Type 0} {r : Result A Refusal} (reason : Reason) {place : ℕ} → IsRefusal r (number_of reason) place → r ≡ Err (record { reason = reason; place = place })
refused_for reason {place} h =
    let same = sym (reason_back h.reason) ∙ ap reason_at h.numbered ∙ reason_back reason in
    h.by ∙ ap (λ q. Err (record { reason = q; place = place })) same

-- rows in order, numbered from n on: the first that does not let pass decides
unfoldable pub in_order : ℕ → ℕ → List Bool → Check
in_order n place [] = Ok tt
in_order n place (b ∷ bs) = unless b (reason_at n) place then in_order (suc n) place bs

pub then_nothing : (c : Check) → (c then Ok tt) ≡ c
then_nothing (Ok u) = refl
then_nothing (Err r) = refl

one_later : (bs : List Bool) (i : ℕ) → IsFirstRow bs i → IsFirstRow (true ∷ bs) (suc i)
one_later bs i h = record { stops = h.stops; first = earlier }
  where
    earlier : (j : ℕ) → j < suc i → get_or (true ∷ bs) j true ≡ true
    earlier zero l = refl
    earlier (suc j) l = h.first j (omega arith)

numbered_as : {m n : ℕ} (place : ℕ) → m ≡ n → turned (reason_at m) place ≡ turned (reason_at n) place
numbered_as place h = ap (λ number. turned (reason_at number) place) h

order_tells :
    (bs : List Bool) (n place : ℕ) {r : Refusal} →
    in_order n place bs ≡ Err r →
    (i : ℕ) × (Err r ≡ turned (reason_at (n + i)) place) × IsFirstRow bs i
unfolding in_order unless
order_tells [] n place h = let z : ◌≡◌ {A = ℕ} 0 1 = cc in absurd (omega arith)
order_tells (false ∷ bs) n place h = (0, sym h ∙ numbered_as place (omega arith), record { stops = refl; first = λ j l. absurd (omega arith) })
order_tells (true ∷ bs) n place h =
    let k = order_tells bs (suc n) place h in
    (suc k.0, k.1 ∙ numbered_as place (omega arith), one_later bs k.0 k.2)

first_decides : (bs : List Bool) (n place i : ℕ) → IsFirstRow bs i → in_order n place bs ≡ turned (reason_at (n + i)) place
unfolding in_order unless
first_decides [] n place i h = absurd (clash refl h.stops)
first_decides (b ∷ bs) n place zero h = rw h.stops (numbered_as place (omega arith))
first_decides (b ∷ bs) n place (suc i) h =
    let later = first_decides bs (suc n) place i (record { stops = h.stops; first = λ j l. h.first (suc j) (omega arith) }) in
    rw (h.first 0 (omega arith)) (later ∙ numbered_as place (omega arith))

-- a check that goes by these rows, whose numbers are reasons', turns away by the first, and exactly then
module _ (c : Check) (place : ℕ) (bs : List Bool) (known : (number : ℕ) → IsFirstRow bs number → number_of (reason_at number) ≡ number) (h : c ≡ in_order 0 place bs) where
  pub turned_by : {r : Refusal} → c ≡ Err r → (number : ℕ) × IsFirstRow bs number × IsRefusal {A = Unit {0}} (Err r) number place
  turned_by g =
      let k = order_tells bs 0 place (sym h ∙ g) in
      (k.0, k.2, record { reason = reason_at k.0; numbered = known k.0 k.2; by = k.1 ∙ numbered_as place (omega arith) })

  pub turns : (number : ℕ) → IsFirstRow bs number → IsRefusal c number place
  turns number k = record { reason = reason_at number; numbered = known number k; by = h ∙ first_decides bs 0 place number k ∙ numbered_as place (omega arith) }

-- AN ELEMENT
element_in_order : (place : ℕ) (e : Element) → check_element place e ≡ in_order 0 place (element_rows e)
unfolding check_element unless in_order reason_at
element_in_order place e = rw (then_nothing (unless (is_cost e.cost) CostOutOfRange place))

element_known : (e : Element) (number : ℕ) → IsFirstRow (element_rows e) number → number_of (reason_at number) ≡ number
unfolding reason_at
element_known e zero h = absurd (clash refl h.stops)
element_known e (suc zero) h = refl
element_known e (suc (suc zero)) h = refl
element_known e (suc (suc (suc zero))) h = refl
element_known e (suc (suc (suc (suc zero)))) h = refl
element_known e (suc (suc (suc (suc (suc zero))))) h = refl
element_known e (suc (suc (suc (suc (suc (suc zero)))))) h = refl
element_known e (suc (suc (suc (suc (suc (suc (suc zero))))))) h = refl
element_known e (suc (suc (suc (suc (suc (suc (suc (suc n)))))))) h = absurd (clash refl h.stops)

-- A SET IN MEMORY
module _ (t : TaskSet) (number place : ℕ) where
  abbrev count_check : Check
  count_check = unless (leb t.count places) TooManyElements places

  many_refused : IsRefusal count_check number place ↔ HasTooMany t number place
  many_refused = (
    λ p. let u = (unless_turned_lem (leb t.count places) TooManyElements places).0 p.by in
        let told = turned_tells u.1 in
        record { many = leb-false t.count places u.0; by = sym p.numbered ∙ ap number_of (sym told.0); at = sym told.1 },
    λ k. record { reason = TooManyElements; numbered = sym k.by; by = (unless_turned_lem (leb t.count places) TooManyElements places).1 (lt-leb t.count places k.many, ap (turned TooManyElements) (sym k.at)) },
  )

  value_refused : ((count_check ≡ Ok tt) × IsRefusal (check_elements 0 (counted t)) number place) ↔ HasBadValue t number place
  value_refused = (found, back)
    where
      found : (count_check ≡ Ok tt) × IsRefusal (check_elements 0 (counted t)) number place → HasBadValue t number place
      found p =
          let k = elements_turned (counted t) filler 0 p.1.by in
          let e = get_or (counted t) k.0 filler in
          let v = turned_by (check_element (0 + k.0) e) (0 + k.0) (element_rows e) (element_known e) (element_in_order (0 + k.0) e) k.1.here in
          let told = turned_tells v.2.by in
          let there : k.0 ≡ place = omega (arith, told.1) in
          let same : v.0 ≡ number = sym v.2.numbered ∙ ap number_of (sym told.0) ∙ p.1.numbered in
          let few = leb-true t.count places ((unless_fine (leb t.count places) TooManyElements places).0 p.0) in
          subst (λ n. HasBadValue t n place) same
          (subst (HasBadValue t v.0) there (record { few = few; counts = k.1.within; before = k.1.before; row = v.1 }))

      back : HasBadValue t number place → (count_check ≡ Ok tt) × IsRefusal (check_elements 0 (counted t)) number place
      back k =
          let there : 0 + place ≡ place = omega arith in
          let e = get_or (counted t) place filler in
          let here = turns (check_element (0 + place) e) (0 + place) (element_rows e) (element_known e) (element_in_order (0 + place) e) number k.row in (
            (unless_fine (leb t.count places) TooManyElements places).1 (le-leb t.count places k.few),
            record {
              reason = here.reason;
              numbered = here.numbered;
              by = turned_elements (counted t) filler 0 place (record { within = k.counts; before = k.before; here = here.by ∙ ap (turned here.reason) there });
            },
          )

  -- THEOREM: a set is turned away before 8 exactly as document 01 says: by 3, else by its first bad value
  pub set_is_turned_away : IsRefusal (check_set t) number place ↔ IsTurnedAway t number place
  unfolding check_set
  set_is_turned_away = (
    λ h. ⊎_elim (λ p. inl (many_refused.0 (record { reason = h.reason; numbered = h.numbered; by = p })))
        (λ p. inr (value_refused.0 (p.0, record { reason = h.reason; numbered = h.numbered; by = p.1 })))
        ((then_turned count_check (check_elements 0 (counted t))).0 h.by),
    ⊎_elim
        (λ k. let p = many_refused.1 k in record { reason = p.reason; numbered = p.numbered; by = (then_turned count_check (check_elements 0 (counted t))).1 (inl p.by) })
        (λ k. let p = value_refused.1 k in record { reason = p.1.reason; numbered = p.1.numbered; by = (then_turned count_check (check_elements 0 (counted t))).1 (inr (p.0, p.1.by)) }),
  )
