-- Laws of specs/TurnedAway: a check is fine exactly when each of its parts is; the checks from one element on. Assumes nothing.
use Prim.Native.Nat.{ℕ, zero, suc, ◌+◌, ◌<◌}
use mathlib.Core.Path.{◌≡◌, refl, sym, ap, ◌∙◌}
use mathlib.Core.Bool.{Bool, true, false}
use mathlib.Core.List.{List, [], ◌∷◌}
use mathlib.Core.Logic.{◌↔◌, ◌⊎◌, inl, inr, ⊎_elim}
use native.Mathlib.Omega.{arith}
use lib.Dec.{leb}
use lib.ListN.{length, get_or, take, drop}
use lib.Seq.{drop-cons}
use Rattle.std.specs.Prelude.{Ok, Err}
use Rattle.model.specs.declared.elements.Element.{Element}
use Rattle.model.specs.declared.elements.TaskSet.{TaskSet}
use Rattle.model.specs.declared.answers.Reason.{Reason}
use Rattle.model.specs.declared.answers.Reason.TheVariants.{TooManyElements, PeriodOutOfRange, OffsetOutOfRange, DeadlineOutOfRange, CostOutOfRange, KOutOfRange}
use Rattle.model.specs.declared.answers.Refusal.{Refusal}
use Rattle.model.specs.Answers.{Check}
use Rattle.model.specs.Over.{all_over}
use Rattle.model.specs.Elements.{places, most_k, within, is_period, is_offset, is_deadline, is_cost, is_legal, AllLegal, counted, is_legal_set}
use Rattle.model.specs.TurnedAway.{turned, unless, ◌then◌, check_element, check_elements, check_set, check_k}
use Rattle.model.proofs.Cases.{clash, and_both, and_left, and_right}
use Rattle.model.proofs.ElementLaws.{Within, within_is, legal_parts}

pub turned_is_not_fine : {r : Refusal} → ◌≡◌ {A = Check} (Err r) (Ok tt) → ⊥
turned_is_not_fine h = let z : ◌≡◌ {A = ℕ} 0 1 = cc in omega arith

pub turned_tells : {m n : Reason} {p q : ℕ} → turned m p ≡ turned n q → (m ≡ n) × (p ≡ q)
turned_tells {m} {n} {p} {q} h =
    let same : ◌≡◌ {A = Refusal} (record { reason = m; place = p }) (record { reason = n; place = q }) = cc in
    (ap (λ r. r.reason) same, ap (λ r. r.place) same)

pub then_fine : (a b : Check) → ((a then b) ≡ Ok tt) ↔ ((a ≡ Ok tt) × (b ≡ Ok tt))
then_fine (Ok tt) b = (λ h. (refl, h), λ h. h.1)
then_fine (Err r) b = (λ h. absurd (turned_is_not_fine h), λ h. absurd (turned_is_not_fine h.0))

-- who turns away
pub then_turned : (a b : Check) {r : Refusal} → ((a then b) ≡ Err r) ↔ ((a ≡ Err r) ⊎ ((a ≡ Ok tt) × (b ≡ Err r)))
then_turned (Ok tt) b = (λ h. inr (refl, h), ⊎_elim (λ h. absurd (turned_is_not_fine (sym h))) (λ h. h.1))
then_turned (Err q) b = (λ h. inl h, ⊎_elim (λ h. h) (λ h. absurd (turned_is_not_fine h.0)))

pub unless_turned_lem :
    (t : Bool) (reason : Reason) (place : ℕ) {r : Refusal} →
    (unless t reason place ≡ Err r) ↔ ((t ≡ false) × (turned reason place ≡ Err r))
unfolding unless
unless_turned_lem true reason place = (λ h. absurd (turned_is_not_fine (sym h)), λ h. absurd (clash refl h.0))
unless_turned_lem false reason place = (λ h. (refl, h), λ h. h.1)

pub unless_fine : (t : Bool) (reason : Reason) (place : ℕ) → (unless t reason place ≡ Ok tt) ↔ (t ≡ true)
unfolding unless
unless_fine true reason place = (λ h. refl, λ h. refl)
unless_fine false reason place = (λ h. absurd (turned_is_not_fine h), λ h. absurd (clash h refl))

pub element_fine : (place : ℕ) (e : Element) → (check_element place e ≡ Ok tt) ↔ (is_legal e ≡ true)
unfolding check_element
element_fine place e =
    let p = unless_fine (is_period e.period) PeriodOutOfRange place in
    let a = unless_fine (is_offset e.offset) OffsetOutOfRange place in
    let d = unless_fine (is_deadline e.deadline) DeadlineOutOfRange place in
    let c = unless_fine (is_cost e.cost) CostOutOfRange place in (
      λ h. let h₁ = (then_fine (unless (is_period e.period) PeriodOutOfRange place) _).0 h in
          let h₂ = (then_fine (unless (is_offset e.offset) OffsetOutOfRange place) _).0 h₁.1 in
          let h₃ = (then_fine (unless (is_deadline e.deadline) DeadlineOutOfRange place) _).0 h₂.1 in
          (legal_parts e).1 (p.0 h₁.0, a.0 h₂.0, d.0 h₃.0, c.0 h₃.1),
      λ h. let q = (legal_parts e).0 h in
          rw (p.1 q.0, a.1 q.1, d.1 q.2, c.1 q.3),
    )

pub elements_fine : (place : ℕ) (s : List Element) → (check_elements place s ≡ Ok tt) ↔ (all_over s is_legal ≡ true)
unfolding check_elements all_over
elements_fine place [] = (λ h. refl, λ h. refl)
elements_fine place (e ∷ s) =
    let one = element_fine place e in
    let rest = elements_fine (suc place) s in (
      λ h. let g = (then_fine (check_element place e) (check_elements (suc place) s)).0 h in rw (one.0 g.0, rest.0 g.1),
      λ h. rw (one.1 (and_left (is_legal e) (all_over s is_legal) h), rest.1 (and_right (is_legal e) (all_over s is_legal) h)),
    )

-- the first element that is not legal turns away
pub record FirstTurned (s : List Element) (d : Element) (place i : ℕ) (r : Refusal) : Type 0 where
  pub within : i < length s
  pub before : AllLegal (take i s)
  pub here : check_element (place + i) (get_or s i d) ≡ Err r

pub elements_turned :
    (s : List Element) (d : Element) (place : ℕ) {r : Refusal} →
    check_elements place s ≡ Err r →
    (i : ℕ) × FirstTurned s d place i r
unfolding check_elements all_over
elements_turned [] d place h = absurd (turned_is_not_fine (sym h))
elements_turned (e ∷ s) d place {r} h = go (elements_turned s d (suc place)) ((then_turned (check_element place e) (check_elements (suc place) s)).0 h)
  where
    go :
        (check_elements (suc place) s ≡ Err r → (i : ℕ) × FirstTurned s d (suc place) i r) →
        (check_element place e ≡ Err r) ⊎ ((check_element place e ≡ Ok tt) × (check_elements (suc place) s ≡ Err r)) →
        (i : ℕ) × FirstTurned (e ∷ s) d place i r
    go rest (inl p) = (0, record { within = omega arith; before = refl; here = ap (λ n. check_element n e) (omega arith) ∙ p })
    go rest (inr p) =
        let k = rest p.1 in (
          suc k.0,
          record {
            within = omega (arith, k.1.within);
            before = and_both (is_legal e) (all_over (take k.0 s) is_legal) ((element_fine place e).0 p.0) k.1.before;
            here = ap (λ n. check_element n (get_or s k.0 d)) (omega arith) ∙ k.1.here;
          },
        )

pub turned_elements : (s : List Element) (d : Element) (place i : ℕ) {r : Refusal} → FirstTurned s d place i r → check_elements place s ≡ Err r
unfolding check_elements all_over
turned_elements [] d place i h = absurd (omega (arith, h.within))
turned_elements (e ∷ s) d place zero h =
    let same : place ≡ place + 0 = omega arith in
    rw (ap (λ n. check_element n e) same ∙ h.here)
turned_elements (e ∷ s) d place (suc i) h =
    let legal = h.before in
    rw ((element_fine place e).1 (and_left (is_legal e) (all_over (take i s) is_legal) legal))
    (turned_elements s d (suc place) i (record {
      within = omega (arith, h.within);
      before = and_right (is_legal e) (all_over (take i s) is_legal) legal;
      here = ap (λ n. check_element n (get_or s i d)) (omega arith) ∙ h.here;
    }))

-- the checks from the element at i on
pub elements_from :
    (s : List Element) (d : Element) (i : ℕ) →
    i < length s →
    check_elements i (drop i s) ≡ (check_element i (get_or s i d) then check_elements (suc i) (drop (suc i) s))
unfolding check_elements
elements_from s d i h = rw (drop-cons s i d h)

pub set_fine : (t : TaskSet) → (check_set t ≡ Ok tt) ↔ (is_legal_set t ≡ true)
unfolding check_set is_legal_set
set_fine t =
    let few = unless_fine (leb t.count places) TooManyElements places in
    let all = elements_fine 0 (counted t) in (
      λ h. let g = (then_fine (unless (leb t.count places) TooManyElements places) (check_elements 0 (counted t))).0 h in rw (few.0 g.0, all.0 g.1),
      λ h. rw (few.1 (and_left (leb t.count places) (all_over (counted t) is_legal) h), all.1 (and_right (leb t.count places) (all_over (counted t) is_legal) h)),
    )

-- 9: k within its limits
pub k_fine : (k : ℕ) → check_k k ≡ Ok tt → Within 1 most_k k
unfolding check_k
k_fine k h = within_is 1 most_k k ((unless_fine (within 1 most_k k) KOutOfRange 0).0 h)
