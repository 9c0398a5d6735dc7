-- The next length that the walk holds for one element, from one length to the next. Assumes nothing.
use Prim.Native.Nat.{ℕ, suc, ◌+◌, ◌-◌, ◌≤◌, ◌<◌}
use mathlib.Core.Path.{◌≡◌, refl}
use mathlib.Core.Bool.{true, false, cond}
use mathlib.Core.Logic.{⊎_elim}
use native.Mathlib.Omega.{arith}
use native.Mathlib.Nat.{lt_of_mul-lt-mul_left, mul-le-mul_right}
use lib.Dec.{eqb}
use borrow.Author.Tests.{lt-ltb, le-ltb}
use Rattle.std.proofs.lemmas.Bool.{false_from_ne_true}
use Rattle.model.specs.declared.elements.Period.{Period}
use Rattle.model.specs.declared.elements.Period.TheVariants.{Once, Every}
use Rattle.model.specs.declared.elements.Element.{Element}
use Rattle.model.specs.Demand.{f}
use Rattle.model.specs.Superposition.{exact_part, m}
use Rattle.model.proofs.Cases.{lt_or_le}
use Rattle.model.proofs.ElementLaws.{Runs, Legal}
use Rattle.theory.specs.TestLengths.{IsDate}
use Rattle.theory.specs.Growth.{is_visited_by, is_last_by}
use Rattle.theory.proofs.DemandLaws.{date_from, test_of}
use Rattle.places.specs.Dates.{step_of}
use Rattle.superposition_test.specs.Walk.{none, on_from, rise_from}

module _ (k : ℕ) (e : Element) where
  visited_low : (I : ℕ) → is_visited_by k I e ≡ true → I ≤ m k e
  visited_low I t = grind arith

  visited_date : (I : ℕ) → is_visited_by k I e ≡ true → IsDate e.period (f e) I
  visited_date I t = (test_of e I).0 (grind arith)

  is_visited_lem : (I : ℕ) → IsDate e.period (f e) I → I ≤ m k e → is_visited_by k I e ≡ true
  is_visited_lem I d l = let t = (test_of e I).1 d in grind arith

  not_visited : (I : ℕ) → (IsDate e.period (f e) I → I ≤ m k e → ⊥) → is_visited_by k I e ≡ false
  not_visited I o = false_from_ne_true (is_visited_by k I e) (λ t. o (visited_date I t) (visited_low I t))

  pub not_at_zero : Legal e → is_visited_by k 0 e ≡ false
  not_at_zero g = not_visited 0 (λ d l. omega (arith, g.deadline.0, date_from e.period (f e) 0 d))

  -- n is the next after x: none is visited between, and n is visited, or none is left
  pub record NextOf (x n : ℕ) : Type 0 where
    pub later : x < n
    pub gap : (I : ℕ) → x < I → I < n → is_visited_by k I e ≡ false
    pub here : n < none → is_visited_by k n e ≡ true

  -- THE START
  first_date : (q : Period) → IsDate q (f e) (f e)
  first_date Once = refl
  first_date (Every p) = (0, omega arith)

  pub next_start : Legal e → NextOf 0 (f e)
  next_start g = record {
    later = omega (arith, g.deadline.0);
    gap = λ I a b. not_visited I (λ d l. omega (arith, date_from e.period (f e) I d));
    here = λ l. is_visited_lem (f e) (first_date e.period) (omega arith);
  }

  -- A LENGTH THAT IT DOES NOT HAVE
  pub next_miss : (x y n : ℕ) → NextOf x n → x ≤ y → y < n → NextOf y n
  next_miss x y n w l u = record { later = u; gap = λ I a b. w.gap I (omega arith) b; here = w.here }

  -- A LENGTH THAT IT HAS: the date after it, up to m
  after_date :
      (q : Period) (y : ℕ) → Runs q → IsDate q (f e) y → y < f e + exact_part q k →
      IsDate q (f e) (y + step_of q) × (y + step_of q ≤ f e + exact_part q k) × (y < y + step_of q)
      × ((I : ℕ) → y < I → I < y + step_of q → IsDate q (f e) I → ⊥)
  after_date Once y r d l = absurd (omega arith)
  after_date (Every p) y r d l =
      let j = d.0 in
      let low : j < k - 1 = lt_of_mul-lt-mul_left p (omega (arith, d.1)) in
      let high = mul-le-mul_right p low in (
        (suc j, omega (arith, d.1)),
        omega (arith, d.1),
        omega (arith, r.0),
        λ I a b c.
            let up : j < c.0 = lt_of_mul-lt-mul_left p (omega (arith, d.1, c.1)) in
            let more = mul-le-mul_right p up in
            omega (arith, d.1, c.1),
      )

  pub next_hit : (x y : ℕ) → Legal e → NextOf x y → y < none → NextOf y (on_from y (step_of e.period) (m k e))
  next_hit x y g w l = ⊎_elim
      (λ (b : y < m k e).
      let a = after_date e.period y g.period (visited_date y (w.here l)) b in
      rw (lt-ltb y (m k e) b) (record {
        later = a.2;
        gap = λ I u v. not_visited I (λ d _. a.3 I u v d);
        here = λ _. is_visited_lem (y + step_of e.period) a.0 a.1;
      }))
      (λ (b : m k e ≤ y).
      rw (le-ltb y (m k e) b) (record {
        later = l;
        gap = λ I u v. not_visited I (λ d low. omega arith);
        here = λ u. absurd (omega arith);
      }))
      (lt_or_le y (m k e))

  -- WHAT IT HAS AT A LENGTH up to its next
  module _ (x n : ℕ) (w : NextOf x n) (y : ℕ) (l : x < y) (u : y ≤ n) (b : y < none) where
    pub next_visits : eqb n y ≡ is_visited_by k y e
    next_visits = grind (arith, w.gap y l, w.here)

    pub next_rises : (r : ℕ) → cond (eqb n y) (rise_from y (m k e) r) 0 ≡ cond (is_last_by k y e) r 0
    next_rises r = grind (arith, next_visits)
