-- Laws of specs/Superposition: one element's approximated demand, scaled with h. Assumes nothing.
use Prim.Native.Nat.{ℕ, suc, ◌+◌, ◌*◌, ◌-◌, ◌/◌, ◌≤◌, ◌<◌}
use mathlib.Core.Path.{◌≡◌, refl, ap, ◌∙◌}
use mathlib.Core.Bool.{Bool, true, false, cond, and-true, and-false}
use mathlib.Core.List.{List}
use mathlib.Core.Logic.{⊎_elim}
use native.Mathlib.Omega.{arith}
use native.Mathlib.Nat.{mul-div_cancel', mul-add-div_right, mul-div_cancel, div-mul-le_self, lt-div-mul-add, mul-le-mul_left, mul-le-mul_right}
use lib.Dec.{ltb}
use borrow.Author.Tests.{lt-ltb, le-ltb, le-leb, lt-leb, ltb-true, ltb-false}
use Rattle.model.specs.declared.elements.Period.{Period}
use Rattle.model.specs.declared.elements.Period.TheVariants.{Once, Every}
use Rattle.model.specs.declared.elements.Element.{Element}
use Rattle.model.specs.Demand.{f, H, dues, demand_of, turns, is_test_of}
use Rattle.model.specs.Superposition.{exact_part, m, scaled_by, HD', is_above}
use Rattle.theory.specs.Multiples.{Divides}
use Rattle.theory.specs.Growth.{is_visited_by, rise_of}
use Rattle.model.proofs.Cases.{lt_or_le}
use Rattle.model.proofs.ElementLaws.{Runs, Legal}
use Rattle.theory.proofs.DemandLaws.{early, late, demand_of_steps, demand_of_zero}

module _ (k h : ℕ) (l : 1 ≤ k) where
  -- THE LINE of one unit of cost, x ticks past m; flat for a single event
  line : Period → ℕ → ℕ
  line Once x = h
  line (Every p) x = h * k + x * (h / p)

  line_start : (q : Period) → Runs q → line q 0 ≡ h * dues q (exact_part q k)
  unfolding line
  line_start Once r = omega arith
  line_start (Every p) r =
      let d = mul-div_cancel (k - 1) r.0 in
      let e : (k - 1) * p / p + 1 ≡ k = omega arith in
      rw e (omega arith)

  line_step : (q : Period) (x : ℕ) → line q (suc x) ≡ line q x + turns q h
  unfolding line
  line_step Once x = omega arith
  line_step (Every p) x = omega arith

  dues_past : (p x : ℕ) → 1 ≤ p → ((k - 1) * p + x) / p + 1 ≡ k + x / p
  dues_past p x r = let n = mul-add-div_right r (k - 1) x in omega arith

  -- rounding down loses: so many dates are under the line that starts with one
  dues_under : (q : Period) (x : ℕ) → Divides q h → h * dues q x ≤ x * turns q h + h
  dues_under Once x d = omega arith
  dues_under (Every p) x d =
      let c = mul-div_cancel' p d in
      let u = mul-le-mul_left (h / p) (div-mul-le_self x p) in
      let v = ap (λ z. z * (x / p)) c in
      omega arith

  line_above : (q : Period) (x : ℕ) → Runs q → Divides q h → h * dues q (exact_part q k + x) ≤ line q x
  unfolding line
  line_above Once x r d = omega arith
  line_above (Every p) x r d = rw (dues_past p x r.0) (omega (arith, dues_under (Every p) x d))

  line_below : (q : Period) (x : ℕ) → Runs q → Divides q h → k * line q x ≤ (k + 1) * (h * dues q (exact_part q k + x))
  unfolding line
  line_below Once x r d = omega arith
  line_below (Every p) x r d =
      let c = mul-div_cancel' p d in
      let u = mul-le-mul_left (k * (h / p)) (lt-div-mul-add {a = x} r.0) in
      let v = ap (λ z. k * z * (x / p)) c in
      let w = ap (λ z. k * z) c in
      rw (dues_past p x r.0) (omega arith)

  -- UP TO m exact, PAST m the line; at m both
  near_by : (q : Period) (e : Element) (I : ℕ) → I ≤ m k e → scaled_by q k h e I ≡ h * demand_of e I
  unfolding scaled_by
  near_by Once e I b = refl
  near_by (Every p) e I b = rw (le-leb I (m k e) b)

  near : (e : Element) (I : ℕ) → I ≤ m k e → scaled_by e.period k h e I ≡ h * demand_of e I
  near e I b = near_by e.period e I b

  past : (e : Element) (I : ℕ) → m k e ≤ I → demand_of e I ≡ dues e.period (exact_part e.period k + (I - m k e)) * e.cost
  past e I b =
      let y : I - f e ≡ exact_part e.period k + (I - m k e) = omega arith in
      late e I (omega arith) ∙ rw y

  far_by : (q : Period) (e : Element) (I : ℕ) → e.period ≡ q → m k e < I → scaled_by q k h e I ≡ line q (I - m k e) * e.cost
  unfolding scaled_by line
  far_by Once e I eq b =
      let n = ap (λ q. dues q (exact_part e.period k + (I - m k e))) eq in
      omega (arith, ap (λ z. h * z) (rw n at (past e I (omega arith))))
  far_by (Every p) e I eq b = rw (lt-leb I (m k e) b) (omega arith)

  far : (e : Element) (I : ℕ) → Runs e.period → m k e ≤ I → scaled_by e.period k h e I ≡ line e.period (I - m k e) * e.cost
  far e I r b = ⊎_elim
      (λ g. far_by e.period e I refl g)
      (λ (g : I ≤ m k e).
      let x : I - m k e ≡ 0 = omega arith in
      let y : exact_part e.period k + 0 ≡ exact_part e.period k = omega arith in
      near e I g ∙ rw (past e I b, x, line_start e.period r, y) (omega arith))
      (lt_or_le (m k e) I)

  -- it is ABOVE exact demand, and k times it BELOW k + 1 times that
  pub above : (I : ℕ) (e : Element) → Legal e → Divides e.period h → h * demand_of e I ≤ scaled_by e.period k h e I
  above I e g d = ⊎_elim
      (λ b. omega (arith, near e I (omega arith)))
      (λ b. let u = mul-le-mul_right e.cost (line_above e.period (I - m k e) g.period d) in
      rw (far e I g.period b, past e I b) (omega arith))
      (lt_or_le I (m k e))

  pub below : (I : ℕ) (e : Element) → Legal e → Divides e.period h → k * scaled_by e.period k h e I ≤ (k + 1) * (h * demand_of e I)
  below I e g d = ⊎_elim
      (λ b. rw (near e I (omega arith)) (omega arith))
      (λ b. let u = mul-le-mul_right e.cost (line_below e.period (I - m k e) g.period d) in
      rw (far e I g.period b, past e I b) (omega arith))
      (lt_or_le I (m k e))

  -- it is UNDER the line of its load, one cost higher
  line_under : (q : Period) (x : ℕ) → Divides q h → line q x ≤ (exact_part q k + x) * turns q h + h
  unfolding line
  line_under Once x d = omega arith
  line_under (Every p) x d =
      let c = mul-div_cancel' p d in
      let v = ap (λ z. z * (k - 1)) c in
      let w : k ≡ k - 1 + 1 = omega arith in
      omega (arith, ap (λ z. h * z) w)

  pub under : (I : ℕ) (e : Element) → Legal e → Divides e.period h → scaled_by e.period k h e I ≤ I * rise_of h e + h * e.cost
  under I e g d = ⊎_elim
      (λ (b : I < m k e). ⊎_elim
      (λ (i : I < f e). rw (near e I (omega arith), early e I i) (omega arith))
      (λ (i : f e ≤ I).
      let u = mul-le-mul_right e.cost (dues_under e.period (I - f e) d) in
      let w = mul-le-mul_right (rise_of h e) (let v : I - f e ≤ I = omega arith in v) in
      rw (near e I (omega arith), late e I i) (omega arith))
      (lt_or_le I (f e)))
      (λ (b : m k e ≤ I).
      let u = mul-le-mul_right e.cost (line_under e.period (I - m k e) d) in
      let w = mul-le-mul_right (rise_of h e) (let v : exact_part e.period k + (I - m k e) ≤ I = omega arith in v) in
      rw (far e I g.period b) (omega arith))
      (lt_or_le I (m k e))

  -- it STEPS in a tick by the cost, up to m, and past m by the line
  pub steps :
      (I : ℕ) (e : Element) → Legal e →
      scaled_by e.period k h e (suc I) ≡ scaled_by e.period k h e I + cond (ltb I (m k e)) 0 (rise_of h e) + h * cond (is_visited_by k (suc I) e) e.cost 0
  steps I e g = ⊎_elim
      (λ (b : I < m k e).
      rw (lt-ltb I (m k e) b, and-true (is_test_of e (suc I)))
      (omega (arith, near e (suc I) b, near e I (omega arith), ap (λ z. h * z) (demand_of_steps I e g))))
      (λ (b : m k e ≤ I).
      let x : suc I - m k e ≡ suc (I - m k e) = omega arith in
      rw (le-ltb I (m k e) b, and-false (is_test_of e (suc I)), far e (suc I) g.period (omega arith), far e I g.period b, x, line_step e.period (I - m k e))
      (omega arith))
      (lt_or_le I (m k e))

  -- so it RISES by its part of the load at most, but at a visited length
  pub rises :
      (I : ℕ) (e : Element) → Legal e → is_visited_by k (suc I) e ≡ false →
      scaled_by e.period k h e (suc I) ≤ scaled_by e.period k h e I + rise_of h e
  rises I e g o =
      let s = steps I e g in
      omega (arith, rw o at s, at_most (ltb I (m k e)) (rise_of h e))
    where
      at_most : (b : Bool) (x : ℕ) → cond b 0 x ≤ x
      at_most true x = omega arith
      at_most false x = omega arith

  pub starts : (e : Element) → Legal e → scaled_by e.period k h e 0 ≡ 0
  starts e g = near e 0 (omega arith) ∙ omega (arith, ap (λ z. h * z) (demand_of_zero e g))

-- D'(I) > I
module _ (k : ℕ) (s : List Element) (I : ℕ) where
  pub is_above_lem : is_above k s I ≡ true → H s * I < HD' k s I
  unfolding is_above
  is_above_lem t = ltb-true (H s * I) (HD' k s I) t

  pub not_above : is_above k s I ≡ false → HD' k s I ≤ H s * I
  unfolding is_above
  not_above t = ltb-false (H s * I) (HD' k s I) t
