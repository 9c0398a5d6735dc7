-- Laws of specs/Demand, of one element: how its demand grows, and which lengths are its test lengths. Assumes nothing.
use Prim.Native.Nat.{ℕ, suc, ◌+◌, ◌*◌, ◌-◌, ◌/◌, ◌%◌, ◌≤◌, ◌<◌}
use mathlib.Core.Path.{◌≡◌, refl, ap, sym, ◌∙◌}
use mathlib.Core.Bool.{true, false, cond}
use mathlib.Core.Logic.{⊎_elim, ◌↔◌}
use native.Mathlib.Omega.{arith}
use native.Mathlib.Nat.{mul-div_cancel', add-mul-div_left, mul-mod_left, mod-lt, zero-mod, zero-div, div-add-mod', pos_of_ne-zero, le-div_iff_mul-le, div-mul-le_self, le_trans, mul-le-mul_right}
use lib.Arith.{digits_div}
use lib.Dec.{leb}
use borrow.Author.Tests.{lt-ltb, le-ltb, le-leb, leb-true, eq-eqb, eqb-true, eqb-false}
use Rattle.model.specs.declared.elements.Period.{Period}
use Rattle.model.specs.declared.elements.Period.TheVariants.{Once, Every}
use Rattle.model.specs.declared.elements.Element.{Element}
use Rattle.model.specs.Demand.{f, dues, demand_of, turns, on_date, is_test_of}
use Rattle.theory.specs.Multiples.{Divides}
use Rattle.theory.specs.TestLengths.{IsDate}
use Rattle.model.proofs.Cases.{test, clash, lt_or_le, and_both, and_left, and_right}
use Rattle.model.proofs.ElementLaws.{Runs, Legal}

-- DEMAND BY CASES
pub early : (e : Element) (I : ℕ) → I < f e → demand_of e I ≡ 0
unfolding demand_of
early e I h = rw (lt-ltb I (f e) h)

pub late : (e : Element) (I : ℕ) → f e ≤ I → demand_of e I ≡ dues e.period (I - f e) * e.cost
unfolding demand_of
late e I h = rw (le-ltb I (f e) h)

pub demand_of_zero : (e : Element) → Legal e → demand_of e 0 ≡ 0
demand_of_zero e l = early e 0 (omega (arith, l.deadline.0))

-- IT REPEATS: h ticks later, past f
dues_repeats : (q : Period) (x h : ℕ) → Runs q → Divides q h → dues q (x + h) ≡ dues q x + turns q h
dues_repeats Once x h r d = omega arith
dues_repeats (Every p) x h r d =
    let e = add-mul-div_left x (h / p) r.0 in
    omega (arith, rw (mul-div_cancel' p d) at e)

pub demand_of_repeats :
    (I h : ℕ) (e : Element) → Legal e → Divides e.period h → f e ≤ I → demand_of e (I + h) ≡ demand_of e I + e.cost * turns e.period h
demand_of_repeats I h e l d b =
    let x : I + h - f e ≡ (I - f e) + h = omega arith in
    let n = ap (dues e.period) x ∙ dues_repeats e.period (I - f e) h l.period d in
    omega (arith, late e (I + h) (omega arith), late e I b, ap (λ z. z * e.cost) n)

-- IT RISES
dues_rises : (q : Period) (x y : ℕ) → Runs q → x ≤ y → dues q x ≤ dues q y
dues_rises Once x y r l = omega arith
dues_rises (Every p) x y r l = omega (arith, (le-div_iff_mul-le r.0).1 (le_trans (div-mul-le_self x p) l))

pub demand_of_rises : (I J : ℕ) → I ≤ J → (e : Element) → Legal e → demand_of e I ≤ demand_of e J
demand_of_rises I J b e l = ⊎_elim
    (λ g. rw (early e I g) (omega arith))
    (λ (g : f e ≤ I). let n = dues_rises e.period (I - f e) (J - f e) l.period (omega arith) in
    rw (late e I g, late e J (omega arith)) (mul-le-mul_right e.cost n))
    (lt_or_le I (f e))

-- IT RESTS, but at a test length
on_first : (q : Period) → on_date q 0 ≡ true
on_first Once = refl
on_first (Every p) = eq-eqb (0 % p) 0 (zero-mod p)

dues_rests : (q : Period) (x : ℕ) → Runs q → on_date q (suc x) ≡ false → dues q (suc x) ≡ dues q x
dues_rests Once x r o = refl
dues_rests (Every p) x r o =
    let a = div-add-mod' (suc x) p in
    let b = mod-lt (suc x) r.0 in
    let c = pos_of_ne-zero (eqb-false (suc x % p) 0 o) in
    let y : suc x / p * p + (suc x % p - 1) ≡ x = omega arith in
    let d = digits_div (suc x / p) {m = p} {r = suc x % p - 1} (omega arith) in
    omega (arith, sym (ap (λ z. z / p) y) ∙ d)

-- past f, whether I is a test length turns on the date alone
on_date_lem : (e : Element) (I x : ℕ) → f e ≤ I → I - f e ≡ x → is_test_of e I ≡ on_date e.period x
unfolding is_test_of
on_date_lem e I x h p = rw (le-leb (f e) I h, p)

pub demand_of_rests : (I : ℕ) (e : Element) → Legal e → is_test_of e (suc I) ≡ false → demand_of e (suc I) ≡ demand_of e I
demand_of_rests I e l o = ⊎_elim
    (λ h. early e (suc I) h ∙ sym (early e I (omega arith)))
    (λ (h : f e ≤ suc I). ⊎_elim
    (λ (g : f e < suc I).
    let x : suc I - f e ≡ suc (I - f e) = omega arith in
    let n = dues_rests e.period (I - f e) l.period (sym (on_date_lem e (suc I) _ h x) ∙ o) in
    late e (suc I) h ∙ ap (λ z. z * e.cost) (ap (dues e.period) x ∙ n) ∙ sym (late e I (omega arith)))
    (λ (g : suc I ≤ f e). absurd (clash (on_first e.period) (sym (on_date_lem e (suc I) 0 h (omega arith)) ∙ o)))
    (lt_or_le (f e) (suc I)))
    (lt_or_le (suc I) (f e))

-- TEST LENGTHS are f + j p, and f for a single event
date_of : (q : Period) (first I : ℕ) → first ≤ I → on_date q (I - first) ≡ true → IsDate q first I
date_of Once first I l o = omega (arith, eqb-true (I - first) 0 o)
date_of (Every p) first I l o = ((I - first) / p, omega (arith, div-add-mod' (I - first) p, eqb-true ((I - first) % p) 0 o))

of_date : (q : Period) (first I : ℕ) → IsDate q first I → (first ≤ I) × (on_date q (I - first) ≡ true)
of_date Once first I d = (omega arith, eq-eqb (I - first) 0 (omega arith))
of_date (Every p) first I d =
    let x : I - first ≡ d.0 * p = omega (arith, d.1) in
    (omega (arith, d.1), rw x (eq-eqb (d.0 * p % p) 0 (mul-mod_left d.0 p)))

pub date_from : (q : Period) (first I : ℕ) → IsDate q first I → first ≤ I
date_from q first I d = (of_date q first I d).0

pub test_of : (e : Element) (I : ℕ) → (is_test_of e I ≡ true) ↔ IsDate e.period (f e) I
unfolding is_test_of
test_of e I = (
  λ t. date_of e.period (f e) I (leb-true (f e) I (and_left (leb (f e) I) (on_date e.period (I - f e)) t)) (and_right (leb (f e) I) (on_date e.period (I - f e)) t),
  λ d. let o = of_date e.period (f e) I d in and_both (leb (f e) I) (on_date e.period (I - f e)) (le-leb (f e) I o.0) o.1,
)

-- IT STEPS by the cost at a test length
dues_steps : (q : Period) (x : ℕ) → Runs q → on_date q (suc x) ≡ true → dues q (suc x) ≡ dues q x + 1
dues_steps Once x r o = absurd (omega (arith, eqb-true (suc x) 0 o))
dues_steps (Every p) x r o =
    let a = div-add-mod' (suc x) p in
    let b = eqb-true (suc x % p) 0 o in
    let n = suc x / p in
    let c : n ≡ suc (n - 1) = omega (arith, pos_of_ne-zero (λ (z : n ≡ 0). omega (arith, ap (λ y. y * p) z))) in
    let y : (n - 1) * p + (p - 1) ≡ x = omega (arith, ap (λ z. z * p) c, r.0) in
    let d = digits_div (n - 1) {m = p} {r = p - 1} (omega (arith, r.0)) in
    omega (arith, sym (ap (λ z. z / p) y) ∙ d)

dues_first : (q : Period) → dues q 0 ≡ 1
dues_first Once = refl
dues_first (Every p) = omega (arith, zero-div p)

pub demand_of_steps : (I : ℕ) (e : Element) → Legal e → demand_of e (suc I) ≡ demand_of e I + cond (is_test_of e (suc I)) e.cost 0
demand_of_steps I e l = ⊎_elim
    (λ o. rw o (⊎_elim
    (λ (g : I < f e).
    let h = date_from e.period (f e) (suc I) ((test_of e (suc I)).0 o) in
    let x : suc I - f e ≡ 0 = omega arith in
    omega (arith, late e (suc I) h, early e I g, ap (λ z. dues e.period z * e.cost) x, ap (λ z. z * e.cost) (dues_first e.period)))
    (λ (g : f e ≤ I).
    let h : f e ≤ suc I = omega arith in
    let x : suc I - f e ≡ suc (I - f e) = omega arith in
    let n = dues_steps e.period (I - f e) l.period (sym (on_date_lem e (suc I) _ h x) ∙ o) in
    omega (arith, late e (suc I) h, late e I g, ap (λ z. dues e.period z * e.cost) x, ap (λ z. z * e.cost) n))
    (lt_or_le I (f e))))
    (λ o. rw o (omega (arith, demand_of_rests I e l o)))
    (test (is_test_of e (suc I)))
