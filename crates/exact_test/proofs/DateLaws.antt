-- The dates next, next + step and so on; and that an element's test lengths are such dates. Assumes nothing.
use Prim.Native.Nat.{ℕ, ◌+◌, ◌-◌, ◌%◌, ◌≤◌, ◌<◌}
use mathlib.Core.Path.{◌≡◌, refl, sym, ◌∙◌}
use mathlib.Core.Bool.{true, false}
use native.Mathlib.Decide.{dec_lt}
use native.Mathlib.Nat.{sub_self, zero-mod, mod-eq_of_lt, mod-eq-sub-mod}
use native.Mathlib.Omega.{arith}
use lib.Dec.{eqb}
use borrow.Author.Tests.{le-leb, lt-leb, ne_eqb}
use Rattle.model.specs.declared.elements.Period.{Period}
use Rattle.model.specs.declared.elements.Period.TheVariants.{Once, Every}
use Rattle.model.specs.declared.elements.Element.{Element}
use Rattle.model.specs.Demand.{f, on_date, is_test_of}
use Rattle.places.specs.declared.dates.Place.{Place}
use Rattle.places.specs.Dates.{most_bound, step_of, place_of}
use Rattle.exact_test.specs.Segments.{is_date, at_date}

module _ (p : Place) where
  pub date_self : is_date p p.next ≡ true
  unfolding is_date
  date_self = rw (le-leb p.next p.next (omega arith), sub_self p.next, zero-mod p.step)

  module _ (I : ℕ) where
    pub date_before : I < p.next → is_date p I ≡ false
    unfolding is_date
    date_before h = rw (lt-leb p.next I h)

    date_between : p.next < I → I < p.next + p.step → is_date p I ≡ false
    unfolding is_date
    date_between h l =
        let m : (I - p.next) % p.step ≡ I - p.next = mod-eq_of_lt (omega arith) in
        rw (le-leb p.next I (omega arith), m) (ne_eqb (I - p.next) 0 (λ e. omega arith))

    date_after : p.next + p.step ≤ I → is_date p I ≡ is_date (at_date p (p.next + p.step)) I
    unfolding is_date
    date_after h =
        let m : (I - p.next) % p.step ≡ (I - p.next - p.step) % p.step = mod-eq-sub-mod (omega arith) in
        let e : I - p.next - p.step ≡ I - (p.next + p.step) = omega arith in
        rw (le-leb p.next I (omega arith), le-leb (p.next + p.step) I h, m, e)

-- the dates after the first are those of the next one
pub date_next : (p : Place) (I : ℕ) → (I ≡ p.next → ⊥) → is_date p I ≡ is_date (at_date p (p.next + p.step)) I
date_next p I h =
    let next = at_date p (p.next + p.step) in
    elim (dec_lt I p.next) [
      | yes l ↦ date_before p I l ∙ sym (date_before next I (omega arith))
      | no l ↦
          elim (dec_lt I next.next) [
            | yes m ↦ date_between p I (omega arith) m ∙ sym (date_before next I m)
            | no m ↦ date_after p I (omega arith)
          ]
    ]

-- dates counted from base on
pub date_shift : (base : ℕ) (p : Place) (y : ℕ) → is_date (at_date p (base + p.next)) (base + y) ≡ is_date p y
unfolding is_date
date_shift base p y =
    elim (dec_lt y p.next) [
      | yes h ↦ rw (lt-leb (base + p.next) (base + y) (omega arith), lt-leb p.next y h)
      | no h ↦
          let e : base + y - (base + p.next) ≡ y - p.next = omega arith in
          rw (le-leb (base + p.next) (base + y) (omega arith), le-leb p.next y (omega arith), e)
    ]

-- AN ELEMENT'S DATES
step_date : (q : Period) (x : ℕ) → x < most_bound → on_date q x ≡ eqb (x % step_of q) 0
step_date Once x h = let m : x % most_bound ≡ x = mod-eq_of_lt h in rw m
step_date (Every p) x h = refl

-- below the bounds of the exact test, an element's test lengths are the dates from its first due length on
pub test_date : (e : Element) (I : ℕ) → I < most_bound → is_test_of e I ≡ is_date (place_of e) I
unfolding is_test_of is_date
test_date e I h = rw (step_date e.period (I - f e) (omega arith))
