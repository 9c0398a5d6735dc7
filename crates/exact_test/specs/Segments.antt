-- A segment of lengths: what its entries and their marks hold, and what taking them in rising order comes to.
use Rattle.std.specs.Prelude.{ℕ, zero, suc, ◌+◌, ◌-◌, ◌*◌, ◌%◌, ◌≤◌, ◌<◌, ◌≡◌, Bool, ◌&&◌, cond, List, [], ◌∷◌, Result, Ok, Err, leb, ltb, eqb, length, get_or, drop}
use Rattle.std.specs.Int.{bit_at}
use Rattle.model.specs.declared.elements.Element.{Element}
use Rattle.model.specs.declared.answers.Verdict.{Verdict}
use Rattle.model.specs.declared.answers.Verdict.TheVariants.{Passes, Overrun}
use Rattle.model.specs.Over.{sum_over}
use Rattle.model.specs.Elements.{most_cost, places}
use Rattle.places.specs.declared.dates.Place.{Place}
use Rattle.places.specs.Dates.{most_bound, place_of}
use Rattle.exact_test.specs.declared.segments.Compared.{Compared}

-- a segment has so many lengths at most, an entry for each
abbrev pub ticks : ℕ
ticks = 4096

-- no next date is above this: a step past a bound
abbrev pub most_next : ℕ
most_next = 4294967296

-- a number of 64 bits
abbrev pub IsWord : ℕ → Type 0
IsWord x = x < 18446744073709551616

-- 1 where there is something, else 0
abbrev pub sign : ℕ → ℕ
sign zero = 0
sign (suc n) = 1

-- I is next, next + step, next + 2 step or so on
unfoldable pub is_date : Place → ℕ → Bool
is_date p I = leb p.next I && eqb ((I - p.next) % p.step) 0

-- what a place adds at the length I
abbrev pub part : Place → ℕ → ℕ
part p I = cond (is_date p I) p.cost 0

-- what the places add at the length I
unfoldable pub due_of : List Place → ℕ → ℕ
due_of places I = sum_over places (λ p. part p I)

-- seen has the bit k where due has something in the word k: at some k * 64 + i
abbrev pub Covers : List ℕ → ℕ → Type 0
Covers due seen = (k i : ℕ) → k < 64 → i < 64 → 0 < get_or due (k * 64 + i) 0 → bit_at seen k ≡ 1

-- the word k of marks has the bit i exactly where due has something at k * 64 + i, and seen covers due
pub record Marked (due marks : List ℕ) (seen : ℕ) : Type 0 where
  pub due_long : length due ≡ ticks
  pub marks_long : length marks ≡ 64
  pub fits : (k : ℕ) → IsWord (get_or marks k 0)
  pub bits : (k i : ℕ) → k < 64 → i < 64 → bit_at (get_or marks k 0) i ≡ sign (get_or due (k * 64 + i) 0)
  pub words : Covers due seen

-- a place that can be added from base on
pub record Fit (p : Place) (base : ℕ) : Type 0 where
  pub from : base ≤ p.next
  pub near : p.next ≤ most_next
  pub steps : (1 ≤ p.step) × (p.step ≤ most_bound)
  pub costs : (1 ≤ p.cost) × (p.cost ≤ most_cost)

-- the place with its next date at I
abbrev pub at_date : Place → ℕ → Place
at_date p I = record { next = I; step = p.step; cost = p.cost }

-- the elements as places, each with its next date
unfoldable pub dated : List Element → List ℕ → List Place
dated [] next = []
dated (e ∷ s) next = at_date (place_of e) (get_or next 0 0) ∷ dated s (drop 1 next)

-- the place p₀ has moved on to its first date from end on
pub record MovedOn (p₀ p : Place) (end : ℕ) : Type 0 where
  pub kept : p ≡ at_date p₀ p.next
  pub fit : Fit p end
  pub same : (I : ℕ) → end ≤ I → is_date p I ≡ is_date p₀ I

-- a place's dates from base on and below base + len are added, and it has moved on
pub record Added (due₀ due : List ℕ) (p₀ p : Place) (base len : ℕ) : Type 0 where
  pub each : (y : ℕ) → y < len → get_or due y 0 ≡ get_or due₀ y 0 + part p₀ (base + y)
  pub rest : (y : ℕ) → len ≤ y → get_or due y 0 ≡ get_or due₀ y 0
  pub moved : MovedOn p₀ p (base + len)

-- a place of the list
abbrev pub place_at : List Place → ℕ → Place
place_at places i = get_or places i (record { next = 0; step = 0; cost = 0 })

-- the places can be added from base on
pub record Addable (rows : List Place) (base : ℕ) : Type 0 where
  pub few : length rows ≤ places
  pub fit : (i : ℕ) → i < length rows → Fit (place_at rows i) base

-- the dates of the places from base on and below base + len are added; each has moved on, none of them to a date below low
pub record Full (rows₀ rows : List Place) (due : List ℕ) (base len low : ℕ) : Type 0 where
  pub long : length rows ≡ length rows₀
  pub each : (y : ℕ) → y < len → get_or due y 0 ≡ due_of rows₀ (base + y)
  pub rest : (y : ℕ) → len ≤ y → get_or due y 0 ≡ 0
  pub moved : (i : ℕ) → i < length rows₀ → MovedOn (place_at rows₀ i) (place_at rows i) (base + len)
  pub least : (i : ℕ) → i < length rows₀ → low ≤ (place_at rows i).next
  pub past : base + len ≤ low

-- what was compared, with a cost more
abbrev pub with_due : Compared → ℕ → Compared
with_due c a = record { demand = c.demand + a; count = c.count + 1 }

-- the verdict at the length I
abbrev pub overrun_at : ℕ → Compared → Verdict
overrun_at I c = Overrun I c.demand c.count

-- the entries are taken in rising order, the first of them at the length I, with c compared so far
unfoldable pub sweep_of : List ℕ → ℕ → Compared → Result Compared Verdict
sweep_of [] I c = Ok c
sweep_of (zero ∷ xs) I c = sweep_of xs (I + 1) c
sweep_of (suc a ∷ xs) I c =
    let more = sweep_of xs (I + 1) (with_due c (suc a)) in
    cond (ltb I (c.demand + suc a)) (Err (overrun_at I (with_due c (suc a)))) more

-- no overrun is 0 with the count
abbrev pub verdict_of : Result Compared Verdict → Verdict
verdict_of (Ok c) = Passes c.count
verdict_of (Err v) = v

-- the sum of the entries
unfoldable pub total : List ℕ → ℕ
total [] = 0
total (a ∷ xs) = a + total xs

-- no entry has anything
abbrev pub Zero : List ℕ → Type 0
Zero xs = (y : ℕ) → get_or xs y 0 ≡ 0
