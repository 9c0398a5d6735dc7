-- Laws of specs/Segments: the sums, their bounds, and what taking the first entry comes to. Assumes nothing.
use Prim.Native.Nat.{ℕ, zero, suc, ◌+◌, ◌*◌, ◌≤◌, ◌<◌}
use mathlib.Core.Path.{◌≡◌, refl, ◌∙◌}
use mathlib.Core.Bool.{Bool, true, false, cond}
use mathlib.Core.List.{List, [], ◌∷◌}
use native.Mathlib.Numerals.{add-one}
use native.Mathlib.Omega.{arith}
use lib.Dec.{ltb}
use lib.ListN.{length, get_or, set, take}
use Rattle.std.specs.Prelude.{Ok, Err}
use borrow.Author.Tests.{lt-ltb, le-ltb}
use Rattle.model.specs.Over.{sum_over}
use Rattle.model.proofs.OverLaws.{sum_more}
use Rattle.places.specs.declared.dates.Place.{Place}
use Rattle.exact_test.specs.declared.segments.Compared.{Compared}
use Rattle.exact_test.specs.Segments.{is_date, part, due_of, place_at, with_due, overrun_at, sweep_of, total, Zero}
use Rattle.exact_test.proofs.DateLaws.{date_self, date_before}

-- WHAT A PLACE ADDS
module _ (p : Place) where
  pub part_most : (I : ℕ) → part p I ≤ p.cost
  part_most I = go (is_date p I)
    where
      go : (b : Bool) → cond b p.cost 0 ≤ p.cost
      go true = omega arith
      go false = omega arith

  pub part_here : part p p.next ≡ p.cost
  part_here = rw (date_self p)

  pub part_before : (I : ℕ) → I < p.next → part p I ≡ 0
  part_before I h = rw (date_before p I h)

-- WHAT THE PLACES ADD
pub due_none : (ps : List Place) (I : ℕ) → due_of (take 0 ps) I ≡ 0
unfolding due_of sum_over
due_none ps I = refl

pub due_more : (ps : List Place) (i I : ℕ) → i < length ps →
    due_of (take (i + 1) ps) I
    ≡ due_of (take i ps) I + part (place_at ps i) I
unfolding due_of
due_more ps i I h = rw (add-one i) (sum_more ps (λ p. part p I) (place_at [] 0) i h)

pub due_most : (ps : List Place) (I most : ℕ) → ((i : ℕ) → i < length ps → (place_at ps i).cost ≤ most) → due_of ps I ≤ length ps * most
unfolding due_of sum_over
due_most [] I most h = omega arith
due_most (p ∷ ps) I most h =
    omega (arith, part_most p I, h 0 (omega arith), due_most ps I most (λ i l. h (suc i) (omega arith)))

-- THE SUM OF THE ENTRIES
pub total_most :
    (xs : List ℕ) (len most : ℕ) → ((y : ℕ) → y < len → get_or xs y 0 ≤ most) → ((y : ℕ) → len ≤ y → get_or xs y 0 ≡ 0) → total xs ≤ len * most
unfolding total
total_most [] len most h z = omega arith
total_most (a ∷ xs) zero most h z = omega (arith, z 0 (omega arith), total_most xs zero most (λ y l. absurd (omega arith)) (λ y l. z (suc y) (omega arith)))
total_most (a ∷ xs) (suc len) most h z =
    omega (arith, h 0 (omega arith), total_most xs len most (λ y l. h (suc y) (omega arith)) (λ y l. z (suc y) (omega arith)))

pub total_taken : (xs : List ℕ) (j : ℕ) → j < length xs → total (set xs j 0) + get_or xs j 0 ≡ total xs
unfolding total
total_taken [] j h = absurd (omega arith)
total_taken (a ∷ xs) zero h = omega arith
total_taken (a ∷ xs) (suc j) h = omega (arith, total_taken xs j (omega arith))

-- TAKING THE ENTRIES
pub sweep_clean : (xs : List ℕ) (I : ℕ) (c : Compared) → Zero xs → sweep_of xs I c ≡ Ok c
unfolding sweep_of
sweep_clean [] I c h = refl
sweep_clean (zero ∷ xs) I c h = sweep_clean xs (I + 1) c (λ y. h (suc y))
sweep_clean (suc a ∷ xs) I c h = absurd (omega (arith, h 0))

-- the entry j is the first that has something
pub record IsFirst (xs : List ℕ) (j : ℕ) : Type 0 where
  pub within : j < length xs
  pub some : 0 < get_or xs j 0
  pub before : (y : ℕ) → y < j → get_or xs y 0 ≡ 0

first_rest : (a : ℕ) (xs : List ℕ) (j : ℕ) → IsFirst (a ∷ xs) (suc j) → IsFirst xs j
first_rest a xs j h = record { within = omega (arith, h.within); some = h.some; before = λ y l. h.before (suc y) (omega arith) }

sweep_first :
    (xs : List ℕ) (j I : ℕ) (c : Compared) →
    IsFirst xs j →
    sweep_of xs I c
    ≡ (let n = with_due c (get_or xs j 0) in cond (ltb (I + j) n.demand) (Err (overrun_at (I + j) n)) (sweep_of (set xs j 0) I n))
unfolding sweep_of
sweep_first [] j I c h = absurd (omega (arith, h.within))
sweep_first (zero ∷ xs) zero I c h = absurd (omega (arith, h.some))
sweep_first (suc a ∷ xs) zero I c h = let e : I + 0 ≡ I = omega arith in rw e
sweep_first (zero ∷ xs) (suc j) I c h =
    let e : I + suc j ≡ I + 1 + j = omega arith in
    rw e (sweep_first xs j (I + 1) c (first_rest 0 xs j h))
sweep_first (suc a ∷ xs) (suc j) I c h = absurd (omega (arith, h.before 0 (omega arith)))

module _ (xs : List ℕ) (j I : ℕ) (c : Compared) (h : IsFirst xs j) where
  pub sweep_late : I + j < c.demand + get_or xs j 0 → sweep_of xs I c ≡ Err (overrun_at (I + j) (with_due c (get_or xs j 0)))
  sweep_late l = sweep_first xs j I c h ∙ rw (lt-ltb (I + j) (c.demand + get_or xs j 0) l)

  pub sweep_next : c.demand + get_or xs j 0 ≤ I + j → sweep_of xs I c ≡ sweep_of (set xs j 0) I (with_due c (get_or xs j 0))
  sweep_next l = sweep_first xs j I c h ∙ rw (le-ltb (I + j) (c.demand + get_or xs j 0) l)
