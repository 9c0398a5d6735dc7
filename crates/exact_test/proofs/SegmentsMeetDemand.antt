-- How a segment meets the definitions: it begins empty, the places of a legal set fit, and what they add is the cost due. Assumes nothing.
use Prim.Native.Nat.{ℕ, zero, suc, ◌+◌, ◌*◌, ◌≤◌, ◌<◌}
use mathlib.Core.Path.{◌≡◌, refl, sym, ap₂}
use mathlib.Core.Bool.{Bool}
use mathlib.Core.List.{List, [], ◌∷◌, map}
use mathlib.Core.Logic.{⊎_elim}
use native.Mathlib.Nat.{zero-add}
use native.Mathlib.Omega.{arith}
use lib.Dec.{ltb}
use lib.ListN.{length, get_or, replicate, length-replicate}
use borrow.Author.Tests.{lt-ltb}
use Rattle.std.proofs.lemmas.List.{get_or-map}
use Rattle.std.proofs.lemmas.Nat.Bits.{bit_at-zero}
use Rattle.model.specs.declared.elements.Element.{Element}
use Rattle.model.specs.Over.{sum_over, some_over, Each}
use Rattle.model.specs.Elements.{most_cost, places, AllLegal, filler}
use Rattle.model.specs.Demand.{is_test_of, is_test}
use Rattle.model.proofs.Cases.{test}
use Rattle.model.proofs.OverLaws.{each_at}
use Rattle.model.proofs.ElementLaws.{Legal, all_legal}
use Rattle.theory.specs.Growth.{cost_of, due_at}
use Rattle.places.specs.declared.dates.Place.{Place}
use Rattle.places.specs.Dates.{most_bound, place_of}
use Rattle.places.proofs.LayingLaws.{step_within}
use Rattle.exact_test.specs.Segments.{is_date, ticks, due_of, place_at, Marked, Fit, Addable, Full, total, Zero}
use Rattle.exact_test.proofs.DateLaws.{test_date}
use Rattle.exact_test.proofs.SegmentLaws.{due_most, total_most}

-- AN EMPTY SEGMENT
pub none_zero : (n : ℕ) → Zero (replicate n 0)
none_zero zero y = refl
none_zero (suc n) zero = refl
none_zero (suc n) (suc y) = none_zero n y

pub none_marked : Marked (replicate ticks 0) (replicate 64 0) 0
none_marked =
    record {
      due_long = length-replicate {A = ℕ} ticks 0;
      marks_long = length-replicate {A = ℕ} 64 0;
      fits = λ k. omega (arith, none_zero 64 k);
      bits = λ k i h l. rw (none_zero 64 k, none_zero ticks (k * 64 + i)) (bit_at-zero i);
      words = λ k i h l p. absurd (omega (arith, none_zero ticks (k * 64 + i)));
    }

-- FROM base ON and below the bound, the dates of the place are the test lengths of the element
pub record Follows (base bound : ℕ) (e : Element) (p : Place) : Type 0 where
  pub dates : (I : ℕ) → base ≤ I → I < bound → is_test_of e I ≡ is_date p I
  pub cost : p.cost ≡ e.cost

-- the elements as places, from length 1 on
module _ (s : List Element) (i : ℕ) (h : i < length s) where
  placed : place_at (map place_of s) i ≡ place_of (get_or s i filler)
  placed = get_or-map place_of s i filler (place_at [] 0) h

  pub placed_fit : AllLegal s → Fit (place_at (map place_of s) i) 1
  placed_fit legal =
      let e = each_at Legal s i filler h (all_legal s legal) in
      rw placed (record {
        from = omega (arith, e.deadline.0);
        near = omega (arith, e.offset.1, e.deadline.1);
        steps = step_within (get_or s i filler).period e.period;
        costs = e.cost;
      })

  pub placed_follows : {bound : ℕ} → bound ≤ most_bound → Follows 1 bound (get_or s i filler) (place_at (map place_of s) i)
  placed_follows b = rw placed (record { dates = λ I l u. test_date (get_or s i filler) I (omega arith); cost = refl })

-- WHAT THE PLACES ADD is the cost due, where their dates are the test lengths
pub due_is :
    {base bound : ℕ} (s : List Element) (rows : List Place) → length rows ≡ length s →
    ((i : ℕ) → i < length s → Follows base bound (get_or s i filler) (place_at rows i)) →
    (I : ℕ) → base ≤ I → I < bound → due_of rows I ≡ due_at s I
unfolding due_of cost_of sum_over
due_is [] [] long rows I b l = refl
due_is [] (p ∷ ps) long rows I b l = absurd (omega arith)
due_is (e ∷ s) [] long rows I b l = absurd (omega arith)
due_is (e ∷ s) (p ∷ ps) long rows I b l =
    let h = rows 0 (omega arith) in
    ap₂ ◌+◌ (rw (h.dates I b l, h.cost)) (due_is s ps (omega arith) (λ i u. rows (suc i) (omega arith)) I b l)

-- a cost is due exactly at the test lengths
some_cost : (s : List Element) (pass : Element → Bool) → Each s Legal → some_over s pass ≡ ltb 0 (cost_of s pass)
unfolding some_over cost_of sum_over
some_cost [] pass legal = refl
some_cost (e ∷ s) pass legal = ⊎_elim
    (λ p. rw p (sym (lt-ltb 0 (e.cost + cost_of s pass) (omega (arith, legal.0.cost.0)))))
    (λ p. rw p (rw zero-add (some_cost s pass legal.1)))
    (test (pass e))

pub test_due : (s : List Element) (I : ℕ) → AllLegal s → is_test s I ≡ ltb 0 (due_at s I)
unfolding is_test
test_due s I legal = some_cost s (λ e. is_test_of e I) (all_legal s legal)

-- HOW MUCH a segment holds
pub total_full :
    {rows₀ rows : List Place} {due : List ℕ} {base len low : ℕ} → Addable rows₀ base → Full rows₀ rows due base len low →
    total due ≤ len * (places * most_cost)
total_full {rows₀} {rows} {due} {base} {len} fit full =
    total_most due len (places * most_cost)
    (λ y h. omega (arith, full.each y h, due_most rows₀ (base + y) most_cost (λ i l. (fit.fit i l).costs.1), fit.few))
    full.rest
