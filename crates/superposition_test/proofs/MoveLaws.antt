-- What holds whenever `move_on` turns to the row i. Assumes nothing.
use Prim.Native.Nat.{ℕ, suc, ◌+◌, ◌*◌, ◌≤◌, ◌<◌, min}
use mathlib.Core.Path.{◌≡◌, sym, ap, ◌∙◌}
use mathlib.Core.List.{List, ◌∷◌, ◌++◌, map}
use native.Mathlib.Omega.{arith}
use lib.ListN.{length, length-map, get_or, set, take, drop}
use lib.Seq.{length-take-le, drop-cons, get_or-append_seam}
use Rattle.std.proofs.lemmas.List.{map_more}
use Rattle.std.specs.List.{sum_by}
use Rattle.std.proofs.lemmas.List.Sums.{sum_by_more, fold_push}
use Rattle.model.specs.Elements.{most_cost}
use Rattle.model.proofs.OverLaws.{each_at}
use Rattle.places.proofs.LayingLaws.{laid_more}
use Rattle.superposition_test.specs.declared.walk.Row.{Row}
use Rattle.superposition_test.specs.Walk.{none, unused, most_rise, Small, Movable, least_next, moved_on, due_in, rise_in}

pub record Moving (before : List Row) (at : ℕ) (rows : List Row) (i cost rise next : ℕ) : Type 0 where
  pub fit : Movable before at
  pub moved : rows ≡ map (moved_on at) (take i before) ++ drop i before
  pub due : cost ≡ sum_by (due_in at) (take i before)
  pub slope : rise ≡ sum_by (rise_in at) (take i before)
  pub least : next ≡ least_next (map (moved_on at) (take i before))
  pub due_small : cost ≤ i * most_cost
  pub slope_small : rise ≤ i * most_rise

-- WHAT A ROW ADDS
pub record Changed (at : ℕ) (r r' : Row) (cost cost' rise rise' : ℕ) : Type 0 where
  pub row : r' ≡ moved_on at r
  pub due : cost' ≡ cost + due_in at r
  pub slope : rise' ≡ rise + rise_in at r

module _ (at cost rise : ℕ) (r : Row) where
  -- one that has another length
  pub stays : (r.place.next ≡ at → ⊥) → Changed at r r cost cost rise rise
  stays o = record { row = grind arith; due = grind arith; slope = grind arith }

  -- one with a length further on
  pub goes_on :
      r.place.next ≡ at → at < r.last → Changed at r (record r { place = record r.place { next = at + r.place.step } }) cost (cost + r.place.cost) rise rise
  goes_on o b = record { row = grind arith; due = grind arith; slope = grind arith }

  -- one with none left
  pub goes_out :
      r.place.next ≡ at → r.last ≤ at → Changed at r (record r { place = record r.place { next = none } }) cost (cost + r.place.cost) rise (rise + r.rise)
  goes_out o b = record { row = grind arith; due = grind arith; slope = grind arith }

due_part : (r : Row) (at : ℕ) → due_in at r ≤ r.place.cost
due_part r at = grind arith

rise_part : (r : Row) (at : ℕ) → rise_in at r ≤ r.rise
rise_part r at = grind arith

module _ {before : List Row} {at : ℕ} {rows : List Row} {i cost rise next : ℕ} (w : Moving before at rows i cost rise next) (l : i < length before) where
  abbrev front : List Row
  front = map (moved_on at) (take i before)

  -- the row at hand
  abbrev row : Row
  row = get_or rows i unused

  here : row ≡ get_or before i unused
  here =
      let size : length front ≡ i = length-map (take i before) (moved_on at) ∙ length-take-le i before (omega arith) in
      rw (w.moved, drop-cons before i unused l) (
      ap (λ n. get_or (front ++ get_or before i unused ∷ drop (suc i) before) n unused) (sym size)
      ∙ get_or-append_seam front (get_or before i unused) (drop (suc i) before) unused
      )

  pub small : Small row
  small = rw here (each_at Small before i unused l w.fit.small)

  -- one row more
  pub turn : {r : Row} {cost' rise' : ℕ} → Changed at row r cost cost' rise rise' → Moving before at (set rows i r) (i + 1) cost' rise' (min next r.place.next)
  turn {r} {cost'} {rise'} c =
      record {
        fit = w.fit;
        moved = rw (c.row, here, w.moved) (laid_more (moved_on at) before before i unused l l);
        due = c.due ∙ rw here (omega (arith, sum_by_more (due_in at) before i unused l, w.due));
        slope = c.slope ∙ rw here (omega (arith, sum_by_more (rise_in at) before i unused l, w.slope));
        least =
            rw (c.row, here, w.least, map_more (moved_on at) before i unused l)
            (sym (fold_push (λ best r. min best r.place.next) none front (moved_on at (get_or before i unused))));
        due_small = omega (arith, w.due_small, c.due, due_part row at, small.cost);
        slope_small = omega (arith, w.slope_small, c.slope, rise_part row at, small.rise);
      }
