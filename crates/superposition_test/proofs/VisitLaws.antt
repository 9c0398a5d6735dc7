-- The rows of all elements: the least of their next lengths is the next that the set visits, and what moves on there. Assumes nothing.
use Prim.Native.Nat.{ℕ, ◌≤◌, ◌<◌}
use mathlib.Core.Path.{◌≡◌}
use mathlib.Core.Bool.{true, false, cond}
use mathlib.Core.List.{List, map}
use mathlib.Core.Logic.{⊎_elim}
use native.Mathlib.Omega.{arith}
use borrow.Author.Tests.{eq-eqb, ne_eqb}
use lib.ListN.{length, get_or}
use Rattle.std.specs.List.{AllZip, sum_by}
use Rattle.std.proofs.lemmas.Bool.{false_from_ne_true}
use Rattle.std.proofs.lemmas.Slice.Zip.{AllZip-long}
use Rattle.model.specs.declared.elements.Element.{Element}
use Rattle.model.specs.Over.{sum_over, Each}
use Rattle.model.specs.Elements.{filler}
use Rattle.model.specs.Demand.{H}
use Rattle.model.specs.Superposition.{m, is_visited}
use Rattle.model.proofs.Cases.{clash, lt_or_le}
use Rattle.model.proofs.OverLaws.{some_at, at_some, each_at}
use Rattle.model.proofs.ElementLaws.{Legal}
use Rattle.theory.specs.Growth.{cost_of, is_visited_by, visited_due_at, is_last_by, rise_of}
use Rattle.places.specs.Dates.{step_in}
use Rattle.superposition_test.specs.declared.walk.Row.{Row}
use Rattle.superposition_test.specs.Walk.{none, unused, moved_on, due_in, rise_in}
use Rattle.superposition_test.proofs.LeastLaws.{least_from, Attained, least_below, least_attained}
use Rattle.superposition_test.proofs.NextLaws.{NextOf, next_miss, next_hit, next_visits, next_rises}
use Rattle.superposition_test.proofs.RowLaws.{zip_at, zip_map, zip_sum}

-- what a row holds of its element, past x
pub record Holds (k h x : ℕ) (e : Element) (r : Row) : Type 0 where
  pub legal : Legal e
  pub step : r.place.step ≡ step_in e
  pub cost : r.place.cost ≡ e.cost
  pub last : r.last ≡ m k e
  pub rise : r.rise ≡ rise_of h e
  pub next : NextOf k e x r.place.next

abbrev pub Held : ℕ → List Element → ℕ → List Row → Type 0
Held k s x rows = AllZip (Holds k (H s) x) s rows

module _ (s : List Element) (k : ℕ) where
  pub visits_place : (I : ℕ) → is_visited k s I ≡ true → (i : ℕ) × (i < length s) × (is_visited_by k I (get_or s i filler) ≡ true)
  unfolding is_visited
  visits_place I v = some_at s (is_visited_by k I) filler v

  module _ (x at : ℕ) (rows : List Row) (held : Held k s x rows) (l : at ≡ least_from none rows) where
    below : Each rows (λ r. at ≤ r.place.next)
    below = rw l (least_below none rows)

    pub quiet : (I : ℕ) → x < I → I < at → is_visited k s I ≡ false
    quiet I a b = false_from_ne_true (is_visited k s I) (λ v.
        let w = visits_place I v in
        let n = zip_at (Holds k (H s) x) s rows w.0 filler unused held w.1 in
        let u = each_at (λ r. at ≤ r.place.next) rows w.0 unused (omega (arith, w.1, AllZip-long (Holds k (H s) x) s rows held)) below in
        clash w.2 (n.next.gap I a (omega (arith, u))))

    module _ (b : at < none) where
      -- the element whose next length it is
      one : (i : ℕ) × (i < length s) × NextOf k (get_or s i filler) x at
      one =
          let a : Attained rows (least_from none rows) = least_attained none rows (rw l at b) in
          let i : a.0 < length s = omega (arith, a.1, AllZip-long (Holds k (H s) x) s rows held) in
          (a.0, i, rw (a.2 unused, ← l) at (zip_at (Holds k (H s) x) s rows a.0 filler unused held i).next)

      pub at_later : x < at
      at_later = one.2.later

      pub at_visited : is_visited k s at ≡ true
      unfolding is_visited
      at_visited = at_some s (is_visited_by k at) filler one.0 one.1 (one.2.here b)

      next_moves : (e : Element) (r : Row) → Holds k (H s) x e r → at ≤ r.place.next → NextOf k e at (moved_on at r).place.next
      next_moves e r w u =
          let n = r.place.next in
          rw (w.step, w.last) (⊎_elim
          (λ (a : at < n). rw (ne_eqb n at (λ q. omega arith)) (next_miss k e x at n w.next (omega (arith, at_later)) a))
          (λ (a : n ≤ at).
          let q : n ≡ at = omega arith in
          rw (eq-eqb n at q) (next_hit k e x at w.legal (rw q at w.next) b))
          (lt_or_le at n))

      pub moved_rows : Held k s at (map (moved_on at) rows)
      moved_rows = zip_map (Holds k (H s) x) (Holds k (H s) at) (λ r. at ≤ r.place.next) (moved_on at) s rows
          (λ e r w u. record { legal = w.legal; step = w.step; cost = w.cost; last = w.last; rise = w.rise; next = next_moves e r w u }) held below

      pub moved_due : sum_by (due_in at) rows ≡ visited_due_at k s at
      unfolding cost_of
      moved_due = zip_sum (Holds k (H s) x) (λ r. at ≤ r.place.next) (due_in at) (λ e. cond (is_visited_by k at e) e.cost 0) s rows
          (λ e r w u. rw (w.cost, next_visits k e x r.place.next w.next at at_later u b)) held below

      pub moved_rise : sum_by (rise_in at) rows ≡ sum_over s (λ e. cond (is_last_by k at e) (rise_of (H s) e) 0)
      moved_rise = zip_sum (Holds k (H s) x) (λ r. at ≤ r.place.next) (rise_in at) (λ e. cond (is_last_by k at e) (rise_of (H s) e) 0) s rows
          (λ e r w u. rw (w.last, w.rise) (next_rises k e x r.place.next w.next at at_later u b (rise_of (H s) e))) held below
