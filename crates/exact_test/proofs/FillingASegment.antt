-- What holds whenever `fill` turns to the place i, from the first to past the last. Assumes nothing.
use Prim.Native.Nat.{ℕ, ◌+◌, ◌*◌, ◌≤◌, ◌<◌, min}
use mathlib.Core.Path.{◌≡◌, refl, sym, ◌∙◌}
use mathlib.Core.List.{List, []}
use native.Mathlib.Decide.{dec_lt}
use native.Mathlib.Omega.{arith}
use lib.ListN.{length, get_or, set, take, length-set}
use lib.Seq.{take_all, get_or-set_same, get_or-set_other}
use borrow.Author.Count.{below_more}
use Rattle.std.proofs.lemmas.List.{set-get_or}
use Rattle.model.specs.declared.elements.Element.{Element}
use Rattle.model.specs.Elements.{most_cost, filler}
use Rattle.places.specs.declared.dates.Place.{Place}
use Rattle.places.specs.Dates.{place_of}
use Rattle.exact_test.specs.Segments.{IsWord, due_of, place_at, at_date, dated, MovedOn, Fit, Added, Addable, Full, Zero}
use Rattle.exact_test.proofs.DatedPlaces.{dated_long, dated_at, dated_set}
use Rattle.exact_test.proofs.SegmentLaws.{part_most, part_before, due_none, due_more}

-- the first i places are added and have moved on, the others stand as they did
pub record Filling (rows₀ rows : List Place) (due : List ℕ) (base len low i : ℕ) : Type 0 where
  pub long : length rows ≡ length rows₀
  pub each : (y : ℕ) → y < len → get_or due y 0 ≡ due_of (take i rows₀) (base + y)
  pub rest : (y : ℕ) → len ≤ y → get_or due y 0 ≡ 0
  pub small : (y : ℕ) → get_or due y 0 ≤ i * most_cost
  pub ahead : (k : ℕ) → i ≤ k → place_at rows k ≡ place_at rows₀ k
  pub moved : (k : ℕ) → k < i → MovedOn (place_at rows₀ k) (place_at rows k) (base + len)
  pub least : (k : ℕ) → k < i → low ≤ (place_at rows k).next
  pub past : base + len ≤ low

-- a place with no date below base + len
pub none_added : (due : List ℕ) {p : Place} {base : ℕ} (len : ℕ) → Fit p base → base + len ≤ p.next → Added due due p p base len
none_added due {p} {base} len fit h =
    record {
      each = λ y u. omega (arith, part_before p (base + y) (omega arith));
      rest = λ y u. refl;
      moved = record {
        kept = refl;
        fit = record { from = h; near = fit.near; steps = fit.steps; costs = fit.costs };
        same = λ I u. refl;
      };
    }

pub start : {rows : List Place} {due : List ℕ} {base len low : ℕ} → Zero due → base + len ≤ low → Filling rows rows due base len low 0
start {rows} {base = base} z l =
    record {
      long = refl;
      each = λ y h. z y ∙ sym (due_none rows (base + y));
      rest = λ y h. z y;
      small = λ y. omega (arith, z y);
      ahead = λ k h. refl;
      moved = λ k h. absurd (omega arith);
      least = λ k h. absurd (omega arith);
      past = l;
    }

module _ {rows₀ rows : List Place} {due : List ℕ} {base len low i : ℕ} (v : Filling rows₀ rows due base len low i) where
  module _ (fit : Addable rows₀ base) (h : i < length rows₀) where
    here : place_at rows i ≡ place_at rows₀ i
    here = v.ahead i (omega arith)

    pub fits : Fit (place_at rows i) base
    fits = rw here (fit.fit i h)

    pub room : (y : ℕ) → IsWord (get_or due y 0 + (place_at rows i).cost)
    room y = omega (arith, v.small y, fits.costs.1, fit.few)

    pub added :
        {due' : List ℕ} {p : Place} → Added due due' (place_at rows i) p base len →
        Filling rows₀ (set rows i p) due' base len (min low p.next) (i + 1)
    added {due'} {p} a =
        let same = get_or-set_same rows i p (place_at [] 0) (omega (arith, v.long)) in
        record {
          long = length-set rows i p ∙ v.long;
          each = λ y u. omega (arith, rw here at (a.each y u), v.each y u, due_more rows₀ i (base + y) h);
          rest = λ y u. a.rest y u ∙ v.rest y u;
          small = λ y.
              elim (dec_lt y len) [
                | yes u ↦
                    let most = part_most (place_at rows i) (base + y) in
                    omega (arith, a.each y u, v.small y, most, fits.costs.1)
                | no u ↦ omega (arith, a.rest y (omega arith), v.small y)
              ];
          ahead = λ k u. get_or-set_other rows i k p _ (λ e. omega arith) ∙ v.ahead k (omega arith);
          moved =
              below_more _ i
              (λ k u. rw (get_or-set_other rows i k p (place_at [] 0) (λ e. omega arith)) (v.moved k u))
              (rw (same, ← here) a.moved);
          least =
              below_more _ i
              (λ k u. rw (get_or-set_other rows i k p (place_at [] 0) (λ e. omega arith)) (omega (arith, v.least k u)))
              (rw same (omega arith));
          past = omega (arith, v.past, a.moved.fit.from);
        }

  pub end : length rows₀ ≤ i → Full rows₀ rows due base len low
  end h =
      record {
        long = v.long;
        each = λ y u. rw (take_all i rows₀ h) at (v.each y u);
        rest = v.rest;
        moved = λ k u. v.moved k (omega arith);
        least = λ k u. v.least k (omega arith);
        past = v.past;
      }

-- THE ELEMENTS as places with their next dates
abbrev pub place : List Element → List ℕ → ℕ → Place
place s next i = at_date (place_of (get_or s i filler)) (get_or next i 0)

module _ (s : List Element) (next₀ next : List ℕ) {due : List ℕ} {base len low i : ℕ} (v : Filling (dated s next₀) (dated s next) due base len low i)
    (fit : Addable (dated s next₀) base) (h : i < length s) where
  within : i < length (dated s next₀)
  within = omega (arith, dated_long s next₀)

  pub place_fits : Fit (place s next i) base
  place_fits = rw (dated_at s next i h) at (fits v fit within)

  pub place_room : (y : ℕ) → IsWord (get_or due y 0 + (place s next i).cost)
  place_room = rw (dated_at s next i h) at (room v fit within)

  module _ (l : i < length next) where
    pub place_added : {due' : List ℕ} {x : ℕ} → Added due due' (place s next i) (at_date (place s next i) x) base len →
        Filling (dated s next₀) (dated s (set next i x)) due' base len (min low x) (i + 1)
    place_added {due'} {x} a =
        let here : Added due due' (place_at (dated s next) i) (at_date (place s next i) x) base len = rw (dated_at s next i h) a in
        rw (dated_set s next i x h l) at (added v fit within here)

    pub place_passed : base + len ≤ get_or next i 0 → Filling (dated s next₀) (dated s next) due base len (min low (get_or next i 0)) (i + 1)
    place_passed o = rw (set-get_or next i 0) at (place_added (none_added due len place_fits o))
