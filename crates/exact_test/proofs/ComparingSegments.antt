-- What holds whenever `compare_segments` turns to the segment that begins at base: every length below it is compared. Assumes nothing.
use Prim.Native.Nat.{ℕ, ◌+◌, ◌-◌, ◌≤◌, ◌<◌, min}
use mathlib.Core.Path.{◌≡◌, sym, ap, ◌∙◌}
use mathlib.Core.Bool.{false}
use mathlib.Core.List.{List, map}
use mathlib.Core.Logic.{⊎_elim}
use native.Mathlib.Omega.{arith}
use lib.ListN.{length, length-map, get_or, replicate}
use Rattle.std.specs.Prelude.{Ok}
use Rattle.model.specs.declared.elements.Element.{Element}
use Rattle.model.specs.declared.answers.Verdict.TheVariants.{Passes, Overrun}
use Rattle.model.specs.Elements.{places, AllLegal, filler}
use Rattle.model.specs.Demand.{is_test_of, is_test}
use Rattle.model.specs.ExactTest.{comparing}
use Rattle.model.proofs.Cases.{test, clash}
use Rattle.model.proofs.OverLaws.{some_at}
use Rattle.model.proofs.NumberLaws.{how_many_most, how_many_gap, how_many_zero}
use Rattle.theory.specs.TestLengths.{lengths_below}
use Rattle.theory.proofs.TestLengthsAre.{test_lengths_are, zero_is_no_test_length}
use Rattle.theory.proofs.DemandRests.{demand_at_zero, demand_changes_only_at_test_lengths}
use Rattle.theory.proofs.ExactTestLaws.{upto_zero, upto_gap, comparing_holds}
use Rattle.places.specs.declared.dates.Place.{Place}
use Rattle.places.specs.Dates.{most_bound, place_of}
use Rattle.exact_test.specs.declared.segments.Compared.{Compared}
use Rattle.exact_test.specs.Segments.{ticks, IsWord, place_at, Addable, Full, sweep_of, total, Zero}
use Rattle.exact_test.proofs.DateLaws.{date_before}
use Rattle.exact_test.proofs.SegmentsMeetDemand.{none_zero, Follows, placed_fit, placed_follows, due_is, total_full}
use Rattle.exact_test.proofs.SweepMeetsTest.{Reached, Met, meets}

-- up to the lesser of base and the bound all is compared; past the bound nothing is known
pub record Stage (s : List Element) (bound : ℕ) (rows : List Place) (due : List ℕ) (base : ℕ) (c : Compared) : Type 0 where
  pub legal : AllLegal s
  pub low : bound ≤ most_bound
  pub up : 1 ≤ base
  pub long : length rows ≡ length s
  pub fit : Addable rows base
  pub follows : (i : ℕ) → i < length s → Follows base bound (get_or s i filler) (place_at rows i)
  pub zero : Zero due
  pub reached : Reached s bound (min base bound) c

-- lengths that are no test lengths change nothing
reached_gap :
    {s : List Element} {bound n : ℕ} {c : Compared} → AllLegal s → (i : ℕ) → n ≤ i → 1 ≤ n →
    ((J : ℕ) → n ≤ J → J < i → is_test s J ≡ false) → Reached s bound n c → Reached s bound i c
reached_gap {s} {bound} {n} legal i l p quiet r =
    let more = i - n in
    let till : n + more ≡ i = omega arith in
    let last : n - 1 + more ≡ i - 1 = omega arith in
    record {
      compares = upto_gap (lengths_below s bound) n i r.compares quiet;
      counts = r.counts ∙ sym (rw till at (how_many_gap (is_test s) n more (λ J a b. quiet J a (omega arith))));
      demand = r.demand ∙ sym (rw last at (demand_changes_only_at_test_lengths s (n - 1) more legal (λ J a b. quiet J (omega arith) (omega arith))));
      small = omega (arith, r.small);
    }

pub start :
    {s : List Element} {bound : ℕ} → AllLegal s → length s ≤ places → bound ≤ most_bound →
    Stage s bound (map place_of s) (replicate ticks 0) 1 (record { demand = 0; count = 0 })
start {s} {bound} legal few low =
    let long = length-map s place_of in
    record {
      legal = legal;
      low = low;
      up = omega arith;
      long = long;
      fit = record { few = omega arith; fit = λ i h. placed_fit s i (omega arith) legal };
      follows = λ i h. placed_follows s i h low;
      zero = none_zero ticks;
      reached = record {
        compares =
            upto_gap (lengths_below s bound) 0 (min 1 bound) (upto_zero (lengths_below s bound)) (λ J a b. quiet J (omega arith));
        counts =
            let e : 0 + min 1 bound ≡ min 1 bound = omega arith in
            sym (rw e at (how_many_gap (is_test s) 0 (min 1 bound) (λ J a b. quiet J (omega arith))) ∙ how_many_zero (is_test s));
        demand = let e : min 1 bound - 1 ≡ 0 = omega arith in rw e (sym (demand_at_zero s legal));
        small = omega arith;
      };
    }
  where
    quiet : (J : ℕ) → J ≡ 0 → is_test s J ≡ false
    quiet J z = ap (is_test s) z ∙ ⊎_elim
        (λ p. absurd (zero_is_no_test_length s legal ((test_lengths_are s 0).0 p)))
        (λ p. p)
        (test (is_test s 0))

module _ {s : List Element} {bound : ℕ} {rows : List Place} {due : List ℕ} {base : ℕ} {c : Compared} (k : Stage s bound rows due base c) where
  pub end : bound ≤ base → Passes c.count ≡ comparing s Overrun (lengths_below s bound)
  end h =
      let e : min base bound ≡ bound = omega arith in
      let r = rw e at k.reached in
      sym (comparing_holds s Overrun (lengths_below s bound) r.compares ∙ ap Passes (sym r.counts))

  -- a segment that is filled
  module _
      (inside : base < bound) {len : ℕ} (is : len ≡ min (bound - base) ticks) {rows' : List Place} {due' : List ℕ} {low : ℕ}
      (full : Full rows rows' due' base len low) where
    pub sweep_fits : IsWord (c.demand + total due') × IsWord (c.count + total due')
    sweep_fits =
        let most = total_full k.fit full in
        let r = k.reached in
        (omega (arith, r.small, k.low), omega (arith, r.counts, how_many_most (is_test s) (min base bound), k.low))

    -- what its sweep tells
    pub swept : Met s bound (base + len) (sweep_of due' base c)
    swept =
        let from : min base bound ≡ base = omega arith in
        let costs = λ (y : ℕ) (h : y < len). full.each y h ∙ due_is s rows k.long k.follows (base + y) (omega arith) (omega arith) in
        meets s bound k.legal (base + len) due' base len c (omega arith) (omega arith) k.up (record { each = costs; rest = full.rest }) (rw from at k.reached)

    -- nothing is due after it and before low
    quiet : (I : ℕ) → base + len ≤ I → I < low → I < bound → is_test s I ≡ false
    unfolding is_test
    quiet I a b l = ⊎_elim
        (λ p.
        let w = some_at s (λ e. is_test_of e I) filler p in
        let h : w.0 < length rows = omega (arith, w.1, k.long) in
        let m = full.moved w.0 h in
        absurd (clash (m.same I a ∙ sym ((k.follows w.0 w.1).dates I (omega arith) l) ∙ w.2) (date_before (place_at rows' w.0) I (omega (arith, full.least w.0 h)))))
        (λ p. p)
        (test (is_test s I))

    pub next_stage : {due'' : List ℕ} {c' : Compared} → sweep_of due' base c ≡ Ok c' → Zero due'' → Stage s bound rows' due'' low c'
    next_stage {due''} {c'} e zero =
        record {
          legal = k.legal;
          low = k.low;
          up = omega (arith, k.up, full.past);
          long = full.long ∙ k.long;
          fit = record {
            few = omega (arith, full.long, k.fit.few);
            fit = λ i h.
                let m = full.moved i (omega (arith, full.long)) in
                record { from = full.least i (omega (arith, full.long)); near = m.fit.near; steps = m.fit.steps; costs = m.fit.costs };
          };
          follows = λ i h.
              let m = full.moved i (omega (arith, k.long)) in
              let f = k.follows i h in
              record {
                dates = λ I a b. f.dates I (omega (arith, full.past)) b ∙ sym (m.same I (omega (arith, full.past)));
                cost = ap (λ p. p.cost) m.kept ∙ f.cost;
              };
          zero = zero;
          reached =
              reached_gap k.legal (min low bound) (omega (arith, full.past)) (omega (arith, k.up))
              (λ J a b. quiet J a (omega arith) (omega arith)) (rw e at swept);
        }
