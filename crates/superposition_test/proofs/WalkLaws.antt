-- What holds whenever the walk turns to its next length, with `before` the last that it compared. Assumes nothing.
use Prim.Native.Nat.{ℕ, suc, ◌+◌, ◌*◌, ◌-◌, ◌^◌, ◌≤◌, ◌<◌}
use mathlib.Core.Path.{◌≡◌, refl, sym, ap, ◌∙◌}
use mathlib.Core.Bool.{true, false, cond}
use mathlib.Core.List.{List, map}
use mathlib.Core.Logic.{⊎_elim}
use native.Mathlib.Omega.{arith}
use native.Mathlib.Nat.{mul-le-mul_left}
use borrow.Author.Tests.{lt-ltb, le-ltb}
use lib.Dec.{ltb}
use lib.ListN.{length, get_or}
use Rattle.std.proofs.lemmas.Bool.{false_from_ne_true}
use Rattle.std.proofs.lemmas.Slice.Zip.{AllZip-long}
use Rattle.model.specs.declared.elements.Element.{Element}
use Rattle.model.specs.declared.answers.Verdict.{Verdict}
use Rattle.model.specs.declared.answers.Verdict.TheVariants.{Passes, NotShown}
use Rattle.model.specs.Number.{how_many}
use Rattle.model.specs.Elements.{most_h, places, filler, AllLegal}
use Rattle.model.specs.Demand.{H, D, load_in}
use Rattle.model.specs.ExactTest.{Lengths, comparing}
use Rattle.model.specs.Superposition.{m, HD', is_above, is_visited, superposition_lengths}
use Rattle.model.proofs.Cases.{clash, lt_or_le}
use Rattle.model.proofs.NumberLaws.{how_many_zero, how_many_gap, how_many_more, how_many_all}
use Rattle.model.proofs.OverLaws.{each_map, each_at, sum_le, sum_zero}
use Rattle.model.proofs.ElementLaws.{Legal, all_legal}
use Rattle.theory.specs.Approximation.{budget}
use Rattle.theory.specs.Growth as growth
use Rattle.theory.proofs.HyperperiodIsLeast.{hyperperiod_is_positive}
use Rattle.theory.proofs.ScaledDemandGrows.{scaled_grows, slope_grows, scaled_rises_along}
use Rattle.theory.proofs.SuperpositionAnswers.{visited_below}
use Rattle.theory.proofs.SuperpositionIsSafe.{scaled_starts}
use Rattle.theory.proofs.SuperpositionIsShort.{visits_at_most}
use Rattle.superposition_test.specs.declared.walk.Moved.{Moved}
use Rattle.theory.specs.Sizes.{SuperpositionFits}
use Rattle.superposition_test.specs.declared.walk.Row.{Row}
use Rattle.superposition_test.specs.Walk.{none, Walkable, row_of, least_next, Small, Movable, MovedOn}
use Rattle.theory.proofs.EverySumFits.{every_sum_fits}
use Rattle.theory.proofs.ExactTestLaws.{Upto, upto_zero, upto_gap, upto_more, comparing_fails, comparing_holds}
use Rattle.places.proofs.LayingLaws.{step_within}
use Rattle.theory.proofs.LoadLaws.{rise_most}
use Rattle.theory.proofs.SizeLaws.{visited_small}
use Rattle.superposition_test.proofs.NextLaws.{not_at_zero, next_start}
use Rattle.superposition_test.proofs.RowLaws.{zip_made, zip_each}
use Rattle.superposition_test.proofs.VisitLaws.{Holds, Held, visits_place, quiet, at_later, at_visited, moved_rows, moved_due, moved_rise}

module _ (s : List Element) (k h : ℕ) where
  abbrev lengths : Lengths
  lengths = superposition_lengths k s

  abbrev slope_at : ℕ → ℕ
  slope_at I = growth.slope k (H s) s I

  pub record Walking (rows : List Row) (before scaled slope count at : ℕ) : Type 0 where
    pub all : AllLegal s
    pub short : length s ≤ places
    pub fit : Walkable s k h
    pub held : Held k s before rows
    pub least : at ≡ least_next rows
    pub sum : scaled ≡ HD' k s before
    pub slopes : slope ≡ slope_at before
    pub passed : Upto lengths (suc before)
    pub counts : count ≡ how_many (is_visited k s) (suc before)
    pub few : count ≤ before

  -- THE START
  module _ (all : AllLegal s) (short : length s ≤ places) (w : Walkable s k h) where
    zero_unvisited : is_visited k s 0 ≡ false
    zero_unvisited = false_from_ne_true (is_visited k s 0) (λ v.
        let i = visits_place s k 0 v in
        clash i.2 (not_at_zero k (get_or s i.0 filler) (each_at Legal s i.0 filler i.1 (all_legal s all))))

    no_slope : (e : Element) → Legal e → cond (ltb 0 (m k e)) 0 (growth.rise_of (H s) e) ≡ 0
    no_slope e g = rw (lt-ltb 0 (m k e) (omega (arith, g.deadline.0)))

    slope_starts : slope_at 0 ≡ 0
    unfolding growth.slope
    slope_starts = sum_zero s _ (each_map s no_slope (all_legal s all))

    held_starts : Held k s 0 (map (row_of k h) s)
    held_starts = rw w.hyperperiod (zip_made Legal (Holds k (H s) 0) (row_of k (H s)) s
        (λ e g. record { legal = g; step = refl; cost = refl; last = refl; rise = refl; next = next_start k e g }) (all_legal s all))

    pub start : (rows : List Row) (at : ℕ) → rows ≡ map (row_of k h) s → at ≡ least_next rows → Walking rows 0 0 0 0 at
    start rows at e l = record {
      all = all;
      short = short;
      fit = w;
      held = rw e held_starts;
      least = l;
      sum = sym (scaled_starts k (H s) s w.low (all_legal s all));
      slopes = sym slope_starts;
      passed = upto_gap lengths 0 1 (upto_zero lengths) (λ J m n. let z : J ≡ 0 = omega arith in rw z zero_unvisited);
      counts =
          let g = how_many_gap (is_visited k s) 0 1 (λ J m n. let z : J ≡ 0 = omega arith in rw z zero_unvisited) in
          sym (g ∙ how_many_zero (is_visited k s));
      few = omega arith;
    }

  abbrev verdict : Verdict
  verdict = comparing s NotShown lengths

  -- THE MOVE: every place that has the length `at` has moved on; what is due there is added, and the slope grows by `more`
  pub record Turning (rows : List Row) (before scaled slope count at due more next : ℕ) : Type 0 where
    pub all : AllLegal s
    pub short : length s ≤ places
    pub fit : Walkable s k h
    pub held : Held k s at rows
    pub least : next ≡ least_next rows
    pub later : before < at
    pub numbers : SuperpositionFits k s at
    pub visit : is_visited k s at ≡ true
    pub passed : Upto lengths at
    pub sum : scaled + (slope * (at - before) + due * h) ≡ HD' k s at
    pub slopes : slope + more ≡ slope_at at
    pub counts : count ≡ how_many (is_visited k s) at
    pub within : count < budget k s
    pub few : count ≤ before
    pub slope_small : slope + more ≤ most_h

  slope_part :
      (I : ℕ) (e : Element) → Legal e → cond (ltb I (m k e)) 0 (growth.rise_of (H s) e) ≤ growth.rise_of (H s) e
  slope_part I e g = grind arith

  module _
      {rows : List Row} {before scaled slope count at : ℕ} (w : Walking rows before scaled slope count at) where
    slope_most : (I : ℕ) → slope_at I ≤ most_h
    unfolding growth.slope load_in
    slope_most I =
        omega (
          arith,
          sum_le s _ _ (each_map s (slope_part I) (all_legal s w.all)),
          w.fit.load,
          w.fit.small,
        )

    -- THE END: no length is visited past the last compared
    done : ((I : ℕ) → is_visited k s I ≡ true → I < suc before) → Passes count ≡ verdict
    done rest =
        let u = upto_gap lengths (suc before) lengths.end w.passed (λ J a b.
        false_from_ne_true (is_visited k s J) (λ v. omega (arith, rest J v))) in
        ap Passes (w.counts ∙ how_many_all (is_visited k s) (suc before) lengths.end rest (visited_below k s))
        ∙ sym (comparing_holds s NotShown lengths u)

    pub none_left : at ≡ none → Passes count ≡ verdict
    none_left e = let l : none ≡ least_next rows = sym e ∙ w.least in done (λ I v. ⊎_elim
        (λ a. absurd (clash v (quiet s k before none rows w.held l I a (omega (arith, visited_small s w.all k w.fit.high I v)))))
        (λ a. omega arith)
        (lt_or_le before I))

    -- A STEP to the least next length
    module _ (b : at < none) where
      visit : is_visited k s at ≡ true
      visit = at_visited s k before at rows w.held w.least b

      numbers : SuperpositionFits k s at
      numbers =
          (every_sum_fits s w.all w.short (omega (arith, w.fit.hyperperiod, w.fit.small))).superposition
          (omega (arith, w.fit.hyperperiod, w.fit.load)) k w.fit.low w.fit.high at visit

      later : before < at
      later = at_later s k before at rows w.held w.least b

      pub movable : Movable rows at
      movable = record {
        few = omega (arith, w.short, AllZip-long (Holds k (H s) before) s rows w.held);
        small = zip_each (Holds k (H s) before) Small s rows (λ e r g. record {
          step = rw g.step (step_within e.period g.legal.period).1;
          cost = rw g.cost g.legal.cost.1;
          rise = rw g.rise (rise_most e g.legal (H s) (omega (arith, w.fit.hyperperiod, w.fit.small)));
        }) w.held;
        low = omega (arith, numbers.length);
      }

      -- the ticks between the last length and the one before this
      abbrev ticks : ℕ
      ticks = at - suc before

      at_is : suc (before + ticks) ≡ at
      at_is = omega (arith, later)

      rises_along :
          (slope_at (before + ticks) ≡ slope_at before)
          × (HD' k s (before + ticks) ≡ HD' k s before + slope_at before * ticks)
      rises_along =
          scaled_rises_along k s w.all w.fit.low before ticks
          (λ J m n. quiet s k before at rows w.held w.least J m (omega (arith, later)))

      counts_is : count ≡ how_many (is_visited k s) at
      counts_is =
          let e : suc before + ticks ≡ at = omega (arith, later) in
          let g = how_many_gap (is_visited k s) (suc before) ticks (λ J m n.
          quiet s k before at rows w.held w.least J m (omega (arith, later))) in
          w.counts ∙ sym (rw e at g)

      -- the budget has room for this length
      few_enough : count < budget k s
      few_enough =
          omega (
            arith,
            counts_is,
            rw visit at (how_many_more (is_visited k s) at),
            visits_at_most k s (suc at) w.all w.fit.low,
          )

      module _ {rows' : List Row} {r : Moved} (v : MovedOn at rows rows' r) where
        due_is : r.cost ≡ growth.visited_due_at k s at
        due_is = v.due ∙ moved_due s k before at rows w.held w.least b

        scaled_is : scaled + (slope * (at - before) + r.cost * h) ≡ HD' k s at
        scaled_is =
            let g = rw at_is at (scaled_grows k s w.all w.fit.low (before + ticks)) in
            let x : at - before ≡ suc ticks = omega (arith, later) in
            rw (x, w.fit.hyperperiod, due_is, w.sum, w.slopes) (omega (arith, g, rises_along))

        slope_is : slope + r.rise ≡ slope_at at
        slope_is =
            let g = rw at_is at (slope_grows k s w.all w.fit.low (before + ticks)) in
            omega (arith, g, rises_along.0, w.slopes, v.slope, moved_rise s k before at rows w.held w.least b)

        pub turn : Turning rows' before scaled slope count at r.cost r.rise r.next
        turn = record {
          all = w.all;
          short = w.short;
          fit = w.fit;
          least = v.next;
          held = rw v.rows (moved_rows s k before at rows w.held w.least b);
          later = later;
          numbers = numbers;
          visit = visit;
          passed = upto_gap lengths (suc before) at w.passed (λ J m n. quiet s k before at rows w.held w.least J m n);
          sum = scaled_is;
          slopes = slope_is;
          counts = counts_is;
          within = few_enough;
          few = w.few;
          slope_small = omega (arith, slope_is, slope_most at);
        }

  -- WHAT IS FOUND THERE
  module _
      {rows : List Row} {before scaled slope count at due more next : ℕ} (w : Turning rows before scaled slope count at due more next) where
    top_is : H s * at ≡ h * at
    top_is = ap (λ z. z * at) (sym w.fit.hyperperiod)

    -- the sum that is compared, with each of its parts, and what it is compared with
    pub sum_fits : scaled + (slope * (at - before) + due * h) < 2 ^ 63
    sum_fits = omega (arith, w.sum, w.numbers.scaled_demand)

    pub due_fits : due < 2 ^ 63
    due_fits =
        let one : 1 ≤ h = omega (arith, w.fit.hyperperiod, hyperperiod_is_positive s w.all) in
        omega (arith, sum_fits, mul-le-mul_left due one)

    pub top_fits : h * at ≤ 2 ^ 62
    top_fits = omega (arith, top_is, w.numbers.scaled_length)

    one_more : count + 1 ≡ how_many (is_visited k s) (suc at)
    one_more = omega (arith, w.counts, rw w.visit at (how_many_more (is_visited k s) at))

    pub failing : h * at < scaled + (slope * (at - before) + due * h) → NotShown at (D s at) (count + 1) ≡ verdict
    unfolding is_above
    failing u =
        let above = lt-ltb (H s * at) (HD' k s at) (omega (arith, w.sum, top_is)) in
        ap (λ n. NotShown at (D s at) n) one_more
        ∙ sym (comparing_fails s NotShown lengths at
        (record { below = visited_below k s at w.visit; visit = w.visit; failure = above; before = w.passed }))

    pub again :
        scaled + (slope * (at - before) + due * h) ≤ h * at →
        Walking rows at (scaled + (slope * (at - before) + due * h)) (slope + more) (count + 1) next
    unfolding is_above
    again u = record {
      all = w.all;
      short = w.short;
      fit = w.fit;
      held = w.held;
      least = w.least;
      sum = w.sum;
      slopes = w.slopes;
      passed = upto_more lengths at w.passed (le-ltb (H s * at) (HD' k s at) (omega (arith, w.sum, top_is)));
      counts = one_more;
      few = omega (arith, w.few, w.later);
    }
