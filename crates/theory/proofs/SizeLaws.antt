-- How large an element's m, and of a legal set F, a visited length, Q, D and all costs can be. Assumes nothing.
use Prim.Native.Nat.{ℕ, ◌+◌, ◌*◌, ◌-◌, ◌≤◌}
use mathlib.Core.Path.{◌≡◌}
use mathlib.Core.Bool.{true}
use mathlib.Core.List.{List}
use native.Mathlib.Omega.{arith}
use native.Mathlib.Nat.{mul-le-mul, mul-le-mul_right}
use lib.ListN.{length}
use lib.Seq.{take-length}
use Rattle.model.specs.declared.elements.Period.{Period}
use Rattle.model.specs.declared.elements.Period.TheVariants.{Once, Every}
use Rattle.model.specs.declared.elements.Element.{Element}
use Rattle.model.specs.Over.{sum_over, largest_over, Each}
use Rattle.model.specs.Elements.{most_period, most_cost, places, most_h, most_k, AllLegal, filler}
use Rattle.model.specs.Demand.{f, F, demand_of, D, load_in}
use Rattle.model.specs.Superposition.{exact_part, m, is_visited}
use Rattle.theory.specs.Growth.{rise_of}
use Rattle.model.proofs.OverLaws.{each_at, each_map, sum_most, largest_most}
use Rattle.model.proofs.ElementLaws.{Runs, Legal, all_legal}
use Rattle.theory.specs.Sizes.{most_length, costs}
use Rattle.theory.proofs.LoadLaws.{rise_most, demand_of_most, load_is, demand_is, first_is}
use Rattle.theory.proofs.SuperpositionAnswers.{visited_below}

first_most : (e : Element) → Legal e → f e ≤ 33554432
first_most e l = omega (arith, l.offset.1, l.deadline.1)

pub last_most : (k : ℕ) → k ≤ most_k → (e : Element) → Legal e → m k e ≤ most_length
last_most k u e g = go e.period g.period
  where
    go : (q : Period) → Runs q → f e + exact_part q k ≤ most_length
    go Once r = omega (arith, first_most e g)
    go (Every p) r = omega (arith, first_most e g, mul-le-mul {n₁ = k - 1} {m₁ = p} {n₂ = 254} {m₂ = most_period} (omega arith) r.1)

module _ (s : List Element) (legal : AllLegal s) where
  largest_small : (g : Element → ℕ) (b : ℕ) → Each s (λ e. g e ≤ b) → largest_over s g ≤ b
  largest_small g b each =
      let w = largest_most s g filler b (length s) (λ i l. each_at (λ e. g e ≤ b) s i filler l each) in
      rw (take-length s) at w

  pub first_small : F s ≤ 33554432
  first_small = omega (arith, largest_small f 33554432 (each_map s first_most (all_legal s legal)), first_is s)

  -- a length that superposition visits
  pub visited_small : (k : ℕ) → k ≤ most_k → (I : ℕ) → is_visited k s I ≡ true → I ≤ most_length
  visited_small k u I v = omega (arith, visited_below k s I v, largest_small (m k) most_length (each_map s (last_most k u) (all_legal s legal)))

  module _ (few : length s ≤ places) where
    -- b for each of at most 128 elements
    sum_small : (g : Element → ℕ) (b : ℕ) → Each s (λ e. g e ≤ b) → sum_over s g ≤ places * b
    sum_small g b each =
        let m = sum_most s g filler b (length s) (λ i l. each_at (λ e. g e ≤ b) s i filler l each) in
        omega (arith, rw (take-length s) at m, mul-le-mul_right b few)

    pub load_small : (h : ℕ) → h ≤ most_h → load_in s h ≤ 2305843009213693952
    load_small h b =
        omega (arith, load_is s h, sum_small (rise_of h) 18014398509481984 (each_map s (λ e l. rise_most e l h b) (all_legal s legal)))

    pub demand_small : (I : ℕ) → D s I ≤ (I + 1) * (places * most_cost)
    demand_small I =
        omega (arith, demand_is s I, sum_small (λ e. demand_of e I) ((I + 1) * most_cost) (each_map s (λ e l. demand_of_most e l I) (all_legal s legal)))

    pub costs_small : costs s ≤ places * most_cost
    unfolding costs
    costs_small = sum_small (λ e. e.cost) most_cost (each_map s (λ e l. l.cost.1) (all_legal s legal))
