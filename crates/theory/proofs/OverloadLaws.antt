-- Verdict 2 by one division: with Q above H, the first overrun among F, F + H, F + 2H and so on. Assumes nothing.
use Prim.Native.Nat.{ℕ, ◌+◌, ◌*◌, ◌-◌, ◌/◌, ◌≤◌, ◌<◌}
use mathlib.Core.Path.{◌≡◌, refl, ap, ap₂, ◌∙◌}
use mathlib.Core.Bool.{true, false}
use mathlib.Core.List.{List}
use native.Mathlib.Omega.{arith}
use native.Mathlib.Nat.{mul-le-mul, mul-le-mul_right, add-mul, mul-add, div-le_self, div-mul-le_self, lt-div-mul-add}
use lib.ListN.{length}
use Rattle.model.specs.declared.elements.Element.{Element}
use Rattle.model.specs.declared.answers.Verdict.TheVariants.{LoadAboveOne}
use Rattle.model.specs.Elements.{places, AllLegal}
use Rattle.model.specs.Demand.{F, H, D, Q}
use Rattle.model.specs.ExactTest.{is_overrun, multiple, overload_at, overload}
use Rattle.model.proofs.NumberLaws.{IsFirst, least_at}
use Rattle.theory.proofs.ExactTestLaws.{is_overrun_lem, not_overrun}
use Rattle.theory.proofs.DemandRepeats.{demand_at_multiple}
use Rattle.theory.specs.Sizes.{IsLoad}
use Rattle.theory.proofs.SizeLaws.{first_small, load_small}

module _ (s : List Element) (legal : AllLegal s) where
  multiple_is : (j : ℕ) → multiple s j ≡ F s + j * H s
  unfolding multiple
  multiple_is j = refl

  -- the overrun after j hyperperiods is the first
  shown : (j : ℕ) → j ≤ F s + 1 → IsFirst (λ i. is_overrun s (multiple s i)) j → LoadAboveOne (F s + j * H s) (D s (F s) + j * Q s) ≡ overload s
  unfolding overload overload_at
  shown j l first = rw (least_at (λ i. is_overrun s (multiple s i)) (F s + 1) j l first, demand_at_multiple s j legal, multiple_is j)

  over : (j : ℕ) → F s + j * H s < D s (F s) + j * Q s → is_overrun s (multiple s j) ≡ true
  over j l = is_overrun_lem s (multiple s j) (omega (arith, multiple_is j, demand_at_multiple s j legal))

  under : (j : ℕ) → D s (F s) + j * Q s ≤ F s + j * H s → is_overrun s (multiple s j) ≡ false
  under j l = not_overrun s (multiple s j) (omega (arith, multiple_is j, demand_at_multiple s j legal))

module _ (s : List Element) (legal : AllLegal s) (few : length s ≤ places) (first h q : ℕ) (w : IsLoad s first h q) (heavy : h < q) where
  pub at_first : (d : ℕ) → d ≡ D s first → first < d → LoadAboveOne first d ≡ overload s
  at_first d e o =
      let there : d ≡ D s (F s) = e ∙ ap (D s) w.firsts in
      let I : first ≡ F s + 0 * H s = omega (arith, w.firsts) in
      let v : d ≡ D s (F s) + 0 * Q s = omega arith in
      ap₂ LoadAboveOne I v ∙ shown s legal 0 (omega arith) (record { passes = over s legal 0 (omega arith); none = λ j l. absurd (omega arith) })

  module _ (d : ℕ) (e : d ≡ D s first) (o : d ≤ first) where
    abbrev turns : ℕ
    turns = (first - d) / (q - h) + 1

    pub later_turns : turns ≤ 33554433
    later_turns = omega (arith, div-le_self (first - d) (q - h), first_small s legal, w.firsts)

    pub later_ticks : turns * h ≤ 36028798092705792
    later_ticks = mul-le-mul {n₁ = turns} {m₁ = h} {n₂ = 33554433} {m₂ = 1073741824} later_turns w.small

    -- j hyperperiods bring j Q of demand, j (Q - H) more than length
    part : (j : ℕ) → j * q ≡ j * (q - h) + j * h
    part j = let c : q ≡ (q - h) + h = omega arith in ap (λ z. j * z) c ∙ mul-add j (q - h) h

    pub later_demand : turns * q ≤ 2341871807847153664
    later_demand =
        omega (
          arith,
          add-mul ((first - d) / (q - h)) 1 (q - h),
          part turns,
          div-mul-le_self (first - d) (q - h),
          later_ticks,
          first_small s legal,
          w.firsts,
          load_small s legal few (H s) (omega (arith, w.small, w.multiple)),
          w.load,
        )

    pub at_later : LoadAboveOne (first + turns * h) (d + turns * q) ≡ overload s
    at_later =
        let there : d ≡ D s (F s) = e ∙ ap (D s) w.firsts in
        let fair : (j : ℕ) → (j * h ≡ j * H s) × (j * q ≡ j * Q s) = λ j. (ap (λ z. j * z) w.multiple, ap (λ z. j * z) w.load) in
        let I : first + turns * h ≡ F s + turns * H s = omega (arith, w.firsts, (fair turns).0) in
        let v : d + turns * q ≡ D s (F s) + turns * Q s = omega (arith, (fair turns).1) in
        ap₂ LoadAboveOne I v
        ∙ shown s legal turns (omega (arith, w.firsts, div-le_self (first - d) (q - h)))
        (record {
          passes = over s legal turns
              (omega (
                arith,
                w.firsts,
                (fair turns).0,
                (fair turns).1,
                part turns,
                add-mul ((first - d) / (q - h)) 1 (q - h),
                lt-div-mul-add {a = first - d} {b = q - h} (omega arith),
              ));
          none = λ j l. under s legal j
              (omega (
                arith,
                w.firsts,
                (fair j).0,
                (fair j).1,
                part j,
                div-mul-le_self (first - d) (q - h),
                mul-le-mul_right {m = j} {n = (first - d) / (q - h)} (q - h) (omega arith),
              ));
        })
