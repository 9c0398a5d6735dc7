-- Laws of specs/Load: which way a set goes. Assumes nothing.
use Prim.Native.Nat.{ℕ, ◌+◌, ◌≤◌, ◌<◌}
use mathlib.Core.Path.{◌≡◌, refl, sym, subst, ◌∙◌}
use mathlib.Core.Bool.{true, false, and-false}
use mathlib.Core.List.{List}
use mathlib.Core.Logic.{⊎_elim}
use native.Mathlib.Omega.{arith}
use borrow.Author.Tests.{lt-ltb, le-ltb, le-leb, lt-leb}
use Rattle.std.specs.Prelude.{Result, Ok, Err}
use Rattle.model.specs.declared.elements.Element.{Element}
use Rattle.model.specs.declared.elements.TaskSet.{TaskSet}
use Rattle.model.specs.declared.answers.Reason.TheVariants.{HyperperiodAboveLimit}
use Rattle.model.specs.declared.answers.Refusal.{Refusal}
use Rattle.model.specs.Answers.{Check}
use Rattle.model.specs.Elements.{most_h, AllLegal, counted, is_legal_set}
use Rattle.model.specs.Demand.{F, H, D, Q}
use Rattle.model.specs.ExactTest.{overload}
use Rattle.model.specs.TurnedAway.{unless, ◌then◌, check_set, first_above, check_h}
use Rattle.model.proofs.Cases.{test, lt_or_le}
use Rattle.model.proofs.TurnedAwayLaws.{turned_is_not_fine, set_fine}
use Rattle.theory.specs.Sizes.{most_length, IsLoad}
use Rattle.theory.proofs.DemandRepeats.{demand_repeats}
use Rattle.load.specs.declared.overload.Loaded.{Loaded}
use Rattle.load.specs.declared.overload.Loaded.TheVariants.{AboveOne, AtMostOne}
use Rattle.load.specs.Load.{hyperperiod_of, unless_turned, by_q, loaded_of, demand_at}

-- H
module _ (s : List Element) where
  -- what each answer about H tells
  abbrev Tells : Result ℕ Refusal → Type 0
  Tells (Ok h) = (h ≡ H s) × (H s ≤ most_h)
  Tells (Err r) = (r ≡ record { reason = HyperperiodAboveLimit; place = first_above s }) × (most_h < H s)

  pub hyperperiod_tells : (r : Result ℕ Refusal) → hyperperiod_of s ≡ r → Tells r
  hyperperiod_tells r e = subst Tells e (⊎_elim
      (λ (l : most_h < H s). rw (lt-leb (H s) most_h l) (refl, l))
      (λ (l : H s ≤ most_h). rw (le-leb (H s) most_h l) (refl, l))
      (lt_or_le most_h (H s)))

  -- Q
  pub grows_by_load : (first h : ℕ) → AllLegal s → first ≡ F s → h ≡ H s → D s (first + h) ≡ D s first + Q s
  grows_by_load first h legal e g = rw (e, g) (demand_repeats s (F s) legal (omega arith))

-- WHICH WAY A SET GOES
module _ (t : TaskSet) where
  pub refused_first : {r : Refusal} → check_set t ≡ Err r → Err r ≡ loaded_of t
  unfolding loaded_of
  refused_first h = rw h

  module _ (fine : check_set t ≡ Ok tt) {s : List Element} (e : s ≡ counted t) where
    pub refused_by_8 : {r : Refusal} → hyperperiod_of s ≡ Err r → Err r ≡ loaded_of t
    unfolding loaded_of check_h unless
    refused_by_8 {r} h =
        let k = hyperperiod_tells s (Err r) h in
        rw (k.0, fine, sym e, lt-leb (H s) most_h k.1)

    module _ {first h q : ℕ} (w : IsLoad s first h q) where
      way : Ok (by_q s) ≡ loaded_of t
      unfolding loaded_of check_h unless
      way = let small : H s ≤ most_h = omega (arith, w) in rw (fine, sym e, le-leb (H s) most_h small)

      pub above_one : h < q → Ok (AboveOne (overload s)) ≡ loaded_of t
      above_one l = let over : H s < Q s = omega (arith, w) in rw (lt-ltb (H s) (Q s) over) at way

      pub at_most_one : q ≤ h → Ok (AtMostOne first h q) ≡ loaded_of t
      at_most_one l =
          let within : Q s ≤ H s = omega (arith, w) in
          rw (w.firsts, w.multiple, w.load) (rw (le-ltb (H s) (Q s) within) at way)

  -- what each way tells
  abbrev pub Goes : Result Loaded Refusal → Type 0
  Goes (Err r) = (check_set t then check_h (λ place. place) (counted t)) ≡ Err r
  Goes (Ok (AboveOne v)) = (check_set t ≡ Ok tt) × (v ≡ overload (counted t)) × (H (counted t) ≤ most_h) × (H (counted t) < Q (counted t))
  Goes (Ok (AtMostOne first h q)) =
      (check_set t ≡ Ok tt) × (first ≡ F (counted t)) × (h ≡ H (counted t)) × (q ≡ Q (counted t)) × (H (counted t) ≤ most_h) × (Q (counted t) ≤ H (counted t))

  pub load_tells : (r : Result Loaded Refusal) → r ≡ loaded_of t → Goes r
  unfolding loaded_of check_h unless
  load_tells r e = subst Goes (sym e) (go (check_set t) refl)
    where
      go : (c : Check) → check_set t ≡ c → Goes (unless_turned (c then check_h (λ place. place) (counted t)) (by_q (counted t)))
      go (Err q) h = rw h
      go (Ok tt) h = ⊎_elim
          (λ (l : most_h < H (counted t)). rw (lt-leb (H (counted t)) most_h l) (rw (h, lt-leb (H (counted t)) most_h l)))
          (λ (l : H (counted t) ≤ most_h). rw (le-leb (H (counted t)) most_h l) (⊎_elim
          (λ (o : H (counted t) < Q (counted t)). rw (lt-ltb (H (counted t)) (Q (counted t)) o) (h, refl, l, o))
          (λ (o : Q (counted t) ≤ H (counted t)). rw (le-ltb (H (counted t)) (Q (counted t)) o) (h, refl, refl, refl, l, o))
          (lt_or_le (H (counted t)) (Q (counted t)))))
          (lt_or_le most_h (H (counted t)))

-- D AT A LENGTH
module _ (t : TaskSet) (I : ℕ) where
  pub demand_at_lem : is_legal_set t ≡ true → I ≤ most_length → D (counted t) I ≡ demand_at t I
  unfolding demand_at
  demand_at_lem legal h = rw (legal, le-leb I most_length h)

  pub no_demand_refused : {r : Refusal} → check_set t ≡ Err r → 0 ≡ demand_at t I
  unfolding demand_at
  no_demand_refused h =
      ⊎_elim (λ legal. absurd (turned_is_not_fine (sym h ∙ (set_fine t).1 legal))) (λ (no : is_legal_set t ≡ false). rw no) (test (is_legal_set t))

  pub no_demand_past : most_length < I → 0 ≡ demand_at t I
  unfolding demand_at
  no_demand_past h = rw (lt-leb I most_length h, and-false (is_legal_set t))
