-- Superposition compares at most k lengths for each periodic element and one for each single event. Assumes nothing.
use Prim.Native.Nat.{ℕ, zero, suc, ◌+◌, ◌*◌, ◌-◌, ◌≤◌, ◌<◌}
use mathlib.Core.Path.{◌≡◌, refl, ap}
use mathlib.Core.Bool.{Bool, true, false, ◌&&◌, ◌||◌, or-true}
use mathlib.Core.List.{List, [], ◌∷◌}
use mathlib.Core.Logic.{⊎_elim}
use native.Mathlib.Omega.{arith}
use native.Mathlib.Nat.{le_of_mul-le-mul_left, lt_of_mul-lt-mul_left}
use lib.Dec.{leb, eqb}
use borrow.Author.Tests.{le-leb, leb-true, eq-eqb, eqb-true}
use Rattle.model.specs.declared.elements.Period.{Period}
use Rattle.model.specs.declared.elements.Period.TheVariants.{Once, Every}
use Rattle.model.specs.declared.elements.Element.{Element}
use Rattle.model.specs.Number.{how_many}
use Rattle.model.specs.Over.{sum_over, some_over}
use Rattle.model.specs.Elements.{AllLegal}
use Rattle.model.specs.Demand.{f, H, Q, is_test_of}
use Rattle.model.specs.Answers.{values}
use Rattle.model.specs.Superposition.{exact_part, m, is_visited, superposition}
use Rattle.theory.specs.TestLengths.{IsDate}
use Rattle.theory.specs.Approximation.{lengths_of, budget}
use Rattle.model.proofs.Cases.{lt_or_le, and_both, and_left, and_right}
use Rattle.model.proofs.NumberLaws.{how_many_zero, how_many_gap, how_many_or, how_many_le, how_many_once}
use Rattle.model.proofs.OverLaws.{each_map, sum_le}
use Rattle.model.proofs.ElementLaws.{Runs, Legal, all_legal}
use Rattle.theory.proofs.DemandLaws.{test_of}
use Rattle.theory.proofs.SuperpositionAnswers.{visited_below, superposition_answers}

-- ONE ELEMENT: its test lengths up to a limit
abbrev up_to : Element → ℕ → ℕ → Bool
up_to e limit I = is_test_of e I && leb I limit

up_to_test : (e : Element) (limit I : ℕ) → up_to e limit I ≡ true → IsDate e.period (f e) I
up_to_test e limit I t = (test_of e I).0 (and_left (is_test_of e I) (leb I limit) t)

up_to_limit : (e : Element) (limit I : ℕ) → up_to e limit I ≡ true → I ≤ limit
up_to_limit e limit I t = leb-true I limit (and_right (is_test_of e I) (leb I limit) t)

module _ (e : Element) (p : ℕ) (eq : e.period ≡ Every p) (r : 1 ≤ p) where
  -- one more date: those before, or this one
  one_more : (j I : ℕ) → up_to e (f e + suc j * p) I ≡ true → (up_to e (f e + j * p) I || eqb I (f e + suc j * p)) ≡ true
  one_more j I t = ⊎_elim
      (λ (l : f e + j * p < I).
      let d = rw eq at (up_to_test e (f e + suc j * p) I t) in
      let b = up_to_limit e (f e + suc j * p) I t in
      let low : j < d.0 = lt_of_mul-lt-mul_left p (omega (arith, d.1)) in
      let high : d.0 ≤ suc j = le_of_mul-le-mul_left (omega (arith, d.1)) r in
      let i : d.0 ≡ suc j = omega arith in
      rw (eq-eqb I (f e + suc j * p) (omega (arith, d.1, ap (λ z. z * p) i))) (or-true (up_to e (f e + j * p) I)))
      (λ (l : I ≤ f e + j * p). rw (and_both (is_test_of e I) (leb I (f e + j * p)) (and_left (is_test_of e I) (leb I (f e + suc j * p)) t) (le-leb I (f e + j * p) l)))
      (lt_or_le (f e + j * p) I)

  dates_up_to : (j n : ℕ) → how_many (up_to e (f e + j * p)) n ≤ suc j
  dates_up_to zero n =
      how_many_once (up_to e (f e + 0 * p)) (f e)
      (λ I t. let d = rw eq at (up_to_test e (f e + 0 * p) I t) in omega (arith, d.1, up_to_limit e (f e + 0 * p) I t))
      n
  dates_up_to (suc j) n =
      let last = f e + suc j * p in
      omega (
        arith,
        how_many_le (up_to e last) (λ I. up_to e (f e + j * p) I || eqb I last) (one_more j) n,
        how_many_or (up_to e (f e + j * p)) (λ I. eqb I last) n,
        how_many_once (λ I. eqb I last) last (λ I t. eqb-true I last t) n,
        dates_up_to j n,
      )

lengths_of_lem : (k n : ℕ) → 1 ≤ k → (e : Element) → Legal e → how_many (λ I. is_test_of e I && leb I (m k e)) n ≤ lengths_of k e.period
lengths_of_lem k n l e g = go e.period refl g.period
  where
    go : (q : Period) → e.period ≡ q → Runs q → how_many (up_to e (m k e)) n ≤ lengths_of k q
    go Once eq r = how_many_once (up_to e (m k e)) (f e) (λ I t. rw eq at (up_to_test e (m k e) I t)) n
    go (Every p) eq r =
        let x : m k e ≡ f e + (k - 1) * p = ap (λ q. f e + exact_part q k) eq in
        rw x (omega (arith, dates_up_to e p eq r.0 (k - 1) n))

-- A SET: no more lengths than the elements have one by one
how_many_some : (s : List Element) (t : Element → ℕ → Bool) (n : ℕ) → how_many (λ I. some_over s (λ e. t e I)) n ≤ sum_over s (λ e. how_many (t e) n)
unfolding some_over sum_over
how_many_some [] t n =
    let z : 0 + n ≡ n = omega arith in
    omega (arith, rw z at (how_many_gap (λ I. false) 0 n (λ I a b. refl)), how_many_zero (λ I. false))
how_many_some (e ∷ s) t n = omega (arith, how_many_or (t e) (λ I. some_over s (λ e. t e I)) n, how_many_some s t n)

-- THEOREM: the visited lengths number at most k for each periodic element and one for each single event, however far one looks
pub visits_at_most : (k : ℕ) (s : List Element) (n : ℕ) → AllLegal s → 1 ≤ k → how_many (is_visited k s) n ≤ budget k s
unfolding is_visited budget
visits_at_most k s n legal l =
    omega (
      arith,
      how_many_some s (λ e I. is_test_of e I && leb I (m k e)) n,
      sum_le s (λ e. how_many (λ I. is_test_of e I && leb I (m k e)) n) (λ e. lengths_of k e.period) (each_map s (lengths_of_lem k n l) (all_legal s legal)),
    )

-- THEOREM: so the count is at most that
pub compares_at_most : (k : ℕ) (s : List Element) → AllLegal s → 1 ≤ k → Q s ≤ H s → (values (superposition k s)).count ≤ budget k s
compares_at_most k s legal l load = ⊎_elim
    (λ w. rw w.count (visits_at_most k s _ legal l))
    (λ w. rw (w.count _ (visited_below k s)) (visits_at_most k s _ legal l))
    (superposition_answers k s load)
