-- Between visited lengths H D' grows along the lines of the elements past their m, and at a visited length by H times the cost due there. Assumes nothing.
use Prim.Native.Nat.{ℕ, zero, suc, ◌+◌, ◌*◌, ◌-◌, ◌≤◌, ◌<◌}
use mathlib.Core.Path.{◌≡◌, refl, ap, sym, ◌∙◌}
use mathlib.Core.Bool.{true, false, cond, ◌&&◌, and-false}
use mathlib.Core.List.{List}
use mathlib.Core.Logic.{⊎_elim}
use native.Mathlib.Omega.{arith}
use lib.Dec.{leb, ltb}
use borrow.Author.Tests.{lt-ltb, le-ltb, le-leb, lt-leb}
use Rattle.model.specs.declared.elements.Period.{Period}
use Rattle.model.specs.declared.elements.Period.TheVariants.{Once, Every}
use Rattle.model.specs.declared.elements.Element.{Element}
use Rattle.model.specs.Over.{sum_over}
use Rattle.model.specs.Elements.{AllLegal}
use Rattle.model.specs.Demand.{f, H, is_test_of}
use Rattle.model.specs.Superposition.{exact_part, m, scaled_by, scaled_in, HD', is_visited}
use Rattle.theory.specs.TestLengths.{IsDate}
use Rattle.theory.specs.Growth.{cost_of, is_visited_by, visited_due_at, is_last_by, rise_of, slope}
use Rattle.model.proofs.Cases.{lt_or_le, and_both}
use Rattle.model.proofs.OverLaws.{each_map, none_each, sum_same, sum_zero, sum_plus, sum_times}
use Rattle.model.proofs.ElementLaws.{Legal, all_legal}
use Rattle.theory.proofs.DemandLaws.{test_of}
use Rattle.theory.proofs.SuperpositionLaws.{steps}

-- m is a date of its element
m_is_date : (q : Period) (first k : ℕ) → IsDate q first (first + exact_part q k)
m_is_date Once first k = omega arith
m_is_date (Every p) first k = (k - 1, omega arith)

pub m_is_visited : (k : ℕ) (e : Element) → is_visited_by k (m k e) e ≡ true
m_is_visited k e =
    and_both (is_test_of e (m k e)) (leb (m k e) (m k e)) ((test_of e (m k e)).1 (m_is_date e.period (f e) k)) (le-leb (m k e) (m k e) (omega arith))

-- an element's line begins at its m, the last of its visited lengths
line_grows :
    (k h I : ℕ) (e : Element) → Legal e →
    cond (ltb (suc I) (m k e)) 0 (rise_of h e) ≡ cond (ltb I (m k e)) 0 (rise_of h e) + cond (is_last_by k (suc I) e) (rise_of h e) 0
line_grows k h I e g = ⊎_elim
    (λ (a : suc I < m k e). rw (lt-ltb (suc I) (m k e) a, lt-ltb I (m k e) (omega arith), lt-leb (m k e) (suc I) a, and-false (is_test_of e (suc I) && true)))
    (λ (a : m k e ≤ suc I). ⊎_elim
    (λ (b : I < m k e).
    let q : m k e ≡ suc I = omega arith in
    let v = ap (λ z. is_visited_by k z e) (sym q) ∙ m_is_visited k e in
    rw (le-ltb (suc I) (m k e) a, v, le-leb (m k e) (suc I) a, lt-ltb I (m k e) b) (omega arith))
    (λ (b : m k e ≤ I). rw (le-ltb (suc I) (m k e) a, le-ltb I (m k e) b, and-false (is_test_of e (suc I))) (omega arith))
    (lt_or_le I (m k e)))
    (lt_or_le (suc I) (m k e))

module _ (k : ℕ) (s : List Element) (legal : AllLegal s) (l : 1 ≤ k) where
  -- THEOREM: H D'(I + 1) is H D'(I), the lines' rise, and H times the visited cost due at I + 1
  pub scaled_grows : (I : ℕ) → HD' k s (suc I) ≡ HD' k s I + slope k (H s) s I + H s * visited_due_at k s (suc I)
  unfolding scaled_in slope cost_of
  scaled_grows I =
      let before : Element → ℕ = λ e. scaled_by e.period k (H s) e I in
      let line : Element → ℕ = λ e. cond (ltb I (m k e)) 0 (rise_of (H s) e) in
      let due : Element → ℕ = λ e. cond (is_visited_by k (suc I) e) e.cost 0 in
      sum_same s (λ e. scaled_by e.period k (H s) e (suc I)) (λ e. before e + line e + H s * due e) (each_map s (steps k (H s) l I) (all_legal s legal))
      ∙ omega (arith, sum_plus s (λ e. before e + line e) (λ e. H s * due e), sum_plus s before line, sum_times s (H s) due)

  -- THEOREM: the slope grows where an element has its m
  pub slope_grows : (I : ℕ) → slope k (H s) s (suc I) ≡ slope k (H s) s I + sum_over s (λ e. cond (is_last_by k (suc I) e) (rise_of (H s) e) 0)
  unfolding slope
  slope_grows I =
      let line : Element → ℕ = λ e. cond (ltb I (m k e)) 0 (rise_of (H s) e) in
      let more : Element → ℕ = λ e. cond (is_last_by k (suc I) e) (rise_of (H s) e) 0 in
      sum_same s (λ e. cond (ltb (suc I) (m k e)) 0 (rise_of (H s) e)) (λ e. line e + more e) (each_map s (line_grows k (H s) I) (all_legal s legal))
      ∙ sum_plus s line more

  slope_stays : (I : ℕ) → is_visited k s (suc I) ≡ false → slope k (H s) s (suc I) ≡ slope k (H s) s I
  unfolding is_visited
  slope_stays I o =
      omega (
        arith,
        slope_grows I,
        sum_zero s (λ e. cond (is_last_by k (suc I) e) (rise_of (H s) e) 0)
            (each_map s (λ e q. ap (λ b. cond (b && leb (m k e) (suc I)) (rise_of (H s) e) 0) q) (none_each s (is_visited_by k (suc I)) o)),
      )

  nothing_due : (I : ℕ) → is_visited k s I ≡ false → visited_due_at k s I ≡ 0
  unfolding is_visited cost_of
  nothing_due I o = sum_zero s (λ e. cond (is_visited_by k I e) e.cost 0) (each_map s (λ e q. ap (λ b. cond b e.cost 0) q) (none_each s (is_visited_by k I) o))

  abbrev Quiet : ℕ → ℕ → Type 0
  Quiet I n = (J : ℕ) → I < J → J ≤ I + n → is_visited k s J ≡ false

  -- THEOREM: n ticks past I, where no visited length is past I and up to there, the slope is the same, and H D' has grown n times by it
  pub scaled_rises_along : (I n : ℕ) → Quiet I n → (slope k (H s) s (I + n) ≡ slope k (H s) s I) × (HD' k s (I + n) ≡ HD' k s I + slope k (H s) s I * n)
  scaled_rises_along I zero quiet = let e : I + 0 ≡ I = omega arith in rw e (refl, omega arith)
  scaled_rises_along I (suc n) quiet =
      let e : I + suc n ≡ suc (I + n) = omega arith in
      let o = quiet (suc (I + n)) (omega arith) (omega arith) in
      let r = scaled_rises_along I n (λ J a b. quiet J a (omega arith)) in
      rw e (slope_stays (I + n) o ∙ r.0, omega (arith, scaled_grows (I + n), ap (λ z. H s * z) (nothing_due (suc (I + n)) o), r.0, r.1))
