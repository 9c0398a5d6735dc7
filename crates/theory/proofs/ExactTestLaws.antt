-- Laws of specs/ExactTest: what comparing lengths comes to. Assumes nothing.
use Prim.Native.Nat.{ℕ, suc, ◌≤◌, ◌<◌, min}
use mathlib.Core.Path.{◌≡◌}
use mathlib.Core.Bool.{true, false, ◌&&◌, and-false}
use mathlib.Core.List.{List}
use mathlib.Core.Logic.{◌⊎◌, inl, inr, ⊎_elim}
use native.Mathlib.Omega.{arith}
use borrow.Author.Tests.{lt-ltb, le-ltb, ltb-true, ltb-false}
use Rattle.model.specs.declared.elements.Element.{Element}
use Rattle.model.specs.declared.answers.Verdict.{Verdict}
use Rattle.model.specs.declared.answers.Verdict.TheVariants.{Passes}
use Rattle.model.specs.Number.{how_many}
use Rattle.model.specs.Demand.{H, D, Q}
use Rattle.model.specs.ExactTest.{is_overrun, overload, Lengths, failing, stop, comparing, by_load}
use Rattle.model.proofs.Cases.{test, clash, lt_or_le, and_both, and_left, and_right, not_right}
use Rattle.model.proofs.NumberLaws.{None, IsFirst, least_is, least_at, least_none}

module _ (s : List Element) (I : ℕ) where
  pub overrun : is_overrun s I ≡ true → I < D s I
  unfolding is_overrun
  overrun h = ltb-true I (D s I) h

  pub no_overrun : is_overrun s I ≡ false → D s I ≤ I
  unfolding is_overrun
  no_overrun h = ltb-false I (D s I) h

  pub is_overrun_lem : I < D s I → is_overrun s I ≡ true
  unfolding is_overrun
  is_overrun_lem h = lt-ltb I (D s I) h

  pub not_overrun : D s I ≤ I → is_overrun s I ≡ false
  unfolding is_overrun
  not_overrun h = le-ltb I (D s I) h

-- COMPARING LENGTHS
module _ (c : Lengths) where
  -- the visited lengths below n hold
  abbrev pub Upto : ℕ → Type 0
  Upto n = (J : ℕ) → J < n → c.visited J ≡ true → c.fails J ≡ false

  pub upto_zero : Upto 0
  upto_zero J l = absurd (omega arith)

  -- no visited length from n on, below i
  pub upto_gap : (n i : ℕ) → Upto n → ((J : ℕ) → n ≤ J → J < i → c.visited J ≡ false) → Upto i
  upto_gap n i u q J l v = ⊎_elim (λ h. u J h v) (λ h. absurd (clash v (q J h l))) (lt_or_le J n)

  -- one length more, that holds
  pub upto_more : (n : ℕ) → Upto n → c.fails n ≡ false → Upto (suc n)
  upto_more n u a J l v = ⊎_elim (λ h. u J h v) (λ h. let e : J ≡ n = omega arith in rw e a) (lt_or_le J n)

  pub record FirstFailing (I : ℕ) : Type 0 where
    pub below : I < c.end
    pub visit : c.visited I ≡ true
    pub failure : c.fails I ≡ true
    pub before : Upto I

  none_fails : (n : ℕ) → Upto n → None (λ J. c.visited J && c.fails J) n
  none_fails n u J l = ⊎_elim (λ v. rw (u J l v) (and-false (c.visited J))) (λ v. rw v) (test (c.visited J))

  all_hold : (n : ℕ) → None (λ J. c.visited J && c.fails J) n → Upto n
  all_hold n q J l v = not_right (c.visited J) (c.fails J) (q J l) v

-- what it comes to: a first visited length that fails, or all visited ones hold
module _ (s : List Element) (shown : ℕ → ℕ → ℕ → Verdict) (c : Lengths) where
  pub comparing_fails : (I : ℕ) → FirstFailing c I → comparing s shown c ≡ shown I (D s I) (how_many c.visited (suc I))
  unfolding comparing stop failing
  comparing_fails I w =
      let first : IsFirst (λ J. c.visited J && c.fails J) I = record { passes = and_both (c.visited I) (c.fails I) w.visit w.failure; none = none_fails c I w.before } in
      let n : min (suc I) c.end ≡ suc I = omega (arith, w.below) in
      rw (least_at (λ J. c.visited J && c.fails J) c.end I (omega (arith, w.below)) first, n, lt-ltb I c.end w.below)

  pub comparing_holds : Upto c c.end → comparing s shown c ≡ Passes (how_many c.visited c.end)
  unfolding comparing stop failing
  comparing_holds u =
      let n : min (suc c.end) c.end ≡ c.end = omega arith in
      rw (least_none (λ J. c.visited J && c.fails J) c.end (none_fails c c.end u), n, le-ltb c.end c.end (omega arith))

  abbrev pub Compared : Verdict → Type 0
  Compared v =
      ((I : ℕ) × FirstFailing c I × (v ≡ shown I (D s I) (how_many c.visited (suc I)))) ⊎
      (Upto c c.end × (v ≡ Passes (how_many c.visited c.end)))

  pub compared : Compared (comparing s shown c)
  unfolding failing
  compared = ⊎_elim
      (λ w.
      let first : FirstFailing c (failing c) = record {
        below = w.0;
        visit = and_left (c.visited (failing c)) (c.fails (failing c)) w.1.passes;
        failure = and_right (c.visited (failing c)) (c.fails (failing c)) w.1.passes;
        before = all_hold c (failing c) w.1.none;
      } in
      inl (failing c, first, comparing_fails (failing c) first))
      (λ w. let u = all_hold c c.end w.1 in inr (u, comparing_holds u))
      (least_is (λ J. c.visited J && c.fails J) c.end)

-- THE TWO LOADS
module _ (s : List Element) (other : Verdict) where
  pub load_above : H s < Q s → by_load s other ≡ overload s
  unfolding by_load
  load_above q = rw (lt-ltb (H s) (Q s) q)

  pub load_at_most : Q s ≤ H s → by_load s other ≡ other
  unfolding by_load
  load_at_most q = rw (le-ltb (H s) (Q s) q)
