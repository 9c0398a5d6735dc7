-- A sweep of the costs due finds what the exact test finds there. Assumes nothing.
use Prim.Native.Nat.{ℕ, zero, suc, ◌+◌, ◌-◌, ◌≤◌, ◌<◌}
use mathlib.Core.Path.{◌≡◌, refl, sym, ◌∙◌}
use mathlib.Core.Bool.{true, false}
use mathlib.Core.List.{List, [], ◌∷◌}
use mathlib.Core.Logic.{⊎_elim}
use native.Mathlib.Numerals.{add-one}
use native.Mathlib.Omega.{arith}
use lib.ListN.{get_or}
use borrow.Author.Tests.{lt-ltb, le-ltb}
use Rattle.std.specs.Prelude.{Result, Ok, Err}
use Rattle.model.specs.declared.elements.Element.{Element}
use Rattle.model.specs.declared.answers.Verdict.{Verdict}
use Rattle.model.specs.declared.answers.Verdict.TheVariants.{Overrun}
use Rattle.model.specs.Number.{how_many}
use Rattle.model.specs.Elements.{AllLegal}
use Rattle.model.specs.Demand.{D, is_test}
use Rattle.model.specs.ExactTest.{comparing}
use Rattle.model.proofs.Cases.{lt_or_le}
use Rattle.model.proofs.NumberLaws.{how_many_more}
use Rattle.theory.specs.Growth.{due_at}
use Rattle.theory.specs.TestLengths.{lengths_below}
use Rattle.theory.proofs.ExactTestLaws.{is_overrun_lem, not_overrun, Upto, upto_gap, upto_more, comparing_fails}
use Rattle.theory.proofs.DemandGrows.{demand_grows}
use Rattle.exact_test.specs.declared.segments.Compared.{Compared}
use Rattle.exact_test.specs.Segments.{with_due, overrun_at, sweep_of}
use Rattle.exact_test.proofs.SegmentLaws.{sweep_clean}
use Rattle.exact_test.proofs.SegmentsMeetDemand.{test_due}

-- the entries are the costs due at n and after it, of so many lengths
pub record Costs (s : List Element) (xs : List ℕ) (n len : ℕ) : Type 0 where
  pub each : (y : ℕ) → y < len → get_or xs y 0 ≡ due_at s (n + y)
  pub rest : (y : ℕ) → len ≤ y → get_or xs y 0 ≡ 0

module _ {s : List Element} {n len : ℕ} where
  first_cost : (xs : List ℕ) → Costs s xs n (suc len) → due_at s n ≡ get_or xs 0 0
  first_cost xs t = let here : n + 0 ≡ n = omega arith in sym (rw here at (t.each 0 (omega arith)))

  later_costs : (xs ys : List ℕ) → ((y : ℕ) → get_or ys y 0 ≡ get_or xs (suc y) 0) → Costs s xs n (suc len) → Costs s ys (n + 1) len
  later_costs xs ys e t =
      record {
        each = λ y h. let v : n + suc y ≡ n + 1 + y = omega arith in e y ∙ rw v at (t.each (suc y) (omega arith));
        rest = λ y h. e y ∙ t.rest (suc y) (omega arith);
      }

module _ (s : List Element) (bound : ℕ) where
  -- the lengths below n are compared, and c is what was
  pub record Reached (n : ℕ) (c : Compared) : Type 0 where
    pub compares : Upto (lengths_below s bound) n
    pub counts : c.count ≡ how_many (is_test s) n
    pub demand : c.demand ≡ D s (n - 1)
    pub small : c.demand ≤ n - 1

  -- what a sweep of the lengths below n tells
  abbrev pub Met : ℕ → Result Compared Verdict → Type 0
  Met n (Ok c) = Reached n c
  Met n (Err v) = comparing s Overrun (lengths_below s bound) ≡ v

  module _ (legal : AllLegal s) where
    -- one length, with a cost due there or with none
    module _ {n : ℕ} {c : Compared} (r : Reached n c) (p : 1 ≤ n) where
      grows : D s n ≡ c.demand + due_at s n
      grows = let e : suc (n - 1) ≡ n = omega arith in rw r.demand (rw e at (demand_grows s (n - 1) legal))

      last : n + 1 - 1 ≡ n
      last = omega arith

      quiet : due_at s n ≡ 0 → Reached (n + 1) c
      quiet t =
          let none : is_test s n ≡ false = test_due s n legal ∙ rw t in
          record {
            compares = upto_gap (lengths_below s bound) n (n + 1) r.compares (λ J a h. let e : J ≡ n = omega arith in rw e none);
            counts = r.counts ∙ sym (rw (add-one n, how_many_more (is_test s) n, none) (omega arith));
            demand = rw last (omega (arith, grows));
            small = omega (arith, r.small);
          }

      module _ (a : ℕ) (t : due_at s n ≡ suc a) where
        visit : is_test s n ≡ true
        visit = test_due s n legal ∙ lt-ltb 0 (due_at s n) (omega arith)

        counts : how_many (is_test s) (suc n) ≡ c.count + 1
        counts = how_many_more (is_test s) n ∙ rw (visit, r.counts)

        late : n < bound → n < c.demand + suc a → comparing s Overrun (lengths_below s bound) ≡ overrun_at n (with_due c (suc a))
        late l o =
            comparing_fails s Overrun (lengths_below s bound) n
            (record { below = l; visit = visit; failure = is_overrun_lem s n (omega (arith, grows)); before = r.compares })
            ∙ rw (grows, t, counts)

        holds : c.demand + suc a ≤ n → Reached (n + 1) (with_due c (suc a))
        holds o =
            record {
              compares = rw (add-one n) (upto_more (lengths_below s bound) n r.compares (not_overrun s n (omega (arith, grows))));
              counts = rw (add-one n) (sym counts);
              demand = rw last (omega (arith, grows));
              small = omega arith;
            }

    -- THE SWEEP of the entries xs, the first of them at the length n
    pub meets :
        (e : ℕ) (xs : List ℕ) (n len : ℕ) (c : Compared) → n + len ≡ e → e ≤ bound → 1 ≤ n → Costs s xs n len → Reached n c →
        Met e (sweep_of xs n c)
    unfolding sweep_of
    meets e xs n zero c w b p t r =
        let same : n ≡ e = omega arith in
        rw (sweep_clean xs n c (λ y. t.rest y (omega arith))) (rw same at r)
    meets e [] n (suc len) c w b p t r =
        meets e [] (n + 1) len c (omega arith) b (omega arith) (later_costs [] [] (λ y. refl) t) (quiet r p (first_cost [] t))
    meets e (zero ∷ xs) n (suc len) c w b p t r =
        meets e xs (n + 1) len c (omega arith) b (omega arith) (later_costs (zero ∷ xs) xs (λ y. refl) t) (quiet r p (first_cost (zero ∷ xs) t))
    meets e (suc a ∷ xs) n (suc len) c w b p t r =
        let due : due_at s n ≡ suc a = first_cost (suc a ∷ xs) t in ⊎_elim
        (λ (o : n < c.demand + suc a). rw (lt-ltb n (c.demand + suc a) o) (late r p a due (omega arith) o))
        (λ (o : c.demand + suc a ≤ n).
        rw (le-ltb n (c.demand + suc a) o)
        (meets e xs (n + 1) len (with_due c (suc a)) (omega arith) b (omega arith) (later_costs (suc a ∷ xs) xs (λ y. refl) t) (holds r p a due o)))
        (lt_or_le n (c.demand + suc a))
