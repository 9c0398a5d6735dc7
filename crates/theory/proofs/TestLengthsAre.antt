-- The tests of the definitions pick out the lengths that document 01 names: f + j p of some element for every j from 0, or f of a single event;
-- and, in superposition, those up to m. Assumes nothing.
use Prim.Native.Nat.{ℕ}
use mathlib.Core.Path.{◌≡◌}
use mathlib.Core.Bool.{true, ◌&&◌}
use mathlib.Core.List.{List}
use mathlib.Core.Logic.{◌↔◌}
use native.Mathlib.Omega.{arith}
use lib.Dec.{leb}
use lib.ListN.{get_or}
use borrow.Author.Tests.{le-leb, leb-true}
use Rattle.model.specs.declared.elements.Element.{Element}
use Rattle.model.specs.Elements.{AllLegal, filler}
use Rattle.model.specs.Demand.{f, is_test_of, is_test}
use Rattle.model.specs.Superposition.{m, is_visited}
use Rattle.theory.specs.TestLengths.{IsTestLength, IsVisitedLength}
use Rattle.model.proofs.Cases.{and_both, and_left, and_right}
use Rattle.model.proofs.OverLaws.{each_at, some_at, at_some}
use Rattle.model.proofs.ElementLaws.{Legal, all_legal}
use Rattle.theory.proofs.DemandLaws.{date_from, test_of}

-- THEOREM: "Test lengths are f + j p for every j from 0, and f for a single event."
pub test_lengths_are : (s : List Element) (I : ℕ) → (is_test s I ≡ true) ↔ IsTestLength s I
unfolding is_test
test_lengths_are s I = (
  λ t. let p = some_at s (λ e. is_test_of e I) filler t in (p.0, (p.1, (test_of (get_or s p.0 filler) I).0 p.2)),
  λ p. at_some s (λ e. is_test_of e I) filler p.0 p.1.0 ((test_of (get_or s p.0 filler) I).1 p.1.1),
)

-- THEOREM: visited are "the lengths f, f + p, up to m of every periodic element and f of every single event"
pub visited_lengths_are : (k : ℕ) (s : List Element) (I : ℕ) → (is_visited k s I ≡ true) ↔ IsVisitedLength k s I
unfolding is_visited
visited_lengths_are k s I = (
  λ t. let p = some_at s (λ e. is_test_of e I && leb I (m k e)) filler t in
      let e = get_or s p.0 filler in
      (p.0, (p.1, (test_of e I).0 (and_left (is_test_of e I) (leb I (m k e)) p.2)), leb-true I (m k e) (and_right (is_test_of e I) (leb I (m k e)) p.2)),
  λ p. let e = get_or s p.0 filler in
      at_some s (λ e. is_test_of e I && leb I (m k e)) filler p.0 p.1.0 (and_both (is_test_of e I) (leb I (m k e)) ((test_of e I).1 p.1.1) (le-leb I (m k e) p.2)),
)

-- THEOREM: "Length zero is none of them, since every d is at least 1."
pub zero_is_no_test_length : (s : List Element) → AllLegal s → IsTestLength s 0 → ⊥
zero_is_no_test_length s legal p =
    let e = get_or s p.0 filler in
    let l = each_at Legal s p.0 filler p.1.0 (all_legal s legal) in
    omega (arith, l.deadline.0, date_from e.period (f e) 0 p.1.1)
