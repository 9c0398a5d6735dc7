-- What holds whenever `hyperperiod` turns to the element i: H of the elements before it, and that none of them brought it above its limit. Assumes nothing.
use Prim.Native.Nat.{ℕ, suc, ◌+◌, ◌≤◌, ◌<◌}
use mathlib.Core.Path.{◌≡◌, refl, sym, ap}
use mathlib.Core.List.{List, []}
use native.Mathlib.Omega.{arith}
use native.Mathlib.Numerals.{add-one}
use borrow.Author.Count.{below_more}
use lib.ListN.{length, get_or, take}
use borrow.Author.Tests.{lt-ltb, le-ltb, lt-leb}
use Rattle.std.specs.Prelude.{Err}
use Rattle.model.specs.declared.elements.Element.{Element}
use Rattle.model.specs.declared.answers.Reason.TheVariants.{HyperperiodAboveLimit}
use Rattle.model.specs.Elements.{most_h, filler, AllLegal}
use Rattle.model.specs.Demand.{joined, H}
use Rattle.model.specs.TurnedAway.{first_above}
use Rattle.model.proofs.NumberLaws.{least_at}
use Rattle.theory.proofs.HyperperiodGrows.{hyperperiod_joins, hyperperiod_of_a_part}
use Rattle.load.specs.Load.{hyperperiod_of}

pub record Finding (s : List Element) (h i : ℕ) : Type 0 where
  pub same : h ≡ H (take i s)
  pub small : h ≤ most_h
  pub before : (j : ℕ) → j < i → H (take (suc j) s) ≤ most_h

pub start : H [] ≡ 1
unfolding H
start = refl

module _ (s : List Element) (legal : AllLegal s) (h i : ℕ) (k : Finding s h i) (l : i < length s) where
  -- H with the element i
  joins : joined (get_or s i filler).period h ≡ H (take (suc i) s)
  joins = rw k.same (sym (hyperperiod_joins s legal filler i l))

  pub next : joined (get_or s i filler).period h ≤ most_h → Finding s (joined (get_or s i filler).period h) (i + 1)
  next b = record { same = rw add-one joins; small = b; before = below_more _ i k.before (omega (arith, joins)) }

  pub above : most_h < joined (get_or s i filler).period h → Err (record { reason = HyperperiodAboveLimit; place = i }) ≡ hyperperiod_of s
  unfolding first_above
  above b =
      let big : most_h < H (take (suc i) s) = omega (arith, joins) in
      let all : most_h < H s = omega (arith, hyperperiod_of_a_part s legal (suc i)) in
      let first = least_at _ (length s) i (omega arith)
      (record { passes = lt-ltb most_h (H (take (suc i) s)) big; none = λ j a. le-ltb most_h (H (take (suc j) s)) (k.before j a) }) in
      rw (lt-leb (H s) most_h all) (ap (λ n. Err (record { reason = HyperperiodAboveLimit; place = n })) (sym first))
