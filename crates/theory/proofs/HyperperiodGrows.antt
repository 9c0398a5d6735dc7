-- H of the first elements of a set: one element more joins its period, and no part has a larger H than the whole. Assumes nothing.
use Prim.Native.Nat.{ℕ, suc, ◌≤◌, ◌<◌}
use mathlib.Core.Path.{◌≡◌}
use mathlib.Core.List.{List}
use native.Mathlib.Nat.{dvd_antisymm, le_of_dvd}
use lib.ListN.{length, get_or, take}
use Rattle.model.specs.declared.elements.Element.{Element}
use Rattle.model.specs.Over.{Each}
use Rattle.model.specs.Elements.{AllLegal}
use Rattle.model.specs.Demand.{joined, H}
use Rattle.theory.specs.Multiples.{Divides}
use Rattle.model.proofs.OverLaws.{each_at, each_take, each_more, each_less, each_map}
use Rattle.model.proofs.ElementLaws.{Legal, all_legal}
use Rattle.theory.proofs.HyperperiodIsLeast.{joined_left, joined_right, joined_least, divides_trans, positive, multiple, divisor}

module _ (s : List Element) (legal : AllLegal s) where
  first : (n : ℕ) → Each (take n s) Legal
  first n = each_take Legal s n (all_legal s legal)

  -- THEOREM: H of one element more
  pub hyperperiod_joins : (d : Element) (i : ℕ) → i < length s → H (take (suc i) s) ≡ joined (get_or s i d).period (H (take i s))
  hyperperiod_joins d i l =
      let q = (get_or s i d).period in
      let h = H (take i s) in
      let n = H (take (suc i) s) in
      let r = (each_at Legal s i d l (all_legal s legal)).period in
      let c = each_less (λ e. Divides e.period n) s d i l (multiple (take (suc i) s) (first (suc i))) in
      let old = each_map (take i s) (λ e. divides_trans e.period h (joined q h) (joined_right q h)) (multiple (take i s) (first i)) in
      dvd_antisymm
      (divisor (take (suc i) s) (joined q h) (first (suc i)) (each_more (λ e. Divides e.period (joined q h)) s d i l old (joined_left q h r)))
      (joined_least q h n r c.1 (divisor (take i s) n (first i) c.0))

  -- THEOREM: H of a part
  pub hyperperiod_of_a_part : (n : ℕ) → H (take n s) ≤ H s
  hyperperiod_of_a_part n =
      le_of_dvd (positive s (all_legal s legal))
      (divisor (take n s) (H s) (first n) (each_take (λ e. Divides e.period (H s)) s n (multiple s (all_legal s legal))))
