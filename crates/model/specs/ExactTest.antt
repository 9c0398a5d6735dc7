-- Document 01, "Exact test".
use Rattle.std.specs.Prelude.{ℕ, suc, ◌+◌, ◌*◌, min, Bool, ◌&&◌, cond, List, ltb}
use Rattle.model.specs.declared.elements.Element.{Element}
use Rattle.model.specs.declared.answers.Verdict.{Verdict}
use Rattle.model.specs.declared.answers.Verdict.TheVariants.{Passes, Overrun, LoadAboveOne}
use Rattle.model.specs.Number.{least, how_many}
use Rattle.model.specs.Demand.{F, H, D, Q, is_test}

-- more demand than length
unfoldable pub is_overrun : List Element → ℕ → Bool
is_overrun s I = ltb I (D s I)

-- F, F + H, F + 2H and so on
unfoldable pub multiple : List Element → ℕ → ℕ
multiple s j = F s + j * H s

-- "Its interval is the first overrun among F, F + H, F + 2H and so on." The last that is looked at is F + (F + 1) H: with Q > H it is an overrun
unfoldable pub overload_at : List Element → ℕ
overload_at s = multiple s (least (λ j. is_overrun s (multiple s j)) (F s + 1))

-- verdict 2: "its demand is D there; its count is 0"
unfoldable pub overload : List Element → Verdict
overload s = LoadAboveOne (overload_at s) (D s (overload_at s))

-- THE LENGTHS THAT A TEST COMPARES: those below the end that are visited, "in rising order", up to the first that fails
pub record Lengths : Type 0 where
  pub visited : ℕ → Bool
  pub fails : ℕ → Bool
  pub end : ℕ

-- the first that fails; the end where none does
unfoldable pub failing : Lengths → ℕ
failing c = least (λ I. c.visited I && c.fails I) c.end

-- the visited lengths below this are compared, "the failing one included"
unfoldable pub stop : Lengths → ℕ
stop c = min (suc (failing c)) c.end

-- "At the first with D(I) > I" the verdict that is shown, "with that I and D(I). Otherwise it is 0 [..]. The count is of distinct lengths compared."
unfoldable pub comparing : List Element → (ℕ → ℕ → ℕ → Verdict) → Lengths → Verdict
comparing s shown c =
    let I = failing c in
    let count = how_many c.visited (stop c) in
    cond (ltb I c.end) (shown I (D s I) count) (Passes count)

-- "If Q > H the verdict is 2"; else the other
unfoldable pub by_load : List Element → Verdict → Verdict
by_load s other = let above = overload s in cond (ltb (H s) (Q s)) above other

-- "If Q is at most H, the distinct test lengths below F + H are compared in rising order. At the first with D(I) > I the verdict is 1."
abbrev pub exact_lengths : List Element → Lengths
exact_lengths s = record { visited = is_test s; fails = is_overrun s; end = F s + H s }

unfoldable pub exact : List Element → Verdict
exact s = let compared = comparing s Overrun (exact_lengths s) in by_load s compared
