-- How large the numbers of a set can be.
use Rattle.std.specs.Prelude.{ℕ, ◌+◌, ◌*◌, ◌^◌, ◌≤◌, ◌<◌, ◌≡◌, true, List}
use Rattle.model.specs.declared.elements.Element.{Element}
use Rattle.model.specs.Over.{sum_over}
use Rattle.model.specs.Elements.{most_h, most_k}
use Rattle.model.specs.Demand.{F, H, D, Q}
use Rattle.model.specs.ExactTest.{overload_at}
use Rattle.model.specs.Superposition.{HD', is_visited}

-- no length that a test shows with load at most one, and no F, is above this
abbrev pub most_length : ℕ
most_length = 4294967296

-- F, H and Q of a set, H within its limit
pub record IsLoad (s : List Element) (first h q : ℕ) : Type 0 where
  pub firsts : first ≡ F s
  pub multiple : h ≡ H s
  pub load : q ≡ Q s
  pub small : h ≤ most_h

-- all costs together
unfoldable pub costs : List Element → ℕ
costs s = sum_over s (λ e. e.cost)

-- D'(I) is at most all costs above I, scaled with H
abbrev pub StaysNear : ℕ → List Element → ℕ → Type 0
StaysNear k s I = HD' k s I ≤ H s * (I + costs s)

-- THE NUMBERS OF EITHER TEST at a length, each below 2^64. For verdict 2: I, and D(I)
pub record AboveOneFits (s : List Element) (I : ℕ) : Type 0 where
  pub length : I < 2 ^ 56
  pub demand : D s I < 2 ^ 62

-- in the exact test with Q at most H
pub record ExactFits (s : List Element) (I : ℕ) : Type 0 where
  pub length : I < 2 ^ 31
  pub demand : D s I < 2 ^ 32

-- in superposition with Q at most H also H I, and H D'(I)
pub record SuperpositionFits (k : ℕ) (s : List Element) (I : ℕ) : Type 0 where
  pub length : I ≤ 2 ^ 32
  pub demand : D s I < 2 ^ 33
  pub scaled_length : H s * I ≤ 2 ^ 62
  pub scaled_demand : HD' k s I < 2 ^ 63

-- EVERY SUM IN EITHER TEST FITS: Q; up to the interval of verdict 2; below F + H; and at every length that superposition visits
pub record EverySumFits (s : List Element) : Type 0 where
  pub load : Q s ≤ 2 ^ 61
  pub above_one : H s < Q s → (I : ℕ) → I ≤ overload_at s → AboveOneFits s I
  pub exact : Q s ≤ H s → (I : ℕ) → I < F s + H s → ExactFits s I
  pub superposition : Q s ≤ H s → (k : ℕ) → 1 ≤ k → k ≤ most_k → (I : ℕ) → is_visited k s I ≡ true → SuperpositionFits k s I
