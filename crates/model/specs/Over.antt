-- What is said over the elements of a list: the sum, the largest, some, all; each, as a statement.
use Rattle.std.specs.Prelude.{ℕ, ◌+◌, max, Bool, true, false, ◌&&◌, ◌||◌, List, [], ◌∷◌}

module _ {A : Type 0} where
  unfoldable pub sum_over : List A → (A → ℕ) → ℕ
  sum_over [] g = 0
  sum_over (e ∷ s) g = g e + sum_over s g

  -- 0 for no elements
  unfoldable pub largest_over : List A → (A → ℕ) → ℕ
  largest_over [] g = 0
  largest_over (e ∷ s) g = max (g e) (largest_over s g)

  unfoldable pub some_over : List A → (A → Bool) → Bool
  some_over [] t = false
  some_over (e ∷ s) t = t e || some_over s t

  unfoldable pub all_over : List A → (A → Bool) → Bool
  all_over [] t = true
  all_over (e ∷ s) t = t e && all_over s t

  -- every element has the property
  abbrev pub Each : List A → (A → Type 0) → Type 0
  Each [] P = Unit {0}
  Each (e ∷ s) P = P e × Each s P
