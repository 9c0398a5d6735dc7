-- Laws of specs/Over. Assumes nothing.
use Prim.Native.Nat.{ℕ, zero, suc, ◌+◌, ◌*◌, ◌≤◌, ◌<◌, max}
use mathlib.Core.Path.{◌≡◌, refl, ap₂}
use mathlib.Core.Bool.{Bool, true, false, or-true}
use mathlib.Core.List.{List, [], ◌∷◌}
use mathlib.Core.Logic.{◌⊎◌, inl, inr}
use native.Mathlib.Omega.{arith}
use lib.ListN.{length, get_or, take}
use Rattle.model.specs.Over.{sum_over, largest_over, some_over, all_over, Each}
use Rattle.model.proofs.Cases.{clash, and_left, and_right, or_left, or_right, or_cases}

module _ {A : Type 0} where
  -- EACH
  pub each_map : {P R : A → Type 0} (s : List A) → ((e : A) → P e → R e) → Each s P → Each s R
  each_map [] g p = tt
  each_map (e ∷ s) g p = (g e p.0, each_map s g p.1)

  pub each_map₂ : {P R T : A → Type 0} (s : List A) → ((e : A) → P e → R e → T e) → Each s P → Each s R → Each s T
  each_map₂ [] g p r = tt
  each_map₂ (e ∷ s) g p r = (g e p.0 r.0, each_map₂ s g p.1 r.1)

  pub each_map₃ : {P R T U : A → Type 0} (s : List A) → ((e : A) → P e → R e → T e → U e) → Each s P → Each s R → Each s T → Each s U
  each_map₃ [] g p r x = tt
  each_map₃ (e ∷ s) g p r x = (g e p.0 r.0 x.0, each_map₃ s g p.1 r.1 x.1)

  pub each_at : (P : A → Type 0) (s : List A) (i : ℕ) (d : A) → i < length s → Each s P → P (get_or s i d)
  each_at P [] i d h p = absurd (omega arith)
  each_at P (e ∷ s) zero d h p = p.0
  each_at P (e ∷ s) (suc i) d h p = each_at P s i d (omega arith) p.1

  pub all_each : (s : List A) (t : A → Bool) → all_over s t ≡ true → Each s (λ e. t e ≡ true)
  unfolding all_over
  all_each [] t h = tt
  all_each (e ∷ s) t h = (and_left (t e) (all_over s t) h, all_each s t (and_right (t e) (all_over s t) h))

  pub none_each : (s : List A) (t : A → Bool) → some_over s t ≡ false → Each s (λ e. t e ≡ false)
  unfolding some_over
  none_each [] t h = tt
  none_each (e ∷ s) t h = (or_left (t e) (some_over s t) h, none_each s t (or_right (t e) (some_over s t) h))

  pub largest_each : (s : List A) (g : A → ℕ) (n : ℕ) → largest_over s g ≤ n → Each s (λ e. g e ≤ n)
  unfolding largest_over
  largest_each [] g n h = tt
  largest_each (e ∷ s) g n h = (omega arith, largest_each s g n (omega arith))

  -- what some element passes only up to its g is at most the largest
  pub some_largest : (s : List A) (t : A → Bool) (g : A → ℕ) (n : ℕ) → ((e : A) → t e ≡ true → n ≤ g e) → some_over s t ≡ true → n ≤ largest_over s g
  unfolding some_over largest_over
  some_largest [] t g n b h = absurd (clash h refl)
  some_largest (e ∷ s) t g n b h = go (some_largest s t g n b) (or_cases (t e) (some_over s t) h)
    where
      go : (some_over s t ≡ true → n ≤ largest_over s g) → (t e ≡ true) ⊎ (some_over s t ≡ true) → n ≤ max (g e) (largest_over s g)
      go rest (inl p) = omega (arith, b e p)
      go rest (inr p) = omega (arith, rest p)

  -- some element passes exactly where a place has one that does
  pub some_at : (s : List A) (t : A → Bool) (d : A) → some_over s t ≡ true → (i : ℕ) × (i < length s) × (t (get_or s i d) ≡ true)
  unfolding some_over
  some_at [] t d h = absurd (clash h refl)
  some_at (e ∷ s) t d h = go (some_at s t d) (or_cases (t e) (some_over s t) h)
    where
      go :
          (some_over s t ≡ true → (i : ℕ) × (i < length s) × (t (get_or s i d) ≡ true)) → (t e ≡ true) ⊎ (some_over s t ≡ true) →
          (i : ℕ) × (i < suc (length s)) × (t (get_or (e ∷ s) i d) ≡ true)
      go rest (inl p) = (0, omega arith, p)
      go rest (inr p) = let r = rest p in (suc r.0, omega (arith, r.1), r.2)

  pub at_some : (s : List A) (t : A → Bool) (d : A) (i : ℕ) → i < length s → t (get_or s i d) ≡ true → some_over s t ≡ true
  unfolding some_over
  at_some [] t d i l h = absurd (omega arith)
  at_some (e ∷ s) t d zero l h = rw h
  at_some (e ∷ s) t d (suc i) l h = rw (at_some s t d i (omega arith) h) (or-true (t e))

  -- SUMS, element by element
  pub sum_same : (s : List A) (g h : A → ℕ) → Each s (λ e. g e ≡ h e) → sum_over s g ≡ sum_over s h
  unfolding sum_over
  sum_same [] g h p = refl
  sum_same (e ∷ s) g h p = ap₂ ◌+◌ p.0 (sum_same s g h p.1)

  pub sum_le : (s : List A) (g h : A → ℕ) → Each s (λ e. g e ≤ h e) → sum_over s g ≤ sum_over s h
  unfolding sum_over
  sum_le [] g h p = omega arith
  sum_le (e ∷ s) g h p = omega (arith, p.0, sum_le s g h p.1)

  pub sum_zero : (s : List A) (g : A → ℕ) → Each s (λ e. g e ≡ 0) → sum_over s g ≡ 0
  unfolding sum_over
  sum_zero [] g p = refl
  sum_zero (e ∷ s) g p = omega (arith, p.0, sum_zero s g p.1)

  pub sum_plus : (s : List A) (g h : A → ℕ) → sum_over s (λ e. g e + h e) ≡ sum_over s g + sum_over s h
  unfolding sum_over
  sum_plus [] g h = omega arith
  sum_plus (e ∷ s) g h = omega (arith, sum_plus s g h)

  pub sum_times : (s : List A) (n : ℕ) (g : A → ℕ) → sum_over s (λ e. n * g e) ≡ n * sum_over s g
  unfolding sum_over
  sum_times [] n g = omega arith
  sum_times (e ∷ s) n g = omega (arith, sum_times s n g)

  pub sum_more : (s : List A) (g : A → ℕ) (d : A) (i : ℕ) → i < length s → sum_over (take (suc i) s) g ≡ sum_over (take i s) g + g (get_or s i d)
  unfolding sum_over
  sum_more [] g d i h = absurd (omega arith)
  sum_more (e ∷ s) g d zero h = omega arith
  sum_more (e ∷ s) g d (suc i) h = omega (arith, sum_more s g d i (omega arith))

  -- the first n, each at most b
  pub sum_most : (s : List A) (g : A → ℕ) (d : A) (b n : ℕ) → ((i : ℕ) → i < n → g (get_or s i d) ≤ b) → sum_over (take n s) g ≤ n * b
  unfolding sum_over
  sum_most s g d b zero h = omega arith
  sum_most [] g d b (suc n) h = omega arith
  sum_most (e ∷ s) g d b (suc n) h = omega (arith, h 0 (omega arith), sum_most s g d b n (λ i l. h (suc i) (omega arith)))

  pub largest_most : (s : List A) (g : A → ℕ) (d : A) (b n : ℕ) → ((i : ℕ) → i < n → g (get_or s i d) ≤ b) → largest_over (take n s) g ≤ b
  unfolding largest_over
  largest_most s g d b zero h = omega arith
  largest_most [] g d b (suc n) h = omega arith
  largest_most (e ∷ s) g d b (suc n) h = omega (arith, h 0 (omega arith), largest_most s g d b n (λ i l. h (suc i) (omega arith)))

  -- THE FIRST ONES
  pub each_take : (P : A → Type 0) (s : List A) (n : ℕ) → Each s P → Each (take n s) P
  each_take P s zero p = tt
  each_take P [] (suc n) p = tt
  each_take P (e ∷ s) (suc n) p = (p.0, each_take P s n p.1)

  -- one more of them
  pub each_more : (P : A → Type 0) (s : List A) (d : A) (i : ℕ) → i < length s → Each (take i s) P → P (get_or s i d) → Each (take (suc i) s) P
  each_more P [] d i h p q = absurd (omega arith)
  each_more P (e ∷ s) d zero h p q = (q, tt)
  each_more P (e ∷ s) d (suc i) h p q = (p.0, each_more P s d i (omega arith) p.1 q)

  pub each_less : (P : A → Type 0) (s : List A) (d : A) (i : ℕ) → i < length s → Each (take (suc i) s) P → Each (take i s) P × P (get_or s i d)
  each_less P [] d i h p = absurd (omega arith)
  each_less P (e ∷ s) d zero h p = (tt, p.0)
  each_less P (e ∷ s) d (suc i) h p = let r = each_less P s d i (omega arith) p.1 in ((p.0, r.0), r.1)
