-- Tests by cases. Assumes nothing.
use Prim.Native.Nat.{ℕ, ◌≤◌, ◌<◌}
use mathlib.Core.Path.{◌≡◌, refl, sym, ◌∙◌}
use mathlib.Core.Bool.{Bool, true, false, ◌&&◌, ◌||◌, true≢false}
use mathlib.Core.Logic.{◌⊎◌, inl, inr, ⊎_elim}
use lib.Dec.{ltb}
use borrow.Author.Tests.{ltb-true, ltb-false}

pub test : (b : Bool) → (b ≡ true) ⊎ (b ≡ false)
test true = inl refl
test false = inr refl

pub clash : {b : Bool} → b ≡ true → b ≡ false → ⊥
clash p q = true≢false (sym p ∙ q)

pub lt_or_le : (a b : ℕ) → (a < b) ⊎ (b ≤ a)
lt_or_le a b = ⊎_elim (λ h. inl (ltb-true a b h)) (λ h. inr (ltb-false a b h)) (test (ltb a b))

module _ (a b : Bool) where
  pub and_both : a ≡ true → b ≡ true → (a && b) ≡ true
  and_both p q = rw (p, q)

  pub and_left : (a && b) ≡ true → a ≡ true
  and_left h = ⊎_elim (λ p. p) (λ p. absurd (clash h (rw p))) (test a)

  pub and_right : (a && b) ≡ true → b ≡ true
  and_right h = rw (and_left h) at h

  pub not_right : (a && b) ≡ false → a ≡ true → b ≡ false
  not_right h p = rw p at h

  pub or_left : (a || b) ≡ false → a ≡ false
  or_left h = ⊎_elim (λ p. absurd (clash (rw p) h)) (λ p. p) (test a)

  pub or_right : (a || b) ≡ false → b ≡ false
  or_right h = rw (or_left h) at h

  pub or_cases : (a || b) ≡ true → (a ≡ true) ⊎ (b ≡ true)
  or_cases h = ⊎_elim (λ p. inl p) (λ p. inr (rw p at h)) (test a)
