-- The lowest bit of a word that is set, the word without it, and what a bit says of an entry. Assumes nothing.
use Prim.Native.Nat.{ℕ, zero, suc, ◌-◌, ◌/◌, ◌%◌, ◌^◌, ◌<◌}
use mathlib.Core.Path.{◌≡◌, refl, sym, ap, ◌∙◌}
use native.Mathlib.Decide.{dec_lt}
use native.Mathlib.Nat.{pow-suc}
use native.Mathlib.Omega.{arith}
use mir.Syntax.{w64}
use lib.Bits.{bit_or, bit_and, and_le_r}
use lib.Count.{count_trailing_zeros, under}
use Rattle.std.specs.Int.{bit_at}
use Rattle.std.proofs.lemmas.Nat.Bits.{bit_at_lowest, bit_at-suc, bit_at_and, bit_at_or, bit_at-lt, bit_at-trailing_zeros}
use Rattle.exact_test.specs.Segments.{IsWord, sign}

pub or_one : (w v i : ℕ) → bit_at w i ≡ 1 → bit_at (bit_or w v) i ≡ 1
or_one w v i h = bit_at_or w v i ∙ omega (arith, bit_at-lt v i)

-- the lowest bit of w
abbrev pub lowest : ℕ → ℕ
lowest w = count_trailing_zeros 64 w

-- the word without its lowest bit
abbrev pub cleared : ℕ → ℕ
cleared w = bit_and w (w - 1)

pub clear_lt : (w : ℕ) → 0 < w → cleared w < w
clear_lt w p = omega (arith, and_le_r w (w - 1))

-- one less: the lowest bit goes, and those above it stay
one_less :
    (t w : ℕ) → bit_at w t ≡ 1 → ((i : ℕ) → i < t → bit_at w i ≡ 0) →
    (bit_at (w - 1) t ≡ 0) × ((i : ℕ) → t < i → bit_at (w - 1) i ≡ bit_at w i)
one_less zero w h z =
    let odd : w % 2 ≡ 1 = sym (bit_at_lowest w) ∙ h in
    (bit_at_lowest (w - 1) ∙ omega arith, go odd)
  where
    go : w % 2 ≡ 1 → (i : ℕ) → 0 < i → bit_at (w - 1) i ≡ bit_at w i
    go odd zero l = absurd (omega arith)
    go odd (suc i) l =
        let half : (w - 1) / 2 ≡ w / 2 = omega arith in
        bit_at-suc (w - 1) i ∙ ap (λ x. bit_at x i) half ∙ sym (bit_at-suc w i)
one_less (suc t) w h z =
    let even : w % 2 ≡ 0 = sym (bit_at_lowest w) ∙ z 0 (omega arith) in
    let half : (w - 1) / 2 ≡ w / 2 - 1 = omega arith in
    let r = one_less t (w / 2) (sym (bit_at-suc w t) ∙ h) (λ i l. sym (bit_at-suc w i) ∙ z (suc i) (omega arith)) in
    (bit_at-suc (w - 1) t ∙ ap (λ x. bit_at x t) half ∙ r.0, go half r.1)
  where
    go : (w - 1) / 2 ≡ w / 2 - 1 → ((i : ℕ) → t < i → bit_at (w / 2 - 1) i ≡ bit_at (w / 2) i) → (i : ℕ) → suc t < i → bit_at (w - 1) i ≡ bit_at w i
    go half r zero l = absurd (omega arith)
    go half r (suc i) l = bit_at-suc (w - 1) i ∙ ap (λ x. bit_at x i) half ∙ r i (omega arith) ∙ sym (bit_at-suc w i)

-- OF A WORD OF k BITS: the zeros below its lowest bit, and that bit
abbrev pub Zeros : ℕ → ℕ → ℕ → Type 0
Zeros k w t = ((i : ℕ) → i < t → bit_at w i ≡ 0) × (t < k → bit_at w t ≡ 1) × (0 < w → w < 2 ^ k → t < k)

zeros_by : (k w t d : ℕ) → w % 2 ≡ d → Zeros k (w / 2) t → Zeros (suc k) w (under d t)
zeros_by k w t (suc d) odd h = (λ i l. absurd (omega arith), λ l. omega (arith, bit_at_lowest w), λ p f. omega arith)
zeros_by k w t zero even h = (below, λ l. bit_at-suc w t ∙ h.1 (omega arith), λ p f. omega (arith, h.2 (omega arith) (omega (arith, pow-suc 2 k))))
  where
    below : (i : ℕ) → i < suc t → bit_at w i ≡ 0
    below zero l = bit_at_lowest w ∙ even
    below (suc i) l = bit_at-suc w i ∙ h.0 i (omega arith)

pub zeros : (k w : ℕ) → Zeros k w (count_trailing_zeros k w)
unfolding count_trailing_zeros
zeros zero w = (λ i l. absurd (omega arith), λ l. absurd (omega arith), λ p f. absurd (omega arith))
zeros (suc k) w = zeros_by k w (count_trailing_zeros k (w / 2)) (w % 2) refl (zeros k (w / 2))

-- without it
module _ (k w : ℕ) (p : 0 < w) (f : w < 2 ^ k) where
  pub clear_lowest :
      let t = count_trailing_zeros k w in
      (bit_at (cleared w) t ≡ 0) × ((i : ℕ) → (i ≡ t → ⊥) → bit_at (cleared w) i ≡ bit_at w i)
  clear_lowest =
      let t = count_trailing_zeros k w in
      let z = zeros k w in
      let r = one_less t w (z.1 (z.2 p f)) z.0 in (
        bit_at_and w (w - 1) t ∙ omega (arith, r.0),
        λ i n.
            bit_at_and w (w - 1) i
            ∙ elim (dec_lt i t) [
              | yes l ↦ omega (arith, z.0 i l)
              | no l ↦ omega (arith, r.1 i (omega arith))
            ],
      )

-- OF 64 BITS
module _ {w : ℕ} (p : 0 < w) (f : IsWord w) where
  pub lowest_is : (lowest w < 64) × (bit_at w (lowest w) ≡ 1) × ((i : ℕ) → i < lowest w → bit_at w i ≡ 0)
  lowest_is = bit_at-trailing_zeros w64 w p f

  pub clear_at : bit_at (cleared w) (lowest w) ≡ 0
  clear_at = (clear_lowest 64 w p f).0

  pub clear_keep : (i : ℕ) → (i ≡ lowest w → ⊥) → bit_at (cleared w) i ≡ bit_at w i
  clear_keep = (clear_lowest 64 w p f).1

-- WHAT A BIT SAYS OF AN ENTRY
pub sign_some : (n : ℕ) → 0 < n → sign n ≡ 1
sign_some zero h = absurd (omega arith)
sign_some (suc n) h = refl

pub some_sign : (n : ℕ) → sign n ≡ 1 → 0 < n
some_sign zero h = absurd (omega arith)
some_sign (suc n) h = omega arith

pub none_sign : (n : ℕ) → sign n ≡ 0 → n ≡ 0
none_sign zero h = refl
none_sign (suc n) h = absurd (omega arith)
