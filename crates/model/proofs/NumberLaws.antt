-- Laws of specs/Number. Assumes nothing.
use Prim.Native.Nat.{ℕ, zero, suc, ◌+◌, ◌*◌, ◌-◌, ◌/◌, ◌%◌, ◌≤◌, ◌<◌, ◌∣◌}
use mathlib.Core.Path.{◌≡◌, refl, ap, sym, ◌∙◌, subst}
use mathlib.Core.Bool.{Bool, true, false, cond, ◌||◌}
use mathlib.Core.Logic.{◌⊎◌, inl, inr, ⊎_elim}
use native.Mathlib.Omega.{arith}
use native.Mathlib.Nat.{dvd_refl, dvd-zero, dvd-mod_iff, dvd-add_iff_right, mod-lt, dvd-mul_right_of_dvd, dvd-mul_left, dvd-mul_right, div-add-mod, mul-dvd-mul_left, mul-dvd-mul_right, div-mul_cancel, dvd_of_mul-dvd-mul_right, pos_of_dvd_of_pos, mul-pos, zero-lt-suc, mul_comm}
use lib.Dec.{ltb}
use borrow.Author.Tests.{lt-ltb, le-ltb}
use Rattle.model.specs.Number.{gcd_in, gcd, lcm, least, how_many}
use Rattle.model.proofs.Cases.{test, clash, lt_or_le}

-- THE LEAST COMMON MULTIPLE
gcd_in_divides : (n a b : ℕ) → b ≤ n → (gcd_in n a b ∣ a) × (gcd_in n a b ∣ b)
unfolding gcd_in
gcd_in_divides zero a b h = (dvd_refl a, let e : 0 ≡ b = omega arith in subst (λ x. a ∣ x) e (dvd-zero a))
gcd_in_divides (suc n) a zero h = (dvd_refl a, dvd-zero a)
gcd_in_divides (suc n) a (suc b) h =
    let ih = gcd_in_divides n (suc b) (a % suc b) (omega (arith, mod-lt a (zero-lt-suc b))) in
    ((dvd-mod_iff _ ih.0).0 ih.1, ih.0)

-- what divides m a and m b divides m times their greatest common divisor
gcd_in_greatest : (n a b m x : ℕ) → b ≤ n → x ∣ m * a → x ∣ m * b → x ∣ m * gcd_in n a b
unfolding gcd_in
gcd_in_greatest zero a b m x h p q = p
gcd_in_greatest (suc n) a zero m x h p q = p
gcd_in_greatest (suc n) a (suc b) m x h p q =
    gcd_in_greatest n (suc b) (a % suc b) m x (omega (arith, mod-lt a (zero-lt-suc b))) q
    ((dvd-add_iff_right x (dvd-mul_right_of_dvd x q (a / suc b))).1
    (subst (λ y. x ∣ y) (omega (arith, ap (λ z. m * z) (div-add-mod a (suc b)))) p))

-- as many steps as one likes, from b on
gcd_in_enough : (n m a b : ℕ) → b ≤ n → b ≤ m → gcd_in n a b ≡ gcd_in m a b
unfolding gcd_in
gcd_in_enough zero zero a b h l = refl
gcd_in_enough zero (suc m) a zero h l = refl
gcd_in_enough zero (suc m) a (suc b) h l = absurd (omega arith)
gcd_in_enough (suc n) zero a zero h l = refl
gcd_in_enough (suc n) zero a (suc b) h l = absurd (omega arith)
gcd_in_enough (suc n) (suc m) a zero h l = refl
gcd_in_enough (suc n) (suc m) a (suc b) h l =
    let r = mod-lt a (zero-lt-suc b) in
    gcd_in_enough n m (suc b) (a % suc b) (omega arith) (omega arith)

pub gcd_step : (a b : ℕ) → 0 < b → gcd a b ≡ gcd b (a % b)
unfolding gcd gcd_in
gcd_step a zero h = absurd (omega arith)
gcd_step a (suc b) h = gcd_in_enough b (a % suc b) (suc b) (a % suc b) (omega (arith, mod-lt a (zero-lt-suc b))) (omega arith)

pub gcd_zero : (a : ℕ) → gcd a 0 ≡ a
unfolding gcd gcd_in
gcd_zero a = refl

module _ (a b : ℕ) where
  gcd_divides : (gcd a b ∣ a) × (gcd a b ∣ b)
  unfolding gcd
  gcd_divides = gcd_in_divides b a b (omega arith)

  pub gcd_positive : 0 < a → 0 < gcd a b
  gcd_positive h = pos_of_dvd_of_pos gcd_divides.0 h

  lcm_gcd : lcm a b * gcd a b ≡ a * b
  unfolding lcm
  lcm_gcd = omega (arith, ap (λ x. x * b) (div-mul_cancel (gcd a b) gcd_divides.0))

  pub lcm_right : b ∣ lcm a b
  unfolding lcm
  lcm_right = dvd-mul_left b (a / gcd a b)

  pub lcm_left : 0 < a → a ∣ lcm a b
  lcm_left h = dvd_of_mul-dvd-mul_right a (pos_of_dvd_of_pos gcd_divides.0 h)
      (subst (λ x. a * gcd a b ∣ x) (sym lcm_gcd) (mul-dvd-mul_left (gcd a b) a gcd_divides.1))

  pub lcm_least : (n : ℕ) → 0 < a → a ∣ n → b ∣ n → lcm a b ∣ n
  unfolding gcd
  lcm_least n h p q = dvd_of_mul-dvd-mul_right (lcm a b) (pos_of_dvd_of_pos gcd_divides.0 h)
      (subst (λ x. x ∣ n * gcd a b) (sym lcm_gcd)
      (gcd_in_greatest b a b n (a * b) (omega arith)
      (subst (λ x. x ∣ n * a) (mul_comm b a) (mul-dvd-mul_right b q a))
      (mul-dvd-mul_right a p b)))

  pub lcm_positive : 0 < a → 0 < b → 0 < lcm a b
  lcm_positive h k = pos_of_dvd_of_pos (subst (λ x. lcm a b ∣ x) lcm_gcd (dvd-mul_right (lcm a b) (gcd a b))) (mul-pos h k)

-- THE LEAST NUMBER BELOW n THAT PASSES
module _ (t : ℕ → Bool) where
  abbrev pub None : ℕ → Type 0
  None n = (j : ℕ) → j < n → t j ≡ false

  -- i passes and none before it does
  pub record IsFirst (i : ℕ) : Type 0 where
    pub passes : t i ≡ true
    pub none : None i

  none_more : (n : ℕ) → None n → t n ≡ false → None (suc n)
  none_more n q e j h =
      ⊎_elim (λ l. q j l) (λ l. let k : j ≡ n = omega arith in ap t k ∙ e) (lt_or_le j n)

  -- i is the first below n, or it is n and there is none
  abbrev pub Least : ℕ → ℕ → Type 0
  Least n i = ((i < n) × IsFirst i) ⊎ ((i ≡ n) × None n)

  least_step : (n i : ℕ) → Least n i → Least (suc n) (cond (ltb i n) i (cond (t n) n (suc n)))
  least_step n i (inl r) = rw (lt-ltb i n r.0) (inl (omega arith, r.1))
  least_step n i (inr r) =
      rw (le-ltb i n (omega arith))
      (⊎_elim (λ e. rw e (inl (omega arith, record { passes = e; none = r.1 }))) (λ e. rw e (inr (refl, none_more n r.1 e))) (test (t n)))

  pub least_is : (n : ℕ) → Least n (least t n)
  unfolding least
  least_is zero = inr (refl, λ j h. absurd (omega arith))
  least_is (suc n) = least_step n (least t n) (least_is n)

  pub least_most : (n : ℕ) → least t n ≤ n
  least_most n = ⊎_elim (λ r. omega (arith, r.0)) (λ r. omega (arith, r.0)) (least_is n)

  -- where n passes, there is a first, and it is found
  pub least_first : (n : ℕ) → t n ≡ true → IsFirst (least t n) × (least t n ≤ n)
  least_first n p = go (least_is n)
    where
      go : Least n (least t n) → IsFirst (least t n) × (least t n ≤ n)
      go (inl r) = (r.1, omega (arith, r.0))
      go (inr r) = (rw r.0 (record { passes = p; none = r.1 }), omega (arith, r.0))

  -- where none passes, n is found; a first one up to n is
  pub least_none : (n : ℕ) → None n → least t n ≡ n
  least_none n q = ⊎_elim (λ r. absurd (clash r.1.passes (q (least t n) r.0))) (λ r. r.0) (least_is n)

  pub least_at : (n i : ℕ) → i ≤ n → IsFirst i → least t n ≡ i
  least_at n i l f = ⊎_elim
      (λ (h : i < n). ⊎_elim
      (λ r. ⊎_elim
      (λ a. absurd (clash r.1.passes (f.none (least t n) a)))
      (λ a. ⊎_elim (λ b. absurd (clash f.passes (r.1.none i b))) (λ b. omega arith) (lt_or_le i (least t n)))
      (lt_or_le (least t n) i))
      (λ r. absurd (clash f.passes (r.1 i h)))
      (least_is n))
      (λ (h : n ≤ i). omega (arith, least_none n (λ j a. f.none j (omega arith))))
      (lt_or_le i n)

-- HOW MANY PASS
one_if : (a b : Bool) → (a ≡ true → b ≡ true) → cond a 1 0 ≤ cond b 1 0
one_if true b h = rw (h refl) (omega arith)
one_if false b h = omega arith

module _ (t : ℕ → Bool) where
  pub how_many_zero : how_many t 0 ≡ 0
  unfolding how_many
  how_many_zero = refl

  pub how_many_more : (n : ℕ) → how_many t (suc n) ≡ how_many t n + cond (t n) 1 0
  unfolding how_many
  how_many_more n = refl

  pub how_many_most : (n : ℕ) → how_many t n ≤ n
  unfolding how_many
  how_many_most zero = omega arith
  how_many_most (suc n) = omega (arith, how_many_most n, one_if (t n) true (λ h. refl))

  -- none passes from n on, for i numbers
  pub how_many_gap : (n i : ℕ) → ((j : ℕ) → n ≤ j → j < n + i → t j ≡ false) → how_many t (n + i) ≡ how_many t n
  unfolding how_many
  how_many_gap n zero q = let e : n + 0 ≡ n = omega arith in rw e
  how_many_gap n (suc i) q =
      let e : n + suc i ≡ suc (n + i) = omega arith in
      rw (e, q (n + i) (omega arith) (omega arith)) (omega (arith, how_many_gap n i (λ j l u. q j l (omega arith))))

  -- counting further, no fewer
  pub how_many_rises : (n i : ℕ) → how_many t n ≤ how_many t (n + i)
  unfolding how_many
  how_many_rises n zero = let e : n + 0 ≡ n = omega arith in rw e (omega arith)
  how_many_rises n (suc i) = let e : n + suc i ≡ suc (n + i) = omega arith in rw e (omega (arith, how_many_rises n i))

  -- none passes from n on, and none from i on
  pub how_many_all : (n i : ℕ) → ((j : ℕ) → t j ≡ true → j < n) → ((j : ℕ) → t j ≡ true → j < i) → how_many t n ≡ how_many t i
  how_many_all n i below-n below-i = ⊎_elim
      (λ (l : n < i).
      let e : n + (i - n) ≡ i = omega arith in
      sym (rw e at (how_many_gap n (i - n) (λ j a b. none below-n j a))))
      (λ (l : i ≤ n).
      let e : i + (n - i) ≡ n = omega arith in
      rw e at (how_many_gap i (n - i) (λ j a b. none below-i j a)))
      (lt_or_le n i)
    where
      none : {c : ℕ} → ((j : ℕ) → t j ≡ true → j < c) → (j : ℕ) → c ≤ j → t j ≡ false
      none below j a = ⊎_elim (λ p. absurd (omega (arith, below j p))) (λ p. p) (test (t j))

  -- where t passes, u does
  pub how_many_le : (u : ℕ → Bool) → ((j : ℕ) → t j ≡ true → u j ≡ true) → (n : ℕ) → how_many t n ≤ how_many u n
  unfolding how_many
  how_many_le u h zero = omega arith
  how_many_le u h (suc n) = omega (arith, one_if (t n) (u n) (h n), how_many_le u h n)

  -- only a passes
  pub how_many_once : (a : ℕ) → ((j : ℕ) → t j ≡ true → j ≡ a) → (n : ℕ) → how_many t n ≤ 1
  unfolding how_many
  how_many_once a only zero = omega arith
  how_many_once a only (suc n) = ⊎_elim
      (λ p. let z : 0 + n ≡ n = omega arith in
      let e = how_many_gap 0 n (λ j l u. ⊎_elim (λ q. absurd (omega (arith, only n p, only j q))) (λ q. q) (test (t j))) in
      rw p (omega (arith, rw z at e, how_many_zero)))
      (λ p. rw p (omega (arith, how_many_once a only n)))
      (test (t n))

one_of_two : (a b : Bool) → cond (a || b) 1 0 ≤ cond a 1 0 + cond b 1 0
one_of_two true b = omega arith
one_of_two false b = omega arith

pub how_many_or : (t u : ℕ → Bool) (n : ℕ) → how_many (λ i. t i || u i) n ≤ how_many t n + how_many u n
unfolding how_many
how_many_or t u zero = omega arith
how_many_or t u (suc n) = omega (arith, one_of_two (t n) (u n), how_many_or t u n)
