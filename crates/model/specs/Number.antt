-- Numbers: the least common multiple, and what is said of the numbers below a bound. Document 01 uses these words and does not define them.
use Rattle.std.specs.Prelude.{ℕ, zero, suc, ◌+◌, ◌*◌, ◌/◌, ◌%◌, Bool, cond, ltb}

-- Euclid's steps, n of them at most
unfoldable pub gcd_in : ℕ → ℕ → ℕ → ℕ
gcd_in zero a b = a
gcd_in (suc n) a zero = a
gcd_in (suc n) a (suc b) = gcd_in n (suc b) (a % suc b)

-- the greatest common divisor: b steps are enough
unfoldable pub gcd : ℕ → ℕ → ℕ
gcd a b = gcd_in b a b

-- the least common multiple
unfoldable pub lcm : ℕ → ℕ → ℕ
lcm a b = a / gcd a b * b

-- the least number below n that passes the test; n where none does
unfoldable pub least : (ℕ → Bool) → ℕ → ℕ
least t zero = zero
least t (suc n) = let i = least t n in cond (ltb i n) i (cond (t n) n (suc n))

-- how many numbers below n pass the test
unfoldable pub how_many : (ℕ → Bool) → ℕ → ℕ
how_many t zero = zero
how_many t (suc n) = how_many t n + cond (t n) 1 0
