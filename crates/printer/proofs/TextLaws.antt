-- Laws of specs/Growing, and how long a text is. Assumes nothing.
use Prim.Native.Nat.{ℕ, ◌+◌, ◌*◌, ◌^◌, ◌≤◌, ◌<◌}
use mathlib.Core.Path.{◌≡◌}
use mathlib.Core.List.{List, [], ◌∷◌, ◌++◌, append_assoc}
use native.Mathlib.Omega.{arith}
use lib.ListN.{length, take, length-append}
use lib.Seq.{take_all}
use Rattle.std.specs.List.{flat_map}
use Rattle.std.specs.Prelude.{codes, Result, Ok, Err}
use Rattle.std.specs.Fmt.{digits}
use Rattle.std.proofs.lemmas.Fmt.{length-decimal-le_wide}
use Rattle.model.specs.Over.{Each}
use Rattle.model.specs.Answers.{values}
use Rattle.model.specs.declared.answers.Told.{Told}
use Rattle.model.specs.declared.answers.Verdict.{Verdict}
use Rattle.printer.specs.declared.answers.Lines.{Lines}
use Rattle.printer.specs.Answered.{Numbered, lines, first_refusal, shown_of, text_of, printed_of}
use Rattle.printer.specs.Text.{field, newline, line, k_name, verdict_line, refused_line}
use Rattle.printer.specs.Growing.{Grows}

module _ {m n : ℕ} {x y s t u : List ℕ} where
  pub grows_then : Grows m x s t → Grows n y t u → Grows (m + n) (x ++ y) s u
  grows_then p q = record {
    whole = rw (q.whole, p.whole) (append_assoc s x y);
    short = rw length-append (omega (arith, p.short, q.short));
  }

-- a line ends after its last number
pub ends_line :
    (name numbers : List ℕ) {i : ℕ} {s t u : List ℕ} →
    i ≡ length numbers →
    Grows (length name + 21 * i) (name ++ flat_map field (take i numbers)) s t →
    u ≡ t ++ newline →
    Grows (length name + 21 * length numbers + 1) (line name numbers) s u
unfolding line
ends_line name numbers h p e =
    let whole : take (length numbers) numbers ≡ numbers = take_all (length numbers) numbers (omega arith) in
    let end : Grows 1 newline _ _ = record { whole = e; short = omega arith } in
    grows_then (rw (h, whole) at p) end

-- what is shown, in a text that was empty
pub shown_grows :
    (a : Lines Numbered) {shown : Result (Lines Verdict) Told} {m : ℕ} {s t : List ℕ} →
    shown ≡ shown_of a →
    s ≡ [] →
    m ≤ 356 →
    Grows m (text_of shown) s t →
    Grows 356 (printed_of a) [] t
unfolding printed_of
shown_grows a h e few p = record {
  whole = rw (e, h) at p.whole;
  short = omega (arith, few, rw h at p.short);
}

-- HOW LONG A TEXT IS, of numbers of twenty digits at most: each number of 64 bits is one
abbrev pub Short : List ℕ → Type 0
Short numbers = Each numbers (λ n. n < 10 ^ 20)

fields_long : (numbers : List ℕ) → Short numbers → length (flat_map field numbers) ≤ 21 * length numbers
fields_long [] p = omega arith
fields_long (n ∷ ns) p =
    omega (arith, length-append (field n) (flat_map field ns), length-decimal-le_wide 20 n (omega arith) p.0 (omega (arith, p.0)), fields_long ns p.1)

pub line_long : (name numbers : List ℕ) → Short numbers → length (line name numbers) ≤ length name + 21 * length numbers + 1
unfolding line
line_long name numbers p = simp length-append (omega (arith, fields_long numbers p))

-- the numbers that are printed of an answer
abbrev pub numbers_in : Numbered → List ℕ
numbers_in (Err r) = r.refusal ∷ r.place ∷ []
numbers_in (Ok v) = let w = values v in w.verdict ∷ w.interval ∷ w.demand ∷ w.count ∷ []

pub refused_long : (r : Told) → Short (numbers_in (Err r)) → length (refused_line r) ≤ 50
refused_long r = line_long (codes "refused") (numbers_in (Err r))

verdict_long : (name : List ℕ) (v : Verdict) → Short (numbers_in (Ok v)) → length (verdict_line name v) ≤ length name + 84 + 1
verdict_long name v = line_long name (numbers_in (Ok v))

shown_long :
    (e a b c : Numbered) → Short (numbers_in e) → Short (numbers_in a) → Short (numbers_in b) → Short (numbers_in c) →
    length (text_of (first_refusal e a b c)) ≤ 356
unfolding digits lines first_refusal
shown_long (Err r) a b c p q s t = omega (arith, refused_long r p)
shown_long (Ok e) (Err r) b c p q s t = omega (arith, refused_long r q)
shown_long (Ok e) (Ok a) (Err r) c p q s t = omega (arith, refused_long r s)
shown_long (Ok e) (Ok a) (Ok b) (Err r) p q s t = omega (arith, refused_long r t)
shown_long (Ok e) (Ok a) (Ok b) (Ok c) p q s t =
    simp length-append
    (omega (arith, verdict_long (codes "exact") e p, verdict_long (k_name 1) a q, verdict_long (k_name 2) b s, verdict_long (k_name 100) c t))

-- four lines, of names of 16 bytes
pub printed_long :
    (a : Lines Numbered) → Short (numbers_in a.exact) → Short (numbers_in a.one) → Short (numbers_in a.two) → Short (numbers_in a.hundred) →
    length (printed_of a) ≤ 356
unfolding printed_of
printed_long a = shown_long a.exact a.one a.two a.hundred
