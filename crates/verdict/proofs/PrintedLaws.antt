-- What is printed of each answer, and that what is put is a start of the buffer. Assumes nothing.
use Prim.Native.Nat.{ℕ, ◌≤◌}
use mathlib.Core.Path.{◌≡◌, sym, ap, ◌∙◌}
use mathlib.Core.List.{List}
use native.Mathlib.Omega.{arith}
use lib.ListN.{length, take, drop, length-append}
use lib.Seq.{length-take-le}
use Rattle.std.specs.Prelude.{Result, Ok, Err, MatchResult}
use Rattle.std.specs.Result.{IsErrAnd}
use Rattle.model.specs.declared.answers.Told.{Told}
use Rattle.model.specs.declared.answers.Verdict.{Verdict}
use Rattle.model.specs.Answers.{Answer, told_of, numbered}
use Rattle.model.specs.Buffers.{over}
use Rattle.verdict.specs.Printed.{printed}

-- an answer whose refusal was turned into what it tells
pub numbered_is :
    (a : Answer) {b : Answer} {m : Result Verdict Told} → MatchResult a (λ v. m ≡ Ok v) (λ r. IsErrAnd m (λ t. t ≡ told_of r)) → a ≡ b → m ≡ numbered b
numbered_is (Ok v) k h = k ∙ ap numbered h
numbered_is (Err r) {m = Ok v} k h = absurd k
numbered_is (Err r) {m = Err t} k h = ap Err k ∙ ap numbered h

-- what is put is the start of the buffer, and so a part that can be lent
pub put_counts : (b out after : List ℕ) (n : ℕ) → (n ≡ length (printed b)) × (after ≡ over (printed b) out) → (n ≤ length after) × (n ≡ length (take n after))
put_counts b out after n h =
    let within : n ≤ length after = rw h.1 (omega (arith, h.0, length-append (printed b) (drop (length (printed b)) out))) in
    (within, sym (length-take-le n after within))
