-- Laws of specs/Calls: fewer than six places, and what reading and then writing come to. Assumes nothing.
use Prim.Native.Nat.{ℕ, ◌≤◌, ◌<◌}
use mathlib.Core.Path.{◌≡◌, refl, ◌∙◌}
use mathlib.Core.List.{List}
use lib.ListN.{length}
use borrow.Author.Tests.{le-leb, lt-leb}
use Rattle.std.specs.Prelude.{Ok, Err}
use Rattle.std.specs.Result.{result_and}
use Rattle.model.specs.declared.answers.Refusal.{Refusal}
use Rattle.model.specs.declared.answers.Numbers.{Numbers}
use Rattle.model.specs.Answers.{Check}
use Rattle.wire.specs.Reading.{read_set}
use Rattle.model.specs.Buffers.{over}
use Rattle.writer.specs.Writing.{Written, write_set, buffer_after}
use Rattle.wire.proofs.ReadingLaws.{refused_is_empty}
use Rattle.writer.proofs.WritingLaws.{empty_changes_nothing}
use Rattle.capi.specs.Calls.{six, returned, answer_after, CallAnswers, rewrite, rewritten, out_after}

-- THE ANSWER
module _ (n : Numbers) (answer : List ℕ) where
  pub too_few : length answer < 6 → CallAnswers n answer 10 answer
  unfolding returned answer_after
  too_few h = let few = lt-leb 6 (length answer) h in (rw few, rw few)

  pub answered :
      {r : ℕ} {after : List ℕ} →
      6 ≤ length answer →
      (r ≡ n.refusal) × (after ≡ over (six n) answer) →
      CallAnswers n answer r after
  unfolding returned answer_after
  answered h p = let enough = le-leb 6 (length answer) h in (p.0 ∙ rw enough, p.1 ∙ rw enough)

-- REWRITING
module _ (b out : List ℕ) where
  pub read_refused : {r : Refusal} → (read_set b).check ≡ Err r → (Err r ≡ rewrite b (length out)) × (out ≡ rewritten b out)
  unfolding rewrite rewritten
  read_refused h = (rw h, rw h)

  pub read_fine :
      {w : Written} {after : List ℕ} →
      (read_set b).check ≡ Ok tt →
      (w ≡ write_set (read_set b).set (length out)) × (after ≡ buffer_after (read_set b).set out) →
      (w ≡ rewrite b (length out)) × (after ≡ rewritten b out)
  unfolding rewrite rewritten
  read_fine h p = (p.0 ∙ rw h, p.1 ∙ rw h)

  -- the set that was read is written whatever the reader found: that of a refused read is empty
  pub written_all_the_same :
      {w : Written} {after : List ℕ} →
      w ≡ write_set (read_set b).set (length out) →
      after ≡ buffer_after (read_set b).set out →
      (result_and (read_set b).check w ≡ rewrite b (length out)) × (after ≡ rewritten b out)
  unfolding rewrite rewritten
  written_all_the_same {w} {after} p q = (rw p, go (read_set b).check refl)
    where
      go : (c : Check) → (read_set b).check ≡ c → after ≡ rewritten b out
      go (Ok u) h = q ∙ rw h
      go (Err r) h = q ∙ rw (refused_is_empty b h) (empty_changes_nothing out) ∙ (read_refused h).1

  module _ (answer : List ℕ) where
    pub out_kept : length answer < 6 → out ≡ out_after b out answer
    unfolding out_after
    out_kept h = rw (lt-leb 6 (length answer) h)

    pub out_rewritten : {after : List ℕ} → 6 ≤ length answer → after ≡ rewritten b out → after ≡ out_after b out answer
    unfolding out_after
    out_rewritten h p = p ∙ rw (le-leb 6 (length answer) h)
