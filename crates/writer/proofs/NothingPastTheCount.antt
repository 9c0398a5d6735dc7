-- "Nothing past the count affects any [..] written byte": sets that are the same are answered the same by `write_set`, and leave the buffer the same. Assumes nothing.
use Prim.Native.Nat.{ℕ}
use mathlib.Core.Path.{◌≡◌, sym, ◌∙◌}
use mathlib.Core.List.{List}
use lib.ListN.{length}
use Rattle.model.specs.declared.elements.TaskSet.{TaskSet}
use Rattle.model.specs.Elements.{Same}
use Rattle.model.specs.TurnedAway.{check_set}
use Rattle.writer.specs.Writing.{Written, check_write, write_set, buffer_after}
use Rattle.writer.specs.FunctionContracts.{WriteSetSays}

module _ (t u : TaskSet) (same : Same t u) (out : List ℕ) where
  same_answer : write_set t (length out) ≡ write_set u (length out)
  unfolding write_set check_write check_set
  same_answer = rw (same.elements, same.counts)

  same_buffer : buffer_after t out ≡ buffer_after u out
  unfolding buffer_after check_write check_set
  same_buffer = rw (same.elements, same.counts)

  -- THEOREM
  pub same_sets_are_written_the_same : (a b : Written) (x y : List ℕ) → WriteSetSays t out a x → WriteSetSays u out b y → (a ≡ b) × (x ≡ y)
  same_sets_are_written_the_same a b x y p q = (p.0 ∙ same_answer ∙ sym q.0, p.1 ∙ same_buffer ∙ sym q.1)
