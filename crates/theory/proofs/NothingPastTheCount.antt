-- "Nothing past the count affects any answer": sets that are the same have the same answers. Assumes nothing.
use Prim.Native.Nat.{ℕ}
use mathlib.Core.Path.{◌≡◌}
use Rattle.model.specs.declared.elements.TaskSet.{TaskSet}
use Rattle.model.specs.Elements.{Same}
use Rattle.model.specs.TurnedAway.{check_set, exact_answer, superposition_answer}

module _ (t u : TaskSet) (same : Same t u) where
  pub same_exact_answer : exact_answer t ≡ exact_answer u
  unfolding exact_answer check_set
  same_exact_answer = rw (same.elements, same.counts)

  pub same_superposition_answer : (k : ℕ) → superposition_answer k t ≡ superposition_answer k u
  unfolding superposition_answer check_set
  same_superposition_answer k = rw (same.elements, same.counts)
