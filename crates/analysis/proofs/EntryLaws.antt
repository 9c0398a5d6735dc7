-- The entry points: what each answers for a set that is refused before 8, and for one that is taken. Assumes nothing.
use Prim.Native.Nat.{ℕ}
use mathlib.Core.Path.{◌≡◌, sym, ap, ◌∙◌}
use mathlib.Core.List.{List}
use Rattle.std.specs.Prelude.{Ok, Err}
use Rattle.model.specs.declared.elements.Element.{Element}
use Rattle.model.specs.declared.elements.TaskSet.{TaskSet}
use Rattle.model.specs.declared.answers.Refusal.{Refusal}
use Rattle.model.specs.declared.answers.Verdict.{Verdict}
use Rattle.model.specs.Answers.{Answer, Check}
use Rattle.model.specs.Elements.{places, counted}
use Rattle.model.specs.Superposition.{superposition}
use Rattle.model.specs.TurnedAway.{◌then◌, check_set, check_k, superposition_answer}
use Rattle.wire.specs.Reading.{check_records, elements_in, read_set}
use Rattle.model.proofs.ElementLaws.{legal_set, set_counted}
use Rattle.model.proofs.TurnedAwayLaws.{set_fine}
use Rattle.theory.proofs.AnswerLaws.{refused_before, fine_before}
use Rattle.wire.proofs.ReadingLaws.{elements_legal, read_elements}
use Rattle.analysis.specs.InBytes.{kind_byte, superposition_of_bytes}
use Rattle.analysis.specs.LegalSets.{answer_of, of_set, of_bytes, in_bytes}
use Rattle.analysis.proofs.ByteLaws.{answer_in_bytes}

-- A TEST OF BYTES, whatever its verdict
module _ (verdict : List Element → Verdict) where
  -- a set in memory whose count and values are fine
  pub set_taken : (t : TaskSet) → check_set t ≡ Ok tt → answer_of verdict (counted t) ≡ of_set verdict t
  set_taken t h = fine_before (check_set t) (λ place. place) verdict (counted t) h

  module _ (b : List ℕ) where
    pub bytes_taken : check_records places 0 b ≡ Ok tt → in_bytes b (answer_of verdict (elements_in places b)) ≡ of_bytes verdict b
    bytes_taken h = answer_in_bytes verdict (elements_in places b) b ∙ fine_before (check_records places 0 b) (kind_byte b) verdict (elements_in places b) h

    pub bytes_refused : {r : Refusal} → Err r ≡ check_records places 0 b → Err r ≡ of_bytes verdict b
    bytes_refused h = refused_before (check_records places 0 b) (kind_byte b) verdict (elements_in places b) (sym h)

    -- the set that is read where no record is refused
    module _ (t : TaskSet) (fine : check_records places 0 b ≡ Ok tt) (read : t ≡ (read_set b).set) where
      elements_read : counted t ≡ elements_in places b
      elements_read = ap counted (read ∙ read_elements b fine) ∙ set_counted (elements_in places b)

      set_is_fine : check_set t ≡ Ok tt
      set_is_fine =
          let legal = elements_legal places 0 b fine in
          let set = read ∙ read_elements b fine in
          (set_fine t).1 ((legal_set t).1 (rw (ap (λ u. u.count) set) legal.1, rw elements_read legal.0))

      pub answer_read : of_set verdict t ≡ answer_of verdict (elements_in places b)
      answer_read = sym (set_taken t set_is_fine) ∙ ap (answer_of verdict) elements_read

-- k LOOKED AT FIRST
pub k_passed : (k : ℕ) (rest : Check) → check_k k ≡ Ok tt → rest ≡ (check_k k then rest)
k_passed k rest h = rw h

module _ (k : ℕ) where
  pub k_refused : (b : List ℕ) {r : Refusal} → Err r ≡ check_k k → Err r ≡ superposition_of_bytes k b
  unfolding superposition_of_bytes
  k_refused b h = refused_before (check_k k then check_records places 0 b) (kind_byte b) (superposition k) (elements_in places b) (rw (sym h))

  module _ (passed : Ok tt ≡ check_k k) where
    pub in_memory_after_k : (t : TaskSet) (a : Answer) → a ≡ superposition_answer k t → a ≡ of_set (superposition k) t
    unfolding superposition_answer
    in_memory_after_k t a h = h ∙ rw (sym passed)

    pub in_bytes_after_k : (b : List ℕ) → of_bytes (superposition k) b ≡ superposition_of_bytes k b
    unfolding superposition_of_bytes
    in_bytes_after_k b = rw (sym passed)
