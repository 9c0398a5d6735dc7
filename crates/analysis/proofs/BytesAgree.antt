-- Bytes get the answer of the set whose records they are, but for the place of 8, which is the kind byte of that record. Assumes nothing.
use Prim.Native.Nat.{ℕ, zero, suc, ◌≤◌}
use mathlib.Core.Path.{◌≡◌, refl, sym, ap, ◌∙◌}
use mathlib.Core.List.{List, [], ◌∷◌}
use native.Mathlib.Omega.{arith}
use lib.ListN.{length, take, length-append}
use Rattle.std.specs.Prelude.{Ok}
use Rattle.model.specs.declared.elements.Element.{Element}
use Rattle.model.specs.declared.answers.Verdict.{Verdict}
use Rattle.model.specs.Answers.{Answer}
use Rattle.model.specs.Elements.{places, counted, set_of}
use Rattle.model.specs.ExactTest.{exact}
use Rattle.model.specs.Superposition.{superposition}
use Rattle.model.specs.TurnedAway.{check_set, check_k, analysis, exact_answer, superposition_answer}
use Rattle.wire.specs.Format.{record_of, records_of}
use Rattle.wire.specs.Reading.{check_records, elements_in}
use Rattle.wire.specs.Outcomes.{AreRecords}
use Rattle.model.proofs.ElementLaws.{legal_set, set_counted}
use Rattle.model.proofs.TurnedAwayLaws.{set_fine}
use Rattle.wire.proofs.RecordLaws.{written_size, written_rest}
use Rattle.wire.proofs.ReaderIsDecided.{records_fine, elements_are}
use Rattle.exact_test.specs.FunctionContracts.{ExactSays}
use Rattle.superposition_test.specs.FunctionContracts.{SuperpositionSays}
use Rattle.analysis.specs.InBytes.{kind_byte, exact_of_bytes, superposition_of_bytes}
use Rattle.analysis.specs.FunctionContracts.{ExactOfBytesSays, SuperpositionOfBytesSays}
use Rattle.analysis.specs.LegalSets.{answer_of, of_set, of_bytes, in_bytes}
use Rattle.analysis.proofs.EntryLaws.{set_taken, bytes_taken, k_passed}

-- THEOREM: the kind byte of a record stands after the records before it
pub kind_byte_stands : (s : List Element) (i : ℕ) → i ≤ length s → kind_byte (records_of s) i ≡ length (records_of (take i s))
unfolding kind_byte records_of
kind_byte_stands s zero h = refl
kind_byte_stands [] (suc i) h = absurd (omega arith)
kind_byte_stands (e ∷ s) (suc i) h =
    rw (written_rest (records_of s) e, written_size (records_of s) e)
    (omega (arith, kind_byte_stands s i (omega arith), length-append (record_of e) (records_of (take i s))))

module _ (b : List ℕ) (s : List Element) (records : AreRecords b s) where
  set_is_fine : check_set (set_of s) ≡ Ok tt
  set_is_fine = (set_fine (set_of s)).1 ((legal_set (set_of s)).1 (records.few, rw (set_counted s) records.legal))

  same_elements : elements_in places b ≡ counted (set_of s)
  same_elements = elements_are b s records ∙ sym (set_counted s)

  -- with a test, whatever its verdict
  agrees :
      (verdict : List Element → Verdict) →
      of_bytes verdict b ≡ in_bytes b (of_set verdict (set_of s))
  agrees verdict =
      sym (bytes_taken verdict b (records_fine b s records))
      ∙ ap (λ es. in_bytes b (answer_of verdict es)) same_elements
      ∙ ap (in_bytes b) (set_taken verdict (set_of s) set_is_fine)

  -- THEOREM: the exact test
  pub exact_agrees : (a c : Answer) → ExactOfBytesSays b a → ExactSays (set_of s) c → a ≡ in_bytes b c
  unfolding exact_of_bytes exact_answer
  exact_agrees a c p q = p ∙ agrees exact ∙ ap (in_bytes b) (sym q)

  -- THEOREM: superposition, with a k within its limits
  pub superposition_agrees : (k : ℕ) → check_k k ≡ Ok tt → (a c : Answer) → SuperpositionOfBytesSays b k a → SuperpositionSays (set_of s) k c → a ≡ in_bytes b c
  unfolding superposition_of_bytes superposition_answer
  superposition_agrees k f a c p q =
      p
      ∙ ap (λ before. analysis before (kind_byte b) (superposition k) (elements_in places b)) (sym (k_passed k (check_records places 0 b) f))
      ∙ agrees (superposition k)
      ∙ ap (λ before. in_bytes b (analysis before (λ place. place) (superposition k) (counted (set_of s)))) (k_passed k (check_set (set_of s)) f)
      ∙ ap (in_bytes b) (sym q)
