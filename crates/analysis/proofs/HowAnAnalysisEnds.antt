-- DEMAND 1 of the analyses: each ends in one of the ways that document 01 lists, and in no two. Assumes nothing.
use Prim.Native.Nat.{ℕ, zero, suc, ◌≤◌, ◌<◌}
use mathlib.Core.Path.{◌≡◌, refl, ap, sym, ◌∙◌}
use mathlib.Core.Bool.{true, false}
use mathlib.Core.List.{List}
use mathlib.Core.Logic.{⊎_elim}
use native.Mathlib.Omega.{arith}
use lib.Dec.{ltb}
use lib.ListN.{length, take}
use lib.Seq.{take_all}
use borrow.Author.Tests.{le-leb, lt-leb, lt-ltb, le-ltb, ltb-true, ltb-false}
use Rattle.std.specs.Prelude.{Ok, Err}
use Rattle.model.specs.declared.elements.Element.{Element}
use Rattle.model.specs.declared.answers.Reason.TheVariants.{KOutOfRange}
use Rattle.model.specs.declared.answers.Verdict.{Verdict}
use Rattle.model.specs.Answers.{Answer, Check, number_of}
use Rattle.model.specs.Elements.{places, most_h, most_k, AllLegal, within}
use Rattle.model.specs.Demand.{H}
use Rattle.model.specs.ExactTest.{exact}
use Rattle.model.specs.Superposition.{superposition}
use Rattle.model.specs.TurnedAway.{unless, ◌then◌, check_set, first_above, check_h, check_k, analysis, exact_answer, superposition_answer}
use Rattle.model.specs.Rows.{IsRefusal}
use Rattle.model.proofs.Cases.{clash, test, lt_or_le}
use Rattle.model.proofs.NumberLaws.{least_is, least_at}
use Rattle.model.proofs.ElementLaws.{within_is}
use Rattle.model.proofs.TurnedAwayLaws.{set_fine}
use Rattle.model.proofs.RowLaws.{set_is_turned_away, refused_for}
use Rattle.theory.proofs.HyperperiodGrows.{hyperperiod_of_a_part}
use Rattle.theory.proofs.TakenSetsAreLegal.{fine_is_legal}
use Rattle.wire.specs.Reading.{check_records}
use Rattle.wire.proofs.ReadingLaws.{elements_legal}
use Rattle.wire.proofs.ReaderIsDecided.{records_fine, fine_are_records, records_turned, turned_are_refused}
use Rattle.analysis.specs.InBytes.{exact_of_bytes, superposition_of_bytes}
use Rattle.analysis.specs.Demands.{Input, in_memory, as_bytes, elements, place_in, IsInput, ExactSaysOf, SuperpositionSaysOf, IsRefused, IsTaken, BringsHAbove, refused_by, Ends, refused_first, refused_by_8, given, ExactEnds, IsK, SuperpositionEnds, refused_by_9, looked_at}

-- WHAT IS CHECKED BEFORE 8: count and values, or the records
abbrev pub check_input : Input → Check
check_input (in_memory t) = check_set t
check_input (as_bytes b) = check_records places 0 b

refused_turns : (x : Input) (number place : ℕ) → IsRefused x number place → IsRefusal (check_input x) number place
refused_turns (in_memory t) number place k = (set_is_turned_away t number place).1 k
refused_turns (as_bytes b) number place k = records_turned b number place k

turned_is_refused : (x : Input) (number place : ℕ) → IsInput x → IsRefusal (check_input x) number place → IsRefused x number place
turned_is_refused (in_memory t) number place i h = (set_is_turned_away t number place).0 h
turned_is_refused (as_bytes b) number place i h = turned_are_refused b number place i h

taken_is_fine : (x : Input) → IsTaken x → check_input x ≡ Ok tt
taken_is_fine (in_memory t) k = (set_fine t).1 k
taken_is_fine (as_bytes b) k = records_fine b _ k

fine_is_taken : (x : Input) → IsInput x → check_input x ≡ Ok tt → IsTaken x
fine_is_taken (in_memory t) i h = (set_fine t).0 h
fine_is_taken (as_bytes b) i h = fine_are_records b i h

pub input_legal : (x : Input) → check_input x ≡ Ok tt → AllLegal (elements x) × (length (elements x) ≤ places)
input_legal (in_memory t) h = fine_is_legal t h
input_legal (as_bytes b) h = elements_legal places 0 b h

-- 8: the first element that brings H above its limit
no_periods : (s : List Element) → H (take 0 s) ≡ 1
unfolding H
no_periods s = refl

first_above_lem : (s : List Element) → most_h < H s → BringsHAbove s (first_above s)
unfolding first_above
first_above_lem s h = ⊎_elim
    (λ w. record { within = w.0; above = ltb-true most_h (H (take (suc (first_above s)) s)) w.1.passes; before = below (first_above s) w.1.none })
    (λ w. absurd (nowhere (length s) refl w.1))
    (least_is (λ i. ltb most_h (H (take (suc i) s))) (length s))
  where
    below : (i : ℕ) → ((j : ℕ) → j < i → ltb most_h (H (take (suc j) s)) ≡ false) → (j : ℕ) → j ≤ i → H (take j s) ≤ most_h
    below i none zero l = omega (arith, no_periods s)
    below i none (suc j) l = ltb-false most_h (H (take (suc j) s)) (none j (omega arith))

    nowhere : (n : ℕ) → n ≡ length s → ((j : ℕ) → j < n → ltb most_h (H (take (suc j) s)) ≡ false) → ⊥
    nowhere zero e none = let z = take_all 0 s (omega arith) in omega (arith, no_periods s, ap H z)
    nowhere (suc n) e none = let z = take_all (suc n) s (omega arith) in omega (arith, ltb-false most_h (H (take (suc n) s)) (none n (omega arith)), ap H z)

module _ (s : List Element) (i : ℕ) (k : BringsHAbove s i) where
  first_is : first_above s ≡ i
  unfolding first_above
  first_is =
      least_at (λ j. ltb most_h (H (take (suc j) s))) (length s) i (omega (arith, k.within))
      (record { passes = lt-ltb most_h _ k.above; none = λ j l. le-ltb most_h _ (k.before (suc j) (omega arith)) })

  brings_above : AllLegal s → most_h < H s
  brings_above legal = omega (arith, k.above, hyperperiod_of_a_part s legal (suc i))

-- WITH A TEST: its verdict
module _ (x : Input) (verdict : List Element → Verdict) where
  abbrev s : List Element
  s = elements x

  abbrev the_answer : Answer
  the_answer = analysis (check_input x) (place_in x) verdict s

  abbrev Way : Answer → Type 0
  Way a = Ends x (verdict s) a

  some_way : IsInput x → Way the_answer
  unfolding analysis check_h unless
  some_way i = go (check_input x) refl
    where
      go : (c : Check) → check_input x ≡ c → Way (analysis c (place_in x) verdict s)
      go (Err r) e = refused_first r.reason r.place (turned_is_refused x (number_of r.reason) r.place i (record { reason = r.reason; numbered = refl; by = e }))
      go (Ok tt) e =
          let taken = fine_is_taken x i e in ⊎_elim
          (λ (h : most_h < H s). rw (lt-leb (H s) most_h h) (refused_by_8 (first_above s) taken (first_above_lem s h)))
          (λ (h : H s ≤ most_h). rw (le-leb (H s) most_h h) (given taken h))
          (lt_or_le most_h (H s))

  -- each way is the answer's
  no_other_way : (a : Answer) → Way a → a ≡ the_answer
  unfolding analysis check_h unless
  no_other_way a (refused_first reason place k) = rw (refused_for reason (refused_turns x (number_of reason) place k)) refl
  no_other_way a (refused_by_8 i taken k) =
      let fine = taken_is_fine x taken in
      rw (fine, lt-leb (H s) most_h (brings_above s i k (input_legal x fine).0), first_is s i k) refl
  no_other_way a (given taken small) = rw (taken_is_fine x taken, le-leb (H s) most_h small) refl

-- THE EXACT TEST
pub exact_on : (x : Input) (a : Answer) → ExactSaysOf x a → a ≡ analysis (check_input x) (place_in x) exact (elements x)
unfolding exact_answer exact_of_bytes
exact_on (in_memory t) a h = h
exact_on (as_bytes b) a h = h

-- THEOREM: it ends with a refusal of the input; with 8, at the first element that brings H above its limit; or with its verdict
pub exact_ends : (x : Input) (a : Answer) → ExactSaysOf x a → IsInput x → ExactEnds x a
exact_ends x a h i = rw (exact_on x a h) (some_way x exact i)

-- THEOREM: in one of these ways only, so each exactly when listed
pub exact_ends_one_way : (x : Input) (a b : Answer) → ExactEnds x a → ExactEnds x b → a ≡ b
exact_ends_one_way x a b p q = no_other_way x exact a p ∙ sym (no_other_way x exact b q)

-- SUPERPOSITION
pub superposition_on :
    (x : Input) (k : ℕ) (a : Answer) → SuperpositionSaysOf x k a → a ≡ analysis (check_k k then check_input x) (place_in x) (superposition k) (elements x)
unfolding superposition_answer superposition_of_bytes
superposition_on (in_memory t) k a h = h
superposition_on (as_bytes b) k a h = h

module _ (x : Input) (k : ℕ) where
  abbrev after_k : Answer
  after_k = the_answer x (superposition k)

  abbrev with_k : Check → Answer
  with_k c = analysis (c then check_input x) (place_in x) (superposition k) (elements x)

  k_within : IsK k → within 1 most_k k ≡ true
  unfolding within
  k_within is = rw (le-leb 1 k is.0, le-leb k most_k is.1) refl

  k_looked_at : IsK k → with_k (check_k k) ≡ after_k
  unfolding check_k unless
  k_looked_at is = rw (k_within is) refl

  k_refused : (IsK k → ⊥) → refused_by KOutOfRange 0 ≡ with_k (check_k k)
  unfolding check_k unless analysis
  k_refused n = ⊎_elim (λ h. absurd (n (within_is 1 most_k k h))) (λ h. rw h refl) (test (within 1 most_k k))

  -- THEOREM: 9 first; then as the exact test
  pub superposition_ends : (a : Answer) → SuperpositionSaysOf x k a → IsInput x → SuperpositionEnds x k a
  superposition_ends a h i = ⊎_elim
      (λ w. let is = within_is 1 most_k k w in
      rw (superposition_on x k a h ∙ k_looked_at is) (looked_at after_k is (some_way x (superposition k) i)))
      (λ w. let no : IsK k → ⊥ = λ is. clash (k_within is) w in rw (superposition_on x k a h ∙ sym (k_refused no)) (refused_by_9 no))
      (test (within 1 most_k k))

  -- THEOREM: in one of these ways only
  pub superposition_ends_one_way : (a b : Answer) → SuperpositionEnds x k a → SuperpositionEnds x k b → a ≡ b
  superposition_ends_one_way a b p q = only a p ∙ sym (only b q)
    where
      only : (c : Answer) → SuperpositionEnds x k c → c ≡ with_k (check_k k)
      only c (refused_by_9 n) = k_refused n
      only c (looked_at d is w) = no_other_way x (superposition k) c w ∙ sym (k_looked_at is)
