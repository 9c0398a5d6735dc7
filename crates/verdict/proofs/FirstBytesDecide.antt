-- "of which the first 4,096 bytes decide (the 129th element ends within them)": whatever follows them, the same is printed. Assumes nothing.
use Prim.Native.Nat.{ℕ, zero, suc, ◌+◌, ◌*◌, ◌-◌, ◌≤◌, ◌<◌, min}
use mathlib.Core.Path.{◌≡◌, refl, sym, ap, ◌∙◌}
use mathlib.Core.Bool.{Bool, true, false, cond}
use mathlib.Core.List.{List}
use mathlib.Core.Logic.{⊎_elim}
use native.Mathlib.Omega.{arith}
use lib.Dec.{eqb, leb}
use lib.ListN.{length, take, drop, get_or, length-take}
use lib.Seq.{get_or-take}
use Rattle.std.proofs.lemmas.List.{drop-take}
use borrow.Author.Tests.{eq-eqb, ne_eqb, le-leb, lt-leb}
use Rattle.model.specs.declared.elements.Period.{Period}
use Rattle.model.specs.declared.elements.Period.TheVariants.{Once, Every}
use Rattle.model.specs.declared.elements.Element.{Element}
use Rattle.model.specs.declared.answers.Reason.TheVariants.{UnknownKind, RecordCut, TooManyElements, HyperperiodAboveLimit}
use Rattle.model.specs.declared.answers.Verdict.{Verdict}
use Rattle.model.specs.Answers.{Check}
use Rattle.model.specs.Elements.{places, most_h}
use Rattle.model.specs.Demand.{H}
use Rattle.model.specs.ExactTest.{exact}
use Rattle.model.specs.Superposition.{superposition}
use Rattle.model.specs.TurnedAway.{unless, ◌then◌, check_element, first_above, check_h, check_k, analysis}
use Rattle.model.proofs.Cases.{test, lt_or_le}
use Rattle.wire.specs.Format.{number_at, kind_of, is_kind, body_size, record_size, element_from, element_of}
use Rattle.wire.specs.Reading.{check_record, no_bytes, check_records, elements_in}
use Rattle.analysis.specs.InBytes.{kind_byte, exact_of_bytes, superposition_of_bytes}
use Rattle.analysis.proofs.ByteLaws.{first_within}
use Rattle.verdict.specs.Printed.{printed, deciding, printed_for}

-- A RECORD has no more than 17 bytes
size_most : (s : List ℕ) → record_size s ≤ 17
unfolding record_size body_size
size_most s = go (eqb (kind_of s) 1) (eqb (kind_of s) 2)
  where
    go : (one two : Bool) → suc (cond one 16 (cond two 12 0)) ≤ 17
    go true two = omega arith
    go false true = omega arith
    go false false = omega arith

leb_min : (a n l : ℕ) → a ≤ n → leb a (min n l) ≡ leb a l
leb_min a n l h =
    ⊎_elim
    (λ k. lt-leb a (min n l) (omega arith) ∙ sym (lt-leb a l k))
    (λ k. le-leb a (min n l) (omega arith) ∙ sym (le-leb a l k))
    (lt_or_le l a)

none_min : (n l : ℕ) → 1 ≤ n → eqb (min n l) 0 ≡ eqb l 0
none_min n l h =
    ⊎_elim
    (λ k. ne_eqb (min n l) 0 (λ z. omega arith) ∙ sym (ne_eqb l 0 (λ z. omega arith)))
    (λ k. eq-eqb (min n l) 0 (omega arith) ∙ sym (eq-eqb l 0 (omega arith)))
    (lt_or_le 0 l)

-- the first n bytes, where n is 17 or more, start with the same record
module _ (n : ℕ) (s : List ℕ) (h : 17 ≤ n) where
  same_byte : (i : ℕ) → i < 17 → get_or (take n s) i 0 ≡ get_or s i 0
  same_byte i l = get_or-take n s i 0 (omega arith)

  same_number : (i : ℕ) → i + 4 ≤ 17 → number_at (take n s) i ≡ number_at s i
  same_number i l =
      rw (same_byte i (omega arith), same_byte (i + 1) (omega arith), same_byte (i + 2) (omega arith), same_byte (i + 3) (omega arith))

  same_parts : {q r : Period} → q ≡ r → (i : ℕ) → i + 12 ≤ 17 → element_from (take n s) q i ≡ element_from s r i
  same_parts e i l = λ j. record {
    period = e j;
    offset = same_number i (omega arith) j;
    deadline = same_number (i + 4) (omega arith) j;
    cost = same_number (i + 8) (omega arith) j;
  }

  same_kind : kind_of (take n s) ≡ kind_of s
  same_kind = same_byte 0 (omega arith)

  same_size : record_size (take n s) ≡ record_size s
  unfolding record_size
  same_size = ap (λ kind. suc (body_size kind)) same_kind

  same_element : element_of (take n s) ≡ element_of s
  unfolding element_of
  same_element = λ j.
      cond (eqb (same_kind j) 1)
      (same_parts (ap Every (same_number 1 (omega arith))) 5 (omega arith) j)
      (same_parts {q = Once} {r = Once} refl 1 (omega arith) j)

  same_none : no_bytes (take n s) ≡ no_bytes s
  unfolding no_bytes
  same_none = rw (length-take n s) (none_min n (length s) (omega arith))

  same_whole : leb (record_size (take n s)) (length (take n s)) ≡ leb (record_size s) (length s)
  same_whole = rw (same_size, length-take n s) (leb_min (record_size s) n (length s) (omega (arith, size_most s)))

  same_check : (room place : ℕ) → check_record room place (take n s) ≡ check_record room place s
  unfolding check_record
  same_check room place = λ j.
      unless (is_kind (same_kind j)) UnknownKind place
      then unless (same_whole j) RecordCut place
      then unless (leb 1 room) TooManyElements place
      then check_element place (same_element j)

-- THE RECORDS
-- what follows a record
same_rest : (n : ℕ) (s : List ℕ) → 17 ≤ n → drop (record_size (take n s)) (take n s) ≡ take (n - record_size s) (drop (record_size s) s)
same_rest n s h =
    let m = record_size s in
    let whole : m + (n - m) ≡ n = omega (arith, size_most s) in
    rw (same_size n s h) (rw whole at (drop-take m (n - m) s))

same_checks : (room place n : ℕ) (s : List ℕ) → 17 * suc room ≤ n → check_records room place (take n s) ≡ check_records room place s
unfolding check_records
same_checks zero place n s h = rw (same_none n s (omega arith), same_check n s (omega arith) 0 place)
same_checks (suc room) place n s h =
    let m = record_size s in
    let later = same_checks room (place + m) (n - m) (drop m s) (omega (arith, size_most s)) in
    rw (same_none n s (omega arith), same_check n s (omega arith) (suc room) place, same_rest n s (omega arith), same_size n s (omega arith), later)

same_elements : (room n : ℕ) (s : List ℕ) → 17 * room ≤ n → elements_in room (take n s) ≡ elements_in room s
unfolding elements_in
same_elements zero n s h = refl
same_elements (suc room) n s h =
    let m = record_size s in
    let later = same_elements room (n - m) (drop m s) (omega (arith, size_most s)) in
    rw (same_none n s (omega arith), same_element n s (omega arith), same_rest n s (omega arith), later)

same_kind_byte : (i n : ℕ) (s : List ℕ) → 17 * i ≤ n → kind_byte (take n s) i ≡ kind_byte s i
unfolding kind_byte
same_kind_byte zero n s h = refl
same_kind_byte (suc i) n s h =
    let m = record_size s in
    let later = same_kind_byte i (n - m) (drop m s) (omega (arith, size_most s)) in
    rw (same_rest n s (omega arith), same_size n s (omega arith), later)

-- THE ANSWERS
few_elements : (room : ℕ) (s : List ℕ) → length (elements_in room s) ≤ room
unfolding elements_in
few_elements zero s = omega arith
few_elements (suc room) s =
    ⊎_elim (λ b. rw b (omega arith)) (λ b. rw b (omega (arith, few_elements room (drop (record_size s) s)))) (test (no_bytes s))

module _ (n : ℕ) (b : List ℕ) (h : 17 * suc places ≤ n) where
  same_h : check_h (kind_byte (take n b)) (elements_in places b) ≡ check_h (kind_byte b) (elements_in places b)
  unfolding check_h
  same_h =
      let s = elements_in places b in
      ap (unless (leb (H s) most_h) HyperperiodAboveLimit) (same_kind_byte (first_above s) n b (omega (arith, first_within s, few_elements places b)))

  same_analysis :
      {c d : Check} (verdict : List Element → Verdict) →
      c ≡ d →
      analysis c (kind_byte (take n b)) verdict (elements_in places (take n b)) ≡ analysis d (kind_byte b) verdict (elements_in places b)
  unfolding analysis
  same_analysis verdict e = rw (e, same_elements places n b (omega arith), same_h)

  same_records : check_records places 0 (take n b) ≡ check_records places 0 b
  same_records = same_checks places 0 n b h

  same_exact : exact_of_bytes (take n b) ≡ exact_of_bytes b
  unfolding exact_of_bytes
  same_exact = same_analysis exact same_records

  same_superposition : (k : ℕ) → superposition_of_bytes k (take n b) ≡ superposition_of_bytes k b
  unfolding superposition_of_bytes
  same_superposition k = same_analysis (superposition k) (ap (λ x. check_k k then x) same_records)

  -- THEOREM: as many bytes as 129 records can have decide
  pub first_records_decide : printed (take n b) ≡ printed b
  unfolding printed
  first_records_decide = simp (same_exact, same_superposition)

-- THEOREM: the first 4,096 bytes decide
pub first_bytes_decide : (input : List ℕ) → printed_for input ≡ printed input
unfolding printed_for
first_bytes_decide input = first_records_decide deciding input (omega arith)
