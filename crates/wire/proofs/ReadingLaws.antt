-- Laws of specs/Reading: what a record's answer tells, and what is read from there on. Assumes nothing.
use Prim.Native.Nat.{ℕ, zero, suc, ◌+◌, ◌-◌, ◌≤◌}
use mathlib.Core.Path.{◌≡◌, refl, sym, ap, subst, ◌∙◌}
use mathlib.Core.Bool.{Bool, true, false, cond}
use mathlib.Core.List.{List, [], ◌∷◌}
use mathlib.Core.Logic.{◌↔◌, ⊎_elim}
use native.Mathlib.Omega.{arith}
use denote.Ref.{Bor}
use lib.Dec.{leb}
use lib.ListN.{length, take, drop, length-drop}
use lib.Seq.{take_all}
use borrow.Author.Tests.{le-leb, leb-true, eqb-true, ne_eqb}
use Rattle.model.specs.declared.elements.Element.{Element}
use Rattle.model.specs.declared.elements.TaskSet.{TaskSet}
use Rattle.model.specs.declared.answers.Reason.TheVariants.{UnknownKind, RecordCut, TooManyElements}
use Rattle.model.specs.declared.answers.Refusal.{Refusal}
use Rattle.model.specs.Answers.{Check}
use Rattle.model.specs.Over.{all_over}
use Rattle.model.specs.Elements.{places, is_legal, AllLegal, set_of, empty_set}
use Rattle.model.specs.TurnedAway.{unless}
use Rattle.model.proofs.Cases.{test, clash}
use Rattle.model.proofs.TurnedAwayLaws.{then_fine, unless_fine, element_fine}
use Rattle.std.specs.Prelude.{Result, Some, None, Ok, Err}
use Rattle.wire.specs.Format.{byte_of, kind_for, body_size, kind_of, is_kind, record_size, element_of}
use Rattle.wire.specs.Reading.{Record, check_record, no_bytes, answer_of, check_of, read_next, read_record, bytes_taken, rest_of, IsRest, check_records, elements_in, handed_back, read_set}
use Rattle.wire.proofs.FormatLaws.{some_size, kind_size}

-- NO BYTES, and some
pub no_bytes_lem : (s : List ℕ) → no_bytes s ≡ true → s ≡ []
unfolding no_bytes
no_bytes_lem [] h = refl
no_bytes_lem (b ∷ s) h = absurd (omega (arith, eqb-true (length (b ∷ s)) 0 h))

pub some_bytes : (s : List ℕ) → (no_bytes s ≡ false) ↔ (1 ≤ length s)
unfolding no_bytes
some_bytes [] = (λ h. absurd (clash refl h), λ h. absurd (omega arith))
some_bytes (b ∷ s) = (λ h. omega arith, λ h. ne_eqb (length (b ∷ s)) 0 (λ z. omega arith))

-- A RECORD THAT IS AN ELEMENT: known, whole and legal
pub record IsElement (s : List ℕ) : Type 0 where
  pub kind : is_kind (kind_of s) ≡ true
  pub whole : record_size s ≤ length s
  pub legal : is_legal (element_of s) ≡ true

element_bytes : (s : List ℕ) → IsElement s → no_bytes s ≡ false
element_bytes s h = (some_bytes s).1 (omega (arith, some_size s, h.whole))

module _ (room place : ℕ) (s : List ℕ) where
  pub record_fine : (check_record room place s ≡ Ok tt) ↔ (IsElement s × (1 ≤ room))
  unfolding check_record
  record_fine =
      let k = unless_fine (is_kind (kind_of s)) UnknownKind place in
      let w = unless_fine (leb (record_size s) (length s)) RecordCut place in
      let r = unless_fine (leb 1 room) TooManyElements place in
      let l = element_fine place (element_of s) in (
        λ h. let h₁ = (then_fine (unless (is_kind (kind_of s)) UnknownKind place) _).0 h in
            let h₂ = (then_fine (unless (leb (record_size s) (length s)) RecordCut place) _).0 h₁.1 in
            let h₃ = (then_fine (unless (leb 1 room) TooManyElements place) _).0 h₂.1 in
            (record { kind = k.0 h₁.0; whole = leb-true _ _ (w.0 h₂.0); legal = l.0 h₃.1 }, leb-true _ _ (r.0 h₃.0)),
        λ h. rw (k.1 h.0.kind, w.1 (le-leb _ _ h.0.whole), r.1 (le-leb _ _ h.1), l.1 h.0.legal),
      )

  -- what an answer tells of the bytes
  abbrev pub Tells : Record → Type 0
  Tells (Ok (Some e)) = IsElement s × (1 ≤ room) × (element_of s ≡ e)
  Tells (Err r) = (no_bytes s ≡ false) × (check_record room place s ≡ Err r)
  Tells (Ok None) = no_bytes s ≡ true

  pub answer_tells : {r : Record} → read_next room place s ≡ r → Tells r
  unfolding read_next
  answer_tells h = subst Tells h (go (no_bytes s) (check_record room place s) refl refl)
    where
      go : (b : Bool) (c : Check) → no_bytes s ≡ b → check_record room place s ≡ c → Tells (cond b (Ok None) (answer_of c (element_of s)))
      go true c p q = p
      go false (Ok tt) p q = let f = record_fine.0 q in (f.0, f.1, refl)
      go false (Err r) p q = (p, q)

  pub element_answers : IsElement s → 1 ≤ room → read_next room place s ≡ Ok (Some (element_of s))
  unfolding read_next
  element_answers h r = rw (element_bytes s h, record_fine.1 (h, r))

-- an answer that is no refusal
pub no_refusal : {A : Type 0} (r : Result A Refusal) → ((q : Refusal) → r ≡ Err q → ⊥) → Ok tt ≡ check_of r
no_refusal (Ok x) o = refl
no_refusal (Err q) o = absurd (o q refl)

-- THE REST
module _ (s : List ℕ) where
  -- an element is one at any place, and wherever there is room
  pub rest_element : IsElement s → rest_of s ≡ drop (record_size s) s
  unfolding read_record bytes_taken rest_of
  rest_element h = rw (element_answers places 0 s h (omega arith))

  element_told : {e : Element} → read_record s ≡ Ok (Some e) → IsElement s
  unfolding read_record
  element_told h = (answer_tells places 0 s h).0

  pub taken_is : {e : Element} → Ok (Some e) ≡ read_record s → suc (body_size (byte_of (kind_for e.period))) ≡ bytes_taken (read_record s) s
  unfolding read_record bytes_taken
  taken_is h =
      let k = answer_tells places 0 s (sym h) in
      ap (λ x. suc (body_size (byte_of (kind_for x.period)))) (sym k.2) ∙ kind_size s k.0.kind ∙ ap (λ r. bytes_taken r s) h

  pub taken_within : bytes_taken (read_record s) s ≤ length s
  unfolding bytes_taken
  taken_within = go (read_record s) refl
    where
      go : (r : Record) → read_record s ≡ r → bytes_taken r s ≤ length s
      go (Ok (Some e)) p = (element_told p).whole
      go (Ok None) p = omega arith
      go (Err r) p = omega arith

-- the part from where the record ends, as it is cut from the slice
pub part_is_rest :
    (s x : Bor (List ℕ)) {n : ℕ} →
    n ≡ bytes_taken (read_record s.now) s.now →
    x.now ≡ take (length s.now - n) (drop n s.now) →
    x.ref_ptr ≡ (s.ref_ptr.0, n + s.ref_ptr.1) →
    IsRest s x
unfolding rest_of
part_is_rest s x {n} g b p = record {
  bytes = b ∙ take_all (length s.now - n) (drop n s.now) (simp length-drop (omega arith)) ∙ ap (λ m. drop m s.now) g;
  part = p ∙ (λ i. (s.ref_ptr.0, g i + s.ref_ptr.1));
}

-- THE RECORDS, one by one
module _ (place : ℕ) (s : List ℕ) where
  pub records_end : (room : ℕ) → no_bytes s ≡ true → check_records room place s ≡ Ok tt
  unfolding check_records
  records_end zero h = rw h
  records_end (suc room) h = rw h

  pub records_stop : (room : ℕ) {r : Refusal} → no_bytes s ≡ false → check_record room place s ≡ Err r → check_records room place s ≡ Err r
  unfolding check_records
  records_stop zero h g = rw (h, g)
  records_stop (suc room) h g = rw (h, g)

  pub records_next : (room : ℕ) → IsElement s → check_records (suc room) place s ≡ check_records room (place + record_size s) (drop (record_size s) s)
  unfolding check_records
  records_next room h = rw (element_bytes s h, (record_fine (suc room) place s).1 (h, omega arith))

pub elements_end : (room : ℕ) (s : List ℕ) → no_bytes s ≡ true → elements_in room s ≡ []
unfolding elements_in
elements_end zero s h = refl
elements_end (suc room) s h = rw h

pub elements_next : (room : ℕ) (s : List ℕ) → IsElement s → elements_in (suc room) s ≡ element_of s ∷ elements_in room (drop (record_size s) s)
unfolding elements_in
elements_next room s h = rw (element_bytes s h)

-- WHERE NO RECORD IS REFUSED: what the bytes start with is an element, and so on with what follows it
pub records_rest :
    (room place : ℕ) (s : List ℕ) → check_records (suc room) place s ≡ Ok tt → no_bytes s ≡ false →
    IsElement s × (check_records room (place + record_size s) (drop (record_size s) s) ≡ Ok tt)
unfolding check_records
records_rest room place s h b =
    let g = (then_fine (check_record (suc room) place s) _).0 (rw b at h) in
    (((record_fine (suc room) place s).0 g.0).0, g.1)

-- so every element is legal, and there are no more than there was room for
pub elements_legal :
    (room place : ℕ) (s : List ℕ) → check_records room place s ≡ Ok tt → AllLegal (elements_in room s) × (length (elements_in room s) ≤ room)
unfolding elements_in all_over
elements_legal zero place s h = (refl, omega arith)
elements_legal (suc room) place s h =
    let more = elements_legal room (place + record_size s) (drop (record_size s) s) in
    ⊎_elim
    (λ b. rw b (refl, omega arith))
    (λ b. let k = records_rest room place s h b in rw (b, k.0.legal) ((more k.1).0, omega (arith, (more k.1).1)))
    (test (no_bytes s))

-- what reading a set hands back
pub read_check : (s : List ℕ) → (read_set s).check ≡ check_records places 0 s
unfolding read_set
read_check s = go (check_records places 0 s)
  where
    go : (c : Check) → (handed_back c (set_of (elements_in places s))).check ≡ c
    go (Ok tt) = refl
    go (Err r) = refl

pub read_elements : (s : List ℕ) → check_records places 0 s ≡ Ok tt → (read_set s).set ≡ set_of (elements_in places s)
unfolding read_set
read_elements s h = rw h

-- A REFUSED READ
handed_refused : (v : Check) (t : TaskSet) {r : Refusal} → (handed_back v t).check ≡ Err r → (handed_back v t).set ≡ empty_set
handed_refused (Ok tt) t h = cc
handed_refused (Err r) t h = refl

pub refused_is_empty : (s : List ℕ) {r : Refusal} → (read_set s).check ≡ Err r → (read_set s).set ≡ empty_set
unfolding read_set
refused_is_empty s h = handed_refused (check_records places 0 s) (set_of (elements_in places s)) h
