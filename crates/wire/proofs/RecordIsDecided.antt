-- What reading one record gives is decided for every input: the end, an element, or a refusal, each exactly when document 01 says; and what is
-- left of the bytes. Assumes nothing.
use Prim.Native.Nat.{ℕ, ◌≤◌}
use mathlib.Core.Path.{◌≡◌, refl, sym, ap, subst, ◌∙◌}
use mathlib.Core.Bool.{true}
use mathlib.Core.List.{List, [], ◌++◌}
use mathlib.Core.Logic.{◌↔◌}
use native.Mathlib.Omega.{arith}
use lib.ListN.{length, drop}
use Rattle.model.specs.declared.elements.Element.{Element}
use Rattle.model.specs.Elements.{places, is_legal}
use Rattle.model.specs.Answers.{number_of}
use Rattle.model.specs.Rows.{IsFirstRow, IsRefusal}
use Rattle.model.proofs.Cases.{clash}
use Rattle.model.proofs.TurnedAwayLaws.{turned_tells}
use Rattle.std.specs.Prelude.{Some, None, Ok, Err}
use Rattle.wire.specs.Format.{AllBytes, record_size, record_of}
use Rattle.wire.specs.Reading.{Record, no_bytes, read_next, read_record, bytes_taken, rest_of}
use Rattle.wire.specs.Outcomes.{rows}
use Rattle.wire.proofs.ReadingLaws.{no_bytes_lem, some_bytes, answer_tells, element_answers, rest_element}
use Rattle.wire.proofs.RecordLaws.{written_is_read, written_is_element, written_rest, read_is_written}
use Rattle.wire.proofs.RowLaws.{record_turned, record_turns}

-- THEOREM: the end is answered exactly on no bytes
pub end_is_answered : (s : List ℕ) → (read_record s ≡ Ok None) ↔ (s ≡ [])
unfolding read_record read_next no_bytes
end_is_answered s = (λ h. no_bytes_lem s (answer_tells places 0 s h), λ h. rw h)

-- THEOREM: an element is answered exactly where the bytes start with its record, and it is legal
pub element_is_answered :
    (s : List ℕ) (e : Element) →
    AllBytes s →
    (read_record s ≡ Ok (Some e)) ↔ ((t : List ℕ) × (s ≡ record_of e ++ t) × (is_legal e ≡ true))
unfolding read_record
element_is_answered s e h = (found, back)
  where
    found : read_record s ≡ Ok (Some e) → (t : List ℕ) × (s ≡ record_of e ++ t) × (is_legal e ≡ true)
    found r =
        let k = answer_tells places 0 s r in
        (drop (record_size s) s, read_is_written s h k.0 ∙ ap (λ x. record_of x ++ drop (record_size s) s) k.2, rw (← k.2) k.0.legal)

    back : (t : List ℕ) × (s ≡ record_of e ++ t) × (is_legal e ≡ true) → read_record s ≡ Ok (Some e)
    back k =
        rw k.1
        (element_answers places 0 (record_of e ++ k.0) (written_is_element k.0 e k.2) (omega arith)
        ∙ ap (λ x. Ok (Some x)) (written_is_read k.0 e k.2))

-- THEOREM: a refusal is answered exactly by the first row that does not let the record pass, at place 0
pub refusal_is_answered :
    (s : List ℕ) (number place : ℕ) →
    IsRefusal (read_record s) number place ↔ ((1 ≤ length s) × (place ≡ 0) × IsFirstRow (rows [] s) number)
unfolding read_record read_next
refusal_is_answered s number place = (found, back)
  where
    found : IsRefusal (read_record s) number place → (1 ≤ length s) × (place ≡ 0) × IsFirstRow (rows [] s) number
    found r =
        let k = answer_tells places 0 s r.by in
        let f = record_turned [] s places 0 (omega arith) k.1 in
        let told = turned_tells f.2.by in
        let same : f.0 ≡ number = sym f.2.numbered ∙ ap number_of (sym told.0) ∙ r.numbered in
        ((some_bytes s).0 k.0, told.1, subst (IsFirstRow (rows [] s)) same f.1)

    back : (1 ≤ length s) × (place ≡ 0) × IsFirstRow (rows [] s) number → IsRefusal (read_record s) number place
    back k =
        let t = record_turns [] s places 0 (omega arith) number k.2 in
        record { reason = t.reason; numbered = t.numbered; by = rw ((some_bytes s).1 k.0, t.by, k.1) refl }

-- THEOREM: one record alone is never refused by 3
pub never_by_3 : (s : List ℕ) (place : ℕ) → IsRefusal (read_record s) 3 place → ⊥
never_by_3 s place h = clash refl ((refusal_is_answered s 3 place).0 h).2.stops

-- THEOREM: the rest is what follows the record of an element, and all of the bytes where there is none
pub rest_follows : (e : Element) (t : List ℕ) → is_legal e ≡ true → rest_of (record_of e ++ t) ≡ t
rest_follows e t h = rest_element (record_of e ++ t) (written_is_element t e h) ∙ written_rest t e

pub rest_is_all : (s : List ℕ) → ((e : Element) → read_record s ≡ Ok (Some e) → ⊥) → rest_of s ≡ s
unfolding rest_of bytes_taken
rest_is_all s h = go (read_record s) refl
  where
    go : (r : Record) → read_record s ≡ r → rest_of s ≡ s
    go (Ok (Some e)) p = absurd (h e p)
    go (Err r) p = rw p
    go (Ok None) p = rw p
