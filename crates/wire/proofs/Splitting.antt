-- Bytes fall into the records of legal elements and a part where reading stops: at its end, or at a refused record. Assumes nothing.
use Prim.Native.Nat.{ℕ, zero, suc, ◌+◌}
use mathlib.Core.Path.{◌≡◌, refl, sym, ap, ◌∙◌}
use mathlib.Core.Bool.{Bool, true, false}
use mathlib.Core.List.{List, [], ◌∷◌, ◌++◌, append_assoc}
use mathlib.Core.Logic.{◌⊎◌, inl, inr}
use native.Mathlib.Omega.{arith}
use lib.ListN.{length, drop, length-append}
use Rattle.std.specs.Prelude.{Ok, Err}
use Rattle.model.specs.declared.elements.Element.{Element}
use Rattle.model.specs.declared.answers.Refusal.{Refusal}
use Rattle.model.specs.Answers.{Check}
use Rattle.model.specs.Over.{all_over}
use Rattle.model.specs.Elements.{is_legal, AllLegal}
use Rattle.model.proofs.Cases.{and_both, and_left, and_right}
use Rattle.wire.specs.Format.{AllBytes, record_size, element_of, record_of, records_of}
use Rattle.wire.specs.Reading.{check_record, no_bytes, check_records, elements_in}
use Rattle.wire.proofs.ReadingLaws.{IsElement, record_fine, records_next, elements_next}
use Rattle.wire.proofs.RecordLaws.{bytes_drop, written_is_read, written_size, written_is_element, written_rest, read_is_written}

-- RECORDS OF LEGAL ELEMENTS are read, and what follows them is read as if it stood alone, but for its place and the room
module _ (room : ℕ) (t : List ℕ) where
  pub records_then :
      (s : List Element) (n place : ℕ) →
      AllLegal s →
      n ≡ length s + room →
      check_records n place (records_of s ++ t) ≡ check_records room (place + length (records_of s)) t
  unfolding all_over records_of
  records_then [] n place h g =
      let same : n ≡ room = omega arith in
      rw same (ap (λ x. check_records room x t) (omega arith))
  records_then (e ∷ s) zero place h g = absurd (omega arith)
  records_then (e ∷ s) (suc n) place h g =
      let left = records_of s ++ t in
      let element = written_is_element left e (and_left (is_legal e) (all_over s is_legal) h) in
      let step = records_then s n (place + length (record_of e)) (and_right (is_legal e) (all_over s is_legal) h) (omega arith) in
      rw (append_assoc (record_of e) (records_of s) t, records_next place (record_of e ++ left) n element, written_rest left e, written_size left e)
      (step ∙ ap (λ x. check_records room x t) (omega (arith, length-append (record_of e) (records_of s))))

  pub elements_then : (s : List Element) (n : ℕ) → AllLegal s → n ≡ length s + room → elements_in n (records_of s ++ t) ≡ s ++ elements_in room t
  unfolding all_over records_of
  elements_then [] n h g = ap (λ x. elements_in x t) (omega arith)
  elements_then (e ∷ s) zero h g = absurd (omega arith)
  elements_then (e ∷ s) (suc n) h g =
      let left = records_of s ++ t in
      let legal = and_left (is_legal e) (all_over s is_legal) h in
      rw (
        append_assoc (record_of e) (records_of s) t,
        elements_next n (record_of e ++ left) (written_is_element left e legal),
        written_is_read left e legal,
        written_rest left e,
      )
      (ap (λ l. e ∷ l) (elements_then s n (and_right (is_legal e) (all_over s is_legal) h) (omega arith)))

-- WHERE READING STOPS
abbrev pub Stops : ℕ → ℕ → List ℕ → Type 0
Stops room place t = (no_bytes t ≡ true) ⊎ ((r : Refusal) × (no_bytes t ≡ false) × (check_record room place t ≡ Err r))

-- the elements before, the bytes from there on, the room left and the place
pub record Split (room place : ℕ) (s : List ℕ) : Type 0 where
  pub before : List Element
  pub from : List ℕ
  pub left : ℕ
  pub at : ℕ
  pub bytes : s ≡ records_of before ++ from
  pub legal : AllLegal before
  pub room_is : room ≡ length before + left
  pub at_is : at ≡ place + length (records_of before)
  pub stops : Stops left at from

at_once : (room place : ℕ) (s : List ℕ) → Stops room place s → Split room place s
unfolding all_over records_of
at_once room place s h = record {
  before = [];
  from = s;
  left = room;
  at = place;
  bytes = refl;
  legal = refl;
  room_is = omega arith;
  at_is = omega arith;
  stops = h;
}

-- one element more in front
one_more : (room place : ℕ) (s : List ℕ) → AllBytes s → IsElement s → Split room (place + record_size s) (drop (record_size s) s) → Split (suc room) place s
unfolding all_over records_of
one_more room place s h e k = record {
  before = element_of s ∷ k.before;
  from = k.from;
  left = k.left;
  at = k.at;
  bytes = cut ∙ rw k.bytes (sym (append_assoc (record_of (element_of s)) (records_of k.before) k.from));
  legal = and_both (is_legal (element_of s)) (all_over k.before is_legal) e.legal k.legal;
  room_is = omega (arith, k.room_is);
  at_is = omega (arith, k.at_is, length-append (record_of (element_of s)) (records_of k.before), size);
  stops = k.stops;
}
  where
    cut : s ≡ record_of (element_of s) ++ drop (record_size s) s
    cut = read_is_written s h e

    size : record_size s ≡ length (record_of (element_of s))
    size = ap record_size cut ∙ written_size (drop (record_size s) s) (element_of s)

pub split : (room place : ℕ) (s : List ℕ) → AllBytes s → Split room place s
split zero place s h = go (no_bytes s) (check_record 0 place s) refl refl
  where
    go : (b : Bool) (c : Check) → no_bytes s ≡ b → check_record 0 place s ≡ c → Split 0 place s
    go true c p q = at_once 0 place s (inl p)
    go false (Err r) p q = at_once 0 place s (inr (r, p, q))
    go false (Ok tt) p q = absurd (omega (arith, ((record_fine 0 place s).0 q).1))
split (suc room) place s h =
    go (no_bytes s) (check_record (suc room) place s) refl refl
    (split room (place + record_size s) (drop (record_size s) s) (bytes_drop (record_size s) s h))
  where
    go :
        (b : Bool) (c : Check) →
        no_bytes s ≡ b →
        check_record (suc room) place s ≡ c →
        Split room (place + record_size s) (drop (record_size s) s) →
        Split (suc room) place s
    go true c p q k = at_once (suc room) place s (inl p)
    go false (Err r) p q k = at_once (suc room) place s (inr (r, p, q))
    go false (Ok tt) p q k = one_more room place s h ((record_fine (suc room) place s).0 q).0 k
