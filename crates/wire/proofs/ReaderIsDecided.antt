-- What reading a set gives is decided for every input: the set whose records the bytes are, or the refusal of the first refused record by the
-- first row that does not let it pass, and each exactly then. Assumes nothing.
use Prim.Native.Nat.{ℕ, ◌+◌, ◌-◌, ◌≤◌}
use mathlib.Core.Path.{◌≡◌, refl, sym, ap, subst, ◌∙◌}
use mathlib.Core.Bool.{true, false}
use mathlib.Core.List.{List, [], ◌++◌, append-nil}
use mathlib.Core.Logic.{◌↔◌, ◌⊎◌, inl, inr, ⊎_elim}
use native.Mathlib.Omega.{arith}
use lib.ListN.{length}
use Rattle.std.specs.Prelude.{Ok, Err}
use Rattle.model.specs.declared.elements.Element.{Element}
use Rattle.model.specs.declared.answers.Refusal.{Refusal}
use Rattle.model.specs.Elements.{places, AllLegal, counted, set_of}
use Rattle.model.specs.Answers.{number_of}
use Rattle.model.specs.Rows.{IsRefusal}
use Rattle.model.proofs.ElementLaws.{set_counted}
use Rattle.model.proofs.TurnedAwayLaws.{turned_is_not_fine, turned_tells}
use Rattle.wire.specs.Format.{AllBytes, records_of}
use Rattle.wire.specs.Reading.{no_bytes, check_record, check_records, elements_in, handed_back, read_set}
use Rattle.wire.specs.Outcomes.{AreRecords, AreRefused, IsRefusedRead}
use Rattle.wire.proofs.ReadingLaws.{no_bytes_lem, some_bytes, records_end, records_stop, elements_end, read_check, read_elements}
use Rattle.wire.proofs.Splitting.{records_then, elements_then, Split, split}
use Rattle.wire.proofs.RowLaws.{record_turned, record_turns, first_is}

-- what follows the records of legal elements is looked at with the room left, at its place
module _ (before : List Element) (from : List ℕ) (legal : AllLegal before) (few : length before ≤ places) where
  left : ℕ
  left = places - length before

  rooms : places ≡ length before + left
  unfolding left
  rooms = omega arith

  check_from : check_records places 0 (records_of before ++ from) ≡ check_records left (length (records_of before)) from
  check_from = records_then left from before places 0 legal rooms ∙ ap (λ n. check_records left n from) (omega arith)

  elements_from : elements_in places (records_of before ++ from) ≡ before ++ elements_in left from
  elements_from = elements_then left from before places legal rooms

pub reads_set : (s : List ℕ) (es : List Element) → AreRecords s es → read_set s ≡ handed_back (Ok tt) (set_of es)
unfolding read_set no_bytes
reads_set s es k =
    let n = left es [] k.legal k.few in
    rw (
      k.bytes ∙ sym (append-nil (records_of es)),
      check_from es [] k.legal k.few,
      elements_from es [] k.legal k.few,
      records_end (length (records_of es)) [] n refl,
      elements_end n [] refl,
      append-nil,
    )

reads_refused : (s : List ℕ) (number place : ℕ) → AreRefused s number place → IsRefusedRead s number place
unfolding read_set
reads_refused s number place k =
    let n = left k.before k.from k.legal k.few in
    let at = length (records_of k.before) in
    let turn = record_turns k.before k.from n at (rooms k.before k.from k.legal k.few) number k.row in
    record {
      reason = turn.reason;
      numbered = turn.numbered;
      by = rw (k.bytes, check_from k.before k.from k.legal k.few, records_stop at k.from n ((some_bytes k.from).1 k.more) turn.by, k.at) refl;
    }

-- every input is one or the other
decide : (s : List ℕ) → AllBytes s → ((es : List Element) × AreRecords s es) ⊎ ((number : ℕ) × (place : ℕ) × AreRefused s number place)
decide s h = ⊎_elim (λ p. inl (whole p)) (λ p. inr (stopped p.0 p.1 p.2)) k.stops
  where
    k : Split places 0 s
    k = split places 0 s h

    few : length k.before ≤ places
    few = omega (arith, k.room_is)

    whole : no_bytes k.from ≡ true → (es : List Element) × AreRecords s es
    whole p = (k.before, record { bytes = k.bytes ∙ rw (no_bytes_lem k.from p) (append-nil (records_of k.before)); legal = k.legal; few = few })

    stopped :
        (r : Refusal) →
        no_bytes k.from ≡ false →
        check_record k.left k.at k.from ≡ Err r →
        (number : ℕ) × (place : ℕ) × AreRefused s number place
    stopped r p q =
        let f = record_turned k.before k.from k.left k.at k.room_is q in (
          f.0,
          k.at,
          record {
            before = k.before;
            from = k.from;
            bytes = k.bytes;
            legal = k.legal;
            few = few;
            more = (some_bytes k.from).0 p;
            at = omega (arith, k.at_is);
            row = f.1;
          },
        )

-- THEOREM: what is read without a refusal is a set, and the bytes are its records
pub read_is_records : (s : List ℕ) → AllBytes s → (read_set s).check ≡ Ok tt → (es : List Element) × AreRecords s es × ((read_set s).set ≡ set_of es)
read_is_records s h c =
    ⊎_elim
    (λ k. (k.0, k.1, ap (λ x. x.set) (reads_set s k.0 k.1)))
    (λ k. absurd (turned_is_not_fine (sym (ap (λ x. x.check) (reads_refused s k.0 k.1 k.2).by) ∙ c)))
    (decide s h)

-- THEOREM: a set is read exactly from its records
pub set_is_read : (s : List ℕ) (es : List Element) → AllBytes s → (read_set s ≡ handed_back (Ok tt) (set_of es)) ↔ AreRecords s es
set_is_read s es h = (λ r. ⊎_elim (found r) (refused r) (decide s h), reads_set s es)
  where
    found : read_set s ≡ handed_back (Ok tt) (set_of es) → (fs : List Element) × AreRecords s fs → AreRecords s es
    found r k =
        let same : set_of k.0 ≡ set_of es = ap (λ x. x.set) (sym (reads_set s k.0 k.1) ∙ r) in
        subst (AreRecords s) (sym (set_counted k.0) ∙ ap counted same ∙ set_counted es) k.1

    refused : read_set s ≡ handed_back (Ok tt) (set_of es) → (number : ℕ) × (place : ℕ) × AreRefused s number place → AreRecords s es
    refused r k = absurd (turned_is_not_fine (ap (λ x. x.check) (sym (reads_refused s k.0 k.1 k.2).by ∙ r)))

-- THEOREM: a refusal is given exactly when the table says so, and the first refused record decides
pub refusal_is_given :
    (s : List ℕ) (number place : ℕ) →
    AllBytes s →
    IsRefusedRead s number place ↔ AreRefused s number place
refusal_is_given s number place h = (λ r. ⊎_elim (found r) (refused r) (decide s h), reads_refused s number place)
  where
    found : IsRefusedRead s number place → (es : List Element) × AreRecords s es → AreRefused s number place
    found r k = absurd (turned_is_not_fine (ap (λ x. x.check) (sym r.by ∙ reads_set s k.0 k.1)))

    refused : IsRefusedRead s number place → (n : ℕ) × (p : ℕ) × AreRefused s n p → AreRefused s number place
    refused r k =
        let q = reads_refused s k.0 k.1 k.2 in
        let told = turned_tells (ap (λ x. x.check) (sym q.by ∙ r.by)) in
        let same : k.0 ≡ number = sym q.numbered ∙ ap number_of told.0 ∙ r.numbered in
        subst (λ n. AreRefused s n place) same (subst (AreRefused s k.0) told.1 k.2)

-- WHAT THE CHECKS OF THE RECORDS TELL, for who asks for them and not for the set
module _ (s : List ℕ) (es : List Element) (k : AreRecords s es) where
  pub records_fine : check_records places 0 s ≡ Ok tt
  records_fine = sym (read_check s) ∙ ap (λ r. r.check) (reads_set s es k)

  pub elements_are : elements_in places s ≡ es
  elements_are =
      sym (set_counted (elements_in places s))
      ∙ ap counted (sym (read_elements s records_fine) ∙ ap (λ r. r.set) (reads_set s es k))
      ∙ set_counted es

pub fine_are_records : (s : List ℕ) → AllBytes s → check_records places 0 s ≡ Ok tt → AreRecords s (elements_in places s)
fine_are_records s h c =
    let k = read_is_records s h (read_check s ∙ c) in
    subst (AreRecords s) (sym (elements_are s k.0 k.1)) k.1

pub records_turned : (s : List ℕ) (number place : ℕ) → AreRefused s number place → IsRefusal (check_records places 0 s) number place
records_turned s number place k =
    let q = reads_refused s number place k in
    record { reason = q.reason; numbered = q.numbered; by = sym (read_check s) ∙ ap (λ r. r.check) q.by }

pub turned_are_refused : (s : List ℕ) (number place : ℕ) → AllBytes s → IsRefusal (check_records places 0 s) number place → AreRefused s number place
unfolding read_set
turned_are_refused s number place h c = (refusal_is_given s number place h).0 (record { reason = c.reason; numbered = c.numbered; by = rw c.by refl })

-- THEOREM: reading ends in one of: a set; one refusal, from 1 to 7, with its place
pub set_or_refusal :
    (s : List ℕ) →
    AllBytes s →
    ((es : List Element) × (read_set s ≡ handed_back (Ok tt) (set_of es)))
    ⊎ ((number : ℕ) × (place : ℕ) × (1 ≤ number) × (number ≤ 7) × IsRefusedRead s number place)
set_or_refusal s h =
    ⊎_elim
    (λ k. inl (k.0, reads_set s k.0 k.1))
    (λ k. let range = first_is k.2.before k.2.from k.0 k.2.row in
    inr (k.0, k.1, range.0, range.1, reads_refused s k.0 k.1 k.2))
    (decide s h)
