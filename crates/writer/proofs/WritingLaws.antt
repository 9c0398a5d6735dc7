-- Laws of specs/Format and specs/Writing: sizes, the records up to one more, and the outcomes. Assumes nothing.
use Prim.Native.Nat.{ℕ, suc, ◌+◌, ◌-◌, ◌*◌, ◌^◌, ◌≤◌, ◌<◌}
use mathlib.Core.Path.{◌≡◌, refl, sym, ap, ◌∙◌}
use mathlib.Core.List.{List, [], ◌∷◌, ◌++◌, append_assoc, append-nil}
use native.Mathlib.Omega.{arith}
use native.Mathlib.Numerals.{add-one}
use lib.ListN.{length, take, drop, get_or, length-append, length-take, length-drop, take-append-drop}
use lib.Seq.{take-suc, drop-drop, take-length, drop-length, take-append_seam, drop-append_seam}
use borrow.Rule.Slice.PartMut.{put_mid}
use Rattle.std.specs.List.{sum_by}
use Rattle.std.proofs.lemmas.List.Sums.{sum_by-cons}
use borrow.Author.Tests.{le-leb, lt-leb}
use Rattle.model.specs.declared.elements.Period.{Period}
use Rattle.model.specs.declared.elements.Period.TheVariants.{Once, Every}
use Rattle.model.specs.declared.elements.Element.{Element}
use Rattle.model.specs.declared.elements.TaskSet.{TaskSet}
use Rattle.model.specs.declared.answers.Reason.TheVariants.{BufferTooShort}
use Rattle.model.specs.declared.answers.Refusal.{Refusal}
use Rattle.model.specs.Elements.{places, counted, empty_set}
use Rattle.model.specs.TurnedAway.{unless, check_elements, check_set}
use Rattle.std.specs.Prelude.{Ok, Err}
use Rattle.writer.specs.Writing.{bytes_of, check_write, write_set, buffer_after}
use Rattle.model.specs.Buffers.{over}
use Rattle.wire.specs.Format.{number_bytes, byte_of, kind_for, body_size, start_of, record_of, records_of}

-- SIZES
pub start_length : (q : Period) → (1 ≤ length (start_of q)) × (length (start_of q) ≤ 5)
unfolding start_of number_bytes
start_length Once = (omega arith, omega arith)
start_length (Every p) = (omega arith, omega arith)

pub record_length : (e : Element) → length (record_of e) ≡ length (start_of e.period) + 12
unfolding number_bytes record_of
record_length e = length-append (start_of e.period) _

-- of a record: the size of its kind
pub record_size_is : (e : Element) → suc (body_size (byte_of (kind_for e.period))) ≡ length (record_of e)
unfolding number_bytes body_size start_of
record_size_is e = go e.period ∙ sym (record_length e)
  where
    go : (q : Period) → suc (body_size (byte_of (kind_for q))) ≡ length (start_of q) + 12
    go Once = refl
    go (Every p) = refl

-- of the records of some elements
pub records_size : (s : List Element) → sum_by (λ e. length (record_of e)) s ≡ length (records_of s)
unfolding records_of
records_size [] = refl
records_size (e ∷ s) = rw (sum_by-cons (λ x. length (record_of x)) e s, records_size s, length-append (record_of e) (records_of s))

pub records_small : (s : List Element) → length (records_of s) ≤ 17 * length s
unfolding records_of
records_small [] = omega arith
records_small (e ∷ s) = omega (arith, records_small s, length-append (record_of e) (records_of s), record_length e, start_length e.period)

pub needed_is : (t : TaskSet) {es : List Element} {n : ℕ} → es ≡ counted t → n ≡ sum_by (λ e. length (record_of e)) es → n ≡ length (bytes_of t)
needed_is t g h = h ∙ ap (sum_by (λ e. length (record_of e))) g ∙ records_size (counted t)

-- so the sum for a set in memory is a number of the machine
pub records_fit : (t : TaskSet) → length t.table ≡ places → sum_by (λ e. length (record_of e)) (counted t) < 2 ^ 64
records_fit t long =
    omega (arith, records_size (counted t), records_small (counted t), length-take t.count t.table)

-- STORES: bytes at the start of a buffer, and more bytes behind them
pub over_long : (xs l : List ℕ) → length xs ≤ length l → length (over xs l) ≡ length l
over_long xs l h = omega (arith, length-append xs (drop (length xs) l), length-drop (length xs) l)

pub over_next : (xs ys l : List ℕ) {i k : ℕ} → i ≡ length xs → k ≡ length ys → put_mid i k (over xs l) ys ≡ over (xs ++ ys) l
over_next xs ys l h g =
    rw (h, g, take-append_seam xs (drop (length xs) l), drop-append_seam xs (drop (length xs) l), drop-drop, length-append)
    (sym (append_assoc xs ys (drop (length xs + length ys) l)))

-- the same where the bytes behind them are put into all that is left
pub over_rest :
    (xs ys l : List ℕ) {i : ℕ} →
    i ≡ length xs →
    put_mid i (length (over xs l) - i) (over xs l) (over ys (take (length (over xs l) - i) (drop i (over xs l)))) ≡ over (xs ++ ys) l
over_rest xs ys l h =
    let r = drop (length xs) l in
    let left : length (over xs l) - length xs ≡ length r = omega (arith, length-append xs r) in
    rw (h, left, take-append_seam xs r, drop-append_seam xs r, take-length r, drop-length r, append-nil (ys ++ drop (length ys) r), drop-drop, length-append)
    (sym (append_assoc xs ys (drop (length xs + length ys) l)))

-- THE RECORDS up to one element more
records_append : (s t : List Element) → records_of (s ++ t) ≡ records_of s ++ records_of t
unfolding records_of
records_append [] t = refl
records_append (e ∷ s) t = rw (records_append s t) (sym (append_assoc (record_of e) (records_of s) (records_of t)))

one_record : (e : Element) → records_of (e ∷ []) ≡ record_of e
unfolding records_of
one_record e = append-nil (record_of e)

pub records_step :
    (s : List Element) (d : Element) (i : ℕ) →
    i < length s →
    records_of (take (i + 1) s) ≡ records_of (take i s) ++ record_of (get_or s i d)
records_step s d i h = rw (add-one, take-suc s i d h, records_append, one_record)

-- the first i records lie within all of them
pub records_within : (s : List Element) (i : ℕ) → length (records_of (take i s)) ≤ length (records_of s)
records_within s i =
    let cut : records_of s ≡ records_of (take i s) ++ records_of (drop i s) = sym (ap records_of (take-append-drop i s)) ∙ records_append (take i s) (drop i s) in
    omega (arith, simp length-append at (ap length cut))

-- THE OUTCOMES, as the code meets them
module _ (t : TaskSet) (out : List ℕ) where
  pub write_refused : {r : Refusal} → check_set t ≡ Err r → (Err r ≡ write_set t (length out)) × (out ≡ buffer_after t out)
  unfolding check_write write_set buffer_after
  write_refused h = (rw h, rw h)

  pub write_short :
      {n : ℕ} →
      check_set t ≡ Ok tt →
      n ≡ length (bytes_of t) →
      length out < n →
      (Err (record { reason = BufferTooShort; place = n }) ≡ write_set t (length out)) × (out ≡ buffer_after t out)
  unfolding check_write unless write_set buffer_after
  write_short h g l = let short = lt-leb (length (bytes_of t)) (length out) (omega arith) in (rw (g, h, short), rw (h, short))

  pub write_done :
      {n : ℕ} {out' : List ℕ} →
      check_set t ≡ Ok tt →
      n ≡ length (bytes_of t) →
      n ≤ length out →
      out' ≡ over (bytes_of t) out →
      (Ok n ≡ write_set t (length out)) × (out' ≡ buffer_after t out)
  unfolding check_write unless write_set buffer_after
  write_done h g l o = let long = le-leb (length (bytes_of t)) (length out) (omega arith) in (rw (g, h, long), o ∙ rw (h, long))

pub empty_changes_nothing : (out : List ℕ) → buffer_after empty_set out ≡ out
unfolding unless check_elements check_set records_of check_write buffer_after
empty_changes_nothing out = rw (le-leb 0 (length out) (omega arith))
