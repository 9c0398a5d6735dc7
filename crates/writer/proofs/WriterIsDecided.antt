-- What writing a set gives is decided for every set and every buffer: its bytes exactly when it is legal and has room, else one refusal, exactly when
-- document 01 says, and the buffer as it was. Assumes nothing.
use Prim.Native.Nat.{ℕ, ◌≤◌}
use mathlib.Core.Path.{◌≡◌, refl, sym, ap, ◌∙◌}
use mathlib.Core.Bool.{true}
use mathlib.Core.List.{List}
use mathlib.Core.Logic.{◌↔◌, inl, inr, ⊎_elim}
use native.Mathlib.Omega.{arith}
use lib.Dec.{leb}
use lib.ListN.{length, take, drop}
use lib.Seq.{take_at, drop_at}
use borrow.Author.Tests.{leb-true, leb-false, le-leb, lt-leb}
use Rattle.model.specs.declared.elements.TaskSet.{TaskSet}
use Rattle.model.specs.declared.answers.Reason.TheVariants.{BufferTooShort}
use Rattle.model.specs.declared.answers.Refusal.{Refusal}
use Rattle.model.specs.Answers.{Check, number_of}
use Rattle.model.specs.Elements.{is_legal_set}
use Rattle.model.specs.TurnedAway.{turned, unless, check_set}
use Rattle.model.specs.Rows.{IsRefusal}
use Rattle.model.proofs.TurnedAwayLaws.{turned_tells, then_fine, then_turned, unless_turned_lem, unless_fine, set_fine}
use Rattle.model.proofs.RowLaws.{set_is_turned_away}
use Rattle.model.specs.Promises.{Promises}
use Rattle.model.proofs.PromiseLaws.{promises_what_follows}
use Rattle.std.specs.Prelude.{Ok, Err}
use Rattle.writer.specs.Writing.{Written, bytes_of, check_write, written_by, write_set, buffer_after}
use Rattle.model.specs.Buffers.{over}
use Rattle.writer.specs.Outcomes.{HasNoRoom, IsNotWritten}
use Rattle.writer.specs.FunctionContracts.{WriteSetSays}
use Rattle.writer.specs.contracts
use Rattle.writer.proofs.writing
use Rattle.writer.proofs.Outcomes.{write_set_keeps}

fine_tells : (c : Check) {m n : ℕ} → written_by c m ≡ Ok n → (c ≡ Ok tt) × (m ≡ n)
fine_tells (Ok tt) h = (refl, cc)
fine_tells (Err r) h = cc

refused_tells : (c : Check) (m : ℕ) {r : Refusal} → written_by c m ≡ Err r → c ≡ Err r
refused_tells (Ok tt) m h = cc
refused_tells (Err r) m h = cc

-- THEOREM: a set is written exactly when it is legal and its bytes have room
pub set_is_written : (t : TaskSet) (room n : ℕ) → (write_set t room ≡ Ok n) ↔ ((is_legal_set t ≡ true) × (length (bytes_of t) ≡ n) × (n ≤ room))
unfolding check_write write_set
set_is_written t room n =
    let fits = unless_fine (leb (length (bytes_of t)) room) BufferTooShort (length (bytes_of t)) in (
      λ h. let f = fine_tells (check_write t room) h in
          let g = (then_fine (check_set t) _).0 f.0 in
          ((set_fine t).0 g.0, f.1, omega (arith, leb-true (length (bytes_of t)) room (fits.0 g.1), f.1)),
      λ h. rw ((set_fine t).1 h.0, fits.1 (le-leb (length (bytes_of t)) room (omega arith)), h.1),
    )

-- REFUSALS
module _ (t : TaskSet) (number place room : ℕ) where
  abbrev room_check : Check
  room_check = unless (leb (length (bytes_of t)) room) BufferTooShort (length (bytes_of t))

  room_refused : ((check_set t ≡ Ok tt) × IsRefusal room_check number place) ↔ HasNoRoom t room number place
  room_refused =
      let n = length (bytes_of t) in (
        λ p. let u = (unless_turned_lem (leb n room) BufferTooShort n).0 p.1.by in
            let told = turned_tells u.1 in
            record {
              legal = (set_fine t).0 p.0;
              by = sym p.1.numbered ∙ ap number_of (sym told.0);
              at = sym told.1;
              short = omega (arith, leb-false n room u.0, told.1);
            },
        λ k. (
          (set_fine t).1 k.legal,
          record {
            reason = BufferTooShort;
            numbered = sym k.by;
            by = (unless_turned_lem (leb n room) BufferTooShort n).1 (lt-leb n room (omega (arith, k.at, k.short)), ap (turned BufferTooShort) (sym k.at));
          },
        ),
      )

  write_is_refused : IsRefusal (check_write t room) number place ↔ IsNotWritten t room number place
  unfolding check_write
  write_is_refused =
      let set = set_is_turned_away t number place in (
        λ h. ⊎_elim
            (λ p. inl (set.0 (record { reason = h.reason; numbered = h.numbered; by = p })))
            (λ p. inr (room_refused.0 (p.0, record { reason = h.reason; numbered = h.numbered; by = p.1 })))
            ((then_turned (check_set t) room_check).0 h.by),
        ⊎_elim
            (λ k. let p = set.1 k in record { reason = p.reason; numbered = p.numbered; by = (then_turned (check_set t) room_check).1 (inl p.by) })
            (λ k. let p = room_refused.1 k in record { reason = p.1.reason; numbered = p.1.numbered; by = (then_turned (check_set t) room_check).1 (inr (p.0, p.1.by)) }),
      )

  -- THEOREM: a set is refused exactly as document 01 says: by 3, else by its first bad value, else by 10
  pub set_is_not_written : IsRefusal (write_set t room) number place ↔ IsNotWritten t room number place
  unfolding write_set
  set_is_not_written = (
    λ h. write_is_refused.0 (record { reason = h.reason; numbered = h.numbered; by = refused_tells (check_write t room) (length (bytes_of t)) h.by }),
    λ k. let p = write_is_refused.1 k in record { reason = p.reason; numbered = p.numbered; by = rw p.by refl },
  )

-- WHATEVER `write_set` ANSWERS AND LEAVES
module _ (t : TaskSet) (out : List ℕ) (a : Written) (after : List ℕ) (says : WriteSetSays t out a after) where
  -- THEOREM: the bytes stand at the start of the buffer, and what is past them stays
  pub bytes_are_written : (n : ℕ) → a ≡ Ok n → (take n after ≡ bytes_of t) × (drop n after ≡ drop n out)
  unfolding write_set buffer_after
  bytes_are_written n h =
      let f = fine_tells (check_write t (length out)) (sym says.0 ∙ h) in
      let buffer : after ≡ over (bytes_of t) out = says.1 ∙ rw f.0 refl in
      rw buffer (take_at (bytes_of t) _ n f.1, drop_at (bytes_of t) _ n f.1 ∙ ap (λ m. drop m out) f.1)

  -- THEOREM: a refused write changes no byte
  pub refused_write_changes_nothing : (r : Refusal) → a ≡ Err r → after ≡ out
  unfolding write_set buffer_after
  refused_write_changes_nothing r h = says.1 ∙ rw (refused_tells (check_write t (length out)) (length (bytes_of t)) (sym says.0 ∙ h)) refl

-- THEOREM: so its code, where it refuses, leaves the buffer as it was
pub refused_code_changes_nothing :
    Promises contracts.writing.write_set.ended writing.write_set.Symbol.code writing.write_set.Symbol.name
    (λ κs given r after. (q : Refusal) → r ≡ Err q → after.1.0.now ≡ given.1.0.now)
refused_code_changes_nothing =
    promises_what_follows (λ κs given r after says. refused_write_changes_nothing given.0 given.1.0.now r after.1.0.now says) write_set_keeps
