-- What holds whenever `kind_byte` turns to the record i, and where 8 stands in bytes. Assumes nothing.
use Prim.Native.Nat.{ℕ, zero, suc, ◌+◌, ◌-◌, ◌≤◌, ◌<◌}
use mathlib.Core.Path.{◌≡◌, refl, sym, ap, subst, ◌∙◌}
use mathlib.Core.Bool.{Bool, true, false, cond}
use mathlib.Core.List.{List}
use mathlib.Core.Logic.{⊎_elim}
use native.Mathlib.Omega.{arith}
use lib.Dec.{leb}
use lib.ListN.{length, drop, length-drop}
use Rattle.std.specs.Prelude.{Ok, Err}
use Rattle.model.specs.declared.elements.Element.{Element}
use Rattle.model.specs.declared.answers.Reason.TheVariants.{HyperperiodAboveLimit}
use Rattle.model.specs.declared.answers.Refusal.{Refusal}
use Rattle.model.specs.declared.answers.Verdict.{Verdict}
use Rattle.model.specs.Elements.{places, most_h}
use Rattle.model.specs.Demand.{H}
use Rattle.model.specs.TurnedAway.{turned, unless, first_above, check_h, answered, analysis}
use Rattle.model.proofs.Cases.{test}
use Rattle.model.proofs.NumberLaws.{least_most}
use Rattle.wire.specs.Format.{record_size}
use Rattle.wire.specs.Reading.{no_bytes, rest_of, check_records, elements_in}
use Rattle.wire.proofs.ReadingLaws.{rest_element, records_rest, elements_end, elements_next}
use Rattle.analysis.specs.InBytes.{kind_byte}
use Rattle.analysis.specs.LegalSets.{answer_of, in_bytes, Placed}

-- THE KIND BYTE
pub record Passing (b : List ℕ) (number i : ℕ) (left : List ℕ) : Type 0 where
  pub upto : i ≤ number
  pub within : length left ≤ length b
  pub room : ℕ
  pub place : ℕ
  pub fine : check_records room place left ≡ Ok tt
  pub more : number ≤ i + length (elements_in room left)
  pub same : kind_byte b number ≡ (length b - length left) + kind_byte left (number - i)

pub start : (b : List ℕ) (number : ℕ) → check_records places 0 b ≡ Ok tt → number ≤ length (elements_in places b) → Passing b number 0 b
start b number h l =
    record {
      upto = omega arith;
      within = omega arith;
      room = places;
      place = 0;
      fine = h;
      more = omega arith;
      same = let e : number - 0 ≡ number = omega arith in rw e (omega arith);
    }

no_room : (s : List ℕ) → length (elements_in 0 s) ≡ 0
unfolding elements_in
no_room s = refl

next_byte : (b : List ℕ) (i : ℕ) → kind_byte b (suc i) ≡ record_size b + kind_byte (drop (record_size b) b) i
unfolding kind_byte
next_byte b i = refl

module _ (b : List ℕ) (number i : ℕ) (left : List ℕ) (k : Passing b number i left) where
  pub next : i < number → Passing b number (i + 1) (rest_of left)
  next l = go k.room k.fine k.more
    where
      go : (room : ℕ) → check_records room k.place left ≡ Ok tt → number ≤ i + length (elements_in room left) → Passing b number (i + 1) (rest_of left)
      go zero h m = absurd (omega (arith, no_room left))
      go (suc room) h m = ⊎_elim
          (λ o. absurd (omega (arith, ap length (elements_end (suc room) left o))))
          (λ o.
          let r = records_rest room k.place left h o in
          let j : number - i ≡ suc (number - (i + 1)) = omega arith in
          rw (rest_element left r.0) (record {
            upto = omega arith;
            within = rw length-drop (omega (arith, k.within));
            room = room;
            place = k.place + record_size left;
            fine = r.1;
            more = omega (arith, ap length (elements_next room left r.0));
            same =
                rw length-drop
                (omega (arith, k.same, k.within, ap (kind_byte left) j, next_byte left (number - (i + 1)), r.0.whole));
          }))
          (test (no_bytes left))

  pub end : number ≤ i → length b - length left ≡ kind_byte b number
  unfolding kind_byte
  end l = let e : number - i ≡ 0 = omega (arith, k.upto) in sym (k.same ∙ rw e (omega arith))

-- 8 IN BYTES
pub first_within : (s : List Element) → first_above s ≤ length s
unfolding first_above
first_within s = least_most _ (length s)

module _ (verdict : List Element → Verdict) (s : List Element) where
  answer_placed : Placed (length s) (answer_of verdict s)
  unfolding analysis check_h unless
  answer_placed = go (leb (H s) most_h)
    where
      go : (small : Bool) → Placed (length s) (answered (cond small (Ok tt) (turned HyperperiodAboveLimit (first_above s))) (verdict s))
      go false = λ n. first_within s
      go true = tt

  pub refusal_placed : {r : Refusal} → Err r ≡ answer_of verdict s → r.reason ≡ HyperperiodAboveLimit → r.place ≤ length s
  refusal_placed h = subst (Placed (length s)) (sym h) answer_placed

  pub answer_in_bytes : (b : List ℕ) → in_bytes b (answer_of verdict s) ≡ analysis (Ok tt) (kind_byte b) verdict s
  unfolding analysis check_h unless
  answer_in_bytes b = go (leb (H s) most_h)
    where
      go : (small : Bool) →
          in_bytes b (answered (cond small (Ok tt) (turned HyperperiodAboveLimit (first_above s))) (verdict s)) ≡
          answered (cond small (Ok tt) (turned HyperperiodAboveLimit (kind_byte b (first_above s)))) (verdict s)
      go false = refl
      go true = refl
