-- What holds whenever `read_elements` turns to the next record, from the first to the end of the bytes. Assumes nothing.
use Prim.Native.Nat.{ℕ, suc, ◌+◌, ◌-◌, ◌≤◌, ◌<◌}
use mathlib.Core.Path.{◌≡◌, refl, ap}
use mathlib.Core.List.{List, [], ◌∷◌, ◌++◌, append_assoc, append-nil}
use native.Mathlib.Omega.{arith}
use lib.ListN.{length, drop, set, replicate, length-append, length-drop}
use lib.Seq.{set-append_seam}
use Rattle.model.specs.declared.elements.Element.{Element}
use Rattle.model.specs.declared.elements.TaskSet.{TaskSet}
use Rattle.model.specs.declared.answers.Refusal.{Refusal}
use Rattle.model.specs.Elements.{places, filler, set_of, empty_set}
use Rattle.std.specs.Prelude.{Some, None, Ok, Err}
use Rattle.wire.specs.Format.{record_size, element_of}
use Rattle.wire.specs.Reading.{read_next, rest_of, check_records, elements_in, handed_back, read_set}
use Rattle.wire.proofs.FormatLaws.{some_size}
use Rattle.wire.proofs.ReadingLaws.{IsElement, answer_tells, rest_element, records_end, records_stop, records_next, elements_end, elements_next}

-- the set with one element more, as the stores leave it
abbrev pub with_next : TaskSet → Element → TaskSet
with_next t e = record { count = t.count + 1; table = set t.table t.count e }

with_next_lem : (got : List Element) (e : Element) → length got < places → with_next (set_of got) e ≡ set_of (got ++ (e ∷ []))
with_next_lem got e h = λ i. record { count = longer i; table = seam i }
  where
    longer : length got + 1 ≡ length (got ++ (e ∷ []))
    longer = omega (arith, length-append got (e ∷ []))

    fewer : places - length got ≡ suc (places - length (got ++ (e ∷ [])))
    fewer = omega (arith, length-append got (e ∷ []))

    seam : set (got ++ replicate (places - length got) filler) (length got) e ≡ (got ++ (e ∷ [])) ++ replicate (places - length (got ++ (e ∷ []))) filler
    seam = rw (fewer, append_assoc) (set-append_seam got filler (replicate (places - length (got ++ (e ∷ []))) filler) e)

pub record Reading (s : List ℕ) (t : TaskSet) (left : List ℕ) : Type 0 where
  pub got : List Element
  pub table : t ≡ set_of got
  pub few : length got ≤ places
  pub within : length left ≤ length s
  pub check : check_records places 0 s ≡ check_records (places - length got) (length s - length left) left
  pub elements : elements_in places s ≡ got ++ elements_in (places - length got) left

pub start : (s : List ℕ) → Reading s empty_set s
start s = record { got = []; table = refl; few = omega arith; within = omega arith; check = ap (λ n. check_records places n s) (omega arith); elements = refl }

module _ (s : List ℕ) (t : TaskSet) (left : List ℕ) (k : Reading s t left) where
  pub count_is : t.count ≡ length k.got
  count_is = ap (λ x. x.count) k.table

  pub stop_refused : {r : Refusal} → read_next (places - t.count) (length s - length left) left ≡ Err r → handed_back (Err r) t ≡ read_set s
  unfolding read_set
  stop_refused h =
      let f = answer_tells (places - length k.got) (length s - length left) left (rw count_is at h) in
      rw (k.check, records_stop (length s - length left) left (places - length k.got) f.0 f.1)

  pub stop_end : read_next (places - t.count) (length s - length left) left ≡ Ok None → handed_back (Ok tt) t ≡ read_set s
  unfolding read_set
  stop_end h =
      let f = answer_tells (places - length k.got) (length s - length left) left (rw count_is at h) in
      rw (
        k.check,
        k.elements,
        records_end (length s - length left) left (places - length k.got) f,
        elements_end (places - length k.got) left f,
        append-nil,
        k.table,
      )

  module _ {e : Element} (h : read_next (places - t.count) (length s - length left) left ≡ Ok (Some e)) where
    found : IsElement left × (1 ≤ places - t.count) × (element_of left ≡ e)
    found = answer_tells (places - t.count) (length s - length left) left h

    pub room : t.count < places
    room = omega (arith, found.1)

    rest_is : rest_of left ≡ drop (record_size left) left
    rest_is = rest_element left found.0

    pub next : Reading s (with_next t e) (rest_of left)
    next = record {
      got = k.got ++ (e ∷ []);
      table = rw k.table (with_next_lem k.got e few);
      few = omega (arith, few, length-append k.got (e ∷ []));
      within = rw (rest_is, length-drop) (omega (arith, k.within));
      check =
          rw (k.check, fewer, records_next _ left _ found.0, rest_is, length-drop)
          (ap (λ n. check_records (places - length (k.got ++ (e ∷ []))) n (drop (record_size left) left)) (omega (arith, found.0.whole, k.within)));
      elements = rw (k.elements, fewer, elements_next _ left found.0, found.2, rest_is, append_assoc);
    }
      where
        few : length k.got < places
        few = omega (arith, room, count_is)

        fewer : places - length k.got ≡ suc (places - length (k.got ++ (e ∷ [])))
        fewer = omega (arith, few, length-append k.got (e ∷ []))

    pub less : length (rest_of left) < length left
    less = rw (rest_is, length-drop) (omega (arith, found.0.whole, some_size left))
