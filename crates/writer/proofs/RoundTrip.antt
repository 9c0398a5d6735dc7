-- Reading a written set gives that set; writing a read set gives those bytes. Assumes nothing.
use Prim.Native.Nat.{ℕ, ◌≤◌}
use mathlib.Core.Path.{◌≡◌, sym, ap, ap₂, ◌∙◌}
use mathlib.Core.Bool.{true}
use mathlib.Core.List.{List, ◌++◌}
use native.Mathlib.Omega.{arith}
use lib.ListN.{length, take, drop, take-append-drop}
use Rattle.model.specs.declared.elements.TaskSet.{TaskSet}
use Rattle.model.specs.Elements.{places, is_legal_set, counted, set_of, Same}
use Rattle.model.proofs.ElementLaws.{legal_set, set_counted, counted_long}
use Rattle.std.specs.Prelude.{Ok}
use Rattle.wire.specs.Format.{AllBytes, records_of}
use Rattle.wire.specs.Reading.{ReadSet, handed_back, read_set}
use Rattle.wire.specs.FunctionContracts.{ReadSetSays}
use Rattle.writer.specs.Writing.{Written, bytes_of}
use Rattle.writer.specs.FunctionContracts.{WriteSetSays}
use Rattle.wire.proofs.ReaderIsDecided.{reads_set, read_is_records}
use Rattle.writer.proofs.WriterIsDecided.{set_is_written, bytes_are_written}

read_is : (s : List ℕ) (r : ReadSet) → ReadSetSays s r.check r.set → r ≡ read_set s
read_is s r says = λ i. record { check = says.0 i; set = says.1 i }

-- THEOREM: what was written is read as the same set, with fillers past its count
pub write_then_read :
    (t : TaskSet) (out : List ℕ) (a : Written) (after : List ℕ) (n : ℕ) (r : ReadSet) →
    length t.table ≡ places →
    WriteSetSays t out a after →
    a ≡ Ok n →
    ReadSetSays (take n after) r.check r.set →
    (r ≡ handed_back (Ok tt) (set_of (counted t))) × Same (set_of (counted t)) t
write_then_read t out a after n r long says h read =
    let legal = (legal_set t).0 ((set_is_written t (length out) n).0 (sym says.0 ∙ h)).0 in
    let bytes = (bytes_are_written t out a after says n h).0 in
    let few : length (counted t) ≤ places = omega (arith, counted_long t long legal.0, legal.0) in (
      read_is (take n after) r read ∙ reads_set (take n after) (counted t) (record { bytes = bytes; legal = legal.1; few = few }),
      record { counts = counted_long t long legal.0; elements = set_counted (counted t) },
    )

-- THEOREM: a set that was read is legal, and its bytes are those that were read
pub read_has_its_bytes :
    (s : List ℕ) →
    AllBytes s →
    (read_set s).check ≡ Ok tt →
    (is_legal_set (read_set s).set ≡ true) × (bytes_of (read_set s).set ≡ s)
read_has_its_bytes s h c =
    let k = read_is_records s h c in
    let es = k.0 in (
      rw k.2 ((legal_set (set_of es)).1 (k.1.few, rw (set_counted es) k.1.legal)),
      rw k.2 (ap records_of (set_counted es) ∙ sym k.1.bytes),
    )

-- THEOREM: what was read is written as exactly those bytes
pub read_then_write :
    (s : List ℕ) (r : ReadSet) (out : List ℕ) (a : Written) (after : List ℕ) →
    AllBytes s →
    ReadSetSays s r.check r.set →
    r.check ≡ Ok tt →
    length s ≤ length out →
    WriteSetSays r.set out a after →
    (a ≡ Ok (length s)) × (after ≡ s ++ drop (length s) out)
read_then_write s r out a after h read c long says =
    let its = read_has_its_bytes s h (sym read.0 ∙ c) in
    let legal : is_legal_set r.set ≡ true = rw read.1 its.0 in
    let bytes : bytes_of r.set ≡ s = rw read.1 its.1 in
    let written = says.0 ∙ (set_is_written r.set (length out) (length s)).1 (legal, ap length bytes, long) in
    let buffer = bytes_are_written r.set out a after says (length s) written in
    (written, sym (take-append-drop (length s) after) ∙ ap₂ ◌++◌ (buffer.0 ∙ bytes) buffer.1)
