-- The contracts of the public functions: the code keeps each, and no two outcomes satisfy it, in the value or in the part of the caller's bytes. Assumes nothing.
use Prim.Native.Nat.{ℕ}
use mathlib.Core.Path.{◌≡◌, refl, sym, ◌∙◌}
use mathlib.Core.List.{List}
use denote.Ref.{Bor}
use Rattle.model.specs.Promises.{Promises}
use Rattle.model.specs.declared.elements.TaskSet.{TaskSet}
use Rattle.wire.specs.Reading.{Record, IsRest}
use Rattle.wire.specs.FunctionContracts.{ReadRecordSays, ReadSetSays, ByteSays, RecordSizeSays, KindSays}
use Rattle.wire.specs.contracts
use Rattle.wire.proofs.records
use Rattle.wire.proofs.reading
use Rattle.wire.proofs.kinds
use Rattle.std.specs.Prelude.{Result, Ok, Err}
use Rattle.model.specs.declared.elements.Period.{Period}
use Rattle.model.specs.Answers.{Check}
use Rattle.model.proofs.Cases.{clash}
use Rattle.wire.specs.declared.kinds.Kind.{Kind}
use Rattle.wire.specs.declared.kinds.Kind.TheVariants.{Periodic, Single}
use Rattle.wire.specs.declared.kinds.UnknownKind.{UnknownKind}
use Rattle.wire.specs.Format.{IsKindOf}
use native.Mathlib.Omega.{arith}

-- THE CODE KEEPS THEM
pub read_record_keeps :
    Promises contracts.records.read_record.ended records.read_record.Symbol.code records.read_record.Symbol.name
    (λ κs given r after. ReadRecordSays given.0.now r)
read_record_keeps = record { met = λ M. records.read_record.Met.met }

pub rest_keeps :
    Promises contracts.records.rest.ended records.rest.Symbol.code records.rest.Symbol.name (λ κs given r after. IsRest given.0 r)
rest_keeps = record { met = λ M. records.rest.Met.met }

pub read_set_keeps :
    Promises contracts.reading.read_into.ended reading.read_into.Symbol.code reading.read_into.Symbol.name
    (λ κs given r after. ReadSetSays given.0.now r after.1.0.now)
read_set_keeps = record { met = λ M. reading.read_into.Met.met }

pub try_from_keeps :
    Promises contracts.kinds.KindTryFromU8.try_from.ended kinds.KindTryFromU8.try_from.Symbol.code kinds.KindTryFromU8.try_from.Symbol.name
    (λ κs given r after. IsKindOf given.0 r)
try_from_keeps = record { met = λ M. kinds.KindTryFromU8.try_from.Met.met }

pub from_keeps :
    Promises contracts.kinds.KindFromPeriod.from.ended kinds.KindFromPeriod.from.Symbol.code kinds.KindFromPeriod.from.Symbol.name
    (λ κs given r after. KindSays given.0 r)
from_keeps = record { met = λ M. kinds.KindFromPeriod.from.Met.met }

pub byte_keeps :
    Promises contracts.kinds.U8FromKind.from.ended kinds.U8FromKind.from.Symbol.code kinds.U8FromKind.from.Symbol.name (λ κs given r after. ByteSays given.0 r)
byte_keeps = record { met = λ M. kinds.U8FromKind.from.Met.met }

pub record_size_keeps :
    Promises contracts.kinds.Kind.record_size.ended kinds.Kind.record_size.Symbol.code kinds.Kind.record_size.Symbol.name
    (λ κs given r after. RecordSizeSays given.0 r)
record_size_keeps = record { met = λ M. kinds.Kind.record_size.Met.met }

-- NO TWO OUTCOMES
pub record_is_decided : (s : List ℕ) (a b : Record) → ReadRecordSays s a → ReadRecordSays s b → a ≡ b
record_is_decided s a b p q = p ∙ sym q

pub rest_is_decided : (s a b : Bor (List ℕ)) → IsRest s a → IsRest s b → (a.now ≡ b.now) × (a.ref_ptr ≡ b.ref_ptr)
rest_is_decided s a b p q = (p.bytes ∙ sym q.bytes, p.part ∙ sym q.part)

pub read_is_decided :
    (s : List ℕ) (a b : Check) (t u : TaskSet) → ReadSetSays s a t → ReadSetSays s b u → (a ≡ b) × (t ≡ u)
read_is_decided s a b t u p q = (p.0 ∙ sym q.0, p.1 ∙ sym q.1)

pub kind_is_decided : (byte : ℕ) (a b : Result Kind UnknownKind) → IsKindOf byte a → IsKindOf byte b → a ≡ b
kind_is_decided byte (Ok Periodic) (Ok Periodic) p q = refl
kind_is_decided byte (Ok Single) (Ok Single) p q = refl
kind_is_decided byte (Ok Periodic) (Ok Single) p q = absurd (omega (arith, p.0, q.0))
kind_is_decided byte (Ok Single) (Ok Periodic) p q = absurd (omega (arith, p.0, q.0))
kind_is_decided byte (Ok x) (Err e) p q = absurd (clash p.1 q)
kind_is_decided byte (Err e) (Ok x) p q = absurd (clash q.1 p)
kind_is_decided byte (Err e) (Err f) p q = refl

pub kind_for_is_decided : (period : Period) (a b : Kind) → KindSays period a → KindSays period b → a ≡ b
kind_for_is_decided period a b p q = p ∙ sym q

pub byte_is_decided : (kind : Kind) (a b : ℕ) → ByteSays kind a → ByteSays kind b → a ≡ b
byte_is_decided kind a b p q = p ∙ sym q

pub record_size_is_decided : (kind : Kind) (a b : ℕ) → RecordSizeSays kind a → RecordSizeSays kind b → a ≡ b
record_size_is_decided kind a b p q = p ∙ sym q
