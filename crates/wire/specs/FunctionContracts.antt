-- The contracts of this crate's public functions: what each says of what it was given and what it returns, r. That of `rest` is `IsRest`, that of a kind's `try_from` `IsKindOf`.
use Rattle.std.specs.Prelude.{ℕ, suc, ◌≡◌, List}
use Rattle.model.specs.declared.elements.Period.{Period}
use Rattle.model.specs.declared.elements.TaskSet.{TaskSet}
use Rattle.model.specs.Answers.{Check}
use Rattle.wire.specs.declared.kinds.Kind.{Kind}
use Rattle.wire.specs.Format.{byte_of, kind_for, body_size}
use Rattle.wire.specs.Reading.{Record, read_record, read_set}

abbrev pub ReadRecordSays : List ℕ → Record → Type 0
ReadRecordSays s r = r ≡ read_record s

-- and of the set that was lent, after the call
abbrev pub ReadSetSays : List ℕ → Check → TaskSet → Type 0
ReadSetSays s r after = (r ≡ (read_set s).check) × (after ≡ (read_set s).set)

-- of kinds
abbrev pub ByteSays : Kind → ℕ → Type 0
ByteSays kind r = r ≡ byte_of kind

abbrev pub RecordSizeSays : Kind → ℕ → Type 0
RecordSizeSays kind r = r ≡ suc (body_size (byte_of kind))

abbrev pub KindSays : Period → Kind → Type 0
KindSays period r = r ≡ kind_for period
