use Rattle.std.proofs.Common.{refl}
use Rattle.wire.proofs.ReadingLaws.{part_is_rest}
use Rattle.wire.proofs.records.rest.Goals as goal

pub returns : goal.returns
returns c = part_is_rest _ _ c.bytes_taken-taken.ensures refl refl
