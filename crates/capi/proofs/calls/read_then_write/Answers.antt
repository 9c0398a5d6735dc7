use Rattle.capi.proofs.CallLaws.{written_all_the_same}
use Rattle.capi.proofs.calls.read_then_write.Goals as goal

pub returns : goal.returns
returns c =
    let read = c.read_into-check.ensures in
    let written = rw read.1 at c.write_set-done.ensures in
    rw (c.and.ensures, read.0) (written_all_the_same _ _ written.0 written.1)
