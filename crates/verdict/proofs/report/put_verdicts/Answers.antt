use Rattle.verdict.specs.Printed.{printed}
use Rattle.verdict.proofs.PrintedLaws.{numbered_is}
use Rattle.verdict.proofs.report.put_verdicts.Goals as goal

pub returns : goal.returns
unfolding printed
returns c =
    let exact = numbered_is _ c.map_err.ensures.cases c.exact_of_bytes.ensures in
    let one = numbered_is _ c.map_err-2.ensures.cases c.superposition_of_bytes.ensures in
    let two = numbered_is _ c.map_err-3.ensures.cases c.superposition_of_bytes-2.ensures in
    let hundred = numbered_is _ c.map_err-4.ensures.cases c.superposition_of_bytes-3.ensures in
    let put = rw (exact, one, two, hundred) at c.put_answers.ensures in
    (put.0, put.1)
