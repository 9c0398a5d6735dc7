use Rattle.std.specs.Fmt.{digits}
use Rattle.printer.specs.Answered.{lines}
use Rattle.printer.proofs.TextLaws.{grows_then}
use Rattle.printer.proofs.answers.push_verdicts.Goals as goal

pub returns : goal.returns
unfolding lines digits
returns c = grows_then (grows_then (grows_then c.push_verdict.ensures c.push_verdict-2.ensures) c.push_verdict-3.ensures) c.push_verdict-4.ensures
