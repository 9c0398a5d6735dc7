use Rattle.std.proofs.Common.{arith}
use Rattle.printer.proofs.TextLaws.{ends_line}
use Rattle.printer.proofs.text.push_line.Goals as goal

pub returns : goal.returns
returns c =
    ends_line c.args.name.now c.args.numbers.now (omega (arith, c.loop-n-test.false, c.loop-n.auto.n-index-end)) c.loop-n.invariant c.push_str-2.ensures.bytes
