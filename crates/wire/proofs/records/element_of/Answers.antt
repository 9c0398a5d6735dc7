use Rattle.std.proofs.Common.{sym}
use Rattle.wire.proofs.FormatLaws.{element_is}
use Rattle.wire.proofs.records.element_of.Goals as goal

pub returns : goal.returns
returns c =
    rw (
      c.number_at-cost.ensures,
      c.number_at-deadline.ensures,
      c.number_at-offset.ensures,
      c.record_size-at.ensures,
      c.period_of-period.ensures,
      c.number_at-first.ensures,
    )
    (sym (element_is _ c.args.kind c.requires.kind))
