use Rattle.std.proofs.Common.{arith, ◌≡◌, ◌+◌, ◌-◌, ◌++◌}
use Rattle.wire.specs.Format.{number_bytes, start_of, record_of}
use Rattle.writer.proofs.WritingLaws.{over_next}
use Rattle.writer.proofs.writing.put_record.Goals as goal

pub returns-clause-put : goal.returns-clause-put
unfolding number_bytes record_of
returns-clause-put c =
    let e = c.args.e in
    let start = c.put_start-start.result in
    let three : start + 12 - start ≡ 12 = omega arith in
    rw (c.put_start-start.ensures.put, c.put_three.ensures)
    (over_next (start_of e.period) (number_bytes e.offset ++ number_bytes e.deadline ++ number_bytes e.cost) c.args.out.now c.put_start-start.ensures.size three)
