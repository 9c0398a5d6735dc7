use Rattle.std.proofs.Common.{arith, rules, ◌≡◌, length, sym, ap}
use Rattle.std.proofs.lemmas.Result.{err_from_is_err_and}
use Rattle.model.specs.Elements.{places, filler}
use Rattle.writer.proofs.WritingLaws.{needed_is, records_fit, write_refused, write_short, write_done}
use Rattle.writer.proofs.WritingASet.{putting_start, putting_end, putting_fits, putting_next}
use Rattle.writer.proofs.writing.write_set.Goals as goal

pub bytes_needed-needed-requires : goal.bytes_needed-needed-requires
bytes_needed-needed-requires c =
    let long : length c.args.set.table ≡ places = search rules in
    rw c.counted.ensures.holds (records_fit c.args.set long)

pub returns-in_err-check_set : goal.returns-in_err-check_set
returns-in_err-check_set c =
    let p = err_from_is_err_and c.from_residual.result c.from_residual.ensures.1 in
    rw (p.1, p.2) (write_refused _ _ (sym c.in_err-check_set.ensures))

pub returns-then-out-needed : goal.returns-then-out-needed
returns-then-out-needed c = write_short _ _ (sym c.in_ok-check_set.ensures) (needed_is _ c.counted.ensures.holds c.bytes_needed-needed.ensures) c.if-out-needed.true

pub loop-e-init : goal.loop-e-init
loop-e-init c = putting_start _ _

pub put_record-at-requires : goal.put_record-at-requires
put_record-at-requires c =
    putting_fits _ _ c.loop-e.invariant c.counted-e-items.ensures.holds filler c.loop-e-test.true
    (omega (arith, needed_is _ c.counted.ensures.holds c.bytes_needed-needed.ensures))

pub loop-e-preserved : goal.loop-e-preserved
loop-e-preserved c =
    putting_next _ _ c.loop-e.invariant c.counted-e-items.ensures.holds filler c.loop-e-test.true c.put_record-at.ensures.put c.put_record-at.ensures.size

pub returns : goal.returns
returns c =
    let needed = needed_is c.args.set c.counted.ensures.holds c.bytes_needed-needed.ensures in
    let end = putting_end _ _ c.loop-e.invariant (omega (arith, ap length c.counted-e-items.ensures.holds)) in
    write_done _ _ (sym c.in_ok-check_set.ensures) end.0 (omega (arith, needed, end.0)) end.1
