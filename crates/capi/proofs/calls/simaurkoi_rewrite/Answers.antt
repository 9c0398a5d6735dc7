use Rattle.std.proofs.Common.{arith}
use Rattle.capi.proofs.CallLaws.{too_few, answered, out_kept, out_rewritten}
use Rattle.capi.proofs.calls.simaurkoi_rewrite.Goals as goal

pub returns-then-answer-lt-ANSWER_PLACES : goal.returns-then-answer-lt-ANSWER_PLACES
returns-then-answer-lt-ANSWER_PLACES c =
    let few = c.if-answer-lt-ANSWER_PLACES.true in
    (rw c.too_few_places.ensures (too_few _ _ (omega (arith, few))), out_kept _ _ _ few)

pub returns : goal.returns
returns c =
    let enough = c.if-answer-lt-ANSWER_PLACES.false in
    let done = c.read_then_write.ensures in (
      answered _ _ enough (rw (c.rewrite_numbers.ensures, done.0) at c.put_numbers.ensures),
      out_rewritten _ _ _ enough done.1,
    )
