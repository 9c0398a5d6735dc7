use Rattle.std.proofs.Common.{arith}
use Rattle.capi.proofs.CallLaws.{too_few, answered}
use Rattle.capi.proofs.calls.simaurkoi_exact.Goals as goal

pub returns-then-answer-lt-ANSWER_PLACES : goal.returns-then-answer-lt-ANSWER_PLACES
returns-then-answer-lt-ANSWER_PLACES c = rw c.too_few_places.ensures (too_few _ _ (omega (arith, c.if-answer-lt-ANSWER_PLACES.true)))

pub returns : goal.returns
returns c = answered _ _ c.if-answer-lt-ANSWER_PLACES.false (rw (c.from.ensures, c.exact_of_bytes.ensures) at c.put_numbers.ensures)
