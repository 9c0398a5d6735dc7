use Rattle.std.proofs.Common.{arith}
use Rattle.std.proofs.lemmas.Grind.{common_steps}
use Rattle.places.proofs.LayingLaws.{laid_more}
use Rattle.places.proofs.dates.lay_rows.Goals as goal

pub loop-i-preserved : goal.loop-i-preserved
loop-i-preserved g c =
    rw (c.row_of.ensures, c.loop-i.invariant) (laid_more _ _ _ _ _ c.loop-i-test.true (grind (arith, common_steps)))
