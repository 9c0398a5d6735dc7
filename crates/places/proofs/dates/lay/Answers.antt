use Rattle.std.proofs.Common.{arith}
use Rattle.std.proofs.lemmas.Grind.{common_steps}
use Rattle.places.proofs.LayingLaws.{one_at, laid_more}
use Rattle.places.proofs.dates.lay.Goals as goal

pub loop-i-preserved : goal.loop-i-preserved
loop-i-preserved g c =
    let made = c.requires.1.1.1 _ _ c.row_of.ensures in
    rw (made, c.loop-i.invariant) (laid_more _ _ _ _ _ c.loop-i-test.true (grind (arith, common_steps)))

pub row_of-requires : goal.row_of-requires
row_of-requires g c = c.requires.1.1.0 _ (one_at c.args.elements.now c.min-n.result c.loop-i.i _ c.loop-i-test.true)
