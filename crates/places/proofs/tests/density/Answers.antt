use Rattle.std.proofs.Common.{arith}
use Rattle.model.proofs.ElementLaws.{legal_is}
use Rattle.places.proofs.tests.density.Goals as goal

pub nonzero_div-result : goal.nonzero_div-result
nonzero_div-result c = omega (arith, c.from-2.ensures, (legal_is c.args.e c.requires).deadline.0)
