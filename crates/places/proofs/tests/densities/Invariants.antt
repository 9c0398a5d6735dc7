use Rattle.std.proofs.Common.{◌*◌, ◌/◌}
use Rattle.places.proofs.tests.densities.Given as goal

abbrev pub ghost-lay : goal.ghost-lay
ghost-lay a = λ e. 1000 * e.cost / e.deadline
