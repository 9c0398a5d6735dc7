use Rattle.model.specs.ExactTest.{exact}
use Rattle.analysis.proofs.bytes.exact_of_bytes.Given as goal

abbrev pub ghost-of_bytes : goal.ghost-of_bytes
ghost-of_bytes a = exact
