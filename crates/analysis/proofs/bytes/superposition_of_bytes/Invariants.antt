use Rattle.model.specs.Superposition.{superposition}
use Rattle.analysis.proofs.bytes.superposition_of_bytes.Given as goal

abbrev pub ghost-of_bytes : goal.ghost-of_bytes
ghost-of_bytes a = superposition a.test.0
