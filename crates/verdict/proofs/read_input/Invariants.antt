use Rattle.std.proofs.Common.{length, ◌-◌, ◌≤◌}
use Rattle.verdict.proofs.read_input.Given as goal

abbrev pub invariant-loop-n : goal.invariant-loop-n
invariant-loop-n g l = l.n ≤ length l.input

abbrev pub decreases-loop-n : goal.decreases-loop-n
decreases-loop-n g l = length l.initial.input - l.n
