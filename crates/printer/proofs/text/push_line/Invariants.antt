use Rattle.std.proofs.Common.{◌+◌, ◌*◌, ◌++◌, length, take}
use Rattle.std.specs.List.{flat_map}
use Rattle.printer.specs.Text.{field}
use Rattle.printer.specs.Growing.{Grows}
use Rattle.printer.proofs.text.push_line.Given as goal

abbrev pub invariant-loop-n : goal.invariant-loop-n
invariant-loop-n l =
    Grows (length l.name + 21 * l.n-index) (l.name ++ flat_map field (take l.n-index l.numbers)) l.fn.text.bytes l.text.bytes
