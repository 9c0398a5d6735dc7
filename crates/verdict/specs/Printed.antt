-- Document 01, "The verdict printer": what it prints.
use Rattle.std.specs.Prelude.{ℕ, List, take}
use Rattle.model.specs.Answers.{numbered}
use Rattle.printer.specs.Answered.{printed_of}
use Rattle.analysis.specs.InBytes.{exact_of_bytes, superposition_of_bytes}

-- what is printed for these bytes
unfoldable pub printed : List ℕ → List ℕ
printed b = printed_of (record {
  exact = numbered (exact_of_bytes b);
  one = numbered (superposition_of_bytes 1 b);
  two = numbered (superposition_of_bytes 2 b);
  hundred = numbered (superposition_of_bytes 100 b);
})

-- "It reads standard input, of which the first 4,096 bytes decide"
abbrev pub deciding : ℕ
deciding = 4096

unfoldable pub printed_for : List ℕ → List ℕ
printed_for input = printed (take deciding input)
