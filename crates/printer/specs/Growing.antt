-- What the functions that let a text grow promise one another.
use Rattle.std.specs.Prelude.{ℕ, ◌≡◌, ◌≤◌, List, ◌++◌, length}

-- these bytes, no more than most, stand at the end of what was there
pub record Grows (most : ℕ) (bytes before after : List ℕ) : Type 0 where
  pub whole : after ≡ before ++ bytes
  pub short : length bytes ≤ most
