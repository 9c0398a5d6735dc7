-- A lent buffer after something was put into it.
use Rattle.std.specs.Prelude.{ℕ, List, ◌++◌, length, drop}

-- these bytes at the start of a buffer; "bytes of its buffer past the end stay"
abbrev pub over : List ℕ → List ℕ → List ℕ
over s out = s ++ drop (length s) out
