-- Document 01, "The set as bytes": numbers, kinds and records.
use Rattle.std.specs.Prelude.{ℕ, suc, ◌+◌, ◌*◌, ◌/◌, ◌%◌, ◌<◌, Bool, cond, ◌||◌, List, [], ◌∷◌, ◌++◌, eqb, get_or, ◌≡◌, true, false, Result, MatchResult}
use Rattle.model.specs.declared.elements.Period.{Period}
use Rattle.model.specs.declared.elements.Period.TheVariants.{Once, Every}
use Rattle.model.specs.declared.elements.Element.{Element}
use Rattle.model.specs.Over.{Each}
use Rattle.wire.specs.declared.kinds.Kind.{Kind}
use Rattle.wire.specs.declared.kinds.Kind.TheVariants.{Periodic, Single}
use Rattle.wire.specs.declared.kinds.UnknownKind.{UnknownKind}

-- what a slice of bytes holds: every one of these numbers is a byte
abbrev pub AllBytes : List ℕ → Type 0
AllBytes s = Each s (λ b. b < 256)

-- "Numbers are 32 bits, least significant byte first."
unfoldable pub number_bytes : ℕ → List ℕ
number_bytes x = x % 256 ∷ x / 256 % 256 ∷ x / 65536 % 256 ∷ x / 16777216 % 256 ∷ []

-- the number whose four bytes start at i
abbrev pub number_at : List ℕ → ℕ → ℕ
number_at s i = get_or s i 0 + get_or s (i + 1) 0 * 256 + get_or s (i + 2) 0 * 65536 + get_or s (i + 3) 0 * 16777216

-- "Kind 01: period, offset, deadline, cost. [..] Kind 02: offset, deadline, cost."
abbrev pub byte_of : Kind → ℕ
byte_of Periodic = 1
byte_of Single = 2

-- the kind that an element with this period is written with
abbrev pub kind_for : Period → Kind
kind_for Once = Single
kind_for (Every p) = Periodic

-- the period, if this is the number behind the kind
abbrev pub period_for : Kind → ℕ → Period
period_for Periodic p = Every p
period_for Single x = Once

-- "One byte of kind, then a body whose length the kind fixes."
abbrev pub kind_of : List ℕ → ℕ
kind_of s = get_or s 0 0

unfoldable pub is_kind : ℕ → Bool
is_kind byte = eqb byte (byte_of Periodic) || eqb byte (byte_of Single)

-- the kind with this byte, or none where no kind has it
abbrev pub IsKindOf : ℕ → Result Kind UnknownKind → Type 0
IsKindOf byte r = MatchResult r (λ kind. (byte_of kind ≡ byte) × (is_kind byte ≡ true)) (λ e. is_kind byte ≡ false)

-- "Kind 01: [..] Body 16 bytes. Kind 02: [..] Body 12 bytes."
unfoldable pub body_size : ℕ → ℕ
body_size byte = cond (eqb byte (byte_of Periodic)) 16 (cond (eqb byte (byte_of Single)) 12 0)

-- how many bytes the record has that starts here
unfoldable pub record_size : List ℕ → ℕ
record_size s = suc (body_size (kind_of s))

-- "offset, deadline, cost", from i on
abbrev pub element_from : List ℕ → Period → ℕ → Element
element_from s q i = record { period = q; offset = number_at s i; deadline = number_at s (i + 4); cost = number_at s (i + 8) }

-- the element of the record that starts here, of either kind
unfoldable pub element_of : List ℕ → Element
element_of s = cond (eqb (kind_of s) (byte_of Periodic)) (element_from s (Every (number_at s 1)) 5) (element_from s Once 1)

-- the same as it is written: the kind, and the period where there is one; then the others
unfoldable pub start_of : Period → List ℕ
start_of Once = byte_of Single ∷ []
start_of (Every p) = byte_of Periodic ∷ number_bytes p

unfoldable pub record_of : Element → List ℕ
record_of e = start_of e.period ++ (number_bytes e.offset ++ number_bytes e.deadline ++ number_bytes e.cost)

-- "Records follow one another to the end of the input."
unfoldable pub records_of : List Element → List ℕ
records_of [] = []
records_of (e ∷ s) = record_of e ++ records_of s
