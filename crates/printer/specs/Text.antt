-- Document 01, "The verdict printer": the bytes of its lines, in ASCII.
use Rattle.std.specs.Prelude.{ℕ, List, [], ◌∷◌, ◌++◌, flat_map, codes}
use Rattle.std.specs.Fmt.{decimal}
use Rattle.model.specs.declared.answers.Told.{Told}
use Rattle.model.specs.declared.answers.Verdict.{Verdict}
use Rattle.model.specs.Answers.{values}

-- a number after a blank
abbrev pub field : ℕ → List ℕ
field n = 32 ∷ decimal n

abbrev pub newline : List ℕ
newline = 10 ∷ []

-- a name and numbers
unfoldable pub line : List ℕ → List ℕ → List ℕ
line name numbers = name ++ flat_map field numbers ++ newline

-- k= and the number
abbrev pub k_name : ℕ → List ℕ
k_name k = codes "k=" ++ decimal k

-- "name, verdict, interval, demand, count"
abbrev pub verdict_line : List ℕ → Verdict → List ℕ
verdict_line name verdict =
    let v = values verdict in
    line name (v.verdict ∷ v.interval ∷ v.demand ∷ v.count ∷ [])

-- ""refused", number, place"
abbrev pub refused_line : Told → List ℕ
refused_line r = line (codes "refused") (r.refusal ∷ r.place ∷ [])
