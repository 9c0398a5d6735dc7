-- What the exact test is to say: demand 2.
use Rattle.std.specs.Prelude.{ℕ, suc, ◌+◌, ◌*◌, ◌≤◌, ◌<◌, ◌≡◌, List}
use Rattle.model.specs.declared.elements.Element.{Element}
use Rattle.model.specs.Number.{how_many}
use Rattle.model.specs.Demand.{F, H, D, is_test}
use Rattle.model.specs.declared.answers.Values.{Values}

-- some length, at least 1 and of any size, has more demand than length
abbrev pub Overloaded : List Element → Type 0
Overloaded s = (I : ℕ) × (1 ≤ I) × (I < D s I)

-- I is the smallest such length
pub record IsSmallest (s : List Element) (I : ℕ) : Type 0 where
  pub positive : 1 ≤ I
  pub over : I < D s I
  pub none : (J : ℕ) → J < I → D s J ≤ J

-- what verdict 1 shows: that length, D there, and how many test lengths were compared up to it
pub record ShowsTheSmallest (s : List Element) (v : Values) : Type 0 where
  pub smallest : IsSmallest s v.interval
  pub demand : v.demand ≡ D s v.interval
  pub count : v.count ≡ how_many (is_test s) (suc v.interval)

-- what verdict 2 shows: the first overrun among F, F + H, F + 2H and so on, D there, and no count
pub record ShowsTheFirst (s : List Element) (v : Values) : Type 0 where
  pub verdict : v.verdict ≡ 2
  pub among : (j : ℕ) × (v.interval ≡ F s + j * H s)
  pub over : v.interval < D s v.interval
  pub first : (j : ℕ) → F s + j * H s < v.interval → D s (F s + j * H s) ≤ F s + j * H s
  pub demand : v.demand ≡ D s v.interval
  pub count : v.count ≡ 0
