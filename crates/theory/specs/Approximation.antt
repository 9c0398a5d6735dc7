-- What superposition with k is to say: demand 3.
use Rattle.std.specs.Prelude.{ℕ, suc, ◌+◌, ◌*◌, ◌≤◌, ◌<◌, ◌≡◌, true, List}
use Rattle.model.specs.declared.elements.Period.{Period}
use Rattle.model.specs.declared.elements.Period.TheVariants.{Once, Every}
use Rattle.model.specs.declared.elements.Element.{Element}
use Rattle.model.specs.Number.{how_many}
use Rattle.model.specs.Over.{sum_over}
use Rattle.model.specs.Demand.{H, D}
use Rattle.model.specs.declared.answers.Values.{Values}
use Rattle.model.specs.Superposition.{HD', is_visited}

-- "k for each periodic element and one for each single event"
abbrev pub lengths_of : ℕ → Period → ℕ
lengths_of k Once = 1
lengths_of k (Every p) = k

unfoldable pub budget : ℕ → List Element → ℕ
budget k s = sum_over s (λ e. lengths_of k e.period)

module _ (k : ℕ) (s : List Element) where
  -- exact demand there, times k + 1, is more than k times the length
  abbrev pub NearOverrun : ℕ → Type 0
  NearOverrun I = k * I < (k + 1) * D s I

  -- verdict 3: the first visited length with D'(I) > I, with D(I), and the count of visited lengths up to it
  pub record HoldsBack (v : Values) : Type 0 where
    pub verdict : v.verdict ≡ 3
    pub visited : is_visited k s v.interval ≡ true
    pub above : H s * v.interval < HD' k s v.interval
    pub before : (I : ℕ) → I < v.interval → is_visited k s I ≡ true → HD' k s I ≤ H s * I
    pub demand : v.demand ≡ D s v.interval
    pub count : v.count ≡ how_many (is_visited k s) (suc v.interval)

  -- verdict 0: at no visited length D'(I) > I, and the count of all visited lengths, however far one looks for them
  pub record Accepts (v : Values) : Type 0 where
    pub verdict : v.verdict ≡ 0
    pub interval : v.interval ≡ 0
    pub demand : v.demand ≡ 0
    pub holds : (I : ℕ) → is_visited k s I ≡ true → HD' k s I ≤ H s * I
    pub count : (n : ℕ) → ((I : ℕ) → is_visited k s I ≡ true → I < n) → v.count ≡ how_many (is_visited k s) n
