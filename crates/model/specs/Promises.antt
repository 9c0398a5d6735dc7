-- What the checker proves of a function's code, as a word that a theorem can take: for every argument the code ends, and something holds of what it
-- was given, of what it returns, and of what it was lent when it returns.
use seplogic.Ra.Ura.{Ura}
use base.Logic.{emp}
use mir.Syntax.{Callee}
use prog.Wired.{Code, Wired}
use prog.Model.{Model}
use types.Logic.{Logic}
use contract.Monad.{fact}
use contract.Lifetimes.{Lfts}
use contract.Running.{Running}
use denote.Triple.Entry.{Args, Res}
use denote.Triple.Clauses.{Ended, AtExit, closing}
use denote.Triple.Spec.{Meets}

-- what is said of one call: of the arguments, the result, and the parameters at exit
abbrev pub Saying : Ended → Type 1
Saying T = (κs : Lfts T.signature.lifetimes) → Args T.signature κs → Res T.signature κs → AtExit T κs → Type 0

-- the code, under its name in any program that has it, called with any arguments, ends, and this holds: it meets the contract that requires nothing
-- and ensures it
pub record Promises (T : Ended) (code : Code) (name : Callee) (says : Saying T) : Type 2 where
  pub met :
      (M : Type 1) (𝓤 : Ura M) (𝓛 : Logic 𝓤) (𝓜 : Model 𝓤 𝓛.H) (𝓡 : Running 𝓤 𝓛.H 𝓜) →
      Wired 𝓡.env code →
      Meets 𝓛 T.signature (𝓡.run (𝓡.env name)) (closing 𝓛 T (λ κs a.
      record { ghost = Unit {0}; requires = λ _. emp 𝓤; ensures = λ _ r e. fact 𝓤 (says κs a r e) }))
