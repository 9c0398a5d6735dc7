-- What follows from what the code promises, the code promises. Assumes nothing.
use base.Logic.{emp}
use mir.Syntax.{Callee}
use prog.Wired.{Code}
use contract.Monad.{fact, fact_mono, fm→mono}
use contract.Lifetimes.{Lfts}
use denote.Triple.Entry.{Args, Res}
use denote.Triple.Clauses.{Ended, AtExit, at_exit}
use denote.Triple.Table.{run_framed}
use denote.Triple.Weaken.{weaken}
use Rattle.model.specs.Promises.{Saying, Promises}

pub promises_what_follows :
    {T : Ended} {code : Code} {name : Callee} {says so : Saying T} →
    ((κs : Lfts T.signature.lifetimes) (a : Args T.signature κs) (r : Res T.signature κs) (e : AtExit T κs) → says κs a r e → so κs a r e) →
    Promises T code name says → Promises T code name so
promises_what_follows {T} {code} {name} {says} {so} follows promised = record {
  met = λ M 𝓤 𝓛 𝓜 𝓡 wired.
      weaken 𝓛 T
      (λ κs a. record { ghost = Unit {0}; requires = λ _. emp 𝓤; ensures = λ _ r e. fact 𝓤 (says κs a r e) })
      (λ κs a _ r e. fact 𝓤 (so κs a r e))
      (λ κs a _ r ws. let e = at_exit T κs a ws in fact_mono 𝓤 (says κs a r e) (so κs a r e) (follows κs a r e))
      (𝓡.run (𝓡.env name))
      (λ vs. fm→mono 𝓤 (𝓡.run (𝓡.env name) vs) (run_framed 𝓤 𝓛.H 𝓜 𝓡 (𝓡.env name) vs))
      (promised.met M 𝓤 𝓛 𝓜 𝓡 wired);
}
