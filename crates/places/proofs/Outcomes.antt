-- The contracts of the public functions: the code keeps them, and no two outcomes satisfy one. Assumes nothing.
use seplogic.Ra.Ura.{Ura}
use mathlib.Core.Path.{◌≡◌, sym, ◌∙◌}
use mathlib.Core.List.{List, [], ◌∷◌}
use mir.Syntax.{Dict, dnil, dcons, a_type}
use prog.Wired.{Wired}
use prog.Model.{Model}
use types.Logic.{Logic}
use base.Logic.{emp}
use contract.BorrowLft.{◌⊑◌}
use contract.Lifetimes.{lft_at}
use contract.Monad.{fact}
use contract.Notation.{connectives}
use contract.Running.{Running}
use denote.Param.{bounded}
use denote.Param.Glue
use denote.Param.Laws.{Laws, IsCopy}
use denote.Param.Members.{once}
use denote.RattleType.{RattleType}
use denote.Triple.Clauses.{closing}
use denote.Triple.Spec.{Meets}
use Rattle.std.specs.declared.clone.Clone
use Rattle.std.specs.contracts.clone.Clone.TheBound as CloneBound
use Rattle.model.specs.declared.elements.Element.{Element}
use Rattle.model.specs.Promises.{Promises}
use Rattle.places.specs.declared.dates.Place.{Place}
use Rattle.places.specs.declared.dates.RowOf
use Rattle.places.specs.Dates.{place_of, OneOf}
use Rattle.places.specs.FunctionContracts.{PlaceOfSays, LaySays}
use Rattle.places.specs.contracts
use Rattle.places.specs.contracts.dates.RowOf.TheBound as RowOfBound
use Rattle.places.specs.contracts.dates.lay.F-Fn as ByFn
use Rattle.places.specs.contracts.dates.lay.F-FnMut as ByFnMut
use Rattle.places.specs.contracts.dates.lay.F-FnOnce as ByFnOnce
use Rattle.places.proofs.dates

-- THE CODE KEEPS THEM
pub place_of_keeps : Promises contracts.dates.place_of.ended dates.place_of.Symbol.code dates.place_of.Symbol.name (λ κs given r after. PlaceOfSays given.0 r)
place_of_keeps = record { met = λ M. dates.place_of.Met.met }

-- `Promises` of `lay_rows`, of every type T with an `impl RowOf` that keeps its contract: besides that T and its rows live as long as they are lent, nothing is required
pub record LayRowsPromises : Type 2 where
  pub met :
      (M : Type 1) (𝓤 : Ura M) (𝓛 : Logic 𝓤) (𝓜 : Model 𝓤 𝓛.H) (𝓡 : Running 𝓤 𝓛.H 𝓜) →
      Wired 𝓡.env dates.lay_rows.Symbol.code →
      (T Row : RattleType) → Laws T → Laws Row → IsCopy Row →
      (row_of : RowOf.Ghosts T.Denot Row.Denot) (row_of_code : Dict) (clone : Clone.Ghosts Row.Denot) (clone_code : Dict) →
      RowOfBound.Met 𝓛 𝓜 𝓡 𝓡.env T Row row_of row_of_code clone clone_code →
      CloneBound.Met 𝓛 𝓜 𝓡 𝓡.env Row clone clone_code →
      let name = dates.lay_rows.Symbol.name (bounded (a_type ∷ a_type ∷ []) (T, (Row, tt)) (dcons row_of_code (dcons clone_code dnil))) in
      let both = (connectives 𝓤).◌∗◌ in
      Meets 𝓛 (contracts.dates.lay_rows.signature T Row) (𝓡.run (𝓡.env name)) (closing 𝓛 (contracts.dates.lay_rows.ended T Row row_of row_of_code clone clone_code) (λ κs given.
      record {
        ghost = Unit {0};
        requires = λ _. both (fact 𝓤 (lft_at 5 3 tt κs ⊑ T.lives)) (both (fact 𝓤 (lft_at 5 4 tt κs ⊑ Row.lives)) (emp 𝓤));
        ensures = λ _ r after. fact 𝓤 (LaySays (row_of.made given.1.1.0.now) given.0.now given.1.0.now after.1.0.now);
      }))

pub lay_rows_keeps : LayRowsPromises
lay_rows_keeps = record { met = λ M. dates.lay_rows.Met.met }

-- `Promises` of `lay`, of every type F that is called with an element and keeps its contract: besides that F and the rows live as long as they are lent, it is required that F takes each of these elements, and gives what `made` says
pub record LayPromises : Type 2 where
  pub met :
      (M : Type 1) (𝓤 : Ura M) (𝓛 : Logic 𝓤) (𝓜 : Model 𝓤 𝓛.H) (𝓡 : Running 𝓤 𝓛.H 𝓜) →
      Wired 𝓡.env dates.lay.Symbol.code →
      (R F : RattleType) → Laws R → Laws F → IsCopy R →
      (clone : Clone.Ghosts R.Denot) (clone_code : Dict) →
      (row_of : ByFn.Ghosts R F) (fn_code fn_mut_code fn_once_code destruct_code : Dict) →
      CloneBound.Met 𝓛 𝓜 𝓡 𝓡.env R clone clone_code →
      ByFn.Met 𝓛 𝓜 𝓡 𝓡.env R F row_of fn_code × ByFn.Lawful R F row_of →
      ByFnMut.Met 𝓛 𝓜 𝓡 𝓡.env R F row_of fn_mut_code × ByFnMut.Lawful R F row_of →
      ByFnOnce.Met 𝓛 𝓜 𝓡 𝓡.env R F (once row_of) fn_once_code →
      Glue.Met 𝓛 𝓜 𝓡 𝓡.env F destruct_code →
      let codes = dcons clone_code (dcons fn_code (dcons fn_mut_code (dcons fn_once_code (dcons destruct_code dnil)))) in
      let name = dates.lay.Symbol.name (bounded (a_type ∷ a_type ∷ []) (R, (F, tt)) codes) in
      let both = (connectives 𝓤).◌∗◌ in
      let call = ByFn.words R F row_of in
      Meets 𝓛 (contracts.dates.lay.signature R F) (𝓡.run (𝓡.env name)) (closing 𝓛 (contracts.dates.lay.ended R F clone clone_code row_of fn_code fn_mut_code fn_once_code destruct_code) (λ κs given.
      record {
        ghost = Element → R.Denot;
        requires = λ made.
            both (fact 𝓤 (lft_at 4 2 tt κs ⊑ R.lives))
            (both (fact 𝓤 (lft_at 4 3 tt κs ⊑ F.lives))
            (both (fact 𝓤 ((e : Element) → OneOf given.0.now e → call.pre given.1.1.0 e))
            (fact 𝓤 ((e : Element) (r : R.Denot) → call.post given.1.1.0 e r → r ≡ made e))));
        ensures = λ made r after. fact 𝓤 (LaySays made given.0.now given.1.0.now after.1.0.now);
      }))

pub lay_keeps : LayPromises
lay_keeps = record { met = λ M. dates.lay.Met.met }

pub lay_places_keeps : Promises contracts.dates.lay_places.ended dates.lay_places.Symbol.code dates.lay_places.Symbol.name (λ κs given r after. LaySays place_of given.0.now given.1.0.now after.1.0.now)
lay_places_keeps = record { met = λ M. dates.lay_places.Met.met }

-- NO TWO OUTCOMES
pub place_is_decided : (e : Element) (a b : Place) → PlaceOfSays e a → PlaceOfSays e b → a ≡ b
place_is_decided e a b p q = p ∙ sym q

pub columns_are_decided : {R : Type 0} (made : Element → R) (s : List Element) (rows a b : List R) → LaySays made s rows a → LaySays made s rows b → a ≡ b
columns_are_decided made s rows a b p q = p ∙ sym q
