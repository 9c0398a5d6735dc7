-- The contracts of this crate's public functions: what each says of what it was given and what it returns, r.
use Rattle.std.specs.Prelude.{ℕ, ◌+◌, ◌≡◌, List, Result, Ok, Err, MatchResult}
use Rattle.std.specs.Borrow.{Bor}
use Rattle.model.specs.declared.elements.Element.{Element}
use Rattle.model.specs.declared.elements.TaskSet.{TaskSet}
use Rattle.model.specs.declared.legal.LegalSet.{LegalSet}
use Rattle.model.specs.declared.answers.Reason.{Reason}
use Rattle.model.specs.declared.answers.Refusal.{Refusal}
use Rattle.model.specs.declared.answers.Told.{Told}
use Rattle.model.specs.declared.answers.Verdict.{Verdict}
use Rattle.model.specs.declared.answers.Values.{Values}
use Rattle.model.specs.declared.answers.Numbers.{Numbers}
use Rattle.model.specs.Elements.{empty_set, counted}
use Rattle.model.specs.Demand.{f}
use Rattle.model.specs.Answers.{Check, Answer, number_of, told_of, values, numbers}
use Rattle.model.specs.TurnedAway.{check_element, check_set, check_k}

abbrev pub EmptySetSays : TaskSet → Type 0
EmptySetSays r = r ≡ empty_set

abbrev pub FirstDueSays : Element → ℕ → Type 0
FirstDueSays e r = r ≡ f e

-- where a set's table begins in it: behind the count, of 8 bytes
abbrev table_at : ℕ
table_at = 8

-- of the counted places, as that very part of the set and not a copy: what it holds, and where it lies
pub record CountedSays (t : Bor TaskSet) (r : Bor (List Element)) : Type 0 where
  pub holds : r.now ≡ counted t.now
  pub part : r.ref_ptr ≡ (t.ref_ptr.0, table_at + t.ref_ptr.1)

abbrev pub CheckElementSays : ℕ → Element → Check → Type 0
CheckElementSays place e r = r ≡ check_element place e

-- the elements of a set that is fine, as a slice; or the refusal
abbrev pub LegalSetSays : Bor TaskSet → Result LegalSet Refusal → Type 0
LegalSetSays t r = MatchResult r (λ s. (check_set t.now ≡ Ok tt) × CountedSays t s.elements) (λ q. check_set t.now ≡ Err q)

abbrev pub CheckSetSays : TaskSet → Check → Type 0
CheckSetSays t r = r ≡ check_set t

abbrev pub CheckKSays : ℕ → Check → Type 0
CheckKSays k r = r ≡ check_k k

abbrev pub ValuesOfSays : Verdict → Values → Type 0
ValuesOfSays v r = r ≡ values v

abbrev pub NumberOfSays : Reason → ℕ → Type 0
NumberOfSays reason r = r ≡ number_of reason

abbrev pub ToldSays : Refusal → Told → Type 0
ToldSays refusal r = r ≡ told_of refusal

abbrev pub NumbersOfSays : Answer → Numbers → Type 0
NumbersOfSays a r = r ≡ numbers a
