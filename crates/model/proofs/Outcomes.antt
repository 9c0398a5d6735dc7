-- The contracts of the public functions: the code keeps each, and no two outcomes satisfy it; and a verdict's values tell its case. Assumes nothing.
use Prim.Native.Nat.{ℕ, zero, suc}
use mathlib.Core.List.{List}
use Rattle.std.specs.Borrow.{Bor}
use Rattle.std.specs.Prelude.{Result, Ok, Err}
use mathlib.Core.Path.{◌≡◌, refl, ap, sym, ◌∙◌}
use Rattle.model.specs.declared.elements.Element.{Element}
use Rattle.model.specs.declared.elements.TaskSet.{TaskSet}
use Rattle.model.specs.declared.legal.LegalSet.{LegalSet}
use Rattle.model.specs.declared.answers.Reason.{Reason}
use Rattle.model.specs.declared.answers.Refusal.{Refusal}
use Rattle.model.specs.declared.answers.Told.{Told}
use Rattle.model.specs.declared.answers.Verdict.{Verdict}
use Rattle.model.specs.declared.answers.Verdict.TheVariants.{Passes, Overrun, LoadAboveOne, NotShown}
use Rattle.model.specs.declared.answers.Values.{Values}
use Rattle.model.specs.declared.answers.Numbers.{Numbers}
use Rattle.model.specs.Answers.{Check, Answer, values}
use Rattle.model.specs.FunctionContracts.{EmptySetSays, FirstDueSays, CheckElementSays, CheckSetSays, CheckKSays, ValuesOfSays, CountedSays, LegalSetSays, NumberOfSays, ToldSays, NumbersOfSays}
use Rattle.model.specs.Promises.{Promises}
use Rattle.model.specs.contracts
use Rattle.model.proofs.TurnedAwayLaws.{turned_is_not_fine}
use Rattle.model.proofs.elements
use Rattle.model.proofs.checks
use Rattle.model.proofs.legal
use Rattle.model.proofs.answers

-- THE CODE KEEPS THEM: what the checker proved of each function is its contract
pub empty_set_keeps : Promises contracts.elements.empty_set.ended elements.empty_set.Symbol.code elements.empty_set.Symbol.name (λ κs given r after. EmptySetSays r)
empty_set_keeps = record { met = λ M. elements.empty_set.Met.met }

pub first_due_keeps : Promises contracts.elements.first_due.ended elements.first_due.Symbol.code elements.first_due.Symbol.name (λ κs given r after. FirstDueSays given.0 r)
first_due_keeps = record { met = λ M. elements.first_due.Met.met }

pub check_element_keeps : Promises contracts.checks.check_element.ended checks.check_element.Symbol.code checks.check_element.Symbol.name (λ κs given r after. CheckElementSays given.0 given.1.0 r)
check_element_keeps = record { met = λ M. checks.check_element.Met.met }

pub legal_set_keeps : Promises contracts.legal.LegalSet.of.ended legal.LegalSet.of.Symbol.code legal.LegalSet.of.Symbol.name (λ κs given r after. LegalSetSays given.0 r)
legal_set_keeps = record { met = λ M. legal.LegalSet.of.Met.met }

pub check_set_keeps : Promises contracts.checks.check_set.ended checks.check_set.Symbol.code checks.check_set.Symbol.name (λ κs given r after. CheckSetSays given.0 r)
check_set_keeps = record { met = λ M. checks.check_set.Met.met }

pub check_k_keeps : Promises contracts.checks.check_k.ended checks.check_k.Symbol.code checks.check_k.Symbol.name (λ κs given r after. CheckKSays given.0 r)
check_k_keeps = record { met = λ M. checks.check_k.Met.met }

pub counted_keeps : Promises contracts.elements.TaskSet.counted.ended elements.TaskSet.counted.Symbol.code elements.TaskSet.counted.Symbol.name (λ κs given r after. CountedSays given.0 r)
counted_keeps = record { met = λ M. elements.TaskSet.counted.Met.met }

pub number_of_keeps : Promises contracts.answers.U32FromReason.from.ended answers.U32FromReason.from.Symbol.code answers.U32FromReason.from.Symbol.name (λ κs given r after. NumberOfSays given.0 r)
number_of_keeps = record { met = λ M. answers.U32FromReason.from.Met.met }

pub told_keeps : Promises contracts.answers.ToldFromRefusal.from.ended answers.ToldFromRefusal.from.Symbol.code answers.ToldFromRefusal.from.Symbol.name (λ κs given r after. ToldSays given.0 r)
told_keeps = record { met = λ M. answers.ToldFromRefusal.from.Met.met }

pub values_of_keeps : Promises contracts.answers.ValuesFromVerdict.from.ended answers.ValuesFromVerdict.from.Symbol.code answers.ValuesFromVerdict.from.Symbol.name (λ κs given r after. ValuesOfSays given.0 r)
values_of_keeps = record { met = λ M. answers.ValuesFromVerdict.from.Met.met }

pub numbers_of_keeps : Promises contracts.answers.NumbersFromResultVerdictRefusal.from.ended answers.NumbersFromResultVerdictRefusal.from.Symbol.code answers.NumbersFromResultVerdictRefusal.from.Symbol.name (λ κs given r after. NumbersOfSays given.0 r)
numbers_of_keeps = record { met = λ M. answers.NumbersFromResultVerdictRefusal.from.Met.met }

-- NO TWO OUTCOMES; of what is borrowed, no two that hold something else or lie somewhere else
pub empty_set_is_decided : (a b : TaskSet) → EmptySetSays a → EmptySetSays b → a ≡ b
empty_set_is_decided a b p q = p ∙ sym q

pub first_due_is_decided : (e : Element) (a b : ℕ) → FirstDueSays e a → FirstDueSays e b → a ≡ b
first_due_is_decided e a b p q = p ∙ sym q

pub element_check_is_decided : (place : ℕ) (e : Element) (a b : Check) → CheckElementSays place e a → CheckElementSays place e b → a ≡ b
element_check_is_decided place e a b p q = p ∙ sym q

-- what the slice of a legal set holds and where it lies, or the refusal
abbrev held : Result LegalSet Refusal → Result (List Element × (ℕ × ℕ)) Refusal
held (Ok s) = Ok (s.elements.now, s.elements.ref_ptr)
held (Err r) = Err r

pub legal_set_is_decided : (t : Bor TaskSet) (a b : Result LegalSet Refusal) → LegalSetSays t a → LegalSetSays t b → held a ≡ held b
legal_set_is_decided t (Ok x) (Ok y) p q = rw (p.1.holds, p.1.part, q.1.holds, q.1.part) refl
legal_set_is_decided t (Ok x) (Err r) p q = absurd (turned_is_not_fine (sym q ∙ p.0))
legal_set_is_decided t (Err r) (Ok y) p q = absurd (turned_is_not_fine (sym p ∙ q.0))
legal_set_is_decided t (Err r) (Err v) p q = let same : ◌≡◌ {A = Check} (Err r) (Err v) = sym p ∙ q in ap Err cc

pub set_check_is_decided : (t : TaskSet) (a b : Check) → CheckSetSays t a → CheckSetSays t b → a ≡ b
set_check_is_decided t a b p q = p ∙ sym q

pub k_check_is_decided : (k : ℕ) (a b : Check) → CheckKSays k a → CheckKSays k b → a ≡ b
k_check_is_decided k a b p q = p ∙ sym q

pub counted_is_decided : (t : Bor TaskSet) (a b : Bor (List Element)) → CountedSays t a → CountedSays t b → (a.now ≡ b.now) × (a.ref_ptr ≡ b.ref_ptr)
counted_is_decided t a b p q = (p.holds ∙ sym q.holds, p.part ∙ sym q.part)

pub number_is_decided : (reason : Reason) (a b : ℕ) → NumberOfSays reason a → NumberOfSays reason b → a ≡ b
number_is_decided reason a b p q = p ∙ sym q

pub told_is_decided : (refusal : Refusal) (a b : Told) → ToldSays refusal a → ToldSays refusal b → a ≡ b
told_is_decided refusal a b p q = p ∙ sym q

pub numbers_are_decided : (answer : Answer) (a b : Numbers) → NumbersOfSays answer a → NumbersOfSays answer b → a ≡ b
numbers_are_decided answer a b p q = p ∙ sym q

pub values_are_decided : (v : Verdict) (a b : Values) → ValuesOfSays v a → ValuesOfSays v b → a ≡ b
values_are_decided v a b p q = p ∙ sym q

-- WHAT THE VALUES TELL
-- the verdict that has these values
verdict_of : ℕ → ℕ → ℕ → ℕ → Verdict
verdict_of zero i d n = Passes n
verdict_of (suc zero) i d n = Overrun i d n
verdict_of (suc (suc zero)) i d n = LoadAboveOne i d
verdict_of (suc (suc (suc x))) i d n = NotShown i d n

back : (v : Verdict) → verdict_of (values v).verdict (values v).interval (values v).demand (values v).count ≡ v
unfolding verdict_of
back (Passes n) = refl
back (Overrun i d n) = refl
back (LoadAboveOne i d) = refl
back (NotShown i d n) = refl

pub values_decide : (v w : Verdict) → values v ≡ values w → v ≡ w
values_decide v w h = sym (back v) ∙ ap (λ x. verdict_of x.verdict x.interval x.demand x.count) h ∙ back w
