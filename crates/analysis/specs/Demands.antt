-- THE THREE DEMANDS as words: what each says of an input and of what an entry point answers. They speak of a set in memory and of a set as bytes alike.
use Rattle.std.specs.Prelude.{ℕ, suc, ◌+◌, ◌≤◌, ◌<◌, ◌≡◌, true, List, ◌⊎◌, ◌↔◌, length, take, Ok, Err}
use Rattle.model.specs.declared.elements.Element.{Element}
use Rattle.model.specs.declared.elements.TaskSet.{TaskSet}
use Rattle.model.specs.declared.answers.Reason.{Reason}
use Rattle.model.specs.declared.answers.Reason.TheVariants.{HyperperiodAboveLimit, KOutOfRange}
use Rattle.model.specs.declared.answers.Verdict.{Verdict}
use Rattle.model.specs.declared.answers.Verdict.TheVariants.{Passes}
use Rattle.model.specs.Number.{how_many}
use Rattle.model.specs.Elements.{places, most_h, most_k, counted, is_legal_set}
use Rattle.model.specs.Demand.{F, H, D, Q, is_test}
use Rattle.model.specs.Answers.{values, Answer, number_of}
use Rattle.model.specs.ExactTest.{exact}
use Rattle.model.specs.Superposition.{superposition}
use Rattle.model.specs.Rows.{IsTurnedAway}
use Rattle.theory.specs.Exactness.{Overloaded, ShowsTheSmallest, ShowsTheFirst}
use Rattle.theory.specs.Approximation.{budget, NearOverrun, HoldsBack, Accepts}
use Rattle.wire.specs.Format.{AllBytes}
use Rattle.wire.specs.Reading.{elements_in}
use Rattle.wire.specs.Outcomes.{AreRecords, AreRefused}
use Rattle.exact_test.specs.FunctionContracts.{ExactSays}
use Rattle.superposition_test.specs.FunctionContracts.{SuperpositionSays}
use Rattle.analysis.specs.InBytes.{kind_byte}
use Rattle.analysis.specs.FunctionContracts.{ExactOfBytesSays, SuperpositionOfBytesSays}

-- AN INPUT, as an entry point is given it
pub data Input : Type 0 where
  in_memory : TaskSet → Input
  as_bytes : List ℕ → Input

-- its elements
abbrev pub elements : Input → List Element
elements (in_memory t) = counted t
elements (as_bytes b) = elements_in places b

-- where the element with this number stands: its table place, or its kind byte
abbrev pub place_in : Input → ℕ → ℕ
place_in (in_memory t) i = i
place_in (as_bytes b) i = kind_byte b i

-- bytes are below 256; as a slice of `u8` has them
abbrev pub IsInput : Input → Type 0
IsInput (in_memory t) = Unit {0}
IsInput (as_bytes b) = AllBytes b

-- WHAT THE ENTRY POINTS SAY of an input and an answer: their contracts
abbrev pub ExactSaysOf : Input → Answer → Type 0
ExactSaysOf (in_memory t) a = ExactSays t a
ExactSaysOf (as_bytes b) a = ExactOfBytesSays b a

abbrev pub SuperpositionSaysOf : Input → ℕ → Answer → Type 0
SuperpositionSaysOf (in_memory t) k a = SuperpositionSays t k a
SuperpositionSaysOf (as_bytes b) k a = SuperpositionOfBytesSays b k a

-- DEMAND 1: "Every input gets a defined end: a verdict, or one numbered refusal with its place."
-- "An analysis given a set in memory refuses count and values just as the writer does"; bytes are refused as the reader does: by this number at this place
abbrev pub IsRefused : Input → ℕ → ℕ → Type 0
IsRefused (in_memory t) number place = IsTurnedAway t number place
IsRefused (as_bytes b) number place = AreRefused b number place

-- a legal set, or the records of one
abbrev pub IsTaken : Input → Type 0
IsTaken (in_memory t) = is_legal_set t ≡ true
IsTaken (as_bytes b) = AreRecords b (elements_in places b)

-- "the first element that brings H there"
pub record BringsHAbove (s : List Element) (i : ℕ) : Type 0 where
  pub within : i < length s
  pub above : most_h < H (take (suc i) s)
  pub before : (j : ℕ) → j ≤ i → H (take j s) ≤ most_h

abbrev pub refused_by : Reason → ℕ → Answer
refused_by reason place = Err (record { reason = reason; place = place })

-- how an analysis ends, with its test's verdict: "then 8", then the verdict
pub data Ends (x : Input) (v : Verdict) : Answer → Type 0 where
  refused_first : (reason : Reason) (place : ℕ) → IsRefused x (number_of reason) place → Ends x v (refused_by reason place)
  refused_by_8 : (i : ℕ) → IsTaken x → BringsHAbove (elements x) i → Ends x v (refused_by HyperperiodAboveLimit (place_in x i))
  given : IsTaken x → H (elements x) ≤ most_h → Ends x v (Ok v)

abbrev pub ExactEnds : Input → Answer → Type 0
ExactEnds x a = Ends x (exact (elements x)) a

-- "k: 1 to 255"
abbrev pub IsK : ℕ → Type 0
IsK k = (1 ≤ k) × (k ≤ most_k)

-- "Superposition looks at k first."
pub data SuperpositionEnds (x : Input) (k : ℕ) : Answer → Type 0 where
  refused_by_9 : (IsK k → ⊥) → SuperpositionEnds x k (refused_by KOutOfRange 0)
  looked_at : (a : Answer) → IsK k → Ends x (superposition k (elements x)) a → SuperpositionEnds x k a

-- DEMAND 2, of elements s and the verdict that the exact test gives
pub record MeetsDemand2 (s : List Element) (v : Verdict) : Type 0 where
  -- "With load at most one the exact test says overloaded exactly when some interval length of any size has more demand than length"
  pub overloaded_exactly_when : Q s ≤ H s → ((values v).verdict ≡ 1) ↔ Overloaded s
  -- "and shows the smallest"
  pub shows_the_smallest : Q s ≤ H s → (values v).verdict ≡ 1 → ShowsTheSmallest s (values v)
  -- otherwise it passes, every test length below F + H compared
  pub passes_otherwise : Q s ≤ H s → (Overloaded s → ⊥) → v ≡ Passes (how_many (is_test s) (F s + H s))
  -- "Load above one is shown by an overrun too": the first among F, F + H, F + 2H and so on
  pub shows_load_above_one : H s < Q s → ShowsTheFirst s (values v)
  -- if it passes, whatever the load, demand exceeds no length at all
  pub no_overrun_if_passed : (values v).verdict ≡ 0 → (I : ℕ) → D s I ≤ I

-- DEMAND 3, of k, elements s and the verdict that superposition gives
pub record MeetsDemand3 (k : ℕ) (s : List Element) (v : Verdict) : Type 0 where
  -- "compares at most k lengths for each periodic element and one for each single event"
  pub compares_at_most : Q s ≤ H s → (values v).count ≤ budget k s
  -- "and reports the count of distinct lengths its definition visits"; it holds back at the first visited length with D'(I) > I, or accepts where there is none
  pub holds_back_or_accepts : Q s ≤ H s → HoldsBack k s (values v) ⊎ Accepts k s (values v)
  -- "If it accepts, exact demand exceeds no length at all", whatever the load
  pub no_overrun_if_accepted : (values v).verdict ≡ 0 → (I : ℕ) → D s I ≤ I
  -- "If it holds back at a length, exact demand there, times k+1, is more than k times the length"; and that demand is shown
  pub near_overrun_if_held_back : Q s ≤ H s → (values v).verdict ≡ 3 → NearOverrun k s (values v).interval × ((values v).demand ≡ D s (values v).interval)
  -- load above one it shows as the exact test does
  pub shows_load_above_one : H s < Q s → ShowsTheFirst s (values v)

-- WHAT AN ENTRY POINT'S ANSWER MEETS
pub record ExactMeets (x : Input) (a : Answer) : Type 0 where
  pub ends : IsInput x → ExactEnds x a
  pub verdict : (v : Verdict) → a ≡ Ok v → MeetsDemand2 (elements x) v

pub record SuperpositionMeets (x : Input) (k : ℕ) (a : Answer) : Type 0 where
  pub ends : IsInput x → SuperpositionEnds x k a
  pub verdict : (v : Verdict) → a ≡ Ok v → MeetsDemand3 k (elements x) v
