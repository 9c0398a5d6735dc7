-- Document 01's number and values for each case of an answer. "Answers are verdict, interval, demand, count."
use Rattle.std.specs.Prelude.{ℕ, Result, Ok, Err}
use Rattle.model.specs.declared.answers.Reason.{Reason}
use Rattle.model.specs.declared.answers.Reason.TheVariants.{UnknownKind, RecordCut, TooManyElements, PeriodOutOfRange, OffsetOutOfRange, DeadlineOutOfRange, CostOutOfRange, HyperperiodAboveLimit, KOutOfRange, BufferTooShort}
use Rattle.model.specs.declared.answers.Refusal.{Refusal}
use Rattle.model.specs.declared.answers.Verdict.{Verdict}
use Rattle.model.specs.declared.answers.Verdict.TheVariants.{Passes, Overrun, LoadAboveOne, NotShown}
use Rattle.model.specs.declared.answers.Told.{Told}
use Rattle.model.specs.declared.answers.Values.{Values}
use Rattle.model.specs.declared.answers.Numbers.{Numbers}

-- what a check finds: nothing, or a refusal
abbrev pub Check : Type 0
Check = Result (Unit {0}) Refusal

-- what an analysis answers: a verdict, or a refusal
abbrev pub Answer : Type 0
Answer = Result Verdict Refusal

-- the number of each row of "What is turned away"
abbrev pub number_of : Reason → ℕ
number_of UnknownKind = 1
number_of RecordCut = 2
number_of TooManyElements = 3
number_of PeriodOutOfRange = 4
number_of OffsetOutOfRange = 5
number_of DeadlineOutOfRange = 6
number_of CostOutOfRange = 7
number_of HyperperiodAboveLimit = 8
number_of KOutOfRange = 9
number_of BufferTooShort = 10

abbrev pub values : Verdict → Values
values (Passes n) = record { verdict = 0; interval = 0; demand = 0; count = n }
values (Overrun I d n) = record { verdict = 1; interval = I; demand = d; count = n }
values (LoadAboveOne I d) = record { verdict = 2; interval = I; demand = d; count = 0 }
values (NotShown I d n) = record { verdict = 3; interval = I; demand = d; count = n }

-- what a refusal tells: its number and place
abbrev pub told_of : Refusal → Told
told_of r = record { refusal = number_of r.reason; place = r.place }

-- what a check tells, two zeros where nothing is turned away
abbrev pub told : Check → Told
told (Ok u) = record { refusal = 0; place = 0 }
told (Err r) = told_of r

-- a verdict, or what the refusal tells
abbrev pub numbered : Answer → Result Verdict Told
numbered (Ok v) = Ok v
numbered (Err r) = Err (told_of r)

-- a refusal's number and place with zeros after them, or a verdict's values with zeros before them
abbrev pub refused : ℕ → ℕ → Numbers
refused number at = record { refusal = number; place = at; verdict = 0; interval = 0; demand = 0; count = 0 }

abbrev pub given : Values → Numbers
given v = record { refusal = 0; place = 0; verdict = v.verdict; interval = v.interval; demand = v.demand; count = v.count }

abbrev pub numbers : Answer → Numbers
numbers (Err r) = refused (number_of r.reason) r.place
numbers (Ok v) = given (values v)
