-- Document 01, "The set as bytes": writing a set; with its part of "What is turned away".
use Rattle.std.specs.Prelude.{ℕ, List, leb, length, Result, Ok, Err}
use Rattle.model.specs.declared.elements.TaskSet.{TaskSet}
use Rattle.model.specs.declared.answers.Reason.TheVariants.{BufferTooShort}
use Rattle.model.specs.declared.answers.Refusal.{Refusal}
use Rattle.model.specs.Answers.{Check, number_of}
use Rattle.model.specs.Elements.{counted}
use Rattle.model.specs.TurnedAway.{unless, ◌then◌, check_set}
use Rattle.model.specs.Buffers.{over}
use Rattle.wire.specs.Format.{records_of}

-- "The writer puts records in table order and nothing else"
abbrev pub bytes_of : TaskSet → List ℕ
bytes_of t = records_of (counted t)

-- count and values, then 10: "buffer shorter than the written set", place "bytes needed"
unfoldable pub check_write : TaskSet → ℕ → Check
check_write t room = check_set t then unless (leb (length (bytes_of t)) room) BufferTooShort (length (bytes_of t))

-- "and answers the number of bytes written"
abbrev pub Written : Type 0
Written = Result ℕ Refusal

abbrev pub written_by : Check → ℕ → Written
written_by (Ok u) n = Ok n
written_by (Err r) n = Err r

-- the numbers of each case: a refusal's number and place, and the bytes written
pub record WrittenNumbers : Type 0 where
  pub refusal : ℕ
  pub place : ℕ
  pub bytes : ℕ

abbrev pub written_numbers : Written → WrittenNumbers
written_numbers (Ok n) = record { refusal = 0; place = 0; bytes = n }
written_numbers (Err r) = record { refusal = number_of r.reason; place = r.place; bytes = 0 }

-- the answer, for a buffer of this many bytes
unfoldable pub write_set : TaskSet → ℕ → Written
write_set t room = written_by (check_write t room) (length (bytes_of t))

-- "a refused write leaves the buffer untouched"
abbrev pub left_by : Check → List ℕ → List ℕ → List ℕ
left_by (Ok u) s out = over s out
left_by (Err r) s out = out

-- the buffer as the writer leaves it
unfoldable pub buffer_after : TaskSet → List ℕ → List ℕ
buffer_after t out = left_by (check_write t (length out)) (bytes_of t) out
