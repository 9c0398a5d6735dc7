-- What the calls from C return and leave in what they are lent. include/simaurkoi.h says the same in words.
use Rattle.std.specs.Prelude.{ℕ, ◌≡◌, cond, List, [], ◌∷◌, leb, length, Ok, Err}
use Rattle.std.specs.Result.{result_and}
use Rattle.model.specs.declared.answers.Numbers.{Numbers}
use Rattle.model.specs.Answers.{Check}
use Rattle.wire.specs.Reading.{read_set}
use Rattle.model.specs.Buffers.{over}
use Rattle.writer.specs.Writing.{Written, written_numbers, write_set, buffer_after}

-- THE ANSWER: refusal, place, verdict, interval, demand, count
unfoldable pub six : Numbers → List ℕ
six n = n.refusal ∷ n.place ∷ n.verdict ∷ n.interval ∷ n.demand ∷ n.count ∷ []

-- the return value is the refusal's number, 0 for none; where there are fewer than six places it is 10
unfoldable pub returned : Numbers → List ℕ → ℕ
returned n answer = cond (leb 6 (length answer)) n.refusal 10

-- the places past six stay, and all of them where there are fewer
unfoldable pub answer_after : Numbers → List ℕ → List ℕ
answer_after n answer = cond (leb 6 (length answer)) (over (six n) answer) answer

-- how a call ends that answers these numbers: what it returns, and the places it was lent
abbrev pub CallAnswers : Numbers → List ℕ → ℕ → List ℕ → Type 0
CallAnswers n before r after = (r ≡ returned n before) × (after ≡ answer_after n before)

-- REWRITING: the reader's refusal, or what the writer answers for the set that was read
unfoldable pub rewrite : List ℕ → ℕ → Written
rewrite b room = result_and (read_set b).check (write_set (read_set b).set room)

-- its six numbers: the third is the bytes written
unfoldable pub rewrite_numbers : Written → Numbers
rewrite_numbers w =
    record {
      refusal = (written_numbers w).refusal;
      place = (written_numbers w).place;
      verdict = (written_numbers w).bytes;
      interval = 0;
      demand = 0;
      count = 0;
    }

-- the buffer: as the writer leaves it, and as it was where the reader refuses
abbrev pub kept_if_turned_away : Check → List ℕ → List ℕ → List ℕ
kept_if_turned_away (Ok u) written out = written
kept_if_turned_away (Err r) written out = out

unfoldable pub rewritten : List ℕ → List ℕ → List ℕ
rewritten b out = kept_if_turned_away (read_set b).check (buffer_after (read_set b).set out) out

-- and as it was where the answer has fewer than six places
unfoldable pub out_after : List ℕ → List ℕ → List ℕ → List ℕ
out_after b out answer = cond (leb 6 (length answer)) (rewritten b out) out
