-- Document 01, "The verdict printer": the text of its four answers.
use Rattle.std.specs.Prelude.{ℕ, List, ◌++◌, codes, Result, Ok, Err}
use Rattle.model.specs.declared.answers.Told.{Told}
use Rattle.model.specs.declared.answers.Verdict.{Verdict}
use Rattle.printer.specs.declared.answers.Lines.{Lines}
use Rattle.printer.specs.Text.{k_name, verdict_line, refused_line}

-- "It prints a line for the exact test and for k = 1, 2 and 100"
unfoldable pub lines : Lines Verdict → List ℕ
lines v = verdict_line (codes "exact") v.exact ++ verdict_line (k_name 1) v.one ++ verdict_line (k_name 2) v.two ++ verdict_line (k_name 100) v.hundred

-- what is told of an analysis: a verdict, or a refusal's number and place
abbrev pub Numbered : Type 0
Numbered = Result Verdict Told

-- "On a refusal it prints one line": the first answer that is a refusal decides
unfoldable pub first_refusal : Numbered → Numbered → Numbered → Numbered → Result (Lines Verdict) Told
first_refusal (Err r) one two hundred = Err r
first_refusal (Ok e) (Err r) two hundred = Err r
first_refusal (Ok e) (Ok a) (Err r) hundred = Err r
first_refusal (Ok e) (Ok a) (Ok b) (Err r) = Err r
first_refusal (Ok e) (Ok a) (Ok b) (Ok c) = Ok (record { exact = e; one = a; two = b; hundred = c })

abbrev pub shown_of : Lines Numbered → Result (Lines Verdict) Told
shown_of a = first_refusal a.exact a.one a.two a.hundred

abbrev pub text_of : Result (Lines Verdict) Told → List ℕ
text_of (Ok verdicts) = lines verdicts
text_of (Err r) = refused_line r

unfoldable pub printed_of : Lines Numbered → List ℕ
printed_of answers = text_of (shown_of answers)
