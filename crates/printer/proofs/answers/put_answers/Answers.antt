use Rattle.std.proofs.Common.{[], sym, ◌∙◌, arith, rules}
use Rattle.printer.specs.Answered.{printed_of}
use Rattle.printer.specs.Growing.{Grows}
use Rattle.printer.proofs.TextLaws.{shown_grows}
use Rattle.printer.proofs.answers.put_answers.Goals.{in-Ok, in-Err}
use Rattle.printer.proofs.answers.put_answers.Goals as goal

pub returns : goal.returns
returns c =
    let grown : Grows 356 (printed_of c.args.answers) [] c.match-shown_of.text.bytes = elim c.match-shown_of.branch [
      | in-Ok w ↦ rw w.text-is (shown_grows c.args.answers (sym w.in-Ok.is ∙ c.shown_of.ensures) c.new-text.ensures (omega arith) w.push_verdicts.ensures)
      | in-Err w ↦ rw w.text-is (shown_grows c.args.answers (sym w.in-Err.is ∙ c.shown_of.ensures) c.new-text.ensures (omega arith) w.push_refusal.ensures)
    ] in
    rw (← grown.whole) (search (rules, grown.short))
