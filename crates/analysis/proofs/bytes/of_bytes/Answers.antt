use Rattle.std.proofs.Common.{◌≡◌, sym, ap, ◌∙◌}
use Rattle.std.proofs.lemmas.Result.{err_from_is_err_and}
use Rattle.std.specs.Prelude.{Ok}
use Rattle.model.specs.Elements.{places}
use Rattle.wire.specs.Reading.{check_records}
use Rattle.wire.proofs.ReadingLaws.{read_check}
use Rattle.analysis.specs.LegalSets.{in_bytes}
use Rattle.analysis.proofs.EntryLaws.{bytes_taken, bytes_refused, answer_read}
use Rattle.analysis.proofs.ByteLaws.{refusal_placed}
use Rattle.analysis.proofs.bytes.of_bytes.Given.{Over}
use Rattle.analysis.proofs.bytes.of_bytes.Goals as goal
use Rattle.analysis.proofs.bytes.of_bytes.Goals.{In_ok-read_into}

fine : (g : Over) (c : In_ok-read_into g) → check_records places 0 c.args.bytes.now ≡ Ok tt
fine g c = sym (c.in_ok-read_into.ensures.0 ∙ read_check _)

pub returns-in_err-read_into : goal.returns-in_err-read_into
returns-in_err-read_into g c =
    let p = err_from_is_err_and c.from_residual.result c.from_residual.ensures.1 in
    rw (p.1, p.2) (bytes_refused g.verdict _ (c.in_err-read_into.ensures.0 ∙ read_check _))

pub in_bytes-requires-clause-whole : goal.in_bytes-requires-clause-whole
in_bytes-requires-clause-whole g c = fine g (goal.at.in_bytes-requires-clause-whole g c).In_ok-read_into

pub in_bytes-requires-clause-placed : goal.in_bytes-requires-clause-placed
in_bytes-requires-clause-placed g c =
    let f = fine g (goal.at.in_bytes-requires-clause-placed g c).In_ok-read_into in
    refusal_placed g.verdict _ (c.requires.1.1 _ _ (c.in-Err.ensures) ∙ answer_read g.verdict _ _ f c.in_ok-read_into.ensures.1)

pub returns-in-Err : goal.returns-in-Err
returns-in-Err g c =
    let f = fine g (goal.at.returns-in-Err g c).In_ok-read_into in
    let h = c.requires.1.1 _ _ (c.in-Err.ensures) ∙ answer_read g.verdict _ _ f c.in_ok-read_into.ensures.1 in
    rw c.in_bytes.ensures (ap (in_bytes c.args.bytes.now) h ∙ bytes_taken g.verdict _ f)

pub returns-in-Ok : goal.returns-in-Ok
returns-in-Ok g c =
    let f = fine g (goal.at.returns-in-Ok g c).In_ok-read_into in
    let h = c.requires.1.1 _ _ (c.in-Ok.ensures) ∙ answer_read g.verdict _ _ f c.in_ok-read_into.ensures.1 in
    ap (in_bytes c.args.bytes.now) h ∙ bytes_taken g.verdict _ f
