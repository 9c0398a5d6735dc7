-- What rewriting comes to for every input: bytes that are a set are copied where they have room, else refused by 10 with their length; bytes that are no
-- set get the reader's refusal; a refused rewrite changes no byte. Assumes nothing.
use Prim.Native.Nat.{ℕ, ◌≤◌, ◌<◌}
use mathlib.Core.Path.{◌≡◌, refl, sym, ap, ◌∙◌}
use mathlib.Core.List.{List}
use mathlib.Core.Logic.{inr}
use lib.ListN.{length}
use Rattle.std.specs.Prelude.{Ok, Err}
use Rattle.model.specs.declared.answers.Refusal.{Refusal}
use Rattle.wire.specs.Format.{AllBytes}
use Rattle.wire.specs.Reading.{read_set}
use Rattle.model.specs.Rows.{IsRefusal}
use Rattle.model.specs.Buffers.{over}
use Rattle.writer.specs.Outcomes.{HasNoRoom}
use Rattle.writer.proofs.RoundTrip.{read_has_its_bytes, read_then_write}
use Rattle.writer.proofs.WriterIsDecided.{set_is_not_written, refused_write_changes_nothing}
use Rattle.capi.specs.Calls.{rewrite, rewritten}
use Rattle.capi.proofs.CallLaws.{read_refused, read_fine}

module _ (b out : List ℕ) where
  -- THEOREM: bytes that are a set are copied
  pub set_is_copied :
      AllBytes b →
      (read_set b).check ≡ Ok tt →
      length b ≤ length out →
      (rewrite b (length out) ≡ Ok (length b)) × (rewritten b out ≡ over b out)
  set_is_copied h c long =
      let done = read_then_write b (read_set b) out _ _ h (refl, refl) c long (refl, refl) in
      let same = read_fine b out c (refl, refl) in
      (sym same.0 ∙ done.0, sym same.1 ∙ done.1)

  -- THEOREM: without room they are refused by 10 with the bytes needed, and nothing is changed
  pub set_without_room :
      AllBytes b →
      (read_set b).check ≡ Ok tt →
      length out < length b →
      IsRefusal (rewrite b (length out)) 10 (length b) × (rewritten b out ≡ out)
  set_without_room h c short =
      let its = read_has_its_bytes b h c in
      let lacks : HasNoRoom (read_set b).set (length out) 10 (length b) = record { legal = its.0; by = refl; at = ap length (sym its.1); short = short } in
      let refused = (set_is_not_written (read_set b).set 10 (length b) (length out)).1 (inr lacks) in
      let same = read_fine b out c (refl, refl) in (
        record { reason = refused.reason; numbered = refused.numbered; by = sym same.0 ∙ refused.by },
        sym same.1 ∙ refused_write_changes_nothing (read_set b).set out _ _ (refl, refl) _ refused.by,
      )

  -- THEOREM: bytes that are no set get the reader's refusal, and nothing is changed
  pub no_set : (r : Refusal) → (read_set b).check ≡ Err r → (rewrite b (length out) ≡ Err r) × (rewritten b out ≡ out)
  no_set r h = let kept = read_refused b out h in (sym kept.0, sym kept.1)
