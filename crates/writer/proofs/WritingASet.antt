-- What holds whenever the writer turns to the element at i, from the first to past the last. Assumes nothing.
use Prim.Native.Nat.{ℕ, ◌+◌, ◌-◌, ◌≤◌, ◌<◌}
use mathlib.Core.Path.{◌≡◌, refl, sym, ap, ◌∙◌}
use mathlib.Core.List.{List, ◌++◌}
use native.Mathlib.Omega.{arith}
use lib.ListN.{length, take, drop, get_or, length-append, length-take, length-drop}
use lib.Seq.{take-length}
use borrow.Rule.Slice.PartMut.{put_mid}
use Rattle.model.specs.declared.elements.Element.{Element}
use Rattle.wire.specs.Format.{record_of, records_of}
use Rattle.model.specs.Buffers.{over}
use Rattle.writer.proofs.WritingLaws.{over_long, over_rest, records_step, records_within}

-- the buffer holds the records of the first i elements, up to the place, and then what it held
pub record Putting (s : List Element) (out₀ out : List ℕ) (at i : ℕ) : Type 0 where
  pub size : at ≡ length (records_of (take i s))
  pub done : out ≡ over (records_of (take i s)) out₀

pub putting_start : (s : List Element) (out₀ : List ℕ) → Putting s out₀ out₀ 0 0
unfolding records_of
putting_start s out₀ = record { size = refl; done = refl }

module _ (s : List Element) (out₀ : List ℕ) {out : List ℕ} {at i : ℕ} (k : Putting s out₀ out at i) where
  pub putting_end : i ≡ length s → (at ≡ length (records_of s)) × (out ≡ over (records_of s) out₀)
  putting_end h =
      let all : records_of (take i s) ≡ records_of s = ap (λ m. records_of (take m s)) h ∙ ap records_of (take-length s) in
      (k.size ∙ ap length all, k.done ∙ ap (λ l. over l out₀) all)

  -- the element at i, of the elements as the loop has them
  module _ {es : List Element} (g : es ≡ s) (d : Element) (h : i < length es) where
    step : records_of (take (i + 1) s) ≡ records_of (take i s) ++ record_of (get_or es i d)
    step = rw (sym g) (records_step es d i h)

    size : at + length (record_of (get_or es i d)) ≡ length (records_of (take (i + 1) s))
    size = omega (arith, k.size, simp length-append at (ap length step))

    pub putting_fits : length (records_of s) ≤ length out₀ → length (record_of (get_or es i d)) ≤ length (take (length out - at) (drop at out))
    putting_fits fits =
        rw (length-take, length-drop)
        (omega (arith, size, records_within s i, records_within s (i + 1), ap length k.done, over_long (records_of (take i s)) out₀))

    pub putting_next :
        {new : List ℕ} {n : ℕ} →
        new ≡ over (record_of (get_or es i d)) (take (length out - at) (drop at out)) →
        n ≡ length (record_of (get_or es i d)) →
        Putting s out₀ (put_mid at (length out - at) out new) (at + n) (i + 1)
    putting_next put p =
        record {
          size = ap (λ n. at + n) p ∙ size;
          done = rw (put, k.done) (over_rest (records_of (take i s)) (record_of (get_or es i d)) out₀ k.size) ∙ ap (λ l. over l out₀) (sym step);
        }
