-- What holds whenever `add_dates` turns to the date j, from the first to past the last. Assumes nothing.
use Prim.Native.Nat.{ℕ, ◌+◌, ◌-◌, ◌*◌, ◌/◌, ◌%◌, ◌^◌, ◌≤◌, ◌<◌}
use mathlib.Core.Path.{◌≡◌, refl, sym, ap, ◌∙◌}
use mathlib.Core.List.{List}
use native.Mathlib.Decide.{ℕ_discrete}
use native.Mathlib.Omega.{arith}
use lib.Bits.{bit_or, or_lt}
use mir.Syntax.{w64}
use Rattle.std.proofs.lemmas.Nat.Bits.{bit_at_set_same, bit_at_set_other}
use lib.ListN.{get_or, set, length-set}
use lib.Seq.{get_or-set_same, get_or-set_other}
use Rattle.places.specs.Dates.{most_bound}
use Rattle.places.specs.declared.dates.Place.{Place}
use Rattle.exact_test.specs.Segments.{is_date, at_date, ticks, most_next, IsWord, part, Marked, Fit, Added}
use Rattle.exact_test.proofs.BitLaws.{or_one, sign_some}
use Rattle.exact_test.proofs.DateLaws.{date_next}
use Rattle.exact_test.proofs.SegmentLaws.{part_most, part_here, part_before}

-- 1 << k
abbrev one_at : ℕ → ℕ
one_at k = 1 * 2 ^ k % 2 ^ 64

-- the words with the mark of the entry j
abbrev marks_with : List ℕ → ℕ → List ℕ
marks_with marks j = set marks (j / 64) (bit_or (get_or marks (j / 64) 0) (one_at (j % 64)))

abbrev seen_with : ℕ → ℕ → ℕ
seen_with seen j = bit_or seen (one_at (j / 64))

-- the entry j has something, and its mark
mark :
    (due marks : List ℕ) (seen j v : ℕ) →
    j < ticks →
    0 < v →
    Marked due marks seen →
    Marked (set due j v) (marks_with marks j) (seen_with seen j)
mark due marks seen j v l p m =
    record {
      due_long = length-set due j v ∙ m.due_long;
      marks_long = length-set marks (j / 64) _ ∙ m.marks_long;
      fits = λ k.
          elim (ℕ_discrete k (j / 64)) [
            | yes e ↦
                rw (e, get_or-set_same marks (j / 64) (bit_or (get_or marks (j / 64) 0) (one_at (j % 64))) 0 (omega arith))
                (or_lt 64 (get_or marks (j / 64) 0) (one_at (j % 64)) (m.fits (j / 64)) (omega arith))
            | no q ↦ rw (get_or-set_other marks (j / 64) k (bit_or (get_or marks (j / 64) 0) (one_at (j % 64))) 0 q) (m.fits k)
          ];
      bits = λ k i hk hi.
          elim (ℕ_discrete (k * 64 + i) j) [
            | yes e ↦
                let ek : j / 64 ≡ k = omega arith in
                let ei : j % 64 ≡ i = omega arith in
                rw (e, ek, ei, get_or-set_same due j v 0 (omega arith), get_or-set_same marks k (bit_or (get_or marks k 0) (one_at i)) 0 (omega arith))
                (bit_at_set_same w64 (get_or marks k 0) i hi ∙ sym (sign_some v p))
            | no n ↦
                rw (get_or-set_other due j (k * 64 + i) v 0 n)
                (elim (ℕ_discrete k (j / 64)) [
                  | yes e ↦
                      let ni : i ≡ j % 64 → ⊥ = λ q. n (omega arith) in
                      rw (← e, get_or-set_same marks k (bit_or (get_or marks k 0) (one_at (j % 64))) 0 (omega arith))
                      (bit_at_set_other w64 (get_or marks k 0) (j % 64) (omega arith) i ni ∙ m.bits k i hk hi)
                  | no q ↦
                      rw (get_or-set_other marks (j / 64) k (bit_or (get_or marks (j / 64) 0) (one_at (j % 64))) 0 q) (m.bits k i hk hi)
                ])
          ];
      words = λ k i hk hi h.
          elim (ℕ_discrete (k * 64 + i) j) [
            | yes e ↦ let ek : j / 64 ≡ k = omega arith in rw ek (bit_at_set_same w64 seen k hk)
            | no n ↦ or_one seen (one_at (j / 64)) k (m.words k i hk hi (rw (get_or-set_other due j (k * 64 + i) v 0 n) at h))
          ];
    }

-- j ticks after base, what the place's dates from there on add is still to come
pub record Adding (due₀ due marks : List ℕ) (p : Place) (base len j seen : ℕ) : Type 0 where
  pub kept : (y : ℕ) → y < len → get_or due y 0 + part (at_date p (base + j)) (base + y) ≡ get_or due₀ y 0 + part p (base + y)
  pub rest : (y : ℕ) → len ≤ y → get_or due y 0 ≡ get_or due₀ y 0
  pub same : (I : ℕ) → base + len ≤ I → is_date (at_date p (base + j)) I ≡ is_date p I
  pub near : base + j ≤ most_next
  pub marked : Marked due marks seen

pub start : {due marks : List ℕ} {p : Place} {base len seen : ℕ} → Marked due marks seen → Fit p base → Adding due due marks p base len (p.next - base) seen
start {p = p} {base = base} m fit =
    let e : base + (p.next - base) ≡ p.next = omega (arith, fit.from) in
    record {
      kept = λ y h. rw e;
      rest = λ y h. refl;
      same = λ I h. rw e;
      near = omega (arith, fit.near);
      marked = m;
    }

module _ {due₀ due marks : List ℕ} {p : Place} {base len j seen : ℕ} (v : Adding due₀ due marks p base len j seen) (fit : Fit p base) where
  module _ (l : len ≤ ticks) (h : j < len) where
    pub room : ((y : ℕ) → IsWord (get_or due₀ y 0 + p.cost)) → IsWord (get_or due j 0 + p.cost)
    room fits = omega (arith, v.kept j h, part_here (at_date p (base + j)), part_most p (base + j), fits j)

    after : (I : ℕ) → (I ≡ base + j → ⊥) → is_date (at_date p (base + j)) I ≡ is_date (at_date p (base + (j + p.step))) I
    after I n = date_next (at_date p (base + j)) I n ∙ ap (λ x. is_date (at_date p x) I) (omega arith)

    pub next : base + len ≤ most_bound → Adding due₀ (set due j (get_or due j 0 + p.cost)) (marks_with marks j) p base len (j + p.step) (seen_with seen j)
    next b =
        record {
          kept = λ y u.
              elim (ℕ_discrete y j) [
                | yes e ↦
                    rw (e, get_or-set_same due j (get_or due j 0 + p.cost) 0 (omega (arith, v.marked.due_long)))
                    (omega (
                      arith,
                      v.kept j h,
                      part_here (at_date p (base + j)),
                      part_before (at_date p (base + (j + p.step))) (base + j) (omega (arith, fit.steps.0)),
                    ))
                | no n ↦ rw (get_or-set_other due j y (get_or due j 0 + p.cost) 0 n, ← after (base + y) (λ e. n (omega arith))) (v.kept y u)
              ];
          rest = λ y u. get_or-set_other due j y (get_or due j 0 + p.cost) 0 (λ e. omega arith) ∙ v.rest y u;
          same = λ I u. sym (after I (λ e. omega arith)) ∙ v.same I u;
          near = omega (arith, fit.steps.1);
          marked = mark due marks seen j (get_or due j 0 + p.cost) (omega arith) (omega (arith, fit.costs.0)) v.marked;
        }

  pub end : len ≤ j → Added due₀ due p (at_date p (base + j)) base len
  end h =
      record {
        each = λ y u. omega (arith, v.kept y u, part_before (at_date p (base + j)) (base + y) (omega arith));
        rest = v.rest;
        moved = record {
          kept = refl;
          fit = record { from = omega arith; near = v.near; steps = fit.steps; costs = fit.costs };
          same = v.same;
        };
      }
