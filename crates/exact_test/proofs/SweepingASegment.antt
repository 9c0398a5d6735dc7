-- What holds whenever `sweep` turns to a word of marks, and to a mark of that word, from the first to past the last. Assumes nothing.
use Prim.Native.Nat.{ℕ, ◌+◌, ◌*◌, ◌/◌, ◌%◌, ◌≤◌, ◌<◌}
use mathlib.Core.Path.{◌≡◌, refl, sym, ap, ◌∙◌}
use mathlib.Core.List.{List}
use native.Mathlib.Decide.{dec_lt, ℕ_discrete}
use native.Mathlib.Nat.{pos_of_ne-zero}
use native.Mathlib.Omega.{arith}
use lib.ListN.{length, get_or, set, length-set, get_or-eq_default}
use lib.Seq.{get_or-set_same, get_or-set_other}
use Rattle.std.specs.Prelude.{Ok, Err}
use Rattle.std.proofs.lemmas.List.{set-set, set-get_or}
use Rattle.exact_test.specs.declared.segments.Compared.{Compared}
use Rattle.exact_test.specs.Segments.{ticks, IsWord, sign, Covers, Marked, with_due, overrun_at, sweep_of, total, Zero}
use Rattle.std.specs.Int.{bit_at}
use Rattle.std.proofs.lemmas.Nat.Bits.{bit_at-zero}
use Rattle.exact_test.proofs.BitLaws.{lowest, cleared, lowest_is, clear_keep, clear_at, clear_lt, some_sign, none_sign}
use Rattle.exact_test.proofs.SegmentLaws.{IsFirst, total_taken, sweep_clean, sweep_late, sweep_next}

-- the entry of the lowest mark in w, of the word k
abbrev pub entry_of : ℕ → ℕ → ℕ
entry_of k w = k * 64 + lowest w

never : (n : ℕ) → (0 < n → ⊥) → n ≡ 0
never n h = elim (dec_lt 0 n) [ yes p ↦ absurd (h p) | no p ↦ omega arith ]

-- from the entries due₀ with c₀ compared to what is left of them with c
pub record Run (due₀ due : List ℕ) (base : ℕ) (c₀ c : Compared) : Type 0 where
  pub same : sweep_of due₀ base c₀ ≡ sweep_of due base c
  pub demand : IsWord (c.demand + total due)
  pub count : IsWord (c.count + total due)

-- the word k is open, and w of its marks are left: with them put back all is marked
pub record Word (due marks : List ℕ) (seen words k w : ℕ) : Type 0 where
  pub marked : Marked due (set marks k w) seen
  pub inside : k < 64
  pub none : get_or marks k 0 ≡ 0
  pub low : (l i : ℕ) → l < k → i < 64 → get_or due (l * 64 + i) 0 ≡ 0
  pub rest : (l i : ℕ) → l < 64 → i < 64 → (l ≡ k → ⊥) → 0 < get_or due (l * 64 + i) 0 → bit_at words l ≡ 1

module _ {due marks : List ℕ} {seen : ℕ} (m : Marked due marks seen) where
  open_word :
      (words : ℕ) → Covers due words → 0 < words → IsWord words →
      Word due (set marks (lowest words) 0) seen (cleared words) (lowest words) (get_or marks (lowest words) 0)
  open_word words covers p f =
      let l = lowest_is p f in
      record {
        marked = rw (set-set marks (lowest words) 0 (get_or marks (lowest words) 0), set-get_or marks (lowest words) 0) m;
        inside = l.0;
        none = get_or-set_same marks (lowest words) 0 0 (omega (arith, l.0, m.marks_long));
        low = λ k i a b. never (get_or due (k * 64 + i) 0) (λ h. omega (arith, l.2 k a, covers k i (omega arith) b h));
        rest = λ k i a b n h. clear_keep p f k n ∙ covers k i a b h;
      }

  -- the entry of the lowest mark of the word k is taken, and the mark as well
  unmark : (k : ℕ) → k < 64 → let w = get_or marks k 0 in 0 < w → Marked (set due (entry_of k w) 0) (set marks k (cleared w)) seen
  unmark k inside p =
      let w = get_or marks k 0 in
      let e = entry_of k w in
      let below = (lowest_is p (m.fits k)).0 in
      let here = get_or-set_same marks k (cleared w) 0 (omega (arith, m.marks_long)) in
      record {
        due_long = length-set due e 0 ∙ m.due_long;
        marks_long = length-set marks k (cleared w) ∙ m.marks_long;
        fits = λ l.
            elim (ℕ_discrete l k) [
              | yes q ↦ rw (q, here) (omega (arith, clear_lt w p, m.fits k))
              | no n ↦ rw (get_or-set_other marks k l (cleared w) 0 n) (m.fits l)
            ];
        bits = λ l i a b.
            elim (ℕ_discrete l k) [
              | yes q ↦
                  rw (q, here)
                  (elim (ℕ_discrete i (lowest w)) [
                    | yes r ↦ rw (r, get_or-set_same due e 0 0 (omega (arith, m.due_long))) (clear_at p (m.fits k))
                    | no n ↦
                        rw (get_or-set_other due e (k * 64 + i) 0 0 (λ r. n (omega arith)))
                        (clear_keep p (m.fits k) i n ∙ m.bits k i inside b)
                  ])
              | no n ↦
                  rw (get_or-set_other marks k l (cleared w) 0 n, get_or-set_other due e (l * 64 + i) 0 0 (λ r. n (omega arith)))
                  (m.bits l i a b)
            ];
        words = λ l i a b h.
            elim (ℕ_discrete (l * 64 + i) e) [
              | yes q ↦ absurd (omega (arith, get_or-set_same due e 0 0 (omega (arith, m.due_long)), rw q at h))
              | no n ↦ m.words l i a b (rw (get_or-set_other due e (l * 64 + i) 0 0 n) at h)
            ];
      }

module _ {due marks : List ℕ} {seen words k w : ℕ} (v : Word due marks seen words k w) where
  here : get_or (set marks k w) k 0 ≡ w
  here = get_or-set_same marks k w 0 (omega (arith, v.inside, length-set marks k w, v.marked.marks_long))

  small : IsWord w
  small = rw here at (v.marked.fits k)

  mark_of : (i : ℕ) → i < 64 → bit_at w i ≡ sign (get_or due (k * 64 + i) 0)
  mark_of i b = rw here at (v.marked.bits k i v.inside b)

  close_word : w ≡ 0 → Marked due marks seen × Covers due words
  close_word e =
      let z : (i : ℕ) → i < 64 → sign (get_or due (k * 64 + i) 0) ≡ 0 =
      λ i b. sym (mark_of i b) ∙ ap (λ y. bit_at y i) e ∙ bit_at-zero i in
      let back : set marks k w ≡ marks = ap (set marks k) (e ∙ sym v.none) ∙ set-get_or marks k 0 in (
        rw back at v.marked,
        λ l i a b h.
            elim (ℕ_discrete l k) [
              | yes q ↦ absurd (omega (arith, none_sign (get_or due (k * 64 + i) 0) (z i b), rw q at h))
              | no n ↦ v.rest l i a b n h
            ],
      )

  module _ (p : 0 < w) where
    l : (lowest w < 64) × (bit_at w (lowest w) ≡ 1) × ((i : ℕ) → i < lowest w → bit_at w i ≡ 0)
    l = lowest_is p small

    -- the lowest mark is that of the first entry
    mark_first : IsFirst due (entry_of k w)
    mark_first =
        record {
          within = omega (arith, l.0, v.inside, v.marked.due_long);
          some = some_sign (get_or due (entry_of k w) 0) (sym (mark_of (lowest w) l.0) ∙ l.1);
          before = λ y h.
              let e : y / 64 * 64 + y % 64 ≡ y = omega arith in
              let below = l.0 in
              elim (dec_lt (y / 64) k) [
                | yes a ↦ rw e at (v.low (y / 64) (y % 64) a (omega arith))
                | no a ↦
                    let q : y / 64 ≡ k = omega arith in
                    let s : k * 64 + y % 64 ≡ y = omega arith in
                    let b = sym (mark_of (y % 64) (omega arith)) ∙ l.2 (y % 64) (omega arith) in
                    rw s at (none_sign (get_or due (k * 64 + y % 64) 0) b)
              ];
        }

    next_word : Word (set due (entry_of k w) 0) marks seen words k (cleared w)
    next_word =
        let below = l.0 in
        record {
          marked = rw (here, set-set marks k w (cleared w)) at (unmark v.marked k v.inside (rw here p));
          inside = v.inside;
          none = v.none;
          low = λ l i a b. get_or-set_other due (entry_of k w) (l * 64 + i) 0 0 (λ e. omega arith) ∙ v.low l i a b;
          rest = λ l i a b n h. v.rest l i a b n (rw (get_or-set_other due (entry_of k w) (l * 64 + i) 0 0 (λ e. n (omega arith))) at h);
        }

nothing_left : (due : List ℕ) → length due ≡ ticks → Covers due 0 → Zero due
nothing_left due long covers y =
    elim (dec_lt y ticks) [
      | yes h ↦
          let e : y / 64 * 64 + y % 64 ≡ y = omega arith in
          never (get_or due y 0) (λ p. omega (arith, bit_at-zero (y / 64), covers (y / 64) (y % 64) (omega arith) (omega arith) (rw e p)))
      | no h ↦ get_or-eq_default due 0 (omega (arith, long))
    ]

-- THE WORDS: those in words are left
pub record Words (due₀ due marks : List ℕ) (seen base : ℕ) (c₀ c : Compared) (words : ℕ) : Type 0 where
  pub marked : Marked due marks seen
  pub covers : Covers due words
  pub run : Run due₀ due base c₀ c

-- THE MARKS of the word k: those in w are left
pub record Marks (due₀ due marks : List ℕ) (seen base : ℕ) (c₀ c : Compared) (words k w : ℕ) : Type 0 where
  pub word : Word due marks seen words k w
  pub run : Run due₀ due base c₀ c

pub start :
    {due marks : List ℕ} {seen base : ℕ} {c : Compared} →
    Marked due marks seen →
    IsWord (c.demand + total due) × IsWord (c.count + total due) →
    Words due due marks seen base c c seen
start m t = record { marked = m; covers = m.words; run = record { same = refl; demand = t.0; count = t.1 } }

module _ {due₀ due marks : List ℕ} {seen base : ℕ} {c₀ c : Compared} {words : ℕ} (v : Words due₀ due marks seen base c₀ c words) where
  pub start_word :
      (words ≡ 0 → ⊥) → IsWord words →
      let k = lowest words in Marks due₀ due (set marks k 0) seen base c₀ c (cleared words) k (get_or marks k 0)
  start_word p f = record { word = open_word v.marked words v.covers (pos_of_ne-zero p) f; run = v.run }

  zero : words ≡ 0 → Zero due
  zero h = nothing_left due v.marked.due_long (rw h at v.covers)

  pub end : words ≡ 0 → (Ok c ≡ sweep_of due₀ base c₀) × Zero due
  end h = (sym (v.run.same ∙ sweep_clean due base c (zero h)), zero h)

module _ {due₀ due marks : List ℕ} {seen base : ℕ} {c₀ c : Compared} {words k w : ℕ} (v : Marks due₀ due marks seen base c₀ c words k w) where
  module _ (p : w ≡ 0 → ⊥) where
    first : IsFirst due (entry_of k w)
    first = mark_first v.word (pos_of_ne-zero p)

    -- the demand with what is due there, and what is left
    demand_next : IsWord (c.demand + get_or due (entry_of k w) 0 + total (set due (entry_of k w) 0))
    demand_next = omega (arith, v.run.demand, total_taken due (entry_of k w) first.within)

    count_next : IsWord (c.count + 1 + total (set due (entry_of k w) 0))
    count_next = omega (arith, v.run.count, first.some, total_taken due (entry_of k w) first.within)

    pub sums_fit : IsWord (c.demand + get_or due (entry_of k w) 0) × IsWord (c.count + 1)
    sums_fit = (omega (arith, demand_next), omega (arith, count_next))

    -- the marks that are left are put back
    pub late_marked : Marked (set due (entry_of k w) 0) (set marks k (cleared w)) seen
    late_marked = (next_word v.word (pos_of_ne-zero p)).marked

    pub found_late :
        base + entry_of k w < c.demand + get_or due (entry_of k w) 0 →
        Err (overrun_at (base + entry_of k w) (with_due c (get_or due (entry_of k w) 0))) ≡ sweep_of due₀ base c₀
    found_late l = sym (v.run.same ∙ sweep_late due (entry_of k w) base c first l)

    pub next :
        c.demand + get_or due (entry_of k w) 0 ≤ base + entry_of k w →
        Marks due₀ (set due (entry_of k w) 0) marks seen base c₀ (with_due c (get_or due (entry_of k w) 0)) words k (cleared w)
    next l =
        record {
          word = next_word v.word (pos_of_ne-zero p);
          run = record {
            same = v.run.same ∙ sweep_next due (entry_of k w) base c first l;
            demand = demand_next;
            count = count_next;
          };
        }
