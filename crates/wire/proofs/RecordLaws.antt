-- One record: an element is read back from its record, and bytes that are read as an element are its record. Assumes nothing.
use Prim.Native.Nat.{ℕ, zero, suc, ◌+◌, ◌*◌, ◌/◌, ◌%◌, ◌≤◌, ◌<◌}
use mathlib.Core.Path.{◌≡◌, refl, sym, ap, ◌∙◌}
use mathlib.Core.Bool.{true}
use mathlib.Core.List.{List, [], ◌∷◌, ◌++◌, append_assoc}
use mathlib.Core.Logic.{⊎_elim}
use native.Mathlib.Numerals.{towards_suc}
use native.Mathlib.Omega.{arith}
use lib.ListN.{length, get_or, drop, length-append}
use lib.Seq.{drop-cons, drop_at}
use Rattle.std.specs.Int.{w32, to_le_bytes, from_le_bytes}
use Rattle.std.proofs.lemmas.Nat.{le_bytes_4, from_le_bytes-to_le_bytes_4}
use Rattle.model.specs.declared.elements.Period.{Period}
use Rattle.model.specs.declared.elements.Period.TheVariants.{Once, Every}
use Rattle.model.specs.declared.elements.Element.{Element}
use Rattle.model.specs.Elements.{is_legal}
use Rattle.model.proofs.ElementLaws.{Legal, legal_is}
use Rattle.wire.specs.Format.{AllBytes, number_bytes, number_at, kind_of, is_kind, body_size, record_size, element_of, start_of, record_of}
use Rattle.wire.proofs.FormatLaws.{known_kinds, every_size, every_element, once_size, once_element}
use Rattle.wire.proofs.ReadingLaws.{IsElement}

-- NUMBERS, as std has them
pub number_bytes_is : (x : ℕ) → number_bytes x ≡ to_le_bytes w32 x
unfolding number_bytes
number_bytes_is x = refl

abbrev four_at : List ℕ → ℕ → List ℕ
four_at s i = get_or s i 0 ∷ get_or s (i + 1) 0 ∷ get_or s (i + 2) 0 ∷ get_or s (i + 3) 0 ∷ []

pub number_at_is : (s : List ℕ) (i : ℕ) → number_at s i ≡ from_le_bytes w32 (four_at s i)
number_at_is s i = refl

number_read : (x : ℕ) → x ≤ 16777216 → x % 256 + x / 256 % 256 * 256 + x / 65536 % 256 * 65536 + x / 16777216 % 256 * 16777216 ≡ x
number_read x h = from_le_bytes-to_le_bytes_4 x (omega arith)

byte_at : (s : List ℕ) → AllBytes s → (i : ℕ) → get_or s i 0 < 256
byte_at [] h i = omega arith
byte_at (b ∷ s) h zero = h.0
byte_at (b ∷ s) h (suc i) = byte_at s h.1 i

pub bytes_drop : (n : ℕ) (s : List ℕ) → AllBytes s → AllBytes (drop n s)
bytes_drop zero s h = h
bytes_drop (suc n) [] h = h
bytes_drop (suc n) (b ∷ s) h = bytes_drop n s h.1

-- WRITTEN, THEN READ
module _ (s : List ℕ) where
  pub written_is_read : (e : Element) → is_legal e ≡ true → element_of (record_of e ++ s) ≡ e
  unfolding element_of record_of start_of number_bytes
  written_is_read e h = go e.period e.offset e.deadline e.cost (legal_is e h)
    where
      go :
          (q : Period) (a d c : ℕ) →
          Legal (record { period = q; offset = a; deadline = d; cost = c }) →
          element_of (record_of (record { period = q; offset = a; deadline = d; cost = c }) ++ s) ≡ record { period = q; offset = a; deadline = d; cost = c }
      go Once a d c l = λ i. record {
        period = Once;
        offset = number_read a l.offset.1 i;
        deadline = number_read d l.deadline.1 i;
        cost = number_read c l.cost.1 i;
      }
      go (Every p) a d c l = λ i. record {
        period = Every (number_read p l.period.1 i);
        offset = number_read a l.offset.1 i;
        deadline = number_read d l.deadline.1 i;
        cost = number_read c l.cost.1 i;
      }

  module _ (e : Element) where
    written_kind : is_kind (kind_of (record_of e ++ s)) ≡ true
    unfolding is_kind record_of start_of
    written_kind = go e.period
      where
        go : (q : Period) → is_kind (kind_of (start_of q ++ (number_bytes e.offset ++ number_bytes e.deadline ++ number_bytes e.cost) ++ s)) ≡ true
        go Once = refl
        go (Every p) = refl

    pub written_size : record_size (record_of e ++ s) ≡ length (record_of e)
    unfolding record_size body_size record_of start_of number_bytes
    written_size = go e.period
      where
        go :
            (q : Period) →
            record_size (start_of q ++ (number_bytes e.offset ++ number_bytes e.deadline ++ number_bytes e.cost) ++ s)
            ≡ length (start_of q ++ (number_bytes e.offset ++ number_bytes e.deadline ++ number_bytes e.cost))
        go Once = refl
        go (Every p) = refl

    pub written_is_element : is_legal e ≡ true → IsElement (record_of e ++ s)
    written_is_element h = record {
      kind = written_kind;
      whole = rw written_size (omega (arith, length-append (record_of e) s));
      legal = rw (written_is_read e h) h;
    }

    pub written_rest : drop (record_size (record_of e ++ s)) (record_of e ++ s) ≡ s
    written_rest = rw written_size (drop_at (record_of e) s (length (record_of e)) refl)

-- READ, THEN WRITTEN
module _ (s : List ℕ) (h : AllBytes s) where
  -- the number at k, up to j
  number_cut : (k j : ℕ) → k + 4 ≡ j → j ≤ length s → drop k s ≡ number_bytes (number_at s k) ++ drop j s
  number_cut k j e g = four ∙ ap (λ l. l ++ drop (k + 4) s) (sym written) ∙ ap (λ n. number_bytes (number_at s k) ++ drop n s) e
    where
      bytes : AllBytes (four_at s k)
      bytes = (byte_at s h k, (byte_at s h (k + 1), (byte_at s h (k + 2), (byte_at s h (k + 3), tt))))

      written : number_bytes (number_at s k) ≡ four_at s k
      written = number_bytes_is (number_at s k) ∙ le_bytes_4 (four_at s k) (number_at s k) refl (byte_at (four_at s k) bytes) (number_at_is s k)

      four : drop k s ≡ four_at s k ++ drop (k + 4) s
      four =
          simp towards_suc
          (rw (
            drop-cons s k 0 (omega arith),
            drop-cons s (suc k) 0 (omega arith),
            drop-cons s (suc (suc k)) 0 (omega arith),
            drop-cons s (suc (suc (suc k))) 0 (omega arith),
          ))

  three_cut :
      (k : ℕ) →
      k + 12 ≤ length s →
      drop k s ≡ (number_bytes (number_at s k) ++ number_bytes (number_at s (k + 4)) ++ number_bytes (number_at s (k + 8))) ++ drop (k + 12) s
  three_cut k g =
      simp append_assoc
      (rw (
        number_cut k (k + 4) refl (omega arith),
        number_cut (k + 4) (k + 8) (omega arith) (omega arith),
        number_cut (k + 8) (k + 12) (omega arith) g,
      ))

  kind_cut : 1 ≤ length s → s ≡ kind_of s ∷ drop 1 s
  kind_cut g = drop-cons s 0 0 g

  pub read_is_written : IsElement s → s ≡ record_of (element_of s) ++ drop (record_size s) s
  unfolding record_of start_of
  read_is_written k = ⊎_elim every once (known_kinds (kind_of s) k.kind)
    where
      every : kind_of s ≡ 1 → s ≡ record_of (element_of s) ++ drop (record_size s) s
      every one =
          let long : 17 ≤ length s = omega (arith, every_size s one, k.whole) in
          let three = number_bytes (number_at s 5) ++ number_bytes (number_at s 9) ++ number_bytes (number_at s 13) in
          rw (every_element s one, every_size s one)
          (kind_cut (omega arith)
          ∙ rw (one, number_cut 1 5 refl (omega arith), three_cut 5 long) (sym (append_assoc (1 ∷ number_bytes (number_at s 1)) three (drop 17 s))))

      once : kind_of s ≡ 2 → s ≡ record_of (element_of s) ++ drop (record_size s) s
      once two =
          let long : 13 ≤ length s = omega (arith, once_size s two, k.whole) in
          rw (once_element s two, once_size s two) (kind_cut (omega arith) ∙ rw (two, three_cut 1 long))
