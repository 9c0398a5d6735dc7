-- Laws of specs/Format. Assumes nothing.
use Prim.Native.Nat.{ℕ, suc, ◌-◌, ◌≤◌}
use mathlib.Core.Path.{◌≡◌, sym}
use mathlib.Core.Bool.{true}
use mathlib.Core.List.{List}
use mathlib.Core.Logic.{◌⊎◌, inl, inr, ⊎_elim}
use native.Mathlib.Omega.{arith}
use lib.Dec.{eqb}
use borrow.Author.Tests.{eqb-true}
use Rattle.model.specs.declared.elements.Period.TheVariants.{Once, Every}
use Rattle.model.proofs.Cases.{or_cases}
use Rattle.wire.specs.declared.kinds.Kind.{Kind}
use Rattle.wire.specs.declared.kinds.Kind.TheVariants.{Periodic, Single}
use Rattle.wire.specs.Format.{number_at, byte_of, kind_for, period_for, kind_of, is_kind, body_size, record_size, element_from, element_of}

-- KINDS
pub known_kinds : (kind : ℕ) → is_kind kind ≡ true → (kind ≡ 1) ⊎ (kind ≡ 2)
unfolding is_kind
known_kinds kind h = ⊎_elim (λ p. inl (eqb-true kind 1 p)) (λ p. inr (eqb-true kind 2 p)) (or_cases (eqb kind 1) (eqb kind 2) h)

module _ (s : List ℕ) where
  pub some_size : 1 ≤ record_size s
  unfolding record_size
  some_size = omega arith

  module _ (h : kind_of s ≡ 1) where
    pub every_size : record_size s ≡ 17
    unfolding record_size body_size
    every_size = rw h

    pub every_element : element_of s ≡ element_from s (Every (number_at s 1)) 5
    unfolding element_of
    every_element = rw h

  module _ (h : kind_of s ≡ 2) where
    pub once_size : record_size s ≡ 13
    unfolding record_size body_size
    once_size = rw h

    pub once_element : element_of s ≡ element_from s Once 1
    unfolding element_of
    once_element = rw h

  module _ (h : is_kind (kind_of s) ≡ true) where
    -- the size is that of the element's kind
    pub kind_size : suc (body_size (byte_of (kind_for (element_of s).period))) ≡ record_size s
    unfolding body_size
    kind_size =
        ⊎_elim
        (λ one. rw (every_element one, every_size one))
        (λ two. rw (once_element two, once_size two))
        (known_kinds (kind_of s) h)

  -- both kinds in one: the last twelve bytes are offset, deadline and cost
  pub element_is :
      (kind : Kind) → byte_of kind ≡ kind_of s →
      element_of s ≡ element_from s (period_for kind (number_at s 1)) (suc (body_size (byte_of kind)) - 12)
  unfolding body_size
  element_is Periodic h = every_element (sym h)
  element_is Single h = once_element (sym h)

pub kind_is_long : (kind : Kind) → 13 ≤ suc (body_size (byte_of kind))
unfolding body_size
kind_is_long Periodic = omega arith
kind_is_long Single = omega arith
