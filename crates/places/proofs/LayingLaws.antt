-- Laws of specs/Dates: what a row holds, and one row more that is laid. Assumes nothing.
use Prim.Native.Nat.{ℕ, zero, suc, ◌+◌, ◌≤◌, ◌<◌}
use mathlib.Core.Path.{◌≡◌, refl, sym, ap, ◌∙◌}
use mathlib.Core.Bool.{true}
use mathlib.Core.List.{List, [], ◌∷◌, ◌++◌, map}
use native.Mathlib.Omega.{arith}
use native.Mathlib.Numerals.{add-one}
use lib.ListN.{length, length-map, get_or, set, take, drop}
use Rattle.std.proofs.Common.{append_assoc, length-take}
use Rattle.std.proofs.lemmas.List.{append-nil, map_more, get_or-take}
use Rattle.std.proofs.Math.Seq.{take-length}
use lib.Seq.{length-take-le, drop-cons, drop-length, set-append_seam}
use Rattle.model.specs.declared.elements.Period.{Period}
use Rattle.model.specs.declared.elements.Period.TheVariants.{Once, Every}
use Rattle.model.specs.declared.elements.Element.{Element}
use Rattle.model.proofs.OverLaws.{all_each, each_at}
use Rattle.model.proofs.ElementLaws.{Within, Runs}
use Rattle.places.specs.Dates.{most_bound, step_of, OneOf, laid}

-- WHAT A ROW HOLDS
pub step_within : (q : Period) → Runs q → Within 1 most_bound (step_of q)
step_within Once h = (omega arith, omega arith)
step_within (Every p) h = (h.0, omega arith)

-- as many rows as elements
pub laid_all :
    {R : Type 0} (row : Element → R) (s : List Element) (rows rows' : List R) → rows' ≡ laid row s rows → length rows ≡ length s → rows' ≡ map row s
unfolding laid
laid_all row s rows rows' e long =
    e ∙ rw (long, take-length s, ← long, drop-length rows) (append-nil (map row s))

-- however many rows there are: those of the elements, the other rows as they were, and as many as before
module _ {R : Type 0} (row : Element → R) where
  pub laid_at : (s : List Element) (rows : List R) (i : ℕ) (d : Element) (e : R) → i < length s → i < length rows → get_or (laid row s rows) i e ≡ row (get_or s i d)
  unfolding laid
  laid_at [] rows i d e h l = absurd (omega arith)
  laid_at (x ∷ s) [] i d e h l = absurd (omega arith)
  laid_at (x ∷ s) (r ∷ rows) zero d e h l = refl
  laid_at (x ∷ s) (r ∷ rows) (suc i) d e h l = laid_at s rows i d e (omega arith) (omega arith)

  pub laid_rest : (s : List Element) (rows : List R) (i : ℕ) (e : R) → length s ≤ i → get_or (laid row s rows) i e ≡ get_or rows i e
  unfolding laid
  laid_rest [] [] i e h = refl
  laid_rest [] (r ∷ rows) i e h = refl
  laid_rest (x ∷ s) [] i e h = refl
  laid_rest (x ∷ s) (r ∷ rows) zero e h = absurd (omega arith)
  laid_rest (x ∷ s) (r ∷ rows) (suc i) e h = laid_rest s rows i e (omega arith)

  pub laid_long : (s : List Element) (rows : List R) → length (laid row s rows) ≡ length rows
  unfolding laid
  laid_long [] [] = refl
  laid_long [] (r ∷ rows) = refl
  laid_long (x ∷ s) [] = refl
  laid_long (x ∷ s) (r ∷ rows) = ap suc (laid_long s rows)

-- LAYING, row by row
-- what stands in the first n elements is one of them
pub one_at : (s : List Element) (n i : ℕ) (d : Element) → i < length (take n s) → OneOf s (get_or (take n s) i d)
one_at s n i d h test all =
    let k = length-take n s in
    rw (get_or-take n s i d (omega (arith, k, h))) (each_at (λ e. test e ≡ true) s i d (omega (arith, k, h)) (all_each s test all))

pub laid_more :
    {A B : Type 0} (g : A → B) (xs : List A) (ys : List B) (i : ℕ) (d : A) → i < length xs → i < length ys →
    set (map g (take i xs) ++ drop i ys) i (g (get_or xs i d)) ≡ map g (take (i + 1) xs) ++ drop (i + 1) ys
laid_more g xs ys i d k l =
    let front = map g (take i xs) in
    let size : length front ≡ i = length-map (take i xs) g ∙ length-take-le i xs (omega arith) in
    rw (map_more g xs i d k, drop-cons ys i (g d) l, add-one) (
    ap (λ n. set (front ++ get_or ys i (g d) ∷ drop (suc i) ys) n (g (get_or xs i d))) (sym size)
    ∙ set-append_seam front _ _ _
    ∙ sym (append_assoc front _ _)
    )
