-- Laws of specs/Elements: the allowed values as numbers. Assumes nothing.
use Prim.Native.Nat.{ℕ, ◌-◌, ◌≤◌}
use mathlib.Core.Path.{◌≡◌}
use mathlib.Core.Bool.{true, ◌&&◌}
use mathlib.Core.List.{List}
use mathlib.Core.Logic.{◌↔◌}
use native.Mathlib.Omega.{arith}
use lib.Dec.{leb}
use lib.ListN.{length, replicate}
use lib.Seq.{length-take-le, take-append_seam}
use borrow.Author.Tests.{leb-true, le-leb}
use Rattle.model.specs.declared.elements.Period.{Period}
use Rattle.model.specs.declared.elements.Period.TheVariants.{Once, Every}
use Rattle.model.specs.declared.elements.Element.{Element}
use Rattle.model.specs.declared.elements.TaskSet.{TaskSet}
use Rattle.model.specs.Over.{all_over, Each}
use Rattle.model.specs.Elements.{most_period, most_offset, most_deadline, most_cost, places, within, is_period, is_offset, is_deadline, is_cost, is_legal, AllLegal, filler, counted, is_legal_set, set_of}
use Rattle.model.proofs.Cases.{and_left, and_right}
use Rattle.model.proofs.OverLaws.{all_each, each_map}

abbrev pub Within : ℕ → ℕ → ℕ → Type 0
Within low high x = (low ≤ x) × (x ≤ high)

abbrev pub Runs : Period → Type 0
Runs Once = Unit {0}
Runs (Every p) = Within 1 most_period p

pub record Legal (e : Element) : Type 0 where
  pub period : Runs e.period
  pub offset : Within 0 most_offset e.offset
  pub deadline : Within 1 most_deadline e.deadline
  pub cost : Within 1 most_cost e.cost

pub within_is : (low high x : ℕ) → within low high x ≡ true → Within low high x
unfolding within
within_is low high x h = (leb-true low x (and_left (leb low x) (leb x high) h), leb-true x high (and_right (leb low x) (leb x high) h))

pub period_is : (q : Period) → is_period q ≡ true → Runs q
unfolding is_period
period_is Once h = tt
period_is (Every p) h = within_is 1 most_period p h

-- a legal element's four tests, and back
pub legal_parts :
    (e : Element) →
    (is_legal e ≡ true) ↔ ((is_period e.period ≡ true) × (is_offset e.offset ≡ true) × (is_deadline e.deadline ≡ true) × (is_cost e.cost ≡ true))
unfolding is_legal
legal_parts e =
    let p = is_period e.period in
    let a = is_offset e.offset in
    let d = is_deadline e.deadline in
    let c = is_cost e.cost in (
      λ h. let pad = and_left (p && a && d) c h in
          let pa = and_left (p && a) d pad in
          (and_left p a pa, and_right p a pa, and_right (p && a) d pad, and_right (p && a && d) c h),
      λ h. rw (h.0, h.1, h.2, h.3),
    )

pub legal_is : (e : Element) → is_legal e ≡ true → Legal e
unfolding is_offset is_deadline is_cost
legal_is e h =
    let q = (legal_parts e).0 h in
    record {
      period = period_is e.period q.0;
      offset = within_is 0 most_offset e.offset q.1;
      deadline = within_is 1 most_deadline e.deadline q.2;
      cost = within_is 1 most_cost e.cost q.3;
    }

pub all_legal : (s : List Element) → AllLegal s → Each s Legal
all_legal s h = each_map s legal_is (all_each s is_legal h)

-- a legal set as a count and its elements, and back
pub legal_set : (t : TaskSet) → (is_legal_set t ≡ true) ↔ ((t.count ≤ places) × AllLegal (counted t))
unfolding is_legal_set
legal_set t =
    let few = leb t.count places in
    let all = all_over (counted t) is_legal in
    (λ h. (leb-true t.count places (and_left few all h), and_right few all h), λ h. rw (le-leb t.count places h.0) h.1)

-- a set holds the elements that it is made of
pub set_counted : (s : List Element) → counted (set_of s) ≡ s
set_counted s = take-append_seam s (replicate (places - length s) filler)

-- the counted places of a table
module _ (t : TaskSet) (long : length t.table ≡ places) (few : t.count ≤ places) where
  pub counted_long : length (counted t) ≡ t.count
  counted_long = length-take-le t.count t.table (omega arith)
