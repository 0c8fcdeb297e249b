-- "32 rules, rule i writes cell i and watches all lower cells: bound of all rules 4,294,967,295." Rule r may trigger all the rules above
-- it, and so weighs 2 ^ (31 - r): those weights meet the equation, they fall along every edge, and no others do.
use mathlib.Core.Path.{◌≡◌, refl, sym, ap, ◌∙◌, subst}
use mathlib.Core.Logic.{⊎_elim}
use mathlib.Core.Bool.{false, not, false≢true}
use mathlib.Core.List.{List}
use Prim.Native.Nat.{ℕ, suc, ◌+◌, ◌-◌, ◌^◌, ◌≤◌, ◌<◌}
use native.Mathlib.Nat.{le_refl}
use native.Mathlib.Omega.{arith}
use lib.Dec.{eqb, ltb, lit<}
use lib.ListN.{get_or, get_or-eq_default}
use lib.Pow.{pow_pos}
use borrow.Author.Tests.{eqb-true, ltb-true, not-false}
use Rattle.mask.specs.Search.{some}
use Rattle.mask.proofs.SearchLaws.{some_false, lt-or_ge}
use Rattle.mask.specs.Mask.{has, meet, beyond, mask_of}
use Rattle.mask.proofs.BitsLaws.{has-lt, has-zero}
use Rattle.graph.specs.Graph.{Leads}
use Rattle.graph.specs.GraphInner.{Rows, Halts}
use Rattle.graph.proofs.HaltsLaws.{halts-acyclic}
use Rattle.rule.specs.Fill.{upto}
use Rattle.analysis_weights.specs.Weight.{total, weight_of}
use Rattle.analysis_weights.specs.AnalysisWeightsInner.{sum_below, weight_in, Weights}
use Rattle.analysis_weights.proofs.SumsLaws.{total-at}
use Rattle.analysis_weights.proofs.WeightLaws.{falling_halts, total-weights}
use Rattle.analysis_pairs.specs.declared.Masks.{Masks}
use Rattle.analysis_pairs.specs.RuleMasks.{masks_from, may_trigger, masks_by, triggers}
use Rattle.analysis_masks.specs.Bound.{Bound}
use Rattle.analysis_masks.specs.Bound.{Bounded}

abbrev pub staircase : Masks
staircase = masks_from 32 (λ i. 2 ^ i - 1) (λ i. 0) (λ i. 2 ^ i) (λ i. 0)

-- who may trigger whom
pub stairs : List ℕ
stairs = upto 32 (λ r. 2 ^ 32 - 2 ^ suc r)

drawn : triggers staircase ≡ stairs
unfolding stairs triggers masks_by may_trigger meet mask_of has some
drawn = refl

pub steps : List ℕ
steps = upto 32 (λ r. 2 ^ (31 - r))

sums : some 32 (λ r. not (eqb (weight_in steps r) (1 + total 32 (get_or stairs r 0) (weight_in steps)))) ≡ false
unfolding stairs steps total has some
sums = refl

low : some 32 (λ r. not (ltb (get_or stairs r 0) (2 ^ 32))) ≡ false
unfolding stairs some
low = refl

weighs : (r : ℕ) → r < 32 → weight_in steps r ≡ 1 + total 32 (get_or stairs r 0) (weight_in steps)
weighs r l =
    eqb-true (weight_in steps r) (1 + total 32 (get_or stairs r 0) (weight_in steps))
    (not-false (eqb (weight_in steps r) (1 + total 32 (get_or stairs r 0) (weight_in steps)))
    (some_false 32 (λ r. not (eqb (weight_in steps r) (1 + total 32 (get_or stairs r 0) (weight_in steps)))) sums r l))

past : (r : ℕ) → 32 ≤ r → get_or stairs r 0 ≡ 0
unfolding stairs
past r l = get_or-eq_default (upto 32 (λ r. 2 ^ 32 - 2 ^ suc r)) 0 {n = r} l

rows : Rows 32 stairs
rows r =
    ⊎_elim
    (λ l.
    ltb-true (get_or stairs r 0) (2 ^ 32)
    (not-false (ltb (get_or stairs r 0) (2 ^ 32)) (some_false 32 (λ r. not (ltb (get_or stairs r 0) (2 ^ 32))) low r l)))
    (λ l. rw (past r l) (pow_pos 32))
    (lt-or_ge r 32)

ends : (r : ℕ) → Halts stairs r
ends =
    falling_halts stairs (weight_in steps) (λ r s e.
    ⊎_elim
    (λ l. omega (arith, weighs r l, total-at 32 (get_or stairs r 0) (weight_in steps) s (has-lt 32 s (rows r) e) e))
    (λ l. absurd (false≢true (sym (ap (λ (m : ℕ). has m s) (past r l) ∙ has-zero s) ∙ e)))
    (lt-or_ge r 32))

weights : Weights stairs 32 steps
unfolding steps sum_below
weights =
    record {
      size = refl;
      weight = λ r l h. weighs r l;
      endless = λ r h. absurd (h (ends r));
      absent = λ r l. get_or-eq_default (upto 32 (λ r. 2 ^ (31 - r))) 0 {n = r} l;
      fits = lit< tt;
    }

all : total 32 (2 ^ 32 - 1) (weight_in steps) ≡ 4294967295
unfolding steps total has
all = refl

-- what any bound of all of them says
pub stairs-bound : (b : Bound) → Bounded staircase (2 ^ 32 - 1) b → (b.number ≡ 0) × (b.bound ≡ 4294967295)
unfolding beyond has some
stairs-bound b p =
    let q = p.done refl (λ r w. halts-acyclic stairs 32 rows (ends r) (subst (λ (x : List ℕ). Leads x r r) drawn w)) in (
      q.0,
      q.1 ∙ ap (λ (x : List ℕ). total 32 (2 ^ 32 - 1) (weight_of x 32)) drawn
          ∙ sym (total-weights stairs 32 (le_refl 32) rows steps weights (2 ^ 32 - 1) (lit< tt)) ∙ all,
    )
