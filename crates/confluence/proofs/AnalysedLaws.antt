-- The analysis as `orders` asks for it: who may trigger whom, who commutes, weights, and the two sets of an unordered pair of a cleared
-- book. It cites the analysis's laws alone.
use mathlib.Core.Path.{◌≡◌, refl, sym, ap, ap₂, ◌∙◌}
use mathlib.Core.Bool.{Bool, So, cond}
use Prim.Native.Nat.{ℕ, zero, suc, ◌+◌, ◌≤◌, ◌<◌}
use native.Mathlib.Nat.{le_trans, le_refl, le_of_eq}
use native.Mathlib.Numerals.{add-one}
use native.Mathlib.Decide.{le_ind}
use native.Mathlib.Omega.{arith}
use lib.ListN.{get_or}
use Rattle.mask.specs.Mask.{has}
use Rattle.graph.specs.Graph.{Leads}
use Rattle.table.specs.Table.{Table, goes_before}
use Rattle.table.specs.Check.{Sound}
use Rattle.table.proofs.SoundLaws.{parts}
use Rattle.table.proofs.BeforeLaws.{before-iff}
use Rattle.analysis_weights.specs.Weight.{total, weight_of}
use Rattle.analysis_weights.proofs.SumsLaws.{total-more}
use Rattle.analysis_weights.proofs.EquationLaws.{weighs, total-none}
use Rattle.analysis_pairs.specs.RuleMasks.{may_trigger, commute, rules_of, triggers}
use Rattle.analysis_pairs.proofs.RuleMasksLaws.{commute-sym}
use Rattle.analysis_masks.specs.AnalysisMasksInner.{Orderly}
use Rattle.analysis_masks.specs.Cleared.{Faulty, Cleared}
use Rattle.analysis_masks.proofs.ClearedLaws.{ends-halts}
use Rattle.analysis_masks.proofs.AlikeLaws.{may-within, triggers-has, triggers-rows}
use Rattle.analysis_masks.proofs.SidesLaws.{GrownSides, sides}
use Rattle.analysis.specs.TableMasks.{masks_of}
use Rattle.analysis.proofs.TableMasksLaws.{masks-orderly}
use Rattle.analysis.proofs.SetsLaws.{may_trigger_lem, commute-quiet, commute-reads, commute-writes}
use Rattle.orders.specs.Finite.{sum}
use Rattle.orders.specs.System.{Weighs}
use Rattle.orders.specs.Bodies.{Analysis}
use Rattle.orders.specs.Actions.{action_bodies}
use Rattle.orders.specs.Confluence.{PairsPass}
use Rattle.orders.proofs.ConcreteLaws.{machine}
use Rattle.confluence.specs.Demand.{Precedes32}
use Rattle.confluence.proofs.MachineLaws.{runner, actions, concrete}

-- ---- two ways to add up

-- the sum over a set of numbers below k
pub total-sum : (k m : ℕ) (f : ℕ → ℕ) → total k m f ≡ sum (λ s. cond (has m s) (f s) 0) k
unfolding sum
total-sum zero m f = total-none m f
total-sum (suc k) m f =
    ap (λ (i : ℕ). total i m f) (sym (add-one k)) ∙ total-more k m f ∙ ap (λ (x : ℕ). x + cond (has m k) (f k) 0) (total-sum k m f)

-- nothing is added from n up
pub sum_past : (n k : ℕ) (f : ℕ → ℕ) → n ≤ k → ((s : ℕ) → n ≤ s → f s ≡ 0) → sum f k ≡ sum f n
unfolding sum
sum_past n k f l h = le_ind (λ k. sum f k ≡ sum f n) refl (λ k m e. omega (arith, e, h k m)) k l

pub sum_same : (k : ℕ) (f g : ℕ → ℕ) → ((s : ℕ) → s < k → f s ≡ g s) → sum f k ≡ sum g k
unfolding sum
sum_same zero f g h = refl
sum_same (suc k) f g h = ap₂ ◌+◌ (sum_same k f g (λ s l. h s (le_trans l (omega arith)))) (h k (le_refl (suc k)))

module _ (t : Table) (sound : Sound t) (masks : Precedes32 t) where
  orderly : Orderly (masks_of t)
  orderly = masks-orderly t sound masks.small

  few : t.n ≤ 32
  few = (parts t sound).sizes.rules

  pub small : t.k ≤ 32
  small = (parts t sound).sizes.cells

  -- "a rule weighs one more than all the rules it may trigger together"
  unfoldable pub weight : ℕ → ℕ
  weight r = weight_of (triggers (masks_of t)) t.n r

  module _ (ends : (r : ℕ) → Faulty (masks_of t) r → ⊥) where
    pub weights : Weighs t.n (may_trigger (masks_of t)) weight
    unfolding weight
    weights r l =
        let m = masks_of t in
        let w : ℕ → ℕ = weight_of (triggers m) t.n in
        let one : sum (λ s. cond (may_trigger m r s) (w s) 0) 32 ≡ sum (λ s. cond (may_trigger m r s) (w s) 0) t.n =
        sum_past t.n 32 (λ s. cond (may_trigger m r s) (w s) 0) few
        (λ s h. ap (λ (b : Bool). cond b (w s) 0) ((may-within m orderly).to r s h)) in
        let two : total 32 (get_or (triggers m) r 0) w ≡ sum (λ s. cond (may_trigger m r s) (w s) 0) 32 =
        total-sum 32 (get_or (triggers m) r 0) w
        ∙ sum_same 32 (λ s. cond (has (get_or (triggers m) r 0) s) (w s) 0) (λ s. cond (may_trigger m r s) (w s) 0)
        (λ s h. ap (λ (b : Bool). cond b (w s) 0) (triggers-has m orderly r s)) in
        le_of_eq
        (ap (λ (x : ℕ). 1 + x) (sym (two ∙ one))
        ∙ sym (weighs (triggers m) t.n few (triggers-rows m orderly) r l (ends-halts m orderly ends r)))

    abbrev pub analysed : Analysis t.k (action_bodies t.k (actions t sound))
    analysed =
        record {
          may_trigger = may_trigger (masks_of t);
          commute = commute (masks_of t);
          weight = weight;
          triggers = λ r s x lr ls lx w i. may_trigger_lem t r s x lr ls (le_trans lx small) w i;
          weighs = weights;
          commute_symmetric = λ r s lr ls c. sym (commute-sym (masks_of t) r s) ∙ c;
          commute-quiet = λ r s lr ls ne c. commute-quiet t r s lr ls ne c;
          commute-reads = λ r s x lr ls lx ne c. commute-reads t r s lr ls ne c x (le_trans lx small);
          commute-writes = λ r s x lr ls lx ne c. commute-writes t r s lr ls ne c x (le_trans lx small);
        }

  -- "every unordered pair passes"
  pub pairs_pass : (c : Cleared (masks_of t))
      → PairsPass (machine t.k (actions t sound) (runner t sound) (concrete t sound) (analysed c.ends))
  pairs_pass c i j l lj u =
      let li : i < t.n = le_trans l (le_trans (omega arith) lj) in
      let up : (r s : ℕ) → Leads (masks_of t).precedes r s → So (goes_before t r s) =
      λ r s. (before-iff t sound masks.small r s).1 in
      let down : (r s : ℕ) → So (goes_before t r s) → Leads (masks_of t).precedes r s =
      λ r s. (before-iff t sound masks.small r s).0 in
      let d : GrownSides (rules_of (masks_of t)) t.n i j =
      sides (masks_of t) orderly c i j li lj (λ e. omega arith) (λ v. u.0 (up i j v), λ v. u.1 (up j i v)) in
      record {
        R₁ = d.one;
        R₂ = d.other;
        has₁ = d.has_one;
        has₂ = d.has_other;
        closed₁ = λ a r b la lr lb ha m g hb. d.closed-one a r b ha m (down r b g) hb;
        closed₂ = λ a r b la lr lb ha m g hb. d.closed-other a r b ha m (down r b g) hb;
        grown₁ = λ r lr h ne. let f = d.from_one r h ne in (f.by, d.below_one f.by f.in_set, f.in_set, f.may);
        grown₂ = λ r lr h ne. let f = d.from-other r h ne in (f.by, d.below_other f.by f.in_set, f.in_set, f.may);
        commuting = λ a b la lb ha hb. d.commute a b ha hb;
      }
