-- R1 and R2 of an unordered pair of a cleared book as two sets with a test each: closed under growing, each rule but
-- the first is triggered by another of its set, and every two across commute.
use mathlib.Core.Path.{◌≡◌, refl, sym, ◌∙◌}
use mathlib.Core.Logic.{⊎_elim}
use mathlib.Core.Bool.{Bool, true, false, not, false≢true}
use Prim.Native.Nat.{ℕ, ◌^◌, ◌<◌}
use native.Mathlib.Nat.{le_trans}
use lib.Pow.{pow_mono}
use Rattle.mask.proofs.SearchLaws.{lt-or_ge}
use Rattle.mask.specs.Mask.{has}
use Rattle.analysis_pairs.specs.declared.Masks.{Masks}
use Rattle.analysis_pairs.specs.Rules.{Rules, Grown, first, second, grow, Unordered}
use Rattle.analysis_pairs.proofs.RulesLaws.{turned, grown-alike}
use Rattle.analysis_pairs.specs.RuleMasks.{rules_of, triggers, may_trigger}
use Rattle.analysis_pairs.proofs.RuleMasksLaws.{deaf}
use Rattle.analysis_pairs.proofs.SettleLaws.{Settled, settle, settled}
use Rattle.analysis_masks.specs.AnalysisMasksInner.{Orderly}
use Rattle.analysis_masks.specs.Cleared.{Cleared}
use Rattle.analysis_masks.proofs.AlikeLaws.{befores, triggers-rows, alike-rows}

-- a rule of the set that may trigger r
pub record From (b : Rules) (set : ℕ → Bool) (r : ℕ) : Type 0 where
  pub by : ℕ
  pub in_set : set by ≡ true
  pub may : b.may by r ≡ true

pub record GrownSides (b : Rules) (n i j : ℕ) : Type 0 where
  pub one : ℕ → Bool
  pub other : ℕ → Bool
  pub has_one : one i ≡ true
  pub has_other : other j ≡ true
  pub below_one : (r : ℕ) → one r ≡ true → r < n
  pub below_other : (r : ℕ) → other r ≡ true → r < n
  pub closed-one : (a r t : ℕ) → one a ≡ true → b.may a r ≡ true → b.before r t → other t ≡ true → one r ≡ true
  pub closed-other : (a r t : ℕ) → other a ≡ true → b.may a r ≡ true → b.before r t → one t ≡ true → other r ≡ true
  pub from_one : (r : ℕ) → one r ≡ true → (r ≡ i → ⊥) → From b one r
  pub from-other : (r : ℕ) → other r ≡ true → (r ≡ j → ⊥) → From b other r
  pub commute : (r s : ℕ) → one r ≡ true → other s ≡ true → b.commute r s ≡ true

module _ (m : Masks) (o : Orderly m) (c : Cleared m) (i j : ℕ) (li : i < m.n) (lj : j < m.n) (ne : i ≡ j → ⊥)
    (u : Unordered (rules_of m) i j) where
  grew : ℕ × ℕ
  grew = settle (triggers m) (befores m) 65 (2 ^ i) (2 ^ j)

  done : Settled (triggers m) (befores m) i j (λ r. le_trans (triggers-rows m o r) (pow_mono o.few)) grew
  unfolding grew
  done =
      settled (triggers m) (befores m) i j (λ r. le_trans (triggers-rows m o r) (pow_mono o.few))
      (le_trans li o.few) (le_trans lj o.few)

  abbrev GrownIn : Bool → ℕ → Type 0
  GrownIn side r = Grown (may_trigger m) (rules_of m).before i j side r

  member : Bool → ℕ → Bool
  member true r = has grew.0 r
  member false r = has grew.1 r

  inside : (side : Bool) (r : ℕ) → member side r ≡ true → GrownIn side r
  unfolding member
  inside true r e = grown-alike (alike-rows m o) ((done.grew.first r).0 e)
  inside false r e = grown-alike (alike-rows m o) ((done.grew.second r).0 e)

  back : (side : Bool) (r : ℕ) → GrownIn side r → member side r ≡ true
  unfolding member
  back true r g = (done.grew.first r).1 (grown-alike (turned (alike-rows m o)) g)
  back false r g = (done.grew.second r).1 (grown-alike (turned (alike-rows m o)) g)

  low : {side : Bool} {r : ℕ} → GrownIn side r → r < m.n
  low first = li
  low second = lj
  low {r = r} (grow {r = a} g e b h) =
      ⊎_elim (λ l. l) (λ l. absurd (false≢true (sym (deaf m a r (o.watch r l)) ∙ e))) (lt-or_ge r m.n)

  start : Bool → ℕ
  start true = i
  start false = j

  from : {side : Bool} {r : ℕ} → GrownIn side r → (r ≡ start side → ⊥) → From (rules_of m) (member side) r
  unfolding start
  from first none = absurd (none refl)
  from second none = absurd (none refl)
  from {side = side} (grow {r = a} g e b h) none = record { by = a; in_set = back side a g; may = e }

  closed : (side : Bool) (a r t : ℕ) → member side a ≡ true → may_trigger m a r ≡ true → (rules_of m).before r t
      → member (not side) t ≡ true → member side r ≡ true
  closed side a r t p e b q = back side r (grow (inside side a p) e b (inside (not side) t q))

  pub sides : GrownSides (rules_of m) m.n i j
  unfolding start
  sides =
      record {
        one = member true;
        other = member false;
        has_one = back true i first;
        has_other = back false j second;
        below_one = λ r e. low (inside true r e);
        below_other = λ r e. low (inside false r e);
        closed-one = closed true;
        closed-other = closed false;
        from_one = λ r e none. from (inside true r e) none;
        from-other = λ r e none. from (inside false r e) none;
        commute = λ r s e f. c.pairs i j li lj ne u r s (inside true r e) (inside false s f);
      }
