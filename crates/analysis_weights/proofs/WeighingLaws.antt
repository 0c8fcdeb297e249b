-- What weighing one rule after another keeps: the weights found so far have room, and every rule outside `left` that
-- some rule may trigger halts.
use mathlib.Core.Path.{◌≡◌, refl, sym, ap, ap₂, ◌∙◌, subst}
use mathlib.Core.Logic.{◌≢◌}
use mathlib.Core.Bool.{Bool, true, false, not, ◌&&◌, false≢true, and-false}
use mathlib.Core.List.{List}
use Prim.Native.Nat.{ℕ, suc, ◌+◌, ◌*◌, ◌^◌, ◌≤◌, ◌<◌}
use native.Mathlib.Nat.{le_trans, le_of_eq, mul-le-mul_left, mul-le-mul_right, mul_assoc, mul_comm, pow-suc, one-mul}
use native.Mathlib.Decide.{ℕ_discrete}
use native.Mathlib.Omega.{arith}
use lib.Dec.{eqb}
use lib.ListN.{get_or, set, length, replicate, length-set}
use lib.Pow.{pow_pos, pow_mono}
use lib.Seq.{get_or-set_same, get_or-set_other}
use borrow.Author.Tests.{eq-eqb, ne_eqb, not-true}
use Rattle.mask.specs.Search.{count}
use Rattle.mask.proofs.SearchLaws.{Found, some-elim, some_false, and_true_both, count-max, count-drop}
use Rattle.mask.specs.Mask.{has, meet}
use Rattle.mask.proofs.BitsLaws.{has-lt}
use Rattle.graph.specs.GraphInner.{Halts, halts}
use Rattle.analysis_weights.specs.Weight.{total}
use Rattle.analysis_weights.specs.AnalysisWeightsInner.{sum_below, weight_in, ready, Headroom, Weighable, Weighed}
use Rattle.analysis_weights.proofs.SumsLaws.{total-same, sum_below-set}

-- ---- room

pub room-start : (left : ℕ) → Headroom (replicate 32 0) left
unfolding Headroom sum_below
room-start left = le_trans (le_of_eq (one-mul (2 ^ count 32 (has left)))) (pow_mono (count-max 32 (has left)))

pub room_fits : (w : List ℕ) (left : ℕ) → Headroom w left → sum_below 32 (weight_in w) < 2 ^ 32
unfolding Headroom
room_fits w left h =
    let k : ℕ = count 32 (has left) in
    let e : (sum_below 32 (weight_in w) + 1) * 1 ≤ (sum_below 32 (weight_in w) + 1) * 2 ^ k =
    mul-le-mul_left (sum_below 32 (weight_in w) + 1) (pow_pos k) in
    omega (arith, e, h)

twice : (a k : ℕ) → (a * 2) * 2 ^ k ≡ a * 2 ^ suc k
twice a k = mul_assoc a 2 (2 ^ k) ∙ ap (λ (x : ℕ). a * x) (mul_comm 2 (2 ^ k) ∙ sym (pow-suc 2 k))

-- a rule that is left has room for one more than all the others together
pub room-one : (w : List ℕ) (left r : ℕ) → r < 32 → has left r ≡ true → Headroom w left → sum_below 32 (weight_in w) + 1 < 2 ^ 32
unfolding Headroom
room-one w left r l m h =
    let k : ℕ = count 32 (λ x. has left x && not (eqb x r)) in
    let e : count 32 (has left) ≡ suc k = count-drop 32 (has left) (λ x. has left x && not (eqb x r)) r l m (λ x. refl) in
    let a : (sum_below 32 (weight_in w) + 1) * 2 * 1 ≤ (sum_below 32 (weight_in w) + 1) * 2 * 2 ^ k =
    mul-le-mul_left ((sum_below 32 (weight_in w) + 1) * 2) (pow_pos k) in
    let b : (sum_below 32 (weight_in w) + 1) * 2 * 2 ^ k ≤ 2 ^ 32 =
    le_trans (le_of_eq (twice (sum_below 32 (weight_in w) + 1) k ∙ ap (λ (x : ℕ). (sum_below 32 (weight_in w) + 1) * 2 ^ x) (sym e))) h in
    omega (arith, a, b)

pub room_next : (w : List ℕ) (left left' i v : ℕ) → i < length w → v ≤ sum_below 32 (weight_in w) + 1
    → count 32 (has left) ≡ suc (count 32 (has left')) → Headroom w left → Headroom (set w i v) left'
unfolding Headroom
room_next w left left' i v h l e r =
    let k : ℕ = count 32 (has left') in
    let s : sum_below 32 (weight_in (set w i v)) ≤ sum_below 32 (weight_in w) + v = sum_below-set w i v 32 h in
    let a : (sum_below 32 (weight_in (set w i v)) + 1) * 2 ^ k ≤ ((sum_below 32 (weight_in w) + 1) * 2) * 2 ^ k =
    mul-le-mul_right (2 ^ k) (omega arith) in
    le_trans a (le_trans
    (le_of_eq (twice (sum_below 32 (weight_in w) + 1) k ∙ ap (λ (x : ℕ). (sum_below 32 (weight_in w) + 1) * 2 ^ x) (sym e))) r)

-- ---- a rule that is ready halts; where none is ready, none of `left` halts

met : (a m : Bool) → a ≡ true → (a && not m) ≡ false → m ≡ true
met true true e h = refl
met true false e h = absurd (false≢true (sym h))
met false m e h = absurd (false≢true e)

module _ {trig : List ℕ} {left : ℕ} (fl : left < 2 ^ 32) where
  pub stuck : {r : ℕ} → ((x : ℕ) → x < 32 → ready trig left x ≡ false) → Halts trig r → has left r ≡ true → ⊥
  unfolding meet
  stuck h (halts {r = r} f) e =
      let w : Found 32 (λ s. has (get_or trig r 0) s && has left s) =
      some-elim 32 (λ s. has (get_or trig r 0) s && has left s) (met (has left r) (meet (get_or trig r 0) left) e (h r (has-lt 32 r fl e))) in
      let p : (has (get_or trig r 0) w.at ≡ true) × (has left w.at ≡ true) =
      and_true_both (has (get_or trig r 0) w.at) (has left w.at) w.is in
      stuck h (f w.at p.0) p.1

-- what r may trigger is outside `left`
outside : (trig : List ℕ) (left r : ℕ) → meet (get_or trig r 0) left ≡ false
    → (s : ℕ) → s < 32 → has (get_or trig r 0) s ≡ true → has left s ≡ false
unfolding meet
outside trig left r d s l e =
    sym (ap (λ (b : Bool). b && has left s) e) ∙ some_false 32 (λ i. has (get_or trig r 0) i && has left i) d s l

-- ---- a call that weighs nothing

pub weighed_none : (trig : List ℕ) (left : ℕ) (w : List ℕ) → left < 2 ^ 32 → ((x : ℕ) → x < 32 → ready trig left x ≡ false)
    → Weighable trig left w → Weighed trig left w w
weighed_none trig left w fl d a =
    record {
      size = refl;
      weight = λ x e h. absurd (stuck fl d h e);
      endless = λ x h. refl;
      same = λ x e. refl;
      fits = room_fits w left a.room;
    }

-- ---- a call that weighs r
module _ (trig : List ℕ) (left left' : ℕ) (w : List ℕ) (r : ℕ) (lr : r < 32)
    (d : ready trig left r ≡ true) (a : Weighable trig left w)
    (hl : (k : ℕ) → has left' k ≡ (has left k && not (eqb k r))) where
  taken : (has left r ≡ true) × (meet (get_or trig r 0) left ≡ false)
  taken = let p = and_true_both (has left r) (not (meet (get_or trig r 0) left)) d in (p.0, not-true (meet (get_or trig r 0) left) p.1)

  lw : r < length w
  lw = omega (arith, a.size)

  ready-halts : Halts trig r
  ready-halts =
      halts (λ s e. a.halted r s e (outside trig left r taken.1 s (has-lt 32 s (a.rows r) e) e))

  pub weighable_next : (v : ℕ) → v ≤ sum_below 32 (weight_in w) + 1 → count 32 (has left) ≡ suc (count 32 (has left'))
      → Weighable trig left' (set w r v)
  weighable_next v lv e =
      record {
        size = length-set w r v ∙ a.size;
        rows = a.rows;
        room = room_next w left left' r v lw lv e a.room;
        halted = λ x s edge out.
            elim (ℕ_discrete s r) [
              | yes z ↦ subst (Halts trig) (sym z) ready-halts
              | no z ↦ a.halted x s edge (back (has left s) (eqb s r) (ne_eqb s r z) (sym (hl s) ∙ out))
            ];
      }
    where
      back : (x y : Bool) → y ≡ false → (x && not y) ≡ false → x ≡ false
      back true y e q = sym (ap not e) ∙ q
      back false y e q = refl

  pub weighed_more : (v : List ℕ) (t : ℕ) → t ≡ total 32 (get_or trig r 0) (weight_in w)
      → Weighed trig left' (set w r (t + 1)) v → Weighed trig left w v
  weighed_more v t q u =
      record {
        size = u.size ∙ length-set w r (t + 1);
        weight = λ x e h.
            elim (ℕ_discrete x r) [
              | yes z ↦ subst (λ (y : ℕ). weight_in v y ≡ 1 + total 32 (get_or trig y 0) (weight_in v)) (sym z) here
              | no z ↦ u.weight x (hl x ∙ ap₂ (λ (a b : Bool). a && not b) e (ne_eqb x r z)) h
            ];
        endless =
            λ x h. u.endless x h ∙ get_or-set_other w r x (t + 1) 0 (λ z. h (subst (Halts trig) (sym z) ready-halts));
        same = λ x e. kept x (ne x e) e;
        fits = u.fits;
      }
    where
      ne : (x : ℕ) → has left x ≡ false → x ≢ r
      ne x e z = false≢true (sym e ∙ ap (has left) z ∙ taken.0)

      kept : (x : ℕ) → x ≢ r → has left x ≡ false → weight_in v x ≡ weight_in w x
      kept x z e = u.same x (hl x ∙ ap (λ (b : Bool). b && not (eqb x r)) e) ∙ get_or-set_other w r x (t + 1) 0 z

      sum : total 32 (get_or trig r 0) (weight_in w) ≡ total 32 (get_or trig r 0) (weight_in v)
      sum =
          total-same 32 (get_or trig r 0) (weight_in w) (weight_in v) (λ s m e.
          let o : has left s ≡ false = outside trig left r taken.1 s m e in sym (kept s (ne s o) o))

      here : weight_in v r ≡ 1 + total 32 (get_or trig r 0) (weight_in v)
      here =
          u.same r (hl r ∙ ap (λ (b : Bool). has left r && not b) (eq-eqb r r refl) ∙ and-false (has left r))
          ∙ get_or-set_same w r (t + 1) 0 lw
          ∙ (let e : t ≡ total 32 (get_or trig r 0) (weight_in v) = q ∙ sum in omega (arith, e))
