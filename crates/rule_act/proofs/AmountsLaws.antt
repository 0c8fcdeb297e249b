-- The laws of a rule over amounts: what it works out, by the cells it reads; what it stores.
use mathlib.Core.Path.{◌≡◌, refl, sym, ap, ap₂, ◌∙◌, subst}
use mathlib.Core.Logic.{⊎_elim}
use mathlib.Core.Bool.{Bool, true, false, not, cond, ◌&&◌, ◌||◌, or-true, false≢true}
use mathlib.Core.List.{List}
use Prim.Native.Nat.{ℕ, zero, suc, ◌≤◌, ◌<◌}
use native.Mathlib.Nat.{le_refl, le-suc, le_trans, eq-or-lt_of_le, le_of_suc-le-suc, not-suc-le-zero}
use lib.Dec.{eqb, leb}
use lib.ListN.{get_or, set, length, length-set}
use lib.Seq.{get_or-set_same, get_or-set_other}
use lib.IntN.{ℤ, pos, ◌+ℤ◌, ◌-ℤ◌}
use borrow.Author.Tests.{eq-eqb, eqb-true, eqb-false}
use Rattle.mask.specs.Search.{some}
use Rattle.mask.proofs.SearchLaws.{some_intro, some_same, some_false}
use Rattle.rule.specs.declared.Test.{Test}
use Rattle.rule.specs.declared.Assign.{Assign}
use Rattle.rule.specs.declared.Rule.{Rule}
use Rattle.rule.specs.Empty.{no_assign}
use Rattle.rule.specs.Uses.{uses_right, uses_a, uses_b, test_at, assign_at, test_reads, side_reads, reads, writes}
use Rattle.rule.specs.Numbers.{out_of_range, twice}
use Rattle.rule_sums.specs.Sums.{at, compares, holds, scaled, operated, value_of}
use Rattle.rule_act.specs.Amounts.{any_false, any_out, stored_by, stored}

-- c and d hold the same amounts in the cells of p
pub record Agree (p : ℕ → Bool) (c d : List ℤ) : Type 0 where
  pub on : (x : ℕ) → p x ≡ true → at c x ≡ at d x

-- ---- tests depend on the cells read

pub holds-local : (x : Test) (c d : List ℤ) → Agree (test_reads x) c d → holds x c ≡ holds x d
unfolding holds
holds-local x c d h =
    ap₂ (compares x.comparison)
    (h.on x.left (ap (λ (b : Bool). b || (uses_right x && eqb x.left x.right))
    (eq-eqb x.left x.left refl)))
    (right (uses_right x) refl)
  where
    right : (b : Bool) → uses_right x ≡ b → cond b (at c x.right) x.constant
        ≡ cond b (at d x.right) x.constant
    right true e =
        h.on x.right
        (ap₂ (λ (a b : Bool). eqb x.right x.left || (a && b)) e (eq-eqb x.right x.right refl)
        ∙ or-true (eqb x.right x.left))
    right false e = refl

module _ (r : Rule) (c d : List ℤ) (h : Agree (reads r) c d) where
  test-agree : (j : ℕ) → j < r.t → Agree (test_reads (test_at r j)) c d
  unfolding reads
  test-agree j l =
      record {
        on = λ x e.
            h.on x
            (ap (λ (b : Bool). b || some r.a (λ j. side_reads (assign_at r j) x))
            (some_intro r.t (λ j. test_reads (test_at r j) x) j l e));
      }

  pub side-agree : (j : ℕ) → j < r.a → Agree (side_reads (assign_at r j)) c d
  unfolding reads
  side-agree j l =
      record {
        on = λ x e.
            h.on x
            (ap (λ (b : Bool). some r.t (λ j. test_reads (test_at r j) x) || b)
            (some_intro r.a (λ j. side_reads (assign_at r j) x) j l e)
            ∙ or-true (some r.t (λ j. test_reads (test_at r j) x)));
      }

  pub any_false-local : any_false r c ≡ any_false r d
  unfolding any_false
  any_false-local =
      some_same r.t (λ j. not (holds (test_at r j) c)) (λ j. not (holds (test_at r j) d))
      (λ j l. ap not (holds-local (test_at r j) c d (test-agree j l)))

-- ---- right sides too

operated-local : (code : ℕ) (a a' b b' k : ℤ) (p q : ℕ) → ((leb 1 code && leb code 4) ≡ true → a ≡ a')
    → ((eqb code 2 || eqb code 3) ≡ true → b ≡ b') → operated code a b k p q ≡ operated code a' b' k p q
unfolding operated
operated-local zero a a' b b' k p q f g = refl
operated-local (suc zero) a a' b b' k p q f g = ap (λ (z : ℤ). z +ℤ k) (f refl)
operated-local (suc (suc zero)) a a' b b' k p q f g = ap₂ ◌+ℤ◌ (f refl) (g refl)
operated-local (suc (suc (suc zero))) a a' b b' k p q f g = ap₂ ◌-ℤ◌ (f refl) (g refl)
operated-local (suc (suc (suc (suc zero)))) a a' b b' k p q f g = ap (λ (z : ℤ). scaled z p q) (f refl)
operated-local (suc (suc (suc (suc (suc code))))) a a' b b' k p q f g = refl

pub value_of-local : (x : Assign) (c d : List ℤ) → Agree (side_reads x) c d → value_of x c ≡ value_of x d
unfolding value_of
value_of-local x c d h =
    operated-local x.operation (at c x.a) (at d x.a) (at c x.b) (at d x.b) x.k x.p x.q
    (λ e. h.on x.a (ap₂ (λ (u v : Bool). (u && v) || (uses_b x && eqb x.a x.b)) e (eq-eqb x.a x.a refl)))
    (λ e.
    h.on x.b
    (ap₂ (λ (u v : Bool). (uses_a x && eqb x.b x.a) || (u && v)) e (eq-eqb x.b x.b refl)
    ∙ or-true (uses_a x && eqb x.b x.a)))

module _ (r : Rule) (c d : List ℤ) (h : Agree (reads r) c d) where
  pub value_same : (j : ℕ) → j < r.a → value_of (assign_at r j) c ≡ value_of (assign_at r j) d
  value_same j l = value_of-local (assign_at r j) c d (side-agree r c d h j l)

  pub any_out-local : any_out r c ≡ any_out r d
  unfolding any_out
  any_out-local =
      some_same r.a (λ j. out_of_range (value_of (assign_at r j) c)) (λ j. out_of_range (value_of (assign_at r j) d))
      (λ j l. ap out_of_range (value_same j l))

-- ---- storing

pub at_set : (l : List ℤ) (i c : ℕ) (v : ℤ) → c < length l → at (set l i v) c ≡ cond (eqb c i) v (at l c)
at_set l i c v h = pick (eqb c i) refl
  where
    pick : (b : Bool) → eqb c i ≡ b → at (set l i v) c ≡ cond b v (at l c)
    pick true e =
        let z : c ≡ i = eqb-true c i e in
        subst (λ (y : ℕ). at (set l i v) y ≡ v) (sym z)
        (get_or-set_same l i v (pos 0) (subst (λ (y : ℕ). y < length l) z h))
    pick false e = get_or-set_other l i c v (pos 0) (eqb-false c i e)

module _ (xs : List Assign) (before : List ℤ) where
  pub length-stored : (j : ℕ) → length (stored_by xs before j) ≡ length before
  unfolding stored_by
  length-stored zero = refl
  length-stored (suc j) =
      length-set (stored_by xs before j) (get_or xs j no_assign).target _ ∙ length-stored j

  -- one assignment more
  pub stored_more : (j c : ℕ) → c < length before
      → at (stored_by xs before (suc j)) c
      ≡ cond (eqb c (get_or xs j no_assign).target) (value_of (get_or xs j no_assign) before) (at (stored_by xs before j) c)
  unfolding stored_by
  stored_more j c h =
      at_set (stored_by xs before j) (get_or xs j no_assign).target c (value_of (get_or xs j no_assign) before)
      (subst (λ (n : ℕ). c < n) (sym (length-stored j)) h)

  -- what holds of the amount before, and of the right side of each assignment to c, holds of the amount after
  pub stored-all : (P : ℤ → Type 0) (c : ℕ) → c < length before → P (at before c) → (n : ℕ)
      → ((j : ℕ) → j < n → c ≡ (get_or xs j no_assign).target → P (value_of (get_or xs j no_assign) before))
      → P (at (stored_by xs before n) c)
  unfolding stored_by
  stored-all P c l p zero h = p
  stored-all P c l p (suc n) h =
      subst P (sym (stored_more n c l))
      (pick (eqb c (get_or xs n no_assign).target) refl (stored-all P c l p n (λ j m. h j (le_trans m (le-suc n)))))
    where
      pick : (b : Bool) → eqb c (get_or xs n no_assign).target ≡ b → P (at (stored_by xs before n) c)
          → P (cond b (value_of (get_or xs n no_assign) before) (at (stored_by xs before n) c))
      pick true e q = h n (le_refl (suc n)) (eqb-true c (get_or xs n no_assign).target e)
      pick false e q = q

module _ (r : Rule) (before : List ℤ) where
  -- a cell that r does not write keeps its amount
  pub stored_else : (c : ℕ) → c < length before → writes r c ≡ false → at (stored r before) c ≡ at before c
  unfolding writes
  stored_else c l e =
      stored-all r.assigns before (λ z. z ≡ at before c) c l refl r.a
      (λ j m z.
      absurd (false≢true
      (sym (some_false r.a (λ j. eqb c (assign_at r j).target) e j m) ∙ eq-eqb c (assign_at r j).target z)))

  -- a target still holds what it held when its turn comes
  pub stored_next : twice r ≡ false → (j : ℕ) → j < r.a → (assign_at r j).target < length before
      → at (stored_by r.assigns before j) (assign_at r j).target ≡ at before (assign_at r j).target
  unfolding twice
  stored_next apart j l h =
      stored-all r.assigns before (λ z. z ≡ at before (assign_at r j).target) (assign_at r j).target h refl j
      (λ i m z.
      absurd (false≢true
      (sym (some_false j (λ i. eqb (assign_at r i).target (assign_at r j).target) (some_false r.a (λ j. some j (λ i. eqb (assign_at r i).target (assign_at r j).target)) apart j l) i m)
      ∙ eq-eqb (assign_at r i).target (assign_at r j).target (sym z))))

  -- a target holds its right side, in whatever order they are stored
  pub stored_at : twice r ≡ false → (i : ℕ) → i < r.a → (assign_at r i).target < length before
      → at (stored r before) (assign_at r i).target ≡ value_of (assign_at r i) before
  unfolding twice
  stored_at apart i l h = go r.a (le_refl r.a) l
    where
      other : (j : ℕ) → i < j → j < r.a → eqb (assign_at r i).target (assign_at r j).target ≡ false
      other j m n = some_false j (λ i. eqb (assign_at r i).target (assign_at r j).target)
          (some_false r.a (λ j. some j (λ i. eqb (assign_at r i).target (assign_at r j).target)) apart j n) i m

      go : (n : ℕ) → n ≤ r.a → i < n → at (stored_by r.assigns before n) (assign_at r i).target
          ≡ value_of (assign_at r i) before
      go zero b m = absurd (not-suc-le-zero m)
      go (suc n) b m =
          stored_more r.assigns before n (assign_at r i).target h
          ∙ ⊎_elim
          (λ z.
          ap (λ (t : Bool). cond t (value_of (assign_at r n) before)
          (at (stored_by r.assigns before n) (assign_at r i).target))
          (eq-eqb (assign_at r i).target (assign_at r n).target (ap (λ (x : ℕ). (assign_at r x).target) z))
          ∙ ap (λ (x : ℕ). value_of (assign_at r x) before) (sym z))
          (λ k.
          ap (λ (t : Bool). cond t (value_of (assign_at r n) before)
          (at (stored_by r.assigns before n) (assign_at r i).target))
          (other n k b)
          ∙ go n (le_trans (le-suc n) b) k)
          (eq-or-lt_of_le (le_of_suc-le-suc m))
