-- Names of rules that 5, 7 and the letters leave are the same exactly when their 16 bytes are.
use mathlib.Core.Path.{◌≡◌, refl, sym, ap, ap₂, ◌∙◌, subst}
use mathlib.Core.Bool.{Bool, true, false, not, ◌&&◌, ◌||◌, false≢true, cond, or_comm}
use mathlib.Core.Logic.{⊎_elim}
use mathlib.Core.List.{List, []}
use Prim.Native.Nat.{ℕ, zero, suc, ◌+◌, ◌≤◌, ◌<◌}
use native.Mathlib.Numerals.{add-one}
use native.Mathlib.Omega.{arith}
use lib.Dec.{eqb, ltb}
use lib.ListN.{length, get_or, set, take}
use lib.Seq.{ext_get_or, get_or-set_same, get_or-set_other}
use borrow.Author.Count.{below_more}
use borrow.Author.Tests.{eq-eqb, eqb-true, not-true, not-false, le-ltb}
use Rattle.std.specs.Prelude.{nat_eq}
use Rattle.std.specs.List.{list_any}
use Rattle.std.specs.Cmp.Lexicographic.{pointwise, same_text, other_text}
use Rattle.std.proofs.lemmas.List.Folds.{list_any_more}
use Rattle.mask.specs.Search.{some}
use Rattle.mask.proofs.SearchLaws.{some_false, some-none, some_same, and_true_both, or_false_both, lt-or_ge}
use Rattle.rule.specs.declared.Rule.{Rule}
use Rattle.rule.specs.Empty.{no_rule}
use Rattle.rule.specs.Numbers.{not_zero, counts_bad, forms_bad, letter_bad, letters_bad, same_name, name_taken, rule_number, test_form_bad, assign_form_bad, test_slot_bad, assign_slot_bad}
use Rattle.rule.specs.Uses.{test_at, assign_at}
use Rattle.rule.proofs.NumbersLaws.{counted, Clean, clean}
use Rattle.rule_check.specs.RuleCheckInner.{number_with, taken_in}
use Rattle.rule_check.proofs.NumberWithLaws.{number-with, with-same}

-- ---- a rule whose name has letters only, and zeros after them

pub record Plain (r : Rule) : Type 0 where
  pub long : length r.name ≡ 16
  pub few : r.m ≤ 16
  pub letters : (j : ℕ) → j < r.m → get_or r.name j 0 ≡ 0 → ⊥
  pub rest : (j : ℕ) → r.m ≤ j → j < 16 → get_or r.name j 0 ≡ 0

not-letter : letter_bad 0 ≡ true
not-letter = refl

pub plain : (r : Rule) → length r.name ≡ 16 → counts_bad r ≡ false → forms_bad r ≡ false
    → letters_bad r ≡ false → Plain r
unfolding forms_bad letters_bad
plain r l c f e =
    let F : ℕ → Bool = λ j. cond (ltb j r.t) (test_form_bad (test_at r j)) (test_slot_bad (test_at r j)) in
    let G : ℕ → Bool = λ j. cond (ltb j r.a) (assign_form_bad (assign_at r j)) (assign_slot_bad (assign_at r j)) in
    let H : ℕ → Bool = λ j. not (ltb j r.m) && not_zero (get_or r.name j 0) in
    let p = or_false_both (some 8 F || some 8 G) (some 16 H) f in
    record {
      long = l;
      few = (counted r c).letters;
      letters = λ j h z.
          false≢true (sym (some_false r.m (λ x. letter_bad (get_or r.name x 0)) e j h) ∙ ap letter_bad z ∙ not-letter);
      rest = λ j h g.
          let q = some_false 16 H p.1 j g in
          eqb-true (get_or r.name j 0) 0
          (not-false (eqb (get_or r.name j 0) 0)
          (sym (ap (λ (v : Bool). not v && not_zero (get_or r.name j 0)) (le-ltb j r.m h)) ∙ q));
    }

-- ---- the same name, by its bytes

module _ (r s : Rule) (p : Plain r) (q : Plain s) where
  abbrev unequal : ℕ → Bool
  unequal j = not (eqb (get_or r.name j 0) (get_or s.name j 0))

  shorter : r.name ≡ s.name → r.m < s.m → ⊥
  shorter e l = q.letters r.m l (ap (λ (x : List ℕ). get_or x r.m 0) (sym e) ∙ p.rest r.m (omega arith) (omega (arith, q.few)))

  longer : r.name ≡ s.name → s.m < r.m → ⊥
  longer e l = p.letters s.m l (ap (λ (x : List ℕ). get_or x s.m 0) e ∙ q.rest s.m (omega arith) (omega (arith, p.few)))

  same_length : r.name ≡ s.name → r.m ≡ s.m
  same_length e =
      ⊎_elim (λ l. absurd (shorter e l)) (λ h. ⊎_elim (λ l. absurd (longer e l)) (λ g. omega arith) (lt-or_ge s.m r.m))
      (lt-or_ge r.m s.m)

  there : r.name ≡ s.name → same_name r s ≡ true
  unfolding same_name
  there e =
      ap₂ (λ (x y : Bool). x && not y) (eq-eqb r.m s.m (same_length e))
      (some-none s.m unequal
      (λ j l. ap not (eq-eqb (get_or r.name j 0) (get_or s.name j 0) (ap (λ (x : List ℕ). get_or x j 0) e))))

  back : same_name r s ≡ true → r.name ≡ s.name
  unfolding same_name
  back n =
      let a = and_true_both (eqb r.m s.m) (not (some s.m unequal)) n in
      let m : r.m ≡ s.m = eqb-true r.m s.m a.0 in
      ext_get_or 0 r.name s.name (p.long ∙ sym q.long)
      (λ j l.
      ⊎_elim
      (λ h.
      eqb-true (get_or r.name j 0) (get_or s.name j 0)
      (not-false (eqb (get_or r.name j 0) (get_or s.name j 0))
      (some_false s.m unequal (not-true (some s.m unequal) a.1) j h)))
      (λ h. p.rest j (omega arith) (omega (arith, p.long)) ∙ sym (q.rest j h (omega (arith, p.long))))
      (lt-or_ge j s.m))

  bytes_same : pointwise nat_eq r.name s.name ≡ same_name r s
  bytes_same = pick (pointwise nat_eq r.name s.name) refl (same_name r s) refl
    where
      pick : (b : Bool) → b ≡ pointwise nat_eq r.name s.name → (c : Bool) → c ≡ same_name r s → b ≡ c
      pick true e c f = sym (f ∙ there (same_text r.name s.name e))
      pick false e true f = absurd (other_text r.name s.name e (back (sym f)))
      pick false e false f = refl

-- ---- the row of the names of the rules before one

pub record Named (names : List (List ℕ)) (rules : List Rule) (i : ℕ) : Type 0 where
  pub same : (h : ℕ) → h < i → get_or names h [] ≡ (get_or rules h no_rule).name
  pub plain : (h : ℕ) → h < i → Plain (get_or rules h no_rule)

any-taken : {A : Type 0} (f : A → Bool) (xs : List A) (d : A) (i : ℕ) → i ≤ length xs → list_any f (take i xs) ≡ some i (λ h. f (get_or xs h d))
unfolding some
any-taken f xs d zero l = refl
any-taken f xs d (suc i) l =
    rw (← add-one) (list_any_more f xs i d (omega arith))
    ∙ or_comm (list_any f (take i xs)) (f (get_or xs i d))
    ∙ ap (λ (b : Bool). f (get_or xs i d) || b) (any-taken f xs d i (omega arith))

pub taken-same : (names : List (List ℕ)) (rules : List Rule) (i : ℕ) (r : Rule) → i ≤ length names → Named names rules i → Plain r
    → taken_in (take i names) r.name ≡ name_taken rules i r
unfolding taken_in name_taken
taken-same names rules i r l n p =
    any-taken (λ x. pointwise nat_eq x r.name) names [] i l
    ∙ some_same i
    (λ h. pointwise nat_eq (get_or names h []) r.name)
    (λ h. same_name (get_or rules h no_rule) r)
    (λ h l.
    ap (λ (x : List ℕ). pointwise nat_eq x r.name) (n.same h l)
    ∙ bytes_same (get_or rules h no_rule) r (n.plain h l) p)

-- the number of a rule, by the row of names
pub number-named : (n k : ℕ) (names : List (List ℕ)) (rules : List Rule) (i : ℕ) (r : Rule) → i ≤ length names → Named names rules i
    → length r.name ≡ 16 → number_with n k (taken_in (take i names) r.name) r ≡ rule_number n k rules i r
number-named n k names rules i r few h l =
    with-same n k (taken_in (take i names) r.name) (name_taken rules i r) r
    (λ c f e. taken-same names rules i r few h (plain r l c f e))
    ∙ number-with n k rules i r

pub named_none : (names : List (List ℕ)) (rules : List Rule) → Named names rules 0
named_none names rules = record { same = λ h l. absurd (omega arith); plain = λ h l. absurd (omega arith) }

-- one name more, of a rule with no number
pub named_more : (n k : ℕ) (names : List (List ℕ)) (rules : List Rule) (i : ℕ) (r : Rule) → Named names rules i → i < length names
    → get_or rules i no_rule ≡ r → length r.name ≡ 16 → rule_number n k rules i r ≡ 0 → Named (set names i r.name) rules (i + 1)
named_more n k names rules i r h small e l z =
    record {
      same = below_more (λ x. get_or (set names i r.name) x [] ≡ (get_or rules x no_rule).name) i
          (λ x g. get_or-set_other names i x r.name [] (λ q. absurd (omega arith)) ∙ h.same x g)
          (get_or-set_same names i r.name [] small ∙ ap (λ (y : Rule). y.name) (sym e));
      plain = below_more (λ x. Plain (get_or rules x no_rule)) i h.plain
          (subst Plain (sym e) (plain r l d.counts d.forms d.letters));
    }
  where
    d : Clean n k rules i r
    d = clean n k rules i r z
