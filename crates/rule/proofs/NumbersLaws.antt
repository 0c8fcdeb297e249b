-- What it means that a number does not apply to a rule.
use mathlib.Core.Path.{◌≡◌, refl}
use mathlib.Core.Bool.{false}
use mathlib.Core.List.{List, [], ◌∷◌}
use Prim.Native.Nat.{ℕ}
use lib.Dec.{ltb, eqb}
use borrow.Author.Tests.{ltb-false, eqb-true, not-false}
use Rattle.mask.proofs.SearchLaws.{or_false_both, none_of}
use Rattle.mask.proofs.FirstLaws.{number_passed, passed_first}
use Rattle.rule.specs.declared.Rule.{Rule}
use Rattle.rule.specs.Numbers.{not_zero, counts_bad, cells_bad, forms_bad, twice, letters_bad, name_taken, rule_numbers, rule_number}
use Rattle.rule.specs.RuleInner.{Counted}

pub counted : (r : Rule) → counts_bad r ≡ false → Counted r
unfolding counts_bad
counted r e =
    let p = none_of (ltb 8 r.t) (ltb 8 r.a ∷ ltb r.m 1 ∷ ltb 16 r.m ∷ not_zero r.zero ∷ []) e in
    record {
      tests = ltb-false 8 r.t p.0;
      assigns = ltb-false 8 r.a p.1.0;
      named = ltb-false r.m 1 p.1.1.0;
      letters = ltb-false 16 r.m p.1.1.1.0;
      fourth = eqb-true r.zero 0 (not-false (eqb r.zero 0) p.1.1.1.1);
    }

-- a rule with no number: none of 5 to 9 applies
pub record Clean (n k : ℕ) (rules : List Rule) (i : ℕ) (r : Rule) : Type 0 where
  pub counts : counts_bad r ≡ false
  pub cells : cells_bad n k r ≡ false
  pub forms : forms_bad r ≡ false
  pub targets : twice r ≡ false
  pub letters : letters_bad r ≡ false
  pub name : name_taken rules i r ≡ false

pub clean : (n k : ℕ) (rules : List Rule) (i : ℕ) (r : Rule) → rule_number n k rules i r ≡ 0 → Clean n k rules i r
unfolding rule_number
clean n k rules i r e =
    let p = number_passed (rule_numbers n k (name_taken rules i r) r) refl e in
    let g = or_false_both (letters_bad r) (name_taken rules i r) p.1.1.1.1.0 in
    record { counts = p.0; cells = p.1.0; forms = p.1.1.0; targets = p.1.1.1.0; letters = g.0; name = g.1 }

pub unclean : (n k : ℕ) (rules : List Rule) (i : ℕ) (r : Rule) → Clean n k rules i r → rule_number n k rules i r ≡ 0
unfolding rule_number
unclean n k rules i r h =
    passed_first 0 (rule_numbers n k (name_taken rules i r) r)
    (h.counts, (h.cells, (h.forms, (h.targets, (rw h.letters h.name, tt)))))
