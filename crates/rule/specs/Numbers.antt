-- The numbers 5 to 9 of one rule, in the paper's order.
use Rattle.std.specs.Prelude.{Bool, not, ◌&&◌, ◌||◌, cond, List, [], ◌∷◌, ℕ, ltb, leb, eqb, get_or, ℤ, pos, negsuc}
use Rattle.std.specs.Int.Signed.{lt_z}
use Rattle.mask.specs.Search.{some}
use Rattle.mask.specs.First.{first_of}
use Rattle.mask.specs.Mask.{beyond}
use Rattle.rule.specs.declared.Test.{Test}
use Rattle.rule.specs.declared.Assign.{Assign}
use Rattle.rule.specs.declared.Rule.{Rule}
use Rattle.rule.specs.Empty.{no_rule}
use Rattle.rule.specs.Uses.{uses_right, uses_k, uses_a, uses_b, uses_p, test_at, assign_at}

-- "whole pence from -1,000,000,000,000 to 1,000,000,000,000 ("in range")"; `negsuc k` is -(k + 1)
abbrev pub out_of_range : ℤ → Bool
out_of_range z = lt_z z (negsuc 999999999999) || lt_z (pos 1000000000000) z

abbrev pub not_zero : ℕ → Bool
not_zero x = not (eqb x 0)

abbrev pub not_zero_z : ℤ → Bool
not_zero_z z = lt_z z (pos 0) || lt_z (pos 0) z

-- 5: "t, a or m out of bounds, fourth count byte not 0": t and a 0 to 8, m 1 to 16
unfoldable pub counts_bad : Rule → Bool
counts_bad r = ltb 8 r.t || ltb 8 r.a || ltb r.m 1 || ltb 16 r.m || not_zero r.zero

-- 6: "a mask bit or a used cell number beyond k or n"
abbrev pub test_cell_bad : ℕ → Test → Bool
test_cell_bad k x = leb k x.left || (uses_right x && leb k x.right)

abbrev pub assign_cell_bad : ℕ → Assign → Bool
assign_cell_bad k x = leb k x.target || (uses_a x && leb k x.a) || (uses_b x && leb k x.b)

unfoldable pub cells_bad : ℕ → ℕ → Rule → Bool
cells_bad n k r =
    beyond r.watch k || beyond r.precedes n
    || some r.t (λ j. test_cell_bad k (test_at r j)) || some r.a (λ j. assign_cell_bad k (assign_at r j))

-- 7: "unknown code, unused field or slot not 0, constant, p or q out of bounds"
abbrev pub test_form_bad : Test → Bool
test_form_bad x =
    ltb 5 x.comparison || ltb 1 x.kind || (not (uses_right x) && not_zero x.right) || (uses_right x && not_zero_z x.constant)
    || out_of_range x.constant

abbrev pub assign_form_bad : Assign → Bool
assign_form_bad x =
    ltb 4 x.operation || (not (uses_k x) && not_zero_z x.k) || out_of_range x.k || (not (uses_a x) && not_zero x.a)
    || (not (uses_b x) && not_zero x.b) || (not (uses_p x) && (not_zero x.p || not_zero x.q))
    || (uses_p x && (ltb 1000000 x.p || ltb x.q 1 || ltb 1000000 x.q))

-- a slot past the count: "In memory, slots past a count are all zero."
abbrev pub test_slot_bad : Test → Bool
test_slot_bad x =
    not_zero x.left || not_zero x.comparison || not_zero x.kind || not_zero x.right || not_zero_z x.constant

abbrev pub assign_slot_bad : Assign → Bool
assign_slot_bad x =
    not_zero x.target || not_zero x.operation || not_zero x.a || not_zero x.b || not_zero_z x.k
    || not_zero x.p || not_zero x.q

unfoldable pub forms_bad : Rule → Bool
forms_bad r =
    some 8 (λ j. cond (ltb j r.t) (test_form_bad (test_at r j)) (test_slot_bad (test_at r j)))
    || some 8 (λ j. cond (ltb j r.a) (assign_form_bad (assign_at r j)) (assign_slot_bad (assign_at r j)))
    || some 16 (λ j. not (ltb j r.m) && not_zero (get_or r.name j 0))

-- 8: "one target twice in a rule"
unfoldable pub twice : Rule → Bool
twice r = some r.a (λ j. some j (λ i. eqb (assign_at r i).target (assign_at r j).target))

-- 9: "bad letter in a name, or the name of an earlier rule": "letters a to z, digits, hyphen"
abbrev pub letter_bad : ℕ → Bool
letter_bad b = not ((leb 97 b && leb b 122) || (leb 48 b && leb b 57) || eqb b 45)

unfoldable pub letters_bad : Rule → Bool
letters_bad r = some r.m (λ j. letter_bad (get_or r.name j 0))

-- as long, and letter by letter the same
unfoldable pub same_name : Rule → Rule → Bool
same_name r s = eqb r.m s.m && not (some s.m (λ j. not (eqb (get_or r.name j 0) (get_or s.name j 0))))

-- one of the first i rules has the name of r
unfoldable pub name_taken : List Rule → ℕ → Rule → Bool
name_taken rules i r = some i (λ h. same_name (get_or rules h no_rule) r)

-- 5 to 9 of a rule whose name is `taken` by an earlier rule, or is not: "the whole rule by 5, then by 6, 7, 8 and 9"
abbrev pub rule_numbers : ℕ → ℕ → Bool → Rule → List (Bool × ℕ)
rule_numbers n k taken r =
    (counts_bad r, 5) ∷ (cells_bad n k r, 6) ∷ (forms_bad r, 7) ∷ (twice r, 8) ∷ (letters_bad r || taken, 9) ∷ []

-- the number of r, after the first i rules
unfoldable pub rule_number : ℕ → ℕ → List Rule → ℕ → Rule → ℕ
rule_number n k rules i r = first_of 0 (rule_numbers n k (name_taken rules i r) r)

-- a rule slot past n that is not all zero
unfoldable pub rule_slot_bad : Rule → Bool
rule_slot_bad r =
    not_zero r.watch || not_zero r.precedes || not_zero r.t || not_zero r.a || not_zero r.m || not_zero r.zero
    || forms_bad r
