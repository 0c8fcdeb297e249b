-- The numbers 3 and 5 to 10 of a table in memory, with their places, in the paper's order.
use Rattle.std.specs.Prelude.{◌≡◌, Bool, cond, ◌||◌, ◌&&◌, List, [], ◌∷◌, ℕ, ltb, leb}
use Rattle.mask.specs.Search.{least}
use Rattle.mask.specs.First.{first_of}
use Rattle.graph.specs.Graph.{cyclic}
use Rattle.rule.specs.Numbers.{not_zero, rule_number, rule_slot_bad}
use Rattle.table.specs.Table.{Table, rule_at, precedes_of}
use Rattle.refusal.specs.Answer.{Answer}

-- "with its place: the rule number for 5 to 9, else 255"
abbrev pub answer : ℕ → ℕ → Answer
answer number place = record { number = number; place = place }

abbrev pub done : Answer
done = answer 0 255

-- 3: "n over 32, k 0 or over 32"
unfoldable pub sizes_bad : ℕ → ℕ → Bool
sizes_bad n k = ltb 32 n || ltb k 1 || ltb 32 k

-- the number of rule i, after the rules before it
unfoldable pub number_at : Table → ℕ → ℕ
number_at t i = rule_number t.n t.k t.rules i (rule_at t i)

-- "then rule by rule 5 to 9": the first rule with a number, or n
unfoldable pub first_bad : Table → ℕ
first_bad t = least t.n (λ i. not_zero (number_at t i))

-- "the rule slots past n by 7 (place: that slot)": the first slot past n that is not all zero, or 32
unfoldable pub first_slot : Table → ℕ
first_slot t = least 32 (λ i. leb t.n i && rule_slot_bad (rule_at t i))

-- "The writer checks 3, the rules by 5 to 9, the rule slots past n by 7 (place: that slot), 10, then 18.": all but 18;
-- 10: "the priorities have a cycle (a rule naming itself too)"
abbrev pub check_answers : Table → List (Bool × Answer)
check_answers t =
    (sizes_bad t.n t.k, answer 3 255)
    ∷ (ltb (first_bad t) t.n, answer (number_at t (first_bad t)) (first_bad t))
    ∷ (ltb (first_slot t) 32, answer 7 (first_slot t))
    ∷ (cyclic t.n (precedes_of t), answer 10 255) ∷ []

unfoldable pub check_of : Table → Answer
check_of t = first_of done (check_answers t)

-- "a call on a table in memory first makes the writer's checks": refused by their number and place, or what comes then
abbrev pub checked : {A : Type 0} → Answer → (ℕ → ℕ → A) → A → A
checked check refusal then = cond (not_zero check.number) (refusal check.number check.place) then

-- the same of a call whose answer is told by what holds of it
pub record Checked {A : Type 0} (check : Answer) (refusal : ℕ → ℕ → A) (Done : A → Type 0) (x : A) : Type 0 where
  pub refused : (check.number ≡ 0 → ⊥) → x ≡ refusal check.number check.place
  pub done : check.number ≡ 0 → Done x

-- no number applies
pub record Sound (t : Table) : Type 0 where
  pub checked : check_of t ≡ done
