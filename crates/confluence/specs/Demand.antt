-- Demand 3, the part to believe: "for a cleared book, any amounts in range, any waiting rules and no posting meanwhile: every order that
-- the priorities permit goes on until nothing waits, within the step bound of that set, and all end with the same amounts and fault
-- marks." The field calls it confluence: every order terminates, and all have one normal form. The theorems are in proofs/DemandLaws,
-- OwnOrderLaws and DaysLaws.
use Rattle.std.specs.Prelude.{◌≡◌, List, [], ◌∷◌, ◌++◌, ℕ, ◌≤◌, ◌^◌, ◌<◌, ℤ, length}
use Rattle.table.specs.Table.{Table, rule_at}
use Rattle.analysis_weights.specs.Weight.{total, weight_of}
use Rattle.analysis_pairs.specs.RuleMasks.{triggers}
use Rattle.analysis_masks.specs.Bound.{Bound}
use Rattle.analysis.specs.TableMasks.{masks_of}
use Rattle.analysis.specs.Says.{BoundSays}
use Rattle.machine_spec.specs.declared.State.{State}
use Rattle.machine_spec.specs.Run.{Ran}
use Rattle.machine_spec.specs.Step.{step_of, post_of}

-- the precedes masks have 32 bits, as in every table that memory holds
pub record Precedes32 (t : Table) : Type 0 where
  pub small : (i : ℕ) → i < t.n → (rule_at t i).precedes < 2 ^ 32

-- the state after the step calls of a list of rule numbers, one after the other
abbrev pub after : Table → State → List ℕ → State
after t s [] = s
after t s (r ∷ rs) = after t (step_of t s r).state rs

-- an order is permitted when each of its step calls answers 0
abbrev pub Permitted : Table → State → List ℕ → Type 0
Permitted t s [] = Unit {0}
Permitted t s (r ∷ rs) = ((step_of t s r).number ≡ 0) × Permitted t (step_of t s r).state rs

-- "nothing waits" (a normal form)
abbrev pub Still : State → Type 0
Still s = s.waiting ≡ 0

-- "The step bound of a set is the sum of its weights."
abbrev pub bound_of : Table → ℕ → ℕ
bound_of t set = total 32 set (weight_of (triggers (masks_of t)) t.n)

-- what holds of every permitted order of a book that ends (terminating)
pub record EveryOrder (t : Table) (s : State) : Type 0 where
  -- it is at most as long as the step bound of the waiting set, and the call `bound` gives that bound with number 0
  pub short : (rs : List ℕ) → Permitted t s rs → length rs ≤ bound_of t s.waiting
  pub bound : (b : Bound) → BoundSays t s.waiting b → (b.number ≡ 0) × (b.bound ≡ bound_of t s.waiting)
  -- if something waits after it, some rule can be stepped next
  pub goes_on : (rs : List ℕ) → Permitted t s rs → (Still (after t s rs) → ⊥) → (r : ℕ) × Permitted t s (rs ++ (r ∷ []))

-- a permitted order after which nothing waits, with its end
pub record EndsIn (t : Table) (s : State) (rs : List ℕ) (end : State) : Type 0 where
  pub permitted : Permitted t s rs
  pub is : after t s rs ≡ end
  pub still : Still end

-- of a cleared book: all orders have one end, so "all end with the same amounts and fault marks" (confluent)
abbrev pub OneEnd : Table → State → Type 0
OneEnd t s = (rs us : List ℕ) (a b : State) → EndsIn t s rs a → EndsIn t s us b → a ≡ b

-- what a run of the machine's own order is
pub record OwnOrder (t : Table) (s : State) (x : Ran) : Type 0 where
  pub number : x.number ≡ 0
  pub steps : x.steps ≤ bound_of t s.waiting
  pub still : Still x.state
  pub end : (rs : List ℕ) (a : State) → EndsIn t s rs a → x.state ≡ a

-- a machine's days: each posting of a value to a cell is done, then an order ends, and the states in which they end
pub data Days (t : Table) : State → List (ℕ × ℤ) → List State → Type 0 where
  none : {s : State} → Days t s [] []
  more : {s end : State} {p : ℕ × ℤ} {rs : List ℕ} {ps : List (ℕ × ℤ)} {ends : List State} → (post_of t s p.0 p.1).number ≡ 0
      → EndsIn t (post_of t s p.0 p.1).state rs end → Days t end ps ends → Days t s (p ∷ ps) (end ∷ ends)
