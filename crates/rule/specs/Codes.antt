-- The codes of a test and of an assignment, each with the paper's number.
use Rattle.std.specs.Prelude.{◌≡◌, ℕ, ◌<◌, ◌≤◌, Result, MatchResult}
use Rattle.rule.specs.declared.Comparison.{Comparison}
use Rattle.rule.specs.declared.Comparison.TheVariants.{Equal, Unequal, Less, AtMost, More, AtLeast}
use Rattle.rule.specs.declared.Operation.{Operation}
use Rattle.rule.specs.declared.Operation.TheVariants.{Set, AddConstant, Add, Subtract, Scale}
use Rattle.rule.specs.declared.Side.{Side}
use Rattle.rule.specs.declared.Side.TheVariants.{Constant, Cell}
use Rattle.rule.specs.declared.UnknownCode.{UnknownCode}

-- "comparison (0 equal, 1 unequal, 2 less, 3 at most, 4 more, 5 at least)"
abbrev pub comparison_code : Comparison → ℕ
comparison_code Equal = 0
comparison_code Unequal = 1
comparison_code Less = 2
comparison_code AtMost = 3
comparison_code More = 4
comparison_code AtLeast = 5

-- "0 gives K; 1 gives A + K; 2 gives A + B; 3 gives A - B; 4 gives A x p / q"
abbrev pub operation_code : Operation → ℕ
operation_code Set = 0
operation_code AddConstant = 1
operation_code Add = 2
operation_code Subtract = 3
operation_code Scale = 4

-- "right kind (0 constant, 1 cell)"
abbrev pub side_code : Side → ℕ
side_code Constant = 0
side_code Cell = 1

-- r has the code, or no value has it, since it is beyond the last
abbrev pub Decodes : {A : Type 0} → (A → ℕ) → ℕ → ℕ → Result A UnknownCode → Type 0
Decodes of last code r = MatchResult r (λ x. (of x ≡ code) × (code ≤ last)) (λ e. (e.0 ≡ code) × (last < code))
