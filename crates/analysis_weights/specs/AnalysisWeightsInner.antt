-- What only contracts of inner functions of `analysis_weights` cite.
use Rattle.std.specs.Prelude.{◌≡◌, Bool, true, false, not, ◌&&◌, List, ℕ, zero, suc, ◌+◌, ◌*◌, ◌^◌, ◌≤◌, ◌<◌, get_or, length}
use Rattle.mask.specs.Search.{count}
use Rattle.mask.specs.Mask.{has, meet}
use Rattle.graph.specs.GraphInner.{Edge, Rows, Halts}
use Rattle.analysis_weights.specs.Weight.{total}

-- whether r, a rule of `left`, may trigger none of `left`
abbrev pub ready : List ℕ → ℕ → ℕ → Bool
ready trig left r = has left r && not (meet (get_or trig r 0) left)

-- the sum of f over all the numbers below k
unfoldable pub sum_below : ℕ → (ℕ → ℕ) → ℕ
sum_below zero f = 0
sum_below (suc k) f = sum_below k f + f k

-- the entries of a list, as a function
abbrev pub weight_in : List ℕ → ℕ → ℕ
weight_in w r = get_or w r 0

-- with T the sum so far and c rules left, T + 1 is at most 2 ^ (32 - c)
unfoldable pub Headroom : List ℕ → ℕ → Type 0
Headroom w left = (sum_below 32 (weight_in w) + 1) * 2 ^ count 32 (has left) ≤ 2 ^ 32

-- the rules outside `left` are weighed, those of `left` are not
pub record Weighable (trig : List ℕ) (left : ℕ) (w : List ℕ) : Type 0 where
  pub size : length w ≡ 32
  pub rows : Rows 32 trig
  pub room : Headroom w left
  pub halted : (r s : ℕ) → Edge trig r s → has left s ≡ false → Halts trig s

-- v has the weights of the rules of `left` that halt, and is w elsewhere
pub record Weighed (trig : List ℕ) (left : ℕ) (w v : List ℕ) : Type 0 where
  pub size : length v ≡ length w
  pub weight : (r : ℕ) → has left r ≡ true → Halts trig r → weight_in v r ≡ 1 + total 32 (get_or trig r 0) (weight_in v)
  pub endless : (r : ℕ) → (Halts trig r → ⊥) → weight_in v r ≡ weight_in w r
  pub same : (r : ℕ) → has left r ≡ false → weight_in v r ≡ weight_in w r
  pub fits : sum_below 32 (weight_in v) < 2 ^ 32

-- "a rule weighs one more than all the rules it may trigger together". A rule from which some way goes on for ever has
-- no weight, and neither has a rule from n up: they have 0 here. All weights together are at most 4,294,967,295.
pub record Weights (trig : List ℕ) (n : ℕ) (v : List ℕ) : Type 0 where
  pub size : length v ≡ 32
  pub weight : (r : ℕ) → r < n → Halts trig r → weight_in v r ≡ 1 + total 32 (get_or trig r 0) (weight_in v)
  pub endless : (r : ℕ) → (Halts trig r → ⊥) → weight_in v r ≡ 0
  pub absent : (r : ℕ) → n ≤ r → weight_in v r ≡ 0
  pub fits : sum_below 32 (weight_in v) < 2 ^ 32
