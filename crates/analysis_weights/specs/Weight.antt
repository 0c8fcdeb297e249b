-- The weights of rules, over a row of masks: mask r is the set of the rules that r may trigger.
use Rattle.std.specs.Prelude.{◌&&◌, cond, List, ℕ, zero, suc, ◌+◌, eqb, get_or}
use Rattle.mask.specs.Search.{some}
use Rattle.mask.specs.Mask.{has}

-- "The step bound of a set is the sum of its weights": the sum of f over the members of m below k
unfoldable pub total : ℕ → ℕ → (ℕ → ℕ) → ℕ
total zero m f = 0
total (suc k) m f = total k m f + cond (has m k) (f k) 0

-- the weight of r, computed along ways of fewer than k rules; 0 where a way is longer
unfoldable pub weight_of : List ℕ → ℕ → ℕ → ℕ
weight_of trig zero r = 0
weight_of trig (suc k) r =
    cond (some 32 (λ s. has (get_or trig r 0) s && eqb (weight_of trig k s) 0)) 0
    (1 + total 32 (get_or trig r 0) (weight_of trig k))
