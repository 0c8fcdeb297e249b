-- A graph of rules as a row of masks: mask r is the set of the rules that r leads straight to.
use Rattle.std.specs.Prelude.{◌≡◌, Bool, true, ◌&&◌, ◌||◌, List, ℕ, zero, suc, get_or}
use Rattle.mask.specs.Search.{some}
use Rattle.mask.specs.Mask.{has}

-- r leads to s, directly or through others
pub data Leads (rows : List ℕ) : ℕ → ℕ → Type 0 where
  directly : {r s : ℕ} → has (get_or rows r 0) s ≡ true → Leads rows r s
  through : {r t s : ℕ} → has (get_or rows r 0) t ≡ true → Leads rows t s → Leads rows r s

-- whether r leads to s directly or through rules below k (Warshall's recurrence: one more rule may stand in between)
unfoldable pub leads : List ℕ → ℕ → ℕ → ℕ → Bool
leads rows zero r s = has (get_or rows r 0) s
leads rows (suc k) r s = leads rows k r s || (leads rows k r k && leads rows k k s)

-- whether one of the n rules leads to itself
unfoldable pub cyclic : ℕ → List ℕ → Bool
cyclic n rows = some n (λ r. leads rows n r r)
