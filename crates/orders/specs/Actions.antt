-- The paper's own body: all targets together, or a fault, or nothing.
use Rattle.std.specs.Prelude.{◌≡◌, Bool, ◌&&◌, ◌||◌, ℕ, ◌<◌, ℤ}
use Rattle.std.proofs.Math.Bool.{So, cond}
use Rattle.orders.specs.Cells.{Cells, EqualOn}
use Rattle.orders.specs.Bodies.{Bodies}

-- What a rule does with the amounts before its step: whether it stores, what each target gets, whether it
-- is at fault. All of it depends on the cells that it reads alone.
pub record Actions (k : ℕ) : Type 0 where
  pub n : ℕ
  pub watches : ℕ → ℕ → Bool
  pub reads : ℕ → ℕ → Bool
  pub writes : ℕ → ℕ → Bool
  -- the tests hold and every right side is in range
  pub stores : ℕ → Cells → Bool
  -- the right side of the target
  pub value : ℕ → Cells → ℕ → ℤ
  -- the tests hold and some right side is out of range
  pub faults : ℕ → Cells → Bool
  pub goes_before : ℕ → ℕ → Bool
  pub stores-local : (r : ℕ) (c d : Cells) → r < n → EqualOn k (reads r) c d → stores r c ≡ stores r d
  pub value-local : (r : ℕ) (c d : Cells) (x : ℕ) → r < n → x < k → EqualOn k (reads r) c d → So (writes r x)
      → value r c x ≡ value r d x
  pub faults-local : (r : ℕ) (c d : Cells) → r < n → EqualOn k (reads r) c d → faults r c ≡ faults r d

module _ (k : ℕ) (A : Actions k) where
  open A use {n, watches, reads, writes, stores, value, faults, goes_before}

  -- "all targets are stored together", or "no cell changes"
  unfoldable pub stored : ℕ → Cells → Cells
  stored r c x = cond (stores r c && writes r x) (value r c x) (c x)

  abbrev pub action_bodies : Bodies k
  action_bodies =
      record {
        n = n;
        watches = watches;
        reads = reads;
        writes = writes;
        body = stored;
        Mark = Bool;
        -- "r gets a fault mark", and keeps one that it has
        mark = λ r c m. m || faults r c;
        goes_before = goes_before;
      }
