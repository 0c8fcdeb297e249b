-- Runs of bytes one after another.
use Rattle.std.specs.Prelude.{List, [], ◌++◌, ℕ, zero, suc}

-- f 0, f 1, .., f (n - 1), one after another
unfoldable pub joined : ℕ → (ℕ → List ℕ) → List ℕ
joined zero f = []
joined (suc n) f = joined n f ++ f n
