-- A function changed at one number.
use Rattle.std.specs.Prelude.{ℕ, eqb}
use Rattle.std.proofs.Math.Bool.{cond}

-- f, but a at r
unfoldable pub put : {A : Type 0} → (ℕ → A) → ℕ → A → ℕ → A
put f r a t = cond (eqb t r) a (f t)
