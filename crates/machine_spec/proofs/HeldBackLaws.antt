-- "a waiting rule goes before it": what it is that none does.
use mathlib.Core.Path.{◌≡◌, refl, sym, ap₂, ◌∙◌}
use mathlib.Core.Bool.{Bool, true, false, not, ◌&&◌, false≢true}
use Prim.Native.Nat.{ℕ, ◌<◌}
use Rattle.mask.proofs.SearchLaws.{some-none, some_false, and_true_both}
use Rattle.table.specs.Table.{Table, goes_before}
use Rattle.machine_spec.specs.declared.State.{State}
use Rattle.machine_spec.specs.State.{waits, held_back, eligible}

module _ (t : Table) (s : State) (r : ℕ) where
  pub not-held : held_back t s r ≡ false → (x : ℕ) → x < 32 → waits s x ≡ true → goes_before t x r ≡ true → ⊥
  unfolding held_back
  not-held e x l w b = false≢true (sym (some_false 32 (λ y. waits s y && goes_before t y r) e x l) ∙ ap₂ ◌&&◌ w b)

  pub not-held-by : ((x : ℕ) → x < 32 → waits s x ≡ true → goes_before t x r ≡ true → ⊥) → held_back t s r ≡ false
  unfolding held_back
  not-held-by h = some-none 32 (λ y. waits s y && goes_before t y r) (λ x l. none x l (waits s x && goes_before t x r) refl)
    where
      none : (x : ℕ) → x < 32 → (b : Bool) → (waits s x && goes_before t x r) ≡ b → (waits s x && goes_before t x r) ≡ false
      none x l true q = let p = and_true_both (waits s x) (goes_before t x r) q in absurd (h x l p.0 p.1)
      none x l false q = q

  pub eligible-by : waits s r ≡ true → ((x : ℕ) → x < 32 → waits s x ≡ true → goes_before t x r ≡ true → ⊥) → eligible t s r ≡ true
  eligible-by w h = ap₂ (λ (a b : Bool). a && not b) w (not-held-by h)
