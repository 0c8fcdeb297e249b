-- What a refused call leaves: "A refused step, posting or run gives back the state it was given, and the run reports 0 steps."; a refused
-- fresh state is all zeros.
use mathlib.Core.Path.{◌≡◌, refl, ap, ◌∙◌}
use mathlib.Core.List.{List}
use Prim.Native.Nat.{ℕ}
use lib.IntN.{ℤ}
use lib.ListN.{length, replicate}
use Rattle.little.specs.Bytes.{u16_bytes, u32_bytes, u64_bytes, i64_bytes}
use Rattle.little.specs.Joined.{joined}
use Rattle.little.specs.EachByte.{Bytes}
use Rattle.table.specs.Table.{Table}
use Rattle.machine_spec.specs.State.{zeros}
use Rattle.machine_spec.specs.Step.{step_of, post_of, fresh_of}
use Rattle.machine_spec.specs.Run.{run_of}
use Rattle.machine_spec.proofs.KeptLaws.{step_kept, post-kept, fresh_kept, run-kept}
use Rattle.layout_state.specs.States.{state_from, cells_bytes, state_bytes}
use Rattle.layout_state.proofs.StatesLaws.{state-written}

module _ (t : Table) (b : List ℕ) (small : Bytes b) (size : length b ≡ 264) where
  pub step-untouched : (r : ℕ) → ((step_of t (state_from b) r).number ≡ 0 → ⊥) → state_bytes (step_of t (state_from b) r).state ≡ b
  step-untouched r h = ap state_bytes (step_kept t (state_from b) r h) ∙ state-written b small size

  pub post-untouched : (cell : ℕ) (value : ℤ) → ((post_of t (state_from b) cell value).number ≡ 0 → ⊥)
      → state_bytes (post_of t (state_from b) cell value).state ≡ b
  post-untouched cell value h = ap state_bytes (post-kept t (state_from b) cell value h) ∙ state-written b small size

  pub run-untouched : (budget : ℕ) → ((run_of t (state_from b) budget).number ≡ 0 → ⊥)
      → ((run_of t (state_from b) budget).number ≡ 15 → ⊥)
      → (state_bytes (run_of t (state_from b) budget).state ≡ b) × ((run_of t (state_from b) budget).steps ≡ 0)
  run-untouched budget h g =
      let k = run-kept t (state_from b) budget h g in (ap state_bytes k.0 ∙ state-written b small size, k.1)

zeros-bytes : state_bytes zeros ≡ replicate 264 0
unfolding state_bytes cells_bytes joined u16_bytes u32_bytes u64_bytes i64_bytes
zeros-bytes = refl

pub fresh-zeros : (t : Table) (amounts : List ℤ) → ((fresh_of t amounts).number ≡ 0 → ⊥)
    → state_bytes (fresh_of t amounts).state ≡ replicate 264 0
fresh-zeros t amounts h = ap state_bytes (fresh_kept t amounts h) ∙ zeros-bytes

-- by a bare name, for the check to apply
pub same_bytes : (b : List ℕ) → Bytes b → length b ≡ 264 → state_bytes (state_from b) ≡ b
same_bytes b small size = state-written b small size
