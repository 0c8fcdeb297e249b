-- When a posting is done, and that Fits is kept.
use mathlib.Core.Path.{◌≡◌, refl, ◌∙◌}
use mathlib.Core.Bool.{false}
use Prim.Native.Nat.{ℕ, ◌<◌}
use lib.Dec.{leb}
use lib.ListN.{set, length-set}
use lib.IntN.{ℤ}
use borrow.Author.Tests.{leb-false}
use Rattle.mask.specs.First.{first_of}
use Rattle.mask.proofs.FirstLaws.{number_passed}
use Rattle.mask.proofs.SearchLaws.{or_false_both}
use Rattle.rule.specs.Numbers.{out_of_range}
use Rattle.table.specs.Table.{Table}
use Rattle.machine_spec.specs.declared.State.{State}
use Rattle.machine_spec.specs.State.{state_bad, Fits}
use Rattle.machine_spec.proofs.StateLaws.{woken-fits, set-good}
use Rattle.machine_spec.specs.Step.{stored_and_woken, post_numbers, post_of}
use Rattle.machine_spec.proofs.StepLaws.{answered-fits}

-- neither 11 nor 16 applies
pub record Posting (t : Table) (s : State) (cell : ℕ) (value : ℤ) : Type 0 where
  pub good : state_bad t s ≡ false
  pub below : cell < t.k
  pub range : out_of_range value ≡ false

module _ (t : Table) (s : State) (cell : ℕ) (value : ℤ) where
  pub posting : first_of 0 (post_numbers t s cell value) ≡ 0 → Posting t s cell value
  unfolding post_numbers
  posting e =
      let p = number_passed (post_numbers t s cell value) refl e in
      let c = or_false_both (leb t.k cell) (out_of_range value) p.1.0 in
      record { good = p.0; below = leb-false t.k cell c.0; range = c.1 }

  pub post-fits : Fits t s → Fits t (post_of t s cell value).state
  unfolding post_of
  post-fits h =
      answered-fits t (post_numbers t s cell value) s (stored_and_woken t s (set s.cells cell value)) h
      (λ sd e.
      let p : Posting t s cell value = posting e in
      woken-fits t s h (set s.cells cell value) (length-set s.cells cell value ∙ h.long)
      (set-good t s h cell value p.below p.range))
