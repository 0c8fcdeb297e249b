-- The rule that a run takes next is the lowest eligible one, one of the table's, and its step there is the paper's.
use Rattle.std.proofs.Common.{◌≡◌, ℕ, ◌<◌, Bool, not, ◌&&◌, List, get_or, sym, ap, ◌∙◌, subst}
use Rattle.mask.specs.Search.{some}
use Rattle.mask.specs.Mask.{has}
use Rattle.mask.specs.MaskInner.{named, lowest}
use Rattle.mask.proofs.SearchLaws.{some_same, least-same}
use Rattle.table.specs.Table.{Table, goes_before}
use Rattle.table.specs.Memory.{table_from}
use Rattle.table.specs.TableInner.{rule_from}
use Rattle.machine_spec.specs.declared.State.{State}
use Rattle.machine_spec.specs.State.{Fits, waits, held_back, eligible, lowest_of}
use Rattle.machine_spec.specs.Step.{effect}
use Rattle.machine_spec.proofs.EffectLaws.{effect-fits}
use Rattle.machine_spec.proofs.EligibleLaws.{lowest-below}
use Rattle.machine_spec.proofs.RunLaws.{next}
use Rattle.machine_step.specs.MachineStepInner.{effect_by}
use Rattle.machine_step.proofs.TurnLaws.{turn_is}
use Rattle.machine_run.specs.MachineRunInner.{Lent}

module _ (t : Table) (s : State) (rows : List ℕ) (before : (x y : ℕ) → has (get_or rows x 0) y ≡ goes_before t x y) where
  -- whether a waiting rule goes before r, by the rows
  pub held_by : (r : ℕ) → some 32 (named rows s.waiting r) ≡ held_back t s r
  unfolding held_back
  held_by r =
      some_same 32 (named rows s.waiting r) (λ x. waits s x && goes_before t x r)
      (λ x k. ap (λ (b : Bool). waits s x && b) (before x r))

  -- m is the waiting rules that no waiting rule goes before
  pub lowest_taken : (m : ℕ) → ((r : ℕ) → has m r ≡ (has s.waiting r && not (some 32 (named rows s.waiting r))))
      → lowest m ≡ lowest_of t s
  unfolding lowest
  lowest_taken m is =
      least-same 32 (has m) (eligible t s) (λ r l. is r ∙ ap (λ (b : Bool). waits s r && not b) (held_by r))

module _ (image row rows : List ℕ) (lent : Lent image row rows) (s : State) (fits : Fits (table_from image) s)
    (ne : s.waiting ≡ 0 → ⊥) (r : ℕ) (taken : r ≡ lowest_of (table_from image) s) where
  pub taken-below : r < (table_from image).n
  taken-below = subst (λ (x : ℕ). x < (table_from image).n) (sym taken) (lowest-below (table_from image) s lent.sound fits ne)

  pub turn-next : (u : State) → u ≡ effect_by (rule_from image r) row s r
      → (u ≡ next (table_from image) s) × Fits (table_from image) u
  turn-next u e =
      let t = table_from image in
      let q : u ≡ effect t s r = e
      ∙ ap (λ (w : List ℕ). effect_by (rule_from image r) w s r) lent.watches
      ∙ turn_is image lent.long lent.sound r taken-below s in
      (q ∙ ap (effect t s) taken, subst (Fits t) (sym q) (effect-fits t s r lent.sound fits taken-below))
