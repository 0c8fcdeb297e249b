-- While something waits, something is eligible, since priorities are a strict order: `orders` proves it of any rules with priorities.
use mathlib.Core.Path.{◌≡◌, sym, ◌∙◌}
use mathlib.Core.Logic.{⊎_elim}
use mathlib.Core.Bool.{true, not, false≢true}
use Prim.Native.Nat.{ℕ, ◌<◌}
use native.Mathlib.Nat.{le_trans}
use Rattle.mask.proofs.SearchLaws.{Found, and_true_both, Least, least-is, lt-or_ge}
use Rattle.mask.proofs.MaskLaws.{lowest-has}
use Rattle.mask.specs.MaskInner.{lowest}
use Rattle.table.specs.Table.{Table, goes_before}
use Rattle.table.specs.Check.{Sound}
use Rattle.table.proofs.SoundLaws.{parts}
use Rattle.table.proofs.BeforeLaws.{irreflexive, transitive}
use Rattle.machine_spec.specs.declared.State.{State}
use Rattle.machine_spec.specs.State.{Fits, waits, held_back, eligible, lowest_of}
use Rattle.machine_spec.proofs.StateLaws.{fits-waiting}
use Rattle.machine_spec.proofs.HeldBackLaws.{eligible-by}
use Rattle.orders.specs.Runner.{Runner}
use Rattle.orders.proofs.RunnerLaws.{eligible-at-or-before}

module _ (t : Table) (s : State) (sd : Sound t) (h : Fits t s) where
  below : (r : ℕ) → waits s r ≡ true → r < t.n
  below r w = (fits-waiting t s h).lt r w

  -- who waits, and the priorities, as `orders` asks for them; no step is looked at
  abbrev waiters : Runner
  waiters =
      record {
        n = t.n;
        State = State;
        waits = waits;
        step = λ r s. s;
        goes_before = goes_before t;
        goes_before-irreflexive = irreflexive t sd;
        goes_before-transitive = λ r s u lr ls lu a b. transitive t r s u ls a b;
      }

  pub some-eligible : (r : ℕ) → waits s r ≡ true → Found 32 (eligible t s)
  some-eligible r w =
      let x = eligible-at-or-before waiters r s (below r w) w in
      record {
        at = x.rule;
        lt = le_trans x.eligible.below (parts t sd).sizes.rules;
        is = eligible-by t s x.rule x.eligible.waiting (λ y l v b. x.eligible.none_before y (below y v) v b);
      }

  -- so the lowest is one
  pub lowest-eligible : (s.waiting ≡ 0 → ⊥) → (lowest_of t s < 32) × (eligible t s (lowest_of t s) ≡ true)
  lowest-eligible ne =
      let x : Found 32 (eligible t s) = some-eligible (lowest s.waiting)
      (lowest-has s.waiting h.waiting ne).1 in
      let d : Least 32 (eligible t s) (lowest_of t s) = least-is 32 (eligible t s) in
      ⊎_elim (λ l. (l, d.is l))
      (λ l. absurd (false≢true (sym (d.first x.at (le_trans x.lt l)) ∙ x.is)))
      (lt-or_ge (lowest_of t s) 32)

  pub lowest-below : (s.waiting ≡ 0 → ⊥) → lowest_of t s < t.n
  lowest-below ne =
      below (lowest_of t s) (and_true_both (waits s (lowest_of t s)) (not (held_back t s (lowest_of t s)))
      (lowest-eligible ne).1).0
