-- The night book mended, as a system of three rules over four cells. The pair (0, 1) passes, its first set has to grow, and every order
-- ends alike: the theorem speaks of something. That the night book itself has two ends is proved of the machine, in
-- confluence/NightEndsLaws.
use Rattle.std.specs.Prelude.{◌≡◌, refl, ◌≢◌, true, false, ℕ, zero, suc, ◌<◌, eqb}
use Rattle.std.proofs.Common.{ap, arith, eqb-true}
use Rattle.std.proofs.Math.Bool.{So}
use Rattle.std.proofs.lemmas.Bool.{false≢true}
use Rattle.std.proofs.Math.IntN.{suc_ℤ}
use Rattle.orders.specs.Finite.{sum, any, all}
use Rattle.orders.specs.System.{System}
use Rattle.orders.specs.Pairs.{Passes, PairCondition}
use Rattle.orders.specs.Confluence.{EveryRun}
use Rattle.orders.proofs.ConfluenceLaws.{passes⇒every_run}
use Rattle.orders.specs.Cells.{Cells, EqualOn}
use Rattle.orders.proofs.WaitingBitLaws.{waiting_bit}
use Rattle.orders.specs.Bodies.{Bodies, Priorities}
use Rattle.orders.proofs.BodiesSystemLaws.{system}
use Rattle.orders.specs.Sets.{may_trigger, clashes, commute}
use Rattle.orders.proofs.SetsAnalysisLaws.{sets_analysis}
use Rattle.orders.specs.Actions.{Actions, action_bodies}
use Rattle.orders.proofs.ActionsLaws.{action_facts}
use Rattle.orders.specs.SmallTests.{irreflexive?, transitive?, weighs?, closed?, across?}
use Rattle.orders.proofs.SmallTestsLaws.{irreflexive-elim, transitive-elim, weighs-elim, closed-elim, across_elim}
use Rattle.orders.specs.Mended.{watched, before, weight, reading, target, right, zero_and_two, one_only}

abbrev actions : Actions 4
actions =
    record {
      n = 3;
      watches = λ r x. eqb x (watched r);
      reads = reading;
      writes = λ r x. eqb x (target r);
      stores = λ r c. true;
      value = λ r c x. right r c;
      faults = λ r c. false;
      goes_before = before;
      stores-local = λ r c d l h. refl;
      value-local = λ r c d x l lx h w. right-local r c d h;
      faults-local = λ r c d l h. refl;
    }
  where
    right-local : (r : ℕ) (c d : Cells) → EqualOn 4 (reading r) c d → right r c ≡ right r d
    right-local zero c d h = ap suc_ℤ (h 0 (omega arith) refl)
    right-local (suc zero) c d h = refl
    right-local (suc (suc r)) c d h = refl

abbrev bodies : Bodies 4
bodies = action_bodies 4 actions

pub strict : Priorities 4 bodies
unfolding irreflexive? transitive? all
strict = record { irreflexive = irreflexive-elim 3 before refl; transitive = transitive-elim 3 before refl }

pub mended-weighs : So (weighs? 3 (may_trigger 4 bodies) weight)
unfolding weighs? all sum may_trigger any
mended-weighs = refl

abbrev pub mended : System
mended =
    system 4 (waiting_bit 4) bodies (action_facts 4 actions)
    (sets_analysis 4 bodies weight (weighs-elim 3 (may_trigger 4 bodies) weight mended-weighs)) strict

-- rules 0 and 1 are the only unordered pair
only_pair : (P : ℕ → ℕ → Type 0) → P 0 1 → (i j : ℕ) → i < j → j < 3
    → (So (before i j) → ⊥) × (So (before j i) → ⊥) → P i j
only_pair P p zero zero l m un = absurd (omega arith)
only_pair P p zero (suc zero) l m un = p
only_pair P p zero (suc (suc j)) l m un = absurd (un.1 refl)
only_pair P p (suc zero) zero l m un = absurd (omega arith)
only_pair P p (suc zero) (suc zero) l m un = absurd (omega arith)
only_pair P p (suc zero) (suc (suc j)) l m un = absurd (un.1 refl)
only_pair P p (suc (suc i)) j l m un = absurd (omega arith)

pub mended-passes : Passes mended 0 1
unfolding closed? across? all may_trigger clashes commute any
mended-passes =
    record {
      R₁ = zero_and_two;
      R₂ = one_only;
      has₁ = refl;
      has₂ = refl;
      closed₁ = closed-elim mended zero_and_two one_only refl;
      closed₂ = closed-elim mended one_only zero_and_two refl;
      grown₁ = λ r l x ne. (0, omega arith, refl, triggered r l x ne);
      grown₂ = λ r l x ne. absurd (ne (eqb-true r 1 x));
      commuting = across_elim mended zero_and_two one_only refl;
    }
  where
    triggered : (r : ℕ) → r < 3 → So (zero_and_two r) → r ≢ 0 → So (mended.may_trigger 0 r)
    triggered zero l x ne = absurd (ne refl)
    triggered (suc zero) l x ne = absurd (false≢true x)
    triggered (suc (suc zero)) l x ne = refl
    triggered (suc (suc (suc r))) l x ne = absurd (omega arith)

-- the first set has to grow: whatever the two sets are, rule 2 is in it
pub mended-grows : (p : PairCondition mended 0 1) → So (p.R₁ 2)
unfolding may_trigger any
mended-grows p = p.closed₁ 0 2 1 (omega arith) (omega arith) (omega arith) p.has₁ refl refl p.has₂

pub mended_every_run : (S : mended.runner.State) → EveryRun mended S
mended_every_run = passes⇒every_run mended (only_pair (Passes mended) mended-passes)
