-- A concrete machine that makes the paper's step, and of whose states one can tell the amounts, who waits
-- and the fault marks: every order of its own steps is short, goes on, and ends with the same amounts and
-- marks.
use Rattle.std.specs.Prelude.{refl, ◌||◌, ℕ, ◌<◌}
use Rattle.std.proofs.Math.Path.{sym, ap}
use Rattle.std.proofs.Common.{◌∙◌, subst}
use Rattle.std.proofs.Math.Bool.{So}
use Rattle.orders.proofs.OverwrittenLaws.{put_in, put-out}
use Rattle.orders.specs.Runner.{Runner}
use Rattle.orders.specs.System.{System, step_bound}
use Rattle.orders.specs.Confluence.{UniqueEnds, PairsPass}
use Rattle.orders.proofs.ConfluenceLaws.{passes⇒unique_ends}
use Rattle.orders.specs.View.{Viewed}
use Rattle.orders.proofs.ViewLaws.{viewed-short, viewed-on, viewed-unique-ends}
use Rattle.orders.specs.Cells.{changed}
use Rattle.orders.proofs.WaitingBitLaws.{waiting_bit}
use Rattle.orders.specs.Bodies.{Priorities, Analysis}
use Rattle.orders.proofs.BodiesSystemLaws.{system}
use Rattle.orders.specs.Actions.{Actions, stored, action_bodies}
use Rattle.orders.proofs.ActionsLaws.{action_facts}
use Rattle.orders.specs.Concrete.{Concrete, Promised}

module _ (k : ℕ) (A : Actions k) (𝓡 : Runner) (C : Concrete k A 𝓡) where
  open C use {fit, cell, fault, n-is, goes_before-is, step_fits, cell-step, fault-step, waits-step}

  down : (r : ℕ) → r < A.n → r < 𝓡.n
  down r l = subst (λ m. r < m) (sym n-is) l

  before-down : (s r : ℕ) → s < A.n → r < A.n → So (A.goes_before s r) → So (𝓡.goes_before s r)
  before-down s r ls lr b = goes_before-is s r (down s ls) (down r lr) ∙ b

  pub priorities : Priorities k (action_bodies k A)
  priorities =
      record {
        irreflexive = λ r l b. 𝓡.goes_before-irreflexive r (down r l) (before-down r r l l b);
        transitive = λ r s t lr ls lt a b.
            sym (goes_before-is r t (down r lr) (down t lt))
            ∙ 𝓡.goes_before-transitive r s t (down r lr) (down s ls) (down t lt)
            (before-down r s lr ls a) (before-down s t ls lt b);
      }

  module _ (N : Analysis k (action_bodies k A)) where
    abbrev pub machine : System
    machine = system k (waiting_bit k) (action_bodies k A) (action_facts k A) N priorities

    unfoldable pub view : 𝓡.State → machine.runner.State
    unfolding waiting_bit
    view S = record { cells = cell S; marks = fault S; kept = 𝓡.waits S }

    pub viewed : Viewed 𝓡 machine fit view
    unfolding waiting_bit view
    viewed =
        record {
          n-is = n-is;
          goes_before-is = goes_before-is;
          waits-is = λ S r f l. refl;
          step_fits = step_fits;
          step_is = λ r S f h.
              record {
                cells_same = cell-step r S f h;
                marks-same = λ t l. fault-step r S f h t l ∙ sym (put_in (fault S) r (A.faults r (cell S)) t);
                kept-alike = λ t l.
                    waits-step r S f h t l
                    ∙ ap (λ b. b || changed k (A.watches t) (cell S) (stored k A r (cell S)))
                    (sym (put-out (𝓡.waits S) r t));
              };
        }

    -- "Cleared: the book ends and every unordered pair passes."
    pub cleared⇒promised : PairsPass machine → (S : 𝓡.State) → fit S → Promised k A 𝓡 C N S
    unfolding waiting_bit view step_bound
    cleared⇒promised passes S f =
        let one : UniqueEnds machine (view S) = passes⇒unique_ends machine passes (view S) in
        record {
          short = viewed-short 𝓡 machine fit view viewed S f;
          goes_on = viewed-on 𝓡 machine fit view viewed S;
          same-amounts = λ u v h k p q.
              (viewed-unique-ends 𝓡 machine fit view viewed S f one u v h k p q).cells_same;
          same-faults = λ u v h k p q.
              (viewed-unique-ends 𝓡 machine fit view viewed S f one u v h k p q).marks-same;
        }
