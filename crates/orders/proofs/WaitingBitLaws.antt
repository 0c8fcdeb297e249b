-- The waiting bit of edition 1 is what a rule may keep between steps.
use Rattle.std.specs.Prelude.{◌≡◌, refl, Bool, true, false, ◌||◌, ℕ, ◌<◌}
use Rattle.std.proofs.Common.{sym, ◌∙◌, ap, inl, inr, ⊎_elim}
use Rattle.std.proofs.Math.Logic.{eq-Equivalence}
use Rattle.std.proofs.Math.Bool.{So}
use Rattle.std.proofs.lemmas.Bool.{false≢true}
use Rattle.orders.proofs.FiniteLaws.{or_cases, or_left, or_right, both_ways}
use Rattle.orders.specs.Cells.{Cells, changed}
use Rattle.orders.proofs.CellsLaws.{changed-elim, changed_intro, changed-still, changed-local}
use Rattle.orders.specs.Kept.{OneOf, Memory, bit}

-- ── edition 1: a waiting bit ──
module _ (k : ℕ) where
  pub or-still : (m b : Bool) → (So b → ⊥) → (m || b) ≡ m
  or-still true b h = refl
  or-still false b h = both_ways b false (λ i. absurd (h i)) (λ i. absurd (false≢true i))

  -- woken on the way by q, then also on the way by p
  pub woken_either_way : (a : ℕ → Bool) (m : Bool) (c p q e : Cells)
      → ((x : ℕ) → x < k → So (a x) → OneOf c p q e x)
      → So ((m || changed k a c q) || changed k a q e) → So ((m || changed k a c p) || changed k a p e)
  woken_either_way a m c p q e h i =
      ⊎_elim (λ j. ⊎_elim already by-q (or_cases m (changed k a c q) j)) then_e
      (or_cases (m || changed k a c q) (changed k a q e) i)
    where
      already : So m → So ((m || changed k a c p) || changed k a p e)
      already y = or_left (m || changed k a c p) (changed k a p e) (or_left m (changed k a c p) y)

      by-q : So (changed k a c q) → So ((m || changed k a c p) || changed k a p e)
      by-q y =
          let w = changed-elim k a c q y in
          let x = w.0 in
          ⊎_elim
          (λ z. or_right (m || changed k a c p) (changed k a p e)
          (changed_intro k a p e x w.1 w.2 (λ f. w.3 (sym z.0 ∙ f ∙ z.1))))
          (λ z. absurd (w.3 (sym z.0))) (h x w.1 w.2)

      then_e : So (changed k a q e) → So ((m || changed k a c p) || changed k a p e)
      then_e y =
          let w = changed-elim k a q e y in
          let x = w.0 in
          ⊎_elim (λ z. absurd (w.3 (sym z.1)))
          (λ z. or_left (m || changed k a c p) (changed k a p e)
          (or_right m (changed k a c p)
          (changed_intro k a c p x w.1 w.2 (λ f. w.3 (z.0 ∙ f ∙ sym z.1)))))
          (h x w.1 w.2)

  unfoldable pub waiting_bit : Memory k
  waiting_bit =
      record {
        Kept = (bit k).Kept;
        wakeful = (bit k).wakeful;
        rest = (bit k).rest;
        moved = (bit k).moved;
        alike = (bit k).alike;
        alike_is = λ a. eq-Equivalence;
        wakeful-alike = λ a m p c d e h i. sym e ∙ i;
        rest-alike = λ a c d h. refl;
        rest_sleeps = λ a c h. false≢true h;
        moved-alike = λ a m p c d c' d' e h g.
            ap (λ z. z || changed k a c d) e ∙ ap (λ z. p || z) (changed-local k a c d c' d' h g);
        moved-still = λ a m c d h. or-still m (changed k a c d) (changed-still k a c d h);
        moved-swap = λ a m c p q e h.
            both_ways _ _ (woken_either_way a m c p q e h)
            (woken_either_way a m c q p e (λ x l i. ⊎_elim inr inl (h x l i)));
      }
