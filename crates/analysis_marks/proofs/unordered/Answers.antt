-- A pair that is ordered neither way is unordered.
use Rattle.std.proofs.Common.{◌≡◌, ℕ, Bool, true, false, not, refl, sym, ◌∙◌}
use Rattle.std.proofs.lemmas.Bool.{false≢true}
use mathlib.Core.Logic.{inl, inr}
use Rattle.analysis_pairs.proofs.TurnedLaws.{turned-edge}
use Rattle.analysis_marks.specs.AnalysisMarksInner.{WhetherUnordered}
use Rattle.analysis_marks.proofs.unordered.Goals as goal

-- where j does not go before i or it does
whether : {before : ℕ → ℕ → Type 0} {i j : ℕ} (b : Bool) → (before i j → ⊥) → (b ≡ true → before j i)
    → (before j i → b ≡ true) → WhetherUnordered before i j (not b)
whether true never there back = record { unordered = λ e. absurd (false≢true e); ordered = λ e. inr (there refl) }
whether false never there back =
    record {
      unordered = λ e. (never, λ h. false≢true (back h));
      ordered = λ e. absurd (false≢true (sym e));
    }

pub returns-then-not-has : goal.returns-then-not-has
returns-then-not-has c =
    let turn = turned-edge c.args.relations.now.ahead in
    let one = turn c.args.j c.args.i c.requires.1 c.requires.0 in
    let other = turn c.args.i c.args.j c.requires.0 c.requires.1 in
    whether _ (λ b. false≢true (sym c.if-not-has.true ∙ c.has.ensures ∙ sym one ∙ b))
    (λ e. other ∙ sym c.has-then-not-has.ensures ∙ e)
    (λ b. c.has-then-not-has.ensures ∙ sym other ∙ b)

pub returns-else-not-has : goal.returns-else-not-has
returns-else-not-has c =
    let one = turned-edge c.args.relations.now.ahead c.args.j c.args.i c.requires.1 c.requires.0 in
    rw c.if-not-has.false
    (record {
      unordered = λ e. absurd (false≢true e);
      ordered = λ e. inl (one ∙ sym c.has.ensures ∙ c.if-not-has.false);
    })
