-- All the rules below n are left and no weight is found yet; what a rule may trigger is among them.
use mathlib.Core.Path.{sym, ◌∙◌}
use mathlib.Core.Bool.{false≢true}
use native.Mathlib.Nat.{le_trans}
use lib.Pow.{pow_mono}
use borrow.Author.Tests.{lt-ltb, le-ltb}
use Rattle.mask.proofs.BitsLaws.{has-lt}
use Rattle.analysis_weights.proofs.WeighingLaws.{room-start}
use Rattle.mask.proofs.LoopsLaws.{zeros-at}
use borrow.Author.Rules.{rules}
use Rattle.analysis_weights.proofs.weights.Goals as goal

pub weigh-requires : goal.weigh-requires
weigh-requires c =
    record {
      size = search rules;
      rows = λ r. le_trans (c.requires.1 r) (pow_mono c.requires.0);
      room = room-start c.below.result;
      halted = λ r s e out.
          absurd (false≢true (sym out ∙ c.below.ensures s ∙ lt-ltb s _ (has-lt _ s (c.requires.1 r) e)));
    }

pub returns : goal.returns
returns c =
    let below = c.below.ensures in
    record {
      size = c.weigh.ensures.size;
      weight = λ r l h. c.weigh.ensures.weight r (below r ∙ lt-ltb r _ l) h;
      endless = λ r h. c.weigh.ensures.endless r h ∙ zeros-at 32 r;
      absent = λ r l. c.weigh.ensures.same r (below r ∙ le-ltb r _ l) ∙ zeros-at 32 r;
      fits = c.weigh.ensures.fits;
    }
