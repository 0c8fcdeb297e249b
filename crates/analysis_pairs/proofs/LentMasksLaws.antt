-- Rows of masks that are lent one by one, as the masks of n rules.
use mathlib.Core.Path.{◌≡◌, refl}
use Rattle.analysis_pairs.specs.declared.Masks.{Masks}
use Rattle.analysis_pairs.specs.RuleMasks.{may_trigger, triggers}
use Rattle.analysis_pairs.specs.AnalysisPairsInner.{triggering, triggers_in}

pub may_in : (m : Masks) → may_trigger (triggering 0 m.watch m.writes) ≡ may_trigger m
unfolding may_trigger
may_in m = refl

pub triggers_in_lem : (m : Masks) → triggers_in m.watch m.writes ≡ triggers m
unfolding triggers may_trigger
triggers_in_lem m = refl
