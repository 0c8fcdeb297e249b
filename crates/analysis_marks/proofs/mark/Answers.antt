-- The judgement says whether the pair passes.
use Rattle.analysis_pairs.proofs.RulesLaws.{fails-not-passes}
use Rattle.analysis_marks.specs.AnalysisMarksInner.{good, bad}
use Rattle.analysis_marks.proofs.mark.Goals as goal

pub returns-in-None : goal.returns-in-None
returns-in-None c = good c.in-None.ensures

pub returns-in-Some : goal.returns-in-Some
returns-in-Some c = bad (fails-not-passes c.in-Some.ensures)
