-- What the call of `gwaunidor_report` ensures.
use Rattle.gwaunidor.proofs.gwaunidor_report.Goals as goal

pub returns : goal.returns
returns c = c.report.ensures
