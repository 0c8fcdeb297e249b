-- What the call of `gwaunidor_report` ensures.
use Rattle.gwaunidor.proofs.gwaunidor_lines.Goals as goal

pub returns : goal.returns
returns c = c.lines.ensures
