-- What the call of `gwaunidor_report` ensures.
use Rattle.gwaunidor.proofs.gwaunidor_rows.Goals as goal

pub returns : goal.returns
returns c = c.rows.ensures
