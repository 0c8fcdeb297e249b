-- What the call of `gwaunidor_run` ensures.
use Rattle.gwaunidor.proofs.gwaunidor_run.Goals as goal

pub returns : goal.returns
returns c = c.run.ensures
