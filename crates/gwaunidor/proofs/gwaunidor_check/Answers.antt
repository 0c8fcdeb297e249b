-- What the call of `gwaunidor_book` ensures.
use Rattle.gwaunidor.proofs.gwaunidor_check.Goals as goal

pub returns : goal.returns
returns c = c.check.ensures
