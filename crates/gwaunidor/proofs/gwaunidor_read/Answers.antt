-- What the call of `gwaunidor_book` ensures.
use Rattle.gwaunidor.proofs.gwaunidor_read.Goals as goal

pub returns : goal.returns
returns c = c.read.ensures
