-- What the call of `gwaunidor_book` ensures.
use Rattle.gwaunidor.proofs.gwaunidor_write.Goals as goal

pub returns : goal.returns
returns c = c.write.ensures
