-- What the contracts of `graph` cite; `GraphInner` is for inner functions alone.
pub mod Graph
pub mod GraphInner
