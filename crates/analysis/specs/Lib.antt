-- What the contracts of `analysis` cite.
pub mod Says
pub mod TableMasks
