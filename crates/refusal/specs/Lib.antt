-- What contracts cite of refusals.
pub mod Answer
pub mod RefusalNumbers
