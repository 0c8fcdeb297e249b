-- The laws of refusals.
pub mod RefusalLaws
