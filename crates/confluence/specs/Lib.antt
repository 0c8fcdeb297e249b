-- What demand 3 says.
pub mod Demand
