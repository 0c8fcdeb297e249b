-- What the contracts of `machine_step` cite, all of them inner.
pub mod MachineStepInner
