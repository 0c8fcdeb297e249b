-- What the contracts of `machine_run` cite, all of them inner.
pub mod MachineRunInner
