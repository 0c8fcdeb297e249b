use Prim.Native.Nat.{◌+◌, ◌-◌}
use mathlib.Core.Path.{◌≡◌}
use native.Mathlib.Omega.{arith}
use Rattle.rule.proofs.FillLaws.{part_filled}
use Rattle.rule_read.proofs.read_name.Goals as goal

pub returns : goal.returns
returns c =
    let a = c.args in
    let e : a.at + a.m - a.at ≡ a.m = omega arith in
    rw (c.copy_from_slice.ensures.after, e) (part_filled 16 0 a.s.now a.at a.m c.requires.1)
