use mathlib.Core.Path.{sym}
use Prim.Native.Nat.{◌*◌}
use native.Mathlib.Omega.{arith}
use Rattle.std.proofs.lemmas.Int.{ints, to_z-of_z}
use Rattle.little.proofs.PutLaws.{put-nil}
use Rattle.little.specs.Bytes.{i64_bytes}
use Rattle.little.specs.Joined.{joined}
use Rattle.little.proofs.JoinedLaws.{put-joined}
use Rattle.rule_sums.specs.Sums.{at}
use Rattle.layout_state.specs.States.{cells_bytes}
use Rattle.layout_state.proofs.StatesLaws.{length-cells}
use Rattle.layout_state.proofs.put_cells.Goals as goal

pub loop-i-init : goal.loop-i-init
unfolding cells_bytes joined
loop-i-init c = sym (put-nil c.args.out.now 0)

pub loop-i-preserved : goal.loop-i-preserved
unfolding cells_bytes
loop-i-preserved c =
    let a = c.args in
    let i = c.loop-i.i in
    let n = length-cells a.cells i in
    put-joined a.out.now 0 (λ j. i64_bytes (at a.cells j)) i c.loop-i.invariant (omega arith) (8 * i) (omega arith)
    (search (arith, ints, to_z-of_z, c.put.ensures))
