use Rattle.std.proofs.Common.{rules, arith, add-one}
use Rattle.analysis_marks.specs.Index.{start}
use Rattle.analysis_marks.proofs.IndexLaws.{start-next, start_mono, start-all}
use Rattle.analysis_marks.proofs.pair_at.Goals as goal

pub loop-i-init : goal.loop-i-init
unfolding start
loop-i-init c = search rules

pub loop-i-preserved : goal.loop-i-preserved
loop-i-preserved c = rw add-one (omega (arith, start-next c.loop-i.i))

pub unreachable-requires : goal.unreachable-requires
unreachable-requires c = omega (arith, start_mono 31 c.loop-i.i c.loop-i-test.false, start-all)
