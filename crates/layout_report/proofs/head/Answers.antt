use Rattle.std.proofs.Common.{rules}
use Rattle.layout_report.specs.Layout.{summary_bytes}
use Rattle.little.specs.Bytes.{u16_bytes, u32_bytes}
use Rattle.layout_report.proofs.head.Goals as goal

pub returns : goal.returns
unfolding summary_bytes u16_bytes u32_bytes
returns c = search rules
