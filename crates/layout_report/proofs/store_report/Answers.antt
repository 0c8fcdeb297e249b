-- The head, and the marks where it ends: in the end nothing of the old bytes is left.
use Rattle.std.proofs.Common.{◌≡◌, length, length-append, rules, sym, ap, ◌∙◌, List, ℕ, ◌++◌, arith}
use Rattle.little.specs.Put.{put}
use Rattle.little.proofs.PutLaws.{put_next, put_whole}
use Rattle.layout_report.specs.Layout.{summary_bytes, report_bytes}
use Rattle.layout_report.specs.LayoutReportInner.{report_with}
use Rattle.layout_report.proofs.store_report.Goals as goal

pub returns : goal.returns
unfolding report_bytes
returns c =
    let old = c.args.out.now in
    let marks = c.args.r.now.marks.now in
    let h : length c.head.result ≡ 16 = search rules in
    let m : length marks ≡ 496 = search rules in
    put_next old 0 c.head.result c.put_bytes.ensures (omega (arith, c.told-out)) 16 (omega arith) marks c.put_bytes-2.ensures
    ∙ (put_whole old (c.head.result ++ marks) (length-append c.head.result marks ∙ omega (arith, c.told-out))
    ∙ ap (λ (b : List ℕ). b ++ marks) c.head.ensures)
