-- The rules of R1 that do not commute with some rule of R2 are a mask; the first culprit is its lowest, and the other the lowest of R2
-- that clashes with that one.
use Rattle.std.proofs.Common.{rules, refl}
use Rattle.analysis_pairs.proofs.VerdictLaws.{guilty_met, judged-passing, judged-failing}
use Rattle.analysis_pairs.proofs.Relations.judge.Goals as goal

pub returns-then-r-ge32 : goal.returns-then-r-ge32
returns-then-r-ge32 c =
    let a = c.args.self.now in
    let guilty = guilty_met a.mutual _ _ _ _ c.gather.ensures c.common.ensures in
    let j = judged-passing a.clash c.grown-sets.ensures (search rules) (search rules) _ guilty _ c.lowest-r.ensures c.if-r-ge32.true in
    (j.passing refl).0

pub returns : goal.returns
returns c =
    let a = c.args.self.now in
    let guilty = guilty_met a.mutual _ _ _ _ c.gather.ensures c.common.ensures in
    (judged-failing a.clash c.grown-sets.ensures (search rules) (search rules) _ guilty _ _ _ c.lowest-r.ensures c.if-r-ge32.false (λ y l. c.common-2.ensures y) c.lowest-s.ensures).failing refl
