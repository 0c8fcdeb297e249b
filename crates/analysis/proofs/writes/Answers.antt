use Rattle.std.proofs.Common.{arith}
use Rattle.rule.specs.Uses.{writes}
use Rattle.analysis.proofs.TableMasksLaws.{few_rules, rule_counts, cells-at}
use Rattle.analysis.proofs.writes.Goals as goal

pub writes-requires : goal.writes-requires
writes-requires c =
    let few = few_rules c.args.table.now c.requires.0 in
    let n = rule_counts c.args.table.now c.requires.0 c.args.r c.requires.1 in
    (record { tests = omega arith; assigns = omega arith; letters = omega arith; inside = omega arith }, n.1)

pub returns : goal.returns
returns c = cells-at c.args.table.now c.requires.0 writes c.args.r c.requires.1 (omega arith) (λ x. c.writes.ensures x 16)
