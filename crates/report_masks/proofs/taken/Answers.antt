use Rattle.std.proofs.Common.{arith, rules, ◌≡◌, ◌∙◌, ap, ℕ, ◌<◌, ◌≤◌, List, length, get_or}
use Rattle.rule.specs.Fill.{filled}
use Rattle.rule.specs.Uses.{reads, writes}
use Rattle.rule.proofs.FillLaws.{is_filled}
use Rattle.table.specs.Table.{rule_at}
use Rattle.book_judge.specs.Read.{table_in}
use Rattle.analysis.specs.TableMasks.{cells_of}
use Rattle.report_masks.proofs.BodyMasksLaws.{in_book, few-rules, body_cells}
use Rattle.analysis.proofs.TableMasksLaws.{rows_of_lem}
use Rattle.report_masks.proofs.taken.Goals as goal

pub bounds-book-1 : goal.bounds-book-1
bounds-book-1 c = omega (arith, (in_book c.args.book.now c.requires).inside.contents)

pub row-requires : goal.row-requires
row-requires c = let few = few-rules c.args.book.now c.requires in search (rules, few)

pub row-requires-2 : goal.row-requires-2
row-requires-2 c = let few = few-rules c.args.book.now c.requires in search (rules, few)

pub row-requires-3 : goal.row-requires-3
row-requires-3 c = let few = few-rules c.args.book.now c.requires in search (rules, few)

pub row-requires-4 : goal.row-requires-4
row-requires-4 c = let few = few-rules c.args.book.now c.requires in search (rules, few)

-- a row of n masks, where n is the number of rules
row_is : (f : ℕ → ℕ) {n k : ℕ} → k ≡ n → n ≤ 32 → {q : List ℕ} → length q ≡ 32 → ((i : ℕ) → i < k → get_or q i 0 ≡ f i)
    → ((i : ℕ) → k ≤ i → get_or q i 0 ≡ 0) → q ≡ filled 32 0 f n
row_is f {n} {k} e few {q} size below beyond = is_filled 32 0 f k q (rw e few) size below beyond ∙ ap (filled 32 0 f) e

pub returns : goal.returns
unfolding table_in
returns c =
    let t = table_in c.args.book.now in
    let n = c.from-n.ensures in
    let few = few-rules c.args.book.now c.requires in
    let row = c.row.ensures in
    let row-2 = c.row-2.ensures in
    let row-3 = c.row-3.ensures in
    let row-4 = c.row-4.ensures in
    rows_of_lem t n
    (row_is (λ i. (rule_at t i).watch) n few row.size (λ i l. let p = row.below i l in search rules) row.beyond)
    (row_is (cells_of reads t) n few row-2.size (λ i l. let p = row-2.below i l in search (body_cells, arith)) row-2.beyond)
    (row_is (cells_of writes t) n few row-3.size (λ i l. let p = row-3.below i l in search (body_cells, arith)) row-3.beyond)
    (row_is (λ i. (rule_at t i).precedes) n few row-4.size (λ i l. let p = row-4.below i l in search rules) row-4.beyond)
