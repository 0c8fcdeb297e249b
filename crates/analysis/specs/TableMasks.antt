-- The four rows of masks of a table: all that the analysis knows of it.
use Rattle.std.specs.Prelude.{Bool, ℕ}
use Rattle.mask.specs.Mask.{mask_of}
use Rattle.rule.specs.declared.Rule.{Rule}
use Rattle.rule.specs.Uses.{reads, writes}
use Rattle.table.specs.Table.{Table, rule_at}
use Rattle.analysis_pairs.specs.declared.Masks.{Masks}
use Rattle.analysis_pairs.specs.RuleMasks.{masks_from}

-- the cells of rule i that a test picks, as a mask
abbrev pub cells_of : (Rule → ℕ → Bool) → Table → ℕ → ℕ
cells_of f t i = mask_of 32 (f (rule_at t i))

-- "four masks a rule (watch, reads, writes, precedes)". "Reads: all cells used in tests and on right sides. Writes: all targets."
abbrev pub masks_of : Table → Masks
masks_of t = masks_from t.n (λ i. (rule_at t i).watch) (cells_of reads t) (cells_of writes t) (λ i. (rule_at t i).precedes)
