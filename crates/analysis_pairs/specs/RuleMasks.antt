-- Rules given by four masks each: the cells that it watches, reads and writes, and the rules that it precedes.
use Rattle.std.specs.Prelude.{Bool, not, ◌&&◌, ◌||◌, List, ℕ, eqb, get_or}
use Rattle.mask.specs.Mask.{meet, mask_of}
use Rattle.graph.specs.Graph.{Leads}
use Rattle.rule.specs.Fill.{upto, filled}
use Rattle.analysis_pairs.specs.declared.Masks.{Masks}
use Rattle.analysis_pairs.specs.Rules.{Rules}

-- "four masks a rule (watch, reads, writes, precedes)": those of rules 0 to n - 1, and 0 past the last
abbrev pub masks_from : ℕ → (ℕ → ℕ) → (ℕ → ℕ) → (ℕ → ℕ) → (ℕ → ℕ) → Masks
masks_from n watch reads writes precedes =
    let row : (ℕ → ℕ) → List ℕ = λ f. filled 32 0 f n in
    record { n = n; watch = row watch; reads = row reads; writes = row writes; precedes = row precedes }

-- "r may trigger s when s watches a cell that r writes; s may be r."
unfoldable pub may_trigger : Masks → ℕ → ℕ → Bool
may_trigger m r s = meet (get_or m.watch s 0) (get_or m.writes r 0)

-- r writes a cell that s reads or writes
unfoldable pub writes_into : Masks → ℕ → ℕ → Bool
writes_into m r s = meet (get_or m.writes r 0) (get_or m.reads s 0) || meet (get_or m.writes r 0) (get_or m.writes s 0)

-- "Two different rules commute when neither may trigger the other, and neither writes a cell that the other reads or
-- writes. A rule commutes with itself."
unfoldable pub commute : Masks → ℕ → ℕ → Bool
commute m r s =
    eqb r s || (not (may_trigger m r s) && not (may_trigger m s r) && not (writes_into m r s) && not (writes_into m s r))

-- "r goes before s when r's precedes mask names s, directly or through others."
abbrev pub rules_of : Masks → Rules
rules_of m = record { may = may_trigger m; before = Leads m.precedes; commute = commute m }

-- a relation as a row of 32 masks
unfoldable pub masks_by : (ℕ → ℕ → Bool) → List ℕ
masks_by f = upto 32 (λ r. mask_of 32 (f r))

-- mask r: the rules that r may trigger
unfoldable pub triggers : Masks → List ℕ
triggers m = masks_by (may_trigger m)
