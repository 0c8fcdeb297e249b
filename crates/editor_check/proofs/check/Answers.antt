-- Each test passed or taken is the definition's own.
use Rattle.std.proofs.Common.{arith, lt-ltb, le-ltb, le_refl, get_or, sym, ◌∙◌, Some, None}
use Rattle.mask.proofs.AnyLaws.{least_cases, unwrap_least}
use Rattle.mask.proofs.MaskLaws.{not_beyond}
use Rattle.editor_check.specs.RowNumbers.{first_beyond, check_rows}
use Rattle.editor_check.proofs.check.Goals as goal

pub returns-then-n-gt32 : goal.returns-then-n-gt32
unfolding check_rows
returns-then-n-gt32 c = record { is = rw (lt-ltb 32 _ c.if-n-gt32.true); named = λ e. absurd (omega arith) }

pub returns-in-Some : goal.returns-in-Some
unfolding check_rows first_beyond
returns-in-Some c =
    let first = unwrap_least _ _ (Some c.in-Some.i) (sym c.in-Some.is ∙ c.first_beyond.ensures) in
    let found = least_cases _ _ (Some c.in-Some.i) (sym c.in-Some.is ∙ c.first_beyond.ensures) in
    record { is = rw (le-ltb 32 c.args.n c.if-n-gt32.false, ← first, lt-ltb _ c.args.n found.0); named = λ e. absurd (omega arith) }

pub returns-then-row_cyclic : goal.returns-then-row_cyclic
unfolding check_rows first_beyond
returns-then-row_cyclic c =
    let none = unwrap_least _ _ None (sym c.in_default.is ∙ c.first_beyond.ensures) in
    record {
      is = rw (le-ltb 32 c.args.n c.if-n-gt32.false, ← none, le-ltb c.args.n c.args.n (le_refl c.args.n), sym c.row_cyclic.ensures ∙ c.if-row_cyclic.true);
      named = λ e. absurd (omega arith);
    }

pub returns : goal.returns
unfolding check_rows first_beyond
returns c =
    let none = unwrap_least _ _ None (sym c.in_default.is ∙ c.first_beyond.ensures) in
    let clean = least_cases _ _ None (sym c.in_default.is ∙ c.first_beyond.ensures) in
    record {
      is = rw (le-ltb 32 c.args.n c.if-n-gt32.false, ← none, le-ltb c.args.n c.args.n (le_refl c.args.n), sym c.row_cyclic.ensures ∙ c.if-row_cyclic.false);
      named = λ e i l. not_beyond (get_or c.args.precedes.now i 0) c.args.n (c.fits-precedes i) (clean i l);
    }
