-- The one claim: every case marked P holds. Reading, steps and postings compute; a report and a bound are told by the rules' sheets.
use mathlib.Core.Path.{refl}
use mathlib.Core.List.{[], ◌∷◌}
use Rattle.mask.specs.Search as Search
use Rattle.mask.specs.Mask as Mask
use Rattle.graph.specs.Graph as Graph
use Rattle.little.specs.Joined as Joined
use Rattle.rule.specs.Numbers as Numbers
use Rattle.rule.specs.Uses as Uses
use Rattle.table.specs.Table as Table
use Rattle.table.specs.Check as Check
use Rattle.table.specs.BodyStarts as BodyStarts
use Rattle.book_judge.specs.Read as Read
use Rattle.rule_sums.specs.Sums as Sums
use Rattle.rule_act.specs.Amounts as Amounts
use Rattle.machine_spec.specs.State as Fit
use Rattle.machine_spec.specs.Step as Step
use Rattle.analysis_weights.specs.Weight as Weight
use Rattle.analysis_pairs.specs.RuleMasks as Masks
use Rattle.cases.proofs.WrittenLaws as Written
use Rattle.report_text.specs.Text as Text
use Rattle.report_lines.specs.FourLines as FourLines
use Rattle.cases.specs.Books.{empty, tax, circle, unordered, ordered, night}
use Rattle.cases.specs.Case.{Every}
use Rattle.cases.proofs.ToldLaws.{refused, bound, lines, endless-lines}
use Rattle.cases.proofs.SheetsLaws.{empty_sheet, tax_sheet, circle_sheet, unordered_sheet, ordered_sheet, night_sheet, sheets}
use Rattle.cases.specs.Cases.{table}

infixr 2 ◌and◌
abbrev ◌and◌ : {A B : Type 0} → A → B → A × B
a and b = (a, b)

pub all_hold : Every table
unfolding Search.some Search.least Mask.has Mask.meet Mask.beyond Mask.mask_of Graph.leads Joined.joined Numbers.counts_bad
    Numbers.cells_bad Numbers.forms_bad Numbers.twice Numbers.letters_bad Numbers.same_name Numbers.name_taken
    Numbers.rule_number Numbers.rule_slot_bad Uses.reads Uses.writes Table.goes_before Check.sizes_bad Check.number_at
    Check.first_bad Check.first_slot Graph.cyclic Check.check_of BodyStarts.start_at Read.contents_bad Read.table_in Read.number_in
    Read.first_in Read.read_of Sums.compares Sums.holds Amounts.any_false Sums.scaled
    Sums.operated Sums.value_of Amounts.any_out Amounts.stored_by Fit.state_bad Fit.held_back Step.rested Step.marked
    Step.wakes Step.stored_and_woken Step.effect Step.answered Step.step_numbers Step.step_of Step.post_numbers Step.post_of
    Weight.weight_of Weight.total Masks.commute Masks.may_trigger Masks.writes_into Written.with_zeros Text.digits_to
    Text.spaced Text.line Text.members FourLines.ends_line FourLines.pairs_line FourLines.cleared_line
    FourLines.four_lines
all_hold =
    (refl, refl, refl, refl)
    and lines empty empty_sheet _ sheets.empty refl 0 0 refl refl refl
    and (refl, refl, refl, refl)
    and refused (1 ∷ 0 ∷ 1 ∷ []) refl
    and (refl, refl, refl, refl)
    and lines tax tax_sheet _ sheets.tax refl 1 1 refl refl refl
    and refl
    and refl
    and refl
    and refl
    and refl
    and endless-lines circle circle_sheet _ sheets.circle 0 refl 1 refl refl
    and lines unordered unordered_sheet _ sheets.unordered refl 3 3 refl refl refl
    and lines ordered ordered_sheet _ sheets.ordered refl 3 3 refl refl refl
    and bound ordered ordered_sheet _ sheets.ordered refl 1 2 refl refl
    and bound ordered ordered_sheet _ sheets.ordered refl 2 1 refl refl
    and lines night night_sheet _ sheets.night refl 7 4 refl refl refl
    and refl
    and refl
    and refl
    and refl
    and tt
