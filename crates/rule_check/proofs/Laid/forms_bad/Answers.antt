-- The forms and the slots, as many as the count bytes say.
use Rattle.rule_check.proofs.Laid.forms_bad.Goals as goal

pub returns : goal.returns
returns c =
    rw (
      c.any_letter_left.ensures,
      c.any_form_bad-2.ensures,
      c.any_form_bad.ensures,
      c.name.ensures,
      c.assigns.ensures,
      c.tests.ensures,
      c.counts_at-counts.ensures.letters,
      c.counts_at-counts.ensures.assigns,
      c.counts_at-counts.ensures.tests,
    )
