-- What was told of the book is the text that was laid, or nothing where it does not fit.
use Rattle.std.proofs.Common.{◌≡◌, ◌≤◌, ap, ap₂, ◌∙◌, arith, lt-ltb, le-ltb, List, ℕ, length}
use Rattle.refusal.specs.Answer.{Answer}
use Rattle.book_judge.specs.Read.{read_of, told}
use Rattle.report_lines.specs.Lines.{Printed, TextOf, LinesSay, laid}
use Rattle.report_lines.proofs.LinesLaws.{put_first}
use Rattle.report_lines.proofs.lines.Goals as goal

abbrev printed : Answer → ℕ → Printed
printed a size = record { number = a.number; place = a.place; length = size }

said : {book d : List ℕ} {x : Printed × List ℕ} (text : List ℕ) {n : ℕ} → TextOf (read_of book) text → n ≡ length text → n ≤ 512 → x ≡ laid (told (read_of book)) d text → LinesSay book d x
said text t e m i = record { text = text; printed = t; most = omega (arith, e, m); is = i }

pub returns-then-out-n : goal.returns-then-out-n
returns-then-out-n c =
    let text = c.told-text.result.items in
    let out = c.args.out.now in
    said text c.told-text.ensures c.len-n.ensures.value c.len-n.ensures.fits
    (rw (lt-ltb (length out) (length text) (omega (arith, c.len-n.ensures.value, c.if-out-n.true)))
    (ap (λ (a : Answer). (printed a 0, out)) c.judge-read.ensures))

pub returns : goal.returns
returns c =
    let text = c.told-text.result.items in
    let out = c.args.out.now in
    said text c.told-text.ensures c.len-n.ensures.value c.len-n.ensures.fits
    (rw (le-ltb (length out) (length text) (omega (arith, c.len-n.ensures.value, c.if-out-n.false)))
    (ap₂ (λ (p : Printed) (d : List ℕ). (p, d)) (ap₂ printed c.judge-read.ensures c.len-n.ensures.value)
    (put_first out text c.len-n.ensures.value (c.copy_from_slice.ensures.after ∙ c.as_slice.ensures.value))))
