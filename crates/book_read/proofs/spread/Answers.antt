-- Four bytes, the slots of the bodies one where the other ends, and zeros: in the end nothing of the old bytes is left.
use Rattle.std.proofs.Common.{◌≡◌, List, [], ◌∷◌, ◌++◌, ℕ, ◌+◌, ◌*◌, ◌<◌, ◌≤◌, ◌-◌, length, get_or, sym, ap, ◌∙◌, arith}
use Rattle.little.specs.Put.{put}
use Rattle.little.proofs.PutLaws.{put-nil, put_next, put_whole}
use Rattle.little.specs.Joined.{joined}
use Rattle.little.proofs.JoinedLaws.{put-joined, joined-rest}
use Rattle.rule.specs.declared.Rule.{Rule}
use Rattle.rule.specs.Empty.{no_rule}
use Rattle.rule.proofs.FillLaws.{get_or-left}
use Rattle.rule_write.specs.RuleWriteInner.{slot_bytes}
use Rattle.table.specs.Memory.{table_bytes}
use Rattle.table.proofs.MemoryLaws.{rules_bytes, length-rules, length-table}
use Rattle.book_judge.specs.Read.{table_in}
use Rattle.book_judge.proofs.InsideLaws.{counts, room}
use Rattle.book_judge.specs.BookJudgeInner.{n_of, k_of, body_in}
use Rattle.book_judge.proofs.ReadLaws.{rule_in_lem}
use Rattle.rule_write.proofs.SlotsLaws.{zero-slot}
use Rattle.book_read.proofs.SpreadLaws.{zero_bytes}
use Rattle.book_read.proofs.spread.Goals as goal

pub loop-i-init : goal.loop-i-init
unfolding joined
loop-i-init c = sym (put-nil c.put_4.new.out 4)

pub put_body-requires : goal.put_body-requires
put_body-requires c =
    let s = c.args.s.now in
    let p = c.requires in
    let l : c.loop-i.i < n_of s = omega arith in
    (omega (arith, p.inside.few), omega (arith, p.inside.contents), room s c.loop-i.i (p.inside.bodies _ l) (counts s _ (p.good _ l)))

pub loop-i-preserved : goal.loop-i-preserved
loop-i-preserved c =
    let s = c.args.s.now in
    let rules = (table_in s).rules in
    let i = c.loop-i.i in
    let l : i < n_of s = omega arith in
    put-joined c.put_4.new.out 4 (λ j. slot_bytes (get_or rules j no_rule)) i c.loop-i.invariant (omega (arith, c.requires.inside.few, length-rules rules i)) (4 + 284 * i)
    (omega (arith, length-rules rules i)) (c.put_body.ensures ∙ ap (λ (r : Rule). put c.loop-i.out (4 + 284 * i) (slot_bytes r)) (sym (rule_in_lem s i l)))

-- the slots past n
rest : (s : List ℕ) → n_of s ≤ 32 → rules_bytes (table_in s).rules (n_of s) ++ zero_bytes (284 * (32 - n_of s)) ≡ rules_bytes (table_in s).rules 32
unfolding table_in
rest s few =
    sym (joined-rest 284 32 (n_of s) (λ j. slot_bytes (get_or (table_in s).rules j no_rule)) few
    (λ j h m. ap slot_bytes (get_or-left 32 no_rule (body_in s) (n_of s) no_rule j h m) ∙ zero-slot))

pub returns : goal.returns
unfolding table_bytes table_in
returns c =
    let s = c.args.s.now in
    let old = c.args.out.now in
    let head : List ℕ = 0 ∷ n_of s ∷ k_of s ∷ 0 ∷ [] in
    let rules = (table_in s).rules in
    let e : c.loop-i.i ≡ n_of s = omega arith in
    let n = length-rules rules (n_of s) in
    let size : length old ≡ 9092 = c.told-out in
    let rows : c.loop-i.out ≡ put c.put_4.new.out 4 (rules_bytes rules (n_of s)) =
    c.loop-i.invariant ∙ ap (λ (i : ℕ). put c.put_4.new.out 4 (rules_bytes rules i)) e in
    let last : c.put_zeros.new.out ≡ put c.loop-i.out (4 + 284 * n_of s) (zero_bytes (284 * (32 - n_of s))) =
    c.put_zeros.ensures ∙ ap (λ (i : ℕ). put c.loop-i.out (4 + 284 * i) (zero_bytes (284 * (32 - i)))) c.from-n.ensures in
    let all : c.put_zeros.new.out ≡ put c.put_4.new.out 4 (rules_bytes rules 32) =
    put_next c.put_4.new.out 4 (rules_bytes rules (n_of s)) rows (omega arith) (4 + 284 * n_of s)
    (omega arith) (zero_bytes (284 * (32 - n_of s))) last
    ∙ ap (put c.put_4.new.out 4) (rest s c.requires.inside.few) in
    put_next old 0 head c.put_4.ensures (omega arith) 4 (omega arith) (rules_bytes rules 32) all
    ∙ put_whole old (table_bytes (table_in s)) (length-table (table_in s) ∙ sym size)
