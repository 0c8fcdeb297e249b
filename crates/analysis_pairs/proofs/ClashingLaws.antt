-- Who does not commute with whom, as the code finds it: from what each rule touches and writes.
use mathlib.Core.Path.{◌≡◌, refl, ap, ap₂, ◌∙◌}
use mathlib.Core.Bool.{Bool, true, false, not, ◌&&◌, ◌||◌, and-false}
use mathlib.Core.List.{List}
use Prim.Native.Nat.{ℕ, ◌<◌}
use lib.Bits.{bit_or}
use lib.Dec.{eqb}
use lib.ListN.{get_or}
use Rattle.mask.specs.Mask.{meet}
use Rattle.analysis_pairs.specs.declared.Masks.{Masks}
use Rattle.analysis_pairs.specs.RuleMasks.{may_trigger, writes_into, commute}
use Rattle.analysis_pairs.proofs.RuleMasksLaws.{meet_comm, meet-or, eqb_comm, free}
use Rattle.analysis_pairs.specs.AnalysisPairsInner.{Touches, clashing}

-- to meet three sets together is to meet one of them
three : (x a b c : ℕ) → meet x (bit_or (bit_or a b) c) ≡ ((meet x a || meet x b) || meet x c)
three x a b c = meet-or x (bit_or a b) c ∙ ap (λ (y : Bool). y || meet x c) (meet-or x a b)

table : (a b p q d e : Bool)
    → (((a || p) || q) || ((b || d) || q)) && not e ≡ not (e || (not a && not b && not (p || q) && not (d || q)))
table a b p q d true = and-false (((a || p) || q) || ((b || d) || q))
table true b p q d false = refl
table false true true q d false = refl
table false false true q d false = refl
table false true false true d false = refl
table false false false true d false = refl
table false true false false d false = refl
table false false false false true false = refl
table false false false false false false = refl

-- i writes, watches and reads; s watches, reads and writes
strike : (own watch reads watch' reads' writes' : ℕ) (e : Bool)
    → ((meet (bit_or (bit_or watch' reads') writes') own || meet writes' (bit_or (bit_or watch reads) own)) && not e)
    ≡ not (e || (not (meet watch' own) && not (meet watch writes') && not (meet own reads' || meet own writes')
    && not (meet writes' reads || meet writes' own)))
strike own watch reads watch' reads' writes' e =
    ap₂ (λ (x y : Bool). (x || y) && not e)
    (meet_comm (bit_or (bit_or watch' reads') writes') own ∙ three own watch' reads' writes') (three writes' watch reads own)
    ∙ cc (meet_comm own watch', meet_comm own reads', meet_comm own writes')
    ∙ table (meet watch' own) (meet writes' watch) (meet reads' own) (meet writes' own) (meet writes' reads) e
    ∙ cc (meet_comm writes' watch, meet_comm reads' own, meet_comm writes' own)

pub clash_law : (m : Masks) (touched : List ℕ)
    → ((r : ℕ) → r < 32 → Touches m.watch m.reads m.writes r (get_or touched r 0))
    → (i s : ℕ) → i < 32 → s < 32 → clashing touched m.writes i s ≡ not (commute m i s)
unfolding clashing commute may_trigger writes_into
clash_law m touched h i s li ls =
    ap₂ (λ (x y : ℕ). (meet x (get_or m.writes i 0) || meet (get_or m.writes s 0) y) && not (eqb s i)) (h s ls) (h i li)
    ∙ strike (get_or m.writes i 0) (get_or m.watch i 0) (get_or m.reads i 0) (get_or m.watch s 0)
    (get_or m.reads s 0) (get_or m.writes s 0) (eqb s i)
    ∙ ap (λ (e : Bool). not (e || free m i s)) (eqb_comm s i)
