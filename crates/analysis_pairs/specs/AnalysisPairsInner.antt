-- What only contracts of inner functions of `analysis_pairs` cite.
use Rattle.std.specs.Prelude.{◌≡◌, Bool, true, false, not, ◌&&◌, ◌||◌, List, [], ℕ, ◌≤◌, eqb, get_or, ◌↔◌, Option, MatchOption}
use Rattle.std.specs.Int.Bits.{bit_or}
use Rattle.mask.specs.Mask.{meet, has}
use Rattle.analysis_pairs.specs.declared.Culprits as Found
use Rattle.analysis_pairs.specs.declared.Masks.{Masks}
use Rattle.analysis_pairs.specs.RuleMasks.{commute, triggers, masks_by}
use Rattle.mask.specs.Search.{some}
use Rattle.graph.specs.GraphInner.{Edge}
use Rattle.analysis_pairs.specs.Rules.{Grown, Rules, Passes, Culprits}

-- v is what r watches, reads or writes
abbrev pub Touches : List ℕ → List ℕ → List ℕ → ℕ → ℕ → Type 0
Touches watch reads writes r v = v ≡ bit_or (bit_or (get_or watch r 0) (get_or reads r 0)) (get_or writes r 0)

-- s touches what i writes, or writes what i touches, and is not i
unfoldable pub clashing : List ℕ → List ℕ → ℕ → ℕ → Bool
clashing touched writes i s =
    (meet (get_or touched s 0) (get_or writes i 0) || meet (get_or writes s 0) (get_or touched i 0)) && not (eqb s i)

-- whether one round of growing puts s into a, beside b
unfoldable pub grows : List ℕ → List ℕ → ℕ → ℕ → ℕ → Bool
grows trig before a b s = has a s || (some 32 (λ x. has a x && has (get_or trig x 0) s) && meet (get_or before s 0) b)

-- the same three relations, read from rows
abbrev pub edge : List ℕ → ℕ → ℕ → Bool
edge rows r s = has (get_or rows r 0) s

-- R1 or R2, over rows
abbrev pub RowsGrown : List ℕ → List ℕ → ℕ → ℕ → Bool → ℕ → Type 0
RowsGrown trig before i j side s = Grown (edge trig) (Edge before) i j side s

-- the two masks are R1 and R2
pub record Grew (trig before : List ℕ) (i j a b : ℕ) : Type 0 where
  pub first : (s : ℕ) → (has a s ≡ true) ↔ RowsGrown trig before i j true s
  pub second : (s : ℕ) → (has b s ≡ true) ↔ RowsGrown trig before i j false s

abbrev pub masks_in : ℕ → List ℕ → List ℕ → List ℕ → List ℕ → Masks
masks_in n watch reads writes precedes =
    record { n = n; watch = watch; reads = reads; writes = writes; precedes = precedes }

-- rules of which no more is known than what they watch and write, and so who may trigger whom
abbrev pub triggering : ℕ → List ℕ → List ℕ → Masks
triggering n watch writes = masks_in n watch [] writes []

abbrev pub triggers_in : List ℕ → List ℕ → List ℕ
triggers_in watch writes = triggers (triggering 0 watch writes)

-- mask r: the rules that do not commute with r
unfoldable pub clashes : Masks → List ℕ
clashes m = masks_by (λ r s. not (commute m r s))

abbrev pub row_rules : List ℕ → List ℕ → List ℕ → Rules
row_rules trig before clash = record { may = edge trig; before = Edge before; commute = λ r s. not (edge clash r s) }

-- what is found out about a pair: it passes, and the two numbers are 0; or it fails, and they are the culprits
pub record Judged (b : Rules) (i j : ℕ) (fails : Bool) (r s : ℕ) : Type 0 where
  pub passing : fails ≡ false → Passes b i j × (r ≡ 0) × (s ≡ 0)
  pub failing : fails ≡ true → Culprits b i j r s

-- the same of an answer: none where the pair passes, or the culprits
abbrev pub JudgedAs : Rules → ℕ → ℕ → Option Found.Culprits → Type 0
JudgedAs b i j v = MatchOption v (Passes b i j) (λ w. Culprits b i j w.first w.second)

-- a relation of numbers below n only
pub record Among (n : ℕ) (f : ℕ → ℕ → Bool) : Type 0 where
  pub from : (r s : ℕ) → n ≤ r → f r s ≡ false
  pub to : (r s : ℕ) → n ≤ s → f r s ≡ false

-- mask s: the numbers whose mask names s
unfoldable pub turned_of : List ℕ → List ℕ
turned_of rows = masks_by (λ s r. edge rows r s)

-- the rules in the rows that the code works on; mask s of `ahead`: the rules that go before s
abbrev pub rules_in : List ℕ → List ℕ → List ℕ → Rules
rules_in trig ahead clash = row_rules trig (turned_of ahead) clash

-- each names the other, or neither does
pub record Mutual (rows : List ℕ) : Type 0 where
  pub same : (r s : ℕ) → edge rows r s ≡ edge rows s r
