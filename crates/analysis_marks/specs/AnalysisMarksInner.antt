-- What only contracts of inner functions of `analysis_marks` cite.
use Rattle.std.specs.Prelude.{◌≡◌, List, ℕ, ◌≤◌, ◌<◌, get_or, replicate, ◌⊎◌, Bool, true, false, Option, MatchOption}
use Rattle.analysis_pairs.specs.Rules.{Passes, Rules}
use Rattle.mask.specs.Search.{count}
use Rattle.mask.specs.MaskInner.{Upto}
use Rattle.analysis_pairs.specs.declared.Relations.{Relations}
use Rattle.analysis_pairs.specs.AnalysisPairsInner.{row_rules, turned_of, rules_in}
use Rattle.analysis_marks.specs.Index.{start, index}
use Rattle.analysis_marks.specs.Marks.{Marked, fails_at, First}
use Rattle.analysis_marks.specs.declared.Failing.{Failing}

-- mask r of each row: the rules that r may trigger, those that it goes before, those that do not commute with it
pub record Graphs : Type 0 where
  pub n : ℕ
  pub trig : List ℕ
  pub before : List ℕ
  pub clash : List ℕ

-- the rules that the three graphs describe
abbrev pub graph_rules : Graphs → Rules
graph_rules g = row_rules g.trig g.before g.clash

-- the rules, and the graphs, in the rows that the code works on
abbrev pub rules_by : Relations → Rules
rules_by r = rules_in r.trig r.ahead r.clash

abbrev pub graphs_in : ℕ → Relations → Graphs
graphs_in n r = record { n = n; trig = r.trig; before = turned_of r.ahead; clash = r.clash }

-- whether i and j are unordered
pub record WhetherUnordered (before : ℕ → ℕ → Type 0) (i j : ℕ) (r : Bool) : Type 0 where
  pub unordered : r ≡ true → (before i j → ⊥) × (before j i → ⊥)
  pub ordered : r ≡ false → before i j ⊎ before j i

-- 1 where the pair passes, 2 where it fails
pub data Judges (b : Rules) (i j : ℕ) : ℕ → Type 0 where
  good : Passes b i j → Judges b i j 1
  bad : (Passes b i j → ⊥) → Judges b i j 2

-- v is the mark of the pair that stands at k
abbrev pub MarkAt : Graphs → ℕ → ℕ → Type 0
MarkAt g k v = (i j : ℕ) → i < j → j < 32 → index i j ≡ k → Marked (graph_rules g) g.n i j v

-- 496 marks of 0
unfoldable pub no_marks : List ℕ
no_marks = replicate 496 0

-- the marks of the rows before row i are filled in, the others are 0
abbrev pub Filled : Graphs → ℕ → List ℕ → Type 0
Filled g i q = Upto (MarkAt g) no_marks (start i) q

pub record Filling (g : Graphs) (i at : ℕ) (q : List ℕ) : Type 0 where
  pub few : g.n ≤ 32
  pub present : i < g.n
  pub here : at ≡ start i
  pub filled : Filled g i q

-- every mark is that of its pair
abbrev pub Marks : Graphs → List ℕ → Type 0
Marks g q = (i j : ℕ) → i < j → j < 32 → Marked (graph_rules g) g.n i j (get_or q (index i j) 0)

-- a pair whose mark is 2 fails
pub record Twos (b : Rules) (q : List ℕ) : Type 0 where
  pub fails : (i j : ℕ) → i < j → j < 32 → get_or q (index i j) 0 ≡ 2 → Passes b i j → ⊥

-- no mark is 2, or this is the first pair whose mark is
abbrev pub FirstFound : Rules → List ℕ → Option Failing → Type 0
FirstFound b marks o =
    MatchOption o (count 496 (fails_at marks) ≡ 0) (λ f. First b marks f.first f.second f.culprit f.other)
