-- A machine with cells: rules are bodies that watch, read and write cells, with a fault mark and a memory
-- for each rule. Here is what is to be believed: the step, and the facts asked of bodies, priorities and an
-- analysis.
use Rattle.std.specs.Prelude.{◌≡◌, ◌≢◌, Bool, ℕ, ◌<◌}
use Rattle.std.proofs.Math.Bool.{So}
use Rattle.orders.specs.Runner.{Runner}
use Rattle.orders.specs.System.{Weighs}
use Rattle.orders.specs.Overwritten.{put}
use Rattle.orders.specs.Cells.{Cells, EqualOn}
use Rattle.orders.specs.Kept.{Memory}

-- n rules over k cells
pub record Bodies (k : ℕ) : Type 1 where
  pub n : ℕ
  pub watches : ℕ → ℕ → Bool
  pub reads : ℕ → ℕ → Bool
  pub writes : ℕ → ℕ → Bool
  -- the amounts after the rule's action
  pub body : ℕ → Cells → Cells
  -- the rule's fault mark after its action, by the amounts and the mark before
  pub Mark : Type 0
  pub mark : ℕ → Cells → Mark → Mark
  pub goes_before : ℕ → ℕ → Bool

pub record State (k : ℕ) (E : Memory k) (B : Bodies k) : Type 0 where
  pub cells : Cells
  pub marks : ℕ → B.Mark
  pub kept : ℕ → E.Kept

-- ── the facts asked ──
module _ (k : ℕ) (B : Bodies k) where
  open B use {n, watches, reads, writes, body, Mark, mark, goes_before}

  -- of bodies
  pub record BodyFacts : Type 0 where
    -- a cell that is not written is unchanged
    pub unwritten : (r : ℕ) (c : Cells) (x : ℕ) → r < n → x < k → (So (writes r x) → ⊥) → body r c x ≡ c x
    -- what a cell holds afterwards depends on the cells read and on that cell itself
    pub local : (r : ℕ) (c d : Cells) (x : ℕ) → r < n → x < k → EqualOn k (reads r) c d → c x ≡ d x
        → body r c x ≡ body r d x
    -- the fault mark depends on the cells read and on the mark before
    pub mark-local : (r : ℕ) (c d : Cells) (m : Mark) → r < n → EqualOn k (reads r) c d
        → mark r c m ≡ mark r d m

  -- of priorities: a strict order
  pub record Priorities : Type 0 where
    pub irreflexive : (r : ℕ) → r < n → So (goes_before r r) → ⊥
    pub transitive : (r s t : ℕ) → r < n → s < n → t < n → So (goes_before r s) → So (goes_before s t)
        → So (goes_before r t)

  -- of an analysis: it judges by the sets of watched, read and written cells, and need not be exact
  pub record Analysis : Type 0 where
    pub may_trigger : ℕ → ℕ → Bool
    pub commute : ℕ → ℕ → Bool
    pub weight : ℕ → ℕ
    pub triggers : (r s x : ℕ) → r < n → s < n → x < k → So (writes r x) → So (watches s x)
        → So (may_trigger r s)
    pub weighs : Weighs n may_trigger weight
    pub commute_symmetric : (r s : ℕ) → r < n → s < n → So (commute r s) → So (commute s r)
    -- two different rules that commute
    pub commute-quiet : (r s : ℕ) → r < n → s < n → r ≢ s → So (commute r s) → So (may_trigger r s) → ⊥
    pub commute-reads : (r s x : ℕ) → r < n → s < n → x < k → r ≢ s → So (commute r s)
        → So (writes r x) → So (reads s x) → ⊥
    pub commute-writes : (r s x : ℕ) → r < n → s < n → x < k → r ≢ s → So (commute r s)
        → So (writes r x) → So (writes s x) → ⊥

-- ── the machine ──
module _ (k : ℕ) (E : Memory k) (B : Bodies k) where
  open E use {wakeful, rest, moved, alike}
  open B use {n, watches, body, mark, goes_before}

  abbrev pub waits : State k E B → ℕ → Bool
  waits S r = wakeful (watches r) (S.kept r) S.cells

  -- "r stops waiting … all targets are stored together, and each rule that watches a cell whose value now
  -- differs from before waits, r included": r rests, its body acts, its fault mark follows, what each rule
  -- keeps moves with the cells
  abbrev pub step : ℕ → State k E B → State k E B
  step r S =
      record {
        cells = body r S.cells;
        marks = put S.marks r (mark r S.cells (S.marks r));
        kept = λ t. moved (watches t) (put S.kept r (rest S.cells) t) S.cells (body r S.cells);
      }

  -- "the same amounts and fault marks", and what rules keep as good as equal
  pub record Same (S T : State k E B) : Type 0 where
    pub cells_same : (x : ℕ) → x < k → S.cells x ≡ T.cells x
    pub marks-same : (r : ℕ) → r < n → S.marks r ≡ T.marks r
    pub kept-alike : (r : ℕ) → r < n → alike (watches r) (S.kept r) (T.kept r)

  -- it runs without any fact of bodies, and where triggers have a cycle
  abbrev pub runner : Priorities k B → Runner
  runner P =
      record {
        n = n;
        State = State k E B;
        waits = waits;
        step = step;
        goes_before = goes_before;
        goes_before-irreflexive = P.irreflexive;
        goes_before-transitive = P.transitive;
      }
