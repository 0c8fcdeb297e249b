-- What a case of the treasurer's says.
use Rattle.std.specs.Prelude.{◌≡◌, true, cond, List, [], ◌∷◌, ◌++◌, ℕ, ◌-◌, eqb, ℤ, pos, length, replicate}
use Prim.Native.String.{String}
use Rattle.table.specs.Table.{Table}
use Rattle.book_judge.specs.Read.{read_of}
use Rattle.rule_sums.specs.Sums.{scaled}
use Rattle.machine_spec.specs.declared.State.{State}
use Rattle.machine_spec.specs.Step.{Moved}
use Rattle.machine_spec.specs.State.{zeros}
use Rattle.machine_spec.specs.Step.{moved, step_of, post_of}
use Rattle.analysis_pairs.specs.RuleMasks.{commute}
use Rattle.analysis_masks.specs.Bound.{Bound}
use Rattle.analysis.specs.TableMasks.{masks_of}
use Rattle.analysis.specs.Says.{BoundSays}
use Rattle.report_text.specs.Text.{letters}
use Rattle.report_lines.specs.Lines.{TextOf}

-- the amounts of the first cells, and 0 in the rest
abbrev pub cells : List ℤ → List ℤ
cells xs = xs ++ replicate (32 - length xs) (pos 0)

abbrev pub state : List ℤ → ℕ → ℕ → State
state xs waiting faults = record { cells = cells xs; waiting = waiting; faults = faults }

-- the table that a book's bytes hold
abbrev pub book_table : List ℕ → Table
book_table book = (read_of book).table

pub data Case : Type 0 where
  -- a book, the number and the place that reading it gives, and the numbers of rules and cells of its table
  reads : List ℕ → ℕ → ℕ → ℕ → ℕ → Case
  -- a x p / q gives
  scales : ℤ → ℕ → ℕ → ℤ → Case
  -- a book, a state, the rules stepped one after another, each done, and the state reached
  steps : List ℕ → State → List ℕ → State → Case
  -- a book, a value posted to a cell of zeros, and the state then
  posts : List ℕ → ℕ → ℤ → State → Case
  -- a book, and two of its rules that commute
  commutes : List ℕ → ℕ → ℕ → Case
  -- a book, a set of its rules, and the set's step bound
  bounds : List ℕ → ℕ → ℕ → Case
  -- a book, and what the report program prints for it
  prints : List ℕ → String → Case

-- the rules of a list stepped one after another, as long as each step is done
abbrev pub stepped : Table → Moved → List ℕ → Moved
stepped t m [] = m
stepped t m (r ∷ rs) = cond (eqb m.number 0) (stepped t (step_of t m.state r) rs) m

abbrev pub Holds : Case → Type 0
Holds (reads s number place n k) =
    ((read_of s).number ≡ number) × ((read_of s).place ≡ place) × ((book_table s).n ≡ n) × ((book_table s).k ≡ k)
Holds (scales a p q z) = scaled a p q ≡ z
Holds (steps s a rs b) = stepped (book_table s) (moved 0 255 a) rs ≡ moved 0 255 b
Holds (posts s cell value b) = post_of (book_table s) zeros cell value ≡ moved 0 255 b
Holds (commutes s i j) = commute (masks_of (book_table s)) i j ≡ true
Holds (bounds s set v) = (b : Bound) → BoundSays (book_table s) set b → (b.number ≡ 0) × (b.bound ≡ v)
Holds (prints s text) = (x : List ℕ) → TextOf (read_of s) x → x ≡ letters text

-- a row is the paper's sentence and the case
abbrev pub Every : List (String × Case) → Type 0
Every [] = Unit {0}
Every (row ∷ rows) = Holds row.1 × Every rows
