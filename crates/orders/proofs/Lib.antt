-- The laws of `orders`, each file's beside its definitions in specs/. In reading order:

-- ── what runs, and what ends and agrees ──
-- sums, searches and tests over the numbers below k
pub mod FiniteLaws
-- priorities; (b) where something waits, something is eligible
pub mod RunnerLaws
-- states that are the same; (a) every run is at most as long as the step bound
pub mod SystemLaws
-- ── (c) all orders end alike ──
-- Newman's lemma, over any relation
pub mod NewmanLaws
-- a run of rules that commute with another set of rules
pub mod SideLaws
-- a pair that passes meets the pair condition
pub mod PairsLaws
-- it gives local confluence
pub mod JoinLaws
-- the theorem: every run is short and goes on, and all ends are one
pub mod ConfluenceLaws
-- ── from one machine to another ──
-- runs carried over along a map of rules and a relation of states
pub mod CarryLaws
-- a concrete machine viewed as an abstract system
pub mod ViewLaws
-- ── a machine with cells ──
-- amounts, and the test that some of them differ
pub mod CellsLaws
-- a function changed at one number
pub mod OverwrittenLaws
-- the waiting bit is what a rule may keep
pub mod WaitingBitLaws
-- the cells under two rules that commute
pub mod BodiesCellsLaws
-- two rules that commute can be stepped in either order
pub mod BodiesSwapLaws
-- the machine is a System
pub mod BodiesSystemLaws
-- the paper's analysis, from the sets of cells
pub mod SetsAnalysisLaws
-- the paper's body
pub mod ActionsLaws
-- a concrete machine that makes the paper's step: every order ends with the same amounts and fault marks
pub mod ConcreteLaws
-- ── an instance ──
-- tests that compute
pub mod SmallTestsLaws
-- the mended night book: the first set has to grow, and all orders agree
pub mod MendedLaws
