-- Rules with priorities, run one at a time: every permitted order is short, goes on while something waits,
-- and ends alike. No book is in it. Here are the definitions, in reading order; what is proved of each file is
-- in its file of laws in proofs/.

-- ── what runs, and what ends and agrees ──
-- sums and tests over the numbers below k
pub mod Finite
-- rules, who waits, a step, priorities: eligible, permitted orders, ended
pub mod Runner
-- who may trigger whom, weights, states that are the same; the step bound
pub mod System
-- ── (c) all orders end alike ──
-- confluence, over any relation
pub mod Newman
-- a run of rules that commute with another set of rules
pub mod Side
-- the pair condition
pub mod Pairs
-- two ways that part and come together
pub mod Join
-- what is promised: every run is short and goes on, and all ends are one
pub mod Confluence
-- ── from one machine to another ──
-- runs carried over along a map of rules and a relation of states
pub mod Carry
-- a concrete machine viewed as an abstract system
pub mod View
-- ── a machine with cells ──
-- amounts, and the test that some of them differ
pub mod Cells
-- a function changed at one number
pub mod Overwritten
-- what a rule keeps between steps; a waiting bit
pub mod Kept
-- bodies that watch, read and write cells: the step, and the facts asked
pub mod Bodies
-- two rules that commute
pub mod BodiesCells
-- the paper's analysis, from the sets of cells
pub mod Sets
-- the paper's body
pub mod Actions
-- a concrete machine that makes the paper's step, and what is promised of it
pub mod Concrete
-- ── an instance ──
-- tests that compute
pub mod SmallTests
-- the mended night book: its cells, its rules and the two sets of its pair
pub mod Mended
