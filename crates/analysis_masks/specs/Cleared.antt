-- When rules are cleared.
use Rattle.std.specs.Prelude.{◌≡◌, ℕ, ◌<◌}
use Rattle.graph.specs.Graph.{Leads}
use Rattle.analysis_pairs.specs.declared.Masks.{Masks}
use Rattle.analysis_pairs.specs.Rules.{Unordered, Passes}
use Rattle.analysis_pairs.specs.RuleMasks.{rules_of, triggers}

-- "the rules at fault are exactly those that reach themselves"
abbrev pub Faulty : Masks → ℕ → Type 0
Faulty m r = Leads (triggers m) r r

-- "Cleared: the book ends and every unordered pair passes." "The book ends when that graph has no cycle."
pub record Cleared (m : Masks) : Type 0 where
  pub ends : (r : ℕ) → Faulty m r → ⊥
  pub pairs : (i j : ℕ) → i < m.n → j < m.n → (i ≡ j → ⊥) → Unordered (rules_of m) i j → Passes (rules_of m) i j
