-- The notions of Newman's lemma, for any relation and up to an equivalence (confluent modulo it): what terminates,
-- what is locally confluent, what is confluent, what has unique normal forms. Knows no rules.
use Rattle.std.specs.Prelude.{ℕ, ◌<◌}
use mathlib.Mathlib.Logic.Relation.{ReflTransGenᴰ as Star}

-- ── the notions, each over any relation; Star is its reflexive and transitive closure ──
module _ {A : Type 0} (Step : A → A → Type 0) where
  -- nothing follows
  abbrev pub NormalForm : A → Type 0
  NormalForm a = (b : A) → Step a b → ⊥

  -- the measure falls with each step, so that every way ends (strongly normalizing)
  abbrev pub Terminating : (A → ℕ) → Type 0
  Terminating measure = (a b : A) → Step a b → measure b < measure a

  module _ (same : A → A → Type 0) where
    -- steps eligible-at-or-before from both to elements that are the same
    abbrev pub Joinable : A → A → Type 0
    Joinable b c = (d e : A) × Star Step b d × Star Step c e × same d e

    -- one step each way (weakly Church–Rosser)
    abbrev pub LocallyConfluent : Type 0
    LocallyConfluent = (a b c : A) → Step a b → Step a c → Joinable b c

    -- any number of steps each way
    abbrev pub Confluent : Type 0
    Confluent = (a b c : A) → Star Step a b → Star Step a c → Joinable b c

    abbrev pub UniqueNormalForms : Type 0
    UniqueNormalForms = (a b c : A) → Star Step a b → Star Step a c → NormalForm b → NormalForm c → same b c

    -- what is the same steps to what is the same
    abbrev pub Respected : Type 0
    Respected = (a b c : A) → same a b → Step a c → (d : A) × Step b d × same c d
