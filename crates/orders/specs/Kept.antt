-- What a rule keeps between steps, as a parameter of the machine, and what that is in edition 1: a waiting bit,
-- since "a rule once waiting waits until it is stepped". That the bit is a Memory is proved in WaitingBitLaws.
use Rattle.std.specs.Prelude.{◌≡◌, ◌⊎◌, Bool, false, ◌||◌, ℕ, ◌<◌}
use Rattle.std.proofs.Math.Logic.{Equivalence}
use Rattle.std.proofs.Math.Bool.{So}
use Rattle.orders.specs.Cells.{Cells, EqualOn, changed}

-- From c one change leads to p, another to q, and both together to e: at x at most one of the two changed
-- anything.
abbrev pub OneOf : Cells → Cells → Cells → Cells → ℕ → Type 0
OneOf c p q e x = ((p x ≡ c x) × (e x ≡ q x)) ⊎ ((q x ≡ c x) × (e x ≡ p x))

-- The set that each field is given is the rule's watch set.
pub record Memory (k : ℕ) : Type 1 where
  pub Kept : Type 0
  -- whether a rule waits, by what it keeps and the amounts now
  pub wakeful : (ℕ → Bool) → Kept → Cells → Bool
  -- what it keeps when stepped, by the amounts before
  pub rest : Cells → Kept
  -- what it keeps when the amounts change from the first to the second, by its own step or another's
  pub moved : (ℕ → Bool) → Kept → Cells → Cells → Kept
  -- what is as good as equal
  pub alike : (ℕ → Bool) → Kept → Kept → Type 0
  pub alike_is : (a : ℕ → Bool) → Equivalence (alike a)
  pub wakeful-alike : (a : ℕ → Bool) (m p : Kept) (c d : Cells) → alike a m p → EqualOn k a c d
      → So (wakeful a m c) → So (wakeful a p d)
  pub rest-alike : (a : ℕ → Bool) (c d : Cells) → EqualOn k a c d → alike a (rest c) (rest d)
  pub rest_sleeps : (a : ℕ → Bool) (c : Cells) → So (wakeful a (rest c) c) → ⊥
  pub moved-alike : (a : ℕ → Bool) (m p : Kept) (c d c' d' : Cells) → alike a m p → EqualOn k a c c'
      → EqualOn k a d d'
      → alike a (moved a m c d) (moved a p c' d')
  pub moved-still : (a : ℕ → Bool) (m : Kept) (c d : Cells) → EqualOn k a d c → alike a (moved a m c d) m
  pub moved-swap : (a : ℕ → Bool) (m : Kept) (c p q e : Cells)
      → ((x : ℕ) → x < k → So (a x) → OneOf c p q e x)
      → alike a (moved a (moved a m c q) q e) (moved a (moved a m c p) p e)

-- ── edition 1: a waiting bit ──
-- the fields of a Memory that are not laws
pub record Keeping : Type 1 where
  pub Kept : Type 0
  pub wakeful : (ℕ → Bool) → Kept → Cells → Bool
  pub rest : Cells → Kept
  pub moved : (ℕ → Bool) → Kept → Cells → Cells → Kept
  pub alike : (ℕ → Bool) → Kept → Kept → Type 0

module _ (k : ℕ) where
  abbrev pub bit : Keeping
  bit =
      record {
        Kept = Bool;
        wakeful = λ a m c. m;
        rest = λ c. false;
        moved = λ a m c d. m || changed k a c d;
        alike = λ a m p. m ≡ p;
      }
