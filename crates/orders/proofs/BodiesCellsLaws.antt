-- The cells under two rules that commute: neither writes what the other reads or writes, so the bodies can
-- act in either order, and each cell is changed by at most one of the two.
use Rattle.std.specs.Prelude.{◌≡◌, true, ℕ, ◌<◌}
use Rattle.std.proofs.Common.{sym, ◌∙◌, inl, inr}
use Rattle.std.proofs.Math.Logic.{Ne-symm}
use Rattle.std.proofs.Math.Bool.{So, Bool-discrete}
use Rattle.orders.specs.Cells.{Cells, EqualOn}
use Rattle.orders.specs.Kept.{OneOf}
use Rattle.orders.specs.Bodies.{Bodies, BodyFacts, Analysis}
use Rattle.orders.specs.BodiesCells.{Commuting}

-- a rule that r may not trigger watches no cell that r changes
pub quiet-on : (k : ℕ) (B : Bodies k) (F : BodyFacts k B) (N : Analysis k B) (r s : ℕ) (c : Cells)
    → r < B.n → s < B.n → (So (N.may_trigger r s) → ⊥) → EqualOn k (B.watches s) (B.body r c) c
quiet-on k B F N r s c lr ls t x lx i = F.unwritten r c x lr lx (λ w. t (N.triggers r s x lr ls lx w i))

module _ (k : ℕ) (B : Bodies k) (F : BodyFacts k B) (N : Analysis k B) where
  open B use {watches, reads, writes, body}
  open F use {unwritten, local}
  open N use {commute_symmetric, commute-quiet, commute-reads, commute-writes}

  pub commuting_flip : (r s : ℕ) → Commuting k B F N r s → Commuting k B F N s r
  commuting_flip r s h =
      record {
        r_below = h.s-below;
        s-below = h.r_below;
        differ = Ne-symm h.differ;
        commutes = commute_symmetric r s h.r_below h.s-below h.commutes;
      }

  -- s reads the same before and after r
  pub reads-free : (r s : ℕ) → Commuting k B F N r s → (c : Cells) → EqualOn k (reads s) (body r c) c
  reads-free r s h c x lx i =
      unwritten r c x h.r_below lx
      (λ w. commute-reads r s x h.r_below h.s-below lx h.differ h.commutes w i)

  -- r does not change the cells that s watches
  pub watches-free : (r s : ℕ) → Commuting k B F N r s → (c : Cells) → EqualOn k (watches s) (body r c) c
  watches-free r s h c =
      quiet-on k B F N r s c h.r_below h.s-below
      (commute-quiet r s h.r_below h.s-below h.differ h.commutes)

  -- at a cell that r does not write, s does the same before and after r
  past : (r s : ℕ) → Commuting k B F N r s → (c : Cells) (x : ℕ) → x < k → (So (writes r x) → ⊥)
      → body s (body r c) x ≡ body s c x
  past r s h c x lx nw =
      local s (body r c) c x h.s-below lx (reads-free r s h c) (unwritten r c x h.r_below lx nw)

  writes_apart : (r s : ℕ) → Commuting k B F N r s → (x : ℕ) → x < k → So (writes r x) → So (writes s x) → ⊥
  writes_apart r s h x lx = commute-writes r s x h.r_below h.s-below lx h.differ h.commutes

  pub cells-swap : (r s : ℕ) → Commuting k B F N r s → (c : Cells) (x : ℕ) → x < k
      → body r (body s c) x ≡ body s (body r c) x
  cells-swap r s h c x lx = go (Bool-discrete (writes r x) true)
    where
      go : Dec (So (writes r x)) → body r (body s c) x ≡ body s (body r c) x
      go (yes w) =
          let nw = writes_apart r s h x lx w in
          past s r (commuting_flip r s h) c x lx nw ∙ sym (unwritten s (body r c) x h.s-below lx nw)
      go (no nw) = unwritten r (body s c) x h.r_below lx nw ∙ sym (past r s h c x lx nw)

  -- each cell is changed by at most one of the two
  pub by_one : (r s : ℕ) → Commuting k B F N r s → (c : Cells) (x : ℕ) → x < k
      → OneOf c (body r c) (body s c) (body r (body s c)) x
  by_one r s h c x lx = go (Bool-discrete (writes r x) true)
    where
      go : Dec (So (writes r x)) → OneOf c (body r c) (body s c) (body r (body s c)) x
      go (yes w) =
          let nw = writes_apart r s h x lx w in
          inr (unwritten s c x h.s-below lx nw, past s r (commuting_flip r s h) c x lx nw)
      go (no nw) = inl (unwritten r c x h.r_below lx nw, unwritten r (body s c) x h.r_below lx nw)
