-- The priorities of a sound table are a strict order, and `goes_before` is the paper's "directly or through others".
use mathlib.Core.Path.{◌≡◌, sym, ◌∙◌, subst}
use mathlib.Core.Logic.{◌↔◌, ⊎_elim}
use mathlib.Core.Bool.{true, false, ◌||◌, false≢true}
use Prim.Native.Nat.{ℕ, ◌^◌, ◌≤◌, ◌<◌}
use lib.ListN.{get_or, get_or-eq_default}
use lib.Pow.{pow_pos}
use Rattle.mask.specs.Search.{some}
use Rattle.mask.proofs.SearchLaws.{some_false, or_false_both, lt-or_ge}
use Rattle.mask.specs.Mask.{beyond}
use Rattle.mask.proofs.MaskLaws.{not_beyond}
use Rattle.graph.specs.Graph.{cyclic}
use Rattle.graph.specs.GraphInner.{Rows}
use Rattle.graph.proofs.GraphLaws.{leads_via, via_leads, via_join, leads-iff}
use Rattle.rule.proofs.FillLaws.{get_or-filled, get_or-left, length-filled}
use Rattle.rule.specs.Numbers.{test_cell_bad, assign_cell_bad, cells_bad}
use Rattle.rule.specs.Uses.{test_at, assign_at}
use Rattle.table.specs.Table.{Table, rule_at, precedes_of, GoesBefore, goes_before}
use Rattle.table.specs.Check.{Sound}
use Rattle.table.proofs.SoundLaws.{parts}

module _ (t : Table) where
  -- no rule goes before itself
  pub irreflexive : Sound t → (r : ℕ) → r < t.n → goes_before t r r ≡ true → ⊥
  unfolding cyclic goes_before
  irreflexive s r l e = false≢true (sym (some_false t.n (λ x. goes_before t x x) (parts t s).acyclic r l) ∙ e)

  pub transitive : (r s u : ℕ) → s < t.n → goes_before t r s ≡ true → goes_before t s u ≡ true → goes_before t r u ≡ true
  unfolding goes_before
  transitive r s u l a b =
      via_leads (precedes_of t) t.n r u
      (via_join l (leads_via (precedes_of t) t.n r s a) (leads_via (precedes_of t) t.n s u b))

  -- every precedes mask of a sound table names rules below n only
  pub precedes-rows : Sound t → ((i : ℕ) → i < t.n → (rule_at t i).precedes < 2 ^ 32) → Rows t.n (precedes_of t)
  unfolding cells_bad
  precedes-rows s h r = ⊎_elim mine (λ l. ⊎_elim (left l) (past l) (lt-or_ge r 32)) (lt-or_ge r t.n)
    where
      few : t.n ≤ 32
      few = (parts t s).sizes.rules

      mask : ℕ → ℕ
      mask i = (rule_at t i).precedes

      clean : (i : ℕ) → i < t.n → beyond (mask i) t.n ≡ false
      clean i l =
          let r = rule_at t i in
          let a = beyond r.watch t.k in
          let b = beyond r.precedes t.n in
          let c = some r.t (λ j. test_cell_bad t.k (test_at r j)) in
          let d = some r.a (λ j. assign_cell_bad t.k (assign_at r j)) in
          (or_false_both a b (or_false_both (a || b) c (or_false_both (a || b || c) d ((parts t s).rules i l).cells).0).0).1

      mine : r < t.n → get_or (precedes_of t) r 0 < 2 ^ t.n
      mine l =
          subst (λ (x : ℕ). x < 2 ^ t.n) (sym (get_or-filled 32 0 mask t.n 0 r l))
          (not_beyond (mask r) t.n (h r l) (clean r l))

      left : t.n ≤ r → r < 32 → get_or (precedes_of t) r 0 < 2 ^ t.n
      left l m = subst (λ (x : ℕ). x < 2 ^ t.n) (sym (get_or-left 32 0 mask t.n 0 r l m)) (pow_pos t.n)

      past : t.n ≤ r → 32 ≤ r → get_or (precedes_of t) r 0 < 2 ^ t.n
      past l m =
          subst (λ (x : ℕ). x < 2 ^ t.n)
          (sym (get_or-eq_default (precedes_of t) 0 {n = r} (subst (λ (x : ℕ). x ≤ r) (sym (length-filled 32 0 mask t.n few)) m)))
          (pow_pos t.n)

  pub before-iff : Sound t → ((i : ℕ) → i < t.n → (rule_at t i).precedes < 2 ^ 32) → (r s : ℕ)
      → (goes_before t r s ≡ true) ↔ GoesBefore t r s
  unfolding goes_before
  before-iff s h = leads-iff t.n (precedes_of t) (precedes-rows s h)
