-- A graph has no cycle exactly where every way in it ends.
use mathlib.Core.Path.{◌≡◌, refl, sym, subst}
use mathlib.Core.Bool.{false}
use mathlib.Core.List.{List}
use Prim.Native.Nat.{ℕ, zero, suc, ◌<◌}
use native.Mathlib.Nat.{le_refl, le_trans, not-suc-le-zero, le_of_suc-le-suc}
use Rattle.mask.specs.Search.{count}
use Rattle.mask.proofs.SearchLaws.{count-lt}
use Rattle.mask.proofs.BitsLaws.{has-lt}
use Rattle.graph.specs.GraphInner.{Edge, Rows, Halts, halts}
use Rattle.graph.specs.Graph.{Leads, directly, through, leads}
use Rattle.graph.proofs.GraphLaws.{leads-iff, leads-join}

module _ (rows : List ℕ) (n : ℕ) (h : Rows n rows) where
  -- each step leaves fewer rules to lead to
  pub acyclic-halts : ((r : ℕ) → leads rows n r r ≡ false) → (r : ℕ) → Halts rows r
  acyclic-halts no-cycle r = go (suc (count n (leads rows n r))) r (le_refl (suc (count n (leads rows n r))))
    where
      go : (fuel r : ℕ) → count n (leads rows n r) < fuel → Halts rows r
      go zero r l = absurd (not-suc-le-zero l)
      go (suc fuel) r l =
          halts (λ s e.
          go fuel s (le_trans
          (count-lt n (leads rows n s) (leads rows n r) s (has-lt n s (h r) e) (no-cycle s) ((leads-iff n rows h r s).1 (directly e))
          (λ x w. (leads-iff n rows h r x).1 (through e ((leads-iff n rows h s x).0 w))))
          (le_of_suc-le-suc l)))

  round : {r s : ℕ} → Halts rows r → Leads rows r s → s ≡ r → ⊥
  round (halts f) (directly {s = s} e) z = round (f s e) (directly (subst (λ (x : ℕ). Edge rows x s) (sym z) e)) refl
  round (halts {r = r} f) (through {t = t} {s = s} e v) z =
      round (f t e) (leads-join (subst (λ (x : ℕ). Leads rows t x) z v) (directly e)) refl

  pub halts-acyclic : {r : ℕ} → Halts rows r → Leads rows r r → ⊥
  halts-acyclic f v = round f v refl
