-- `Leads` and `leads` agree: where every mask names rules below n only, r leads to s exactly when `leads rows n r s`.
use mathlib.Core.Path.{◌≡◌, ap, ap₂, ◌∙◌, subst}
use mathlib.Core.Logic.{◌⊎◌, inl, inr, ⊎_elim, ◌↔◌}
use mathlib.Core.Bool.{Bool, true, ◌&&◌, ◌||◌, or-true}
use mathlib.Core.List.{List}
use Prim.Native.Nat.{ℕ, zero, suc, ◌<◌}
use native.Mathlib.Nat.{le_trans, le-suc, le_refl, eq-or-lt_of_le, le_of_suc-le-suc, not-suc-le-zero}
use Rattle.mask.proofs.SearchLaws.{or_true_cases, and_true_both}
use Rattle.mask.proofs.BitsLaws.{has-lt}
use Rattle.graph.specs.GraphInner.{Edge, Rows}
use Rattle.graph.specs.Graph.{Leads, directly, through, leads}

-- r leads to s, and the rules in between are below k
pub data Via (rows : List ℕ) (k : ℕ) : ℕ → ℕ → Type 0 where
  one : {r s : ℕ} → Edge rows r s → Via rows k r s
  more : {r t s : ℕ} → Edge rows r t → t < k → Via rows k t s → Via rows k r s

via_suc : {rows : List ℕ} {k r s : ℕ} → Via rows k r s → Via rows (suc k) r s
via_suc (one e) = one e
via_suc {k = k} (more e l v) = more e (le_trans l (le-suc k)) (via_suc v)

pub via_join : {rows : List ℕ} {k r t s : ℕ} → t < k → Via rows k r t → Via rows k t s → Via rows k r s
via_join l (one e) w = more e l w
via_join l (more e h v) w = more e h (via_join l v w)

via_split : {rows : List ℕ} {k r s : ℕ} → Via rows (suc k) r s → Via rows k r s ⊎ (Via rows k r k × Via rows k k s)
via_split (one e) = inl (one e)
via_split {rows} {k} {r} {s} (more {t = t} e l v) = go (eq-or-lt_of_le (le_of_suc-le-suc l)) (via_split v)
  where
    go : (t ≡ k) ⊎ (t < k) → Via rows k t s ⊎ (Via rows k t k × Via rows k k s)
        → Via rows k r s ⊎ (Via rows k r k × Via rows k k s)
    go (inl q) (inl w) = inr (one (subst (λ (x : ℕ). Edge rows r x) q e), subst (λ (x : ℕ). Via rows k x s) q w)
    go (inl q) (inr w) = inr (one (subst (λ (x : ℕ). Edge rows r x) q e), w.1)
    go (inr h) (inl w) = inl (more e h w)
    go (inr h) (inr w) = inr (more e h w.0, w.1)

pub leads_via : (rows : List ℕ) (k r s : ℕ) → leads rows k r s ≡ true → Via rows k r s
unfolding leads
leads_via rows zero r s e = one e
leads_via rows (suc k) r s e =
    ⊎_elim (λ h. via_suc (leads_via rows k r s h))
    (λ h.
    let w : (leads rows k r k ≡ true) × (leads rows k k s ≡ true) = and_true_both (leads rows k r k) (leads rows k k s) h in
    via_join (le_refl (suc k)) (via_suc (leads_via rows k r k w.0)) (via_suc (leads_via rows k k s w.1)))
    (or_true_cases (leads rows k r s) (leads rows k r k && leads rows k k s) e)

pub via_leads : (rows : List ℕ) (k r s : ℕ) → Via rows k r s → leads rows k r s ≡ true
unfolding leads
via_leads rows zero r s (one e) = e
via_leads rows zero r s (more e l v) = absurd (not-suc-le-zero l)
via_leads rows (suc k) r s v =
    ⊎_elim (λ h. ap (λ (b : Bool). b || (leads rows k r k && leads rows k k s)) (via_leads rows k r s h))
    (λ h.
    ap₂ (λ (a b : Bool). leads rows k r s || (a && b)) (via_leads rows k r k h.0) (via_leads rows k k s h.1)
    ∙ or-true (leads rows k r s))
    (via_split v)

-- ---- with no bound on the rules in between

via_path : {rows : List ℕ} {k r s : ℕ} → Via rows k r s → Leads rows r s
via_path (one e) = directly e
via_path (more e l v) = through e (via_path v)

path_via : {rows : List ℕ} {r s : ℕ} (n : ℕ) → Rows n rows → Leads rows r s → Via rows n r s
path_via n h (directly e) = one e
path_via n h (through {r = r} {t = t} e v) = more e (has-lt n t (h r) e) (path_via n h v)

pub leads-iff : (n : ℕ) (rows : List ℕ) → Rows n rows → (r s : ℕ) → (leads rows n r s ≡ true) ↔ Leads rows r s
leads-iff n rows h r s = (λ e. via_path (leads_via rows n r s e), λ v. via_leads rows n r s (path_via n h v))

pub leads-join : {rows : List ℕ} {r t s : ℕ} → Leads rows r t → Leads rows t s → Leads rows r s
leads-join (directly e) w = through e w
leads-join (through e v) w = through e (leads-join v w)

-- what r leads to is below n
pub leads-below : {rows : List ℕ} {r s : ℕ} (n : ℕ) → Rows n rows → Leads rows r s → s < n
leads-below n h (directly {r = r} {s = s} e) = has-lt n s (h r) e
leads-below n h (through e v) = leads-below n h v
