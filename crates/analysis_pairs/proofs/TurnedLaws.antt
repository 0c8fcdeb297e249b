-- A row of masks turned round: who is named by whom.
use mathlib.Core.Path.{◌≡◌, sym, ap, ◌∙◌}
use mathlib.Core.Logic.{⊎_elim}
use mathlib.Core.Bool.{Bool, ◌&&◌, and_comm}
use mathlib.Core.List.{List}
use Prim.Native.Nat.{ℕ, ◌<◌, ◌^◌}
use lib.ListN.{get_or}
use Rattle.mask.specs.Search.{some}
use Rattle.mask.proofs.SearchLaws.{some_same, lt-or_ge}
use Rattle.mask.specs.Mask.{has, meet}
use Rattle.mask.proofs.MaskLaws.{meet-zero}
use Rattle.mask.proofs.BitsLaws.{has-high}
use Rattle.analysis_pairs.specs.AnalysisPairsInner.{edge, turned_of, Mutual}
use Rattle.analysis_pairs.proofs.RowsLaws.{rows-within, rows-past}

pub turned-edge : (rows : List ℕ) (r s : ℕ) → r < 32 → s < 32 → edge (turned_of rows) s r ≡ edge rows r s
unfolding turned_of
turned-edge rows r s lr ls = rows-within (λ s r. edge rows r s) s r ls lr

-- ---- what the rows that b names have together is who, turned round, names one of b

met : (rows back : List ℕ) (b s : ℕ) → ((x : ℕ) → x < 32 → edge back x s ≡ edge rows s x)
    → some 32 (λ x. has b x && edge back x s) ≡ meet (get_or rows s 0) b
unfolding meet
met rows back b s h =
    some_same 32 (λ x. has b x && edge back x s) (λ x. edge rows s x && has b x)
    (λ x l. ap (λ (y : Bool). has b x && y) (h x l) ∙ and_comm (has b x) (edge rows s x))

pub mutual_met : {rows : List ℕ} → Mutual rows → (b s : ℕ) → some 32 (λ x. has b x && edge rows x s) ≡ meet (get_or rows s 0) b
mutual_met {rows} m b s = met rows rows b s (λ x l. m.same x s)

pub turned-met : (rows : List ℕ) (b g : ℕ) → g < 2 ^ 32 → ((s : ℕ) → has g s ≡ some 32 (λ x. has b x && edge rows x s))
    → (s : ℕ) → has g s ≡ meet (get_or (turned_of rows) s 0) b
unfolding turned_of
turned-met rows b g f h s =
    ⊎_elim
    (λ l. h s ∙ met (turned_of rows) rows b s (λ x k. sym (turned-edge rows x s k l)))
    (λ l. has-high 32 s f l ∙ sym (ap (λ (x : ℕ). meet x b) (rows-past (λ s r. edge rows r s) s l) ∙ meet-zero b))
    (lt-or_ge s 32)
