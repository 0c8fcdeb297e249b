-- The rows that the code works on describe the same rules as the four masks do.
use mathlib.Core.Path.{◌≡◌, refl, sym, ap, ◌∙◌}
use mathlib.Core.Bool.{Bool, true, false, not, false≢true}
use mathlib.Core.List.{List}
use Prim.Native.Nat.{ℕ, ◌≤◌}
use native.Mathlib.Nat.{le_trans, lt_irrefl}
use lib.ListN.{get_or}
use Rattle.mask.specs.Mask.{has}
use Rattle.mask.proofs.BitsLaws.{below, has-zero}
use Rattle.graph.specs.Graph.{Leads, directly, through, leads}
use Rattle.graph.specs.GraphInner.{Rows}
use Rattle.graph.proofs.GraphLaws.{leads-iff, leads-below}
use Rattle.analysis_pairs.specs.declared.Masks.{Masks}
use Rattle.analysis_pairs.specs.RuleMasks.{may_trigger, commute, rules_of, masks_by, triggers}
use Rattle.analysis_pairs.specs.AnalysisPairsInner.{clashes, edge, row_rules, Among, turned_of, Mutual}
use Rattle.analysis_pairs.proofs.RowsLaws.{turned-within, rows-has, rows-lt}
use Rattle.analysis_pairs.proofs.RuleMasksLaws.{quiet, deaf, absent-commutes, commute-sym}
use Rattle.analysis_pairs.proofs.RulesLaws.{Alike}
use Rattle.analysis_masks.specs.AnalysisMasksInner.{Orderly}

-- mask r: the rules that r goes before
unfoldable pub befores : Masks → List ℕ
befores m = masks_by (leads m.precedes m.n)

within_has : (n : ℕ) (f : ℕ → ℕ → Bool) → n ≤ 32 → Among n f → (r s : ℕ) → edge (masks_by f) r s ≡ f r s
within_has n f few w = rows-has f (λ r s l. w.from r s (le_trans few l)) (λ r s l. w.to r s (le_trans few l))

-- a row that has such a relation
same-within : {n : ℕ} {f g : ℕ → ℕ → Bool} → Among n f → ((r s : ℕ) → g r s ≡ f r s) → Among n g
same-within w h = record { from = λ r s l. h r s ∙ w.from r s l; to = λ r s l. h r s ∙ w.to r s l }

-- and the row turned round
turned-has : (n : ℕ) (f : ℕ → ℕ → Bool) (rows : List ℕ) → n ≤ 32 → Among n f → ((r s : ℕ) → edge rows r s ≡ f r s)
    → (r s : ℕ) → edge (turned_of rows) r s ≡ f s r
unfolding turned_of
turned-has n f rows few w h r s =
    within_has n (λ r s. edge rows s r) few (turned-within (same-within w h)) r s ∙ h s r

module _ (m : Masks) (o : Orderly m) where
  -- ---- the three relations know no rule from n up

  pub may-within : Among m.n (may_trigger m)
  may-within = record { from = λ r s l. quiet m r s (o.writes r l); to = λ r s l. deaf m r s (o.watch s l) }

  absent : (r s : ℕ) → m.n ≤ s → commute m r s ≡ true
  absent r s l = absent-commutes m r s (o.watch s l) (o.reads s l) (o.writes s l)

  pub clash-within : Among m.n (λ r s. not (commute m r s))
  clash-within =
      record { from = λ r s l. ap not (commute-sym m r s ∙ absent s r l); to = λ r s l. ap not (absent r s l) }

  pub before-within : Among m.n (leads m.precedes m.n)
  before-within =
      record {
        from = λ r s l. goes r s (leads m.precedes m.n r s) refl (nowhere l);
        to = λ r s l.
            goes r s (leads m.precedes m.n r s) refl
            (λ w. lt_irrefl s (le_trans (leads-below m.n o.named w) l));
      }
    where
      goes : (r s : ℕ) (b : Bool) → leads m.precedes m.n r s ≡ b → (Leads m.precedes r s → ⊥) → b ≡ false
      goes r s true e never = absurd (never ((leads-iff m.n m.precedes o.named r s).0 e))
      goes r s false e never = refl

      none : (r t : ℕ) → m.n ≤ r → edge m.precedes r t ≡ true → ⊥
      none r t l e = false≢true (sym (ap (λ (x : ℕ). has x t) (o.precedes r l) ∙ has-zero t) ∙ e)

      nowhere : {r s : ℕ} → m.n ≤ r → Leads m.precedes r s → ⊥
      nowhere {r} {s} l (directly e) = none r s l e
      nowhere {r} l (through {t = t} e w) = none r t l e

  -- a row of who goes before whom
  pub row_within : (before : List ℕ) → ((r s : ℕ) → edge before r s ≡ leads m.precedes m.n r s)
      → Among m.n (edge before)
  row_within before h = same-within before-within h

  -- ---- so the rows have them whole

  pub triggers-has : (r s : ℕ) → edge (triggers m) r s ≡ may_trigger m r s
  unfolding triggers
  triggers-has = within_has m.n (may_trigger m) o.few may-within

  clashes-has : (r s : ℕ) → edge (clashes m) r s ≡ not (commute m r s)
  unfolding clashes
  clashes-has = within_has m.n (λ r s. not (commute m r s)) o.few clash-within

  pub clashes_mutual : Mutual (clashes m)
  clashes_mutual =
      record { same = λ r s. clashes-has r s ∙ ap not (commute-sym m r s) ∙ sym (clashes-has s r) }

  -- no mask of the trigger graph names a rule from n up
  pub triggers-rows : Rows m.n (triggers m)
  unfolding triggers
  triggers-rows r =
      below 32 m.n (get_or (triggers m) r 0) (rows-lt (may_trigger m) r) (λ s l. triggers-has r s ∙ may-within.to r s l)

  twice : (b : Bool) → not (not b) ≡ b
  twice true = refl
  twice false = refl

  -- the rows that the code makes
  pub alike-by : (trig before clash : List ℕ) → trig ≡ triggers m
      → ((r s : ℕ) → edge before r s ≡ leads m.precedes m.n r s) → clash ≡ clashes m
      → Alike (row_rules trig before clash) (rules_of m)
  alike-by trig before clash e h f =
      rw (e, f)
      (record {
        may = triggers-has;
        there = λ r s e. (leads-iff m.n m.precedes o.named r s).0 (sym (h r s) ∙ e);
        back = λ r s w. h r s ∙ (leads-iff m.n m.precedes o.named r s).1 w;
        commute = λ r s. ap not (clashes-has r s) ∙ twice (commute m r s);
      })

  -- the same, where the priorities are turned round
  pub alike_turned : (trig before clash : List ℕ) → trig ≡ triggers m
      → ((r s : ℕ) → edge before r s ≡ leads m.precedes m.n r s) → clash ≡ clashes m
      → Alike (row_rules trig (turned_of (turned_of before)) clash) (rules_of m)
  alike_turned trig before clash e h f =
      alike-by trig (turned_of (turned_of before)) clash e
      (turned-has m.n (λ r s. leads m.precedes m.n s r) (turned_of before) o.few (turned-within before-within)
      (turned-has m.n (leads m.precedes m.n) before o.few before-within h))
      f

  -- the rows that are defined
  pub alike-rows : Alike (row_rules (triggers m) (befores m) (clashes m)) (rules_of m)
  unfolding befores
  alike-rows =
      alike-by (triggers m) (befores m) (clashes m) refl
      (within_has m.n (leads m.precedes m.n) o.few before-within) refl
