-- What is found out about a pair is determined; and it is the same for rules that are alike.
use mathlib.Core.Path.{◌≡◌, sym, ◌∙◌, subst}
use mathlib.Core.Bool.{Bool, not, false≢true}
use Prim.Native.Nat.{ℕ}
use native.Mathlib.Nat.{le_antisymm}
use Rattle.analysis_pairs.specs.Rules.{Rules, Grown, first, second, grow, Passes, Culprits}

-- ---- one answer

pub fails-not-passes : {b : Rules} {i j r s : ℕ} → Culprits b i j r s → Passes b i j → ⊥
fails-not-passes {r = r} {s = s} c p = false≢true (sym c.clash ∙ p r s c.one c.other)

pub culprits-unique : {b : Rules} {i j r s r' s' : ℕ} → Culprits b i j r s → Culprits b i j r' s' → (r ≡ r') × (s ≡ s')
culprits-unique {b} {i} {j} {r} {s} {r'} {s'} c d = (e, rest (subst (λ (x : ℕ). Culprits b i j x s') (sym e) d))
  where
    e : r ≡ r'
    e = le_antisymm (c.lowest r' s' d.one d.other d.clash) (d.lowest r s c.one c.other c.clash)

    rest : Culprits b i j r s' → s ≡ s'
    rest d = le_antisymm (c.lowest-other s' d.other d.clash) (d.lowest-other s c.other c.clash)

-- ---- rules that are alike

pub record Alike (a b : Rules) : Type 0 where
  pub may : (r s : ℕ) → a.may r s ≡ b.may r s
  pub there : (r s : ℕ) → a.before r s → b.before r s
  pub back : (r s : ℕ) → b.before r s → a.before r s
  pub commute : (r s : ℕ) → a.commute r s ≡ b.commute r s

pub turned : {a b : Rules} → Alike a b → Alike b a
turned h =
    record { may = λ r s. sym (h.may r s); there = h.back; back = h.there; commute = λ r s. sym (h.commute r s) }

pub grown-alike : {a b : Rules} {i j r : ℕ} {side : Bool} → Alike a b
    → Grown a.may a.before i j side r → Grown b.may b.before i j side r
grown-alike h first = first
grown-alike h second = second
grown-alike h (grow {r = r} {s = s} {t = t} g m q k) =
    grow (grown-alike h g) (sym (h.may r s) ∙ m) (h.there s t q) (grown-alike h k)

pub passes-alike : {a b : Rules} {i j : ℕ} → Alike a b → Passes a i j → Passes b i j
passes-alike h p r s x y = sym (h.commute r s) ∙ p r s (grown-alike (turned h) x) (grown-alike (turned h) y)

pub culprits-alike : {a b : Rules} {i j r s : ℕ} → Alike a b → Culprits a i j r s → Culprits b i j r s
culprits-alike {r = r} {s = s} h c =
    record {
      one = grown-alike h c.one;
      other = grown-alike h c.other;
      clash = sym (h.commute r s) ∙ c.clash;
      lowest = λ x y p q e. c.lowest x y (grown-alike (turned h) p) (grown-alike (turned h) q) (h.commute x y ∙ e);
      lowest-other = λ y q e. c.lowest-other y (grown-alike (turned h) q) (h.commute r y ∙ e);
    }

-- ---- the pair turned round

grown-turned : {may : ℕ → ℕ → Bool} {before : ℕ → ℕ → Type 0} {i j r : ℕ} {side : Bool}
    → Grown may before i j side r → Grown may before j i (not side) r
grown-turned first = second
grown-turned second = first
grown-turned (grow g m q k) = grow (grown-turned g) m q (grown-turned k)

pub passes-turned : {b : Rules} {i j : ℕ} → ((r s : ℕ) → b.commute r s ≡ b.commute s r) → Passes b i j → Passes b j i
passes-turned sw p r s x y = sw r s ∙ p s r (grown-turned y) (grown-turned x)
