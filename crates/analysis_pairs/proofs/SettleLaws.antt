-- The two growing sets, computed: rounds until nothing changes. They are R1 and R2, since 65 rounds are always enough:
-- each but the last adds a rule, and there are two times 32.
use mathlib.Core.Path.{◌≡◌, refl, sym, ap, ap₂, ◌∙◌}
use mathlib.Core.Logic.{◌⊎◌, inl, inr, ⊎_elim}
use mathlib.Core.Bool.{Bool, true, false, not, cond, ◌&&◌, ◌||◌, and-false, false≢true}
use mathlib.Core.List.{List}
use Prim.Native.Nat.{ℕ, zero, suc, ◌+◌, ◌<◌, ◌≤◌, ◌^◌}
use native.Mathlib.Omega.{arith}
use lib.Dec.{eqb}
use lib.ListN.{get_or}
use lib.Pow.{pow-lt}
use borrow.Author.Tests.{eqb-true, eq-eqb, not-true}
use Rattle.mask.specs.Search.{some, count}
use Rattle.mask.proofs.SearchLaws.{Found, some-elim, some-none, some_false, and_true_both, count-lt, count-le, count-max}
use Rattle.mask.specs.Mask.{has, meet, mask_of}
use Rattle.mask.proofs.BitsLaws.{has-high, has_bit, has-lt}
use Rattle.mask.proofs.MaskLaws.{ext_iff}
use Rattle.mask.proofs.LoopsLaws.{picked_every, mask_of_picked, mask_of-lt}
use Rattle.graph.specs.GraphInner.{Rows}
use Rattle.analysis_pairs.specs.AnalysisPairsInner.{grows, Grew}
use Rattle.analysis_pairs.proofs.GrowingLaws.{Growing, growing_start, growing_turn, growing_more, growing_end}

-- at most k rounds
unfoldable pub settle : List ℕ → List ℕ → ℕ → ℕ → ℕ → ℕ × ℕ
settle trig before zero a b = (a, b)
settle trig before (suc k) a b =
    let c = mask_of 32 (grows trig before a b) in
    let d = mask_of 32 (grows trig before b a) in
    let next = settle trig before k c d in
    cond (eqb c a && eqb d b) (a, b) next

-- a set that holds another is that one, or has more members
more : (a c : ℕ) → a < 2 ^ 32 → c < 2 ^ 32 → ((s : ℕ) → has a s ≡ true → has c s ≡ true)
    → (c ≡ a) ⊎ (count 32 (has a) < count 32 (has c))
more a c fa fc h = pick (some 32 (λ s. has c s && not (has a s))) refl
  where
    pick : (t : Bool) → some 32 (λ s. has c s && not (has a s)) ≡ t → (c ≡ a) ⊎ (count 32 (has a) < count 32 (has c))
    pick true e =
        let w : Found 32 (λ s. has c s && not (has a s)) = some-elim 32 (λ s. has c s && not (has a s)) e in
        let p : (has c w.at ≡ true) × (not (has a w.at) ≡ true) =
        and_true_both (has c w.at) (not (has a w.at)) w.is in
        inr (count-lt 32 (has a) (has c) w.at w.lt (not-true (has a w.at) p.1) p.0 h)
    pick false e = inl (ext_iff c a fc fa (λ s m. held s m (has a s) refl) h)
      where
        held : (s : ℕ) → has c s ≡ true → (t : Bool) → has a s ≡ t → has a s ≡ true
        held s m true q = q
        held s m false q =
            absurd (false≢true (sym (some_false 32 (λ s. has c s && not (has a s)) e s (has-lt 32 s fc m))
            ∙ ap₂ (λ (x y : Bool). x && not y) m q))

module _ (trig before : List ℕ) (i j : ℕ) (rows : Rows 32 trig) where
  high : (a b : ℕ) → a < 2 ^ 32 → (s : ℕ) → 32 ≤ s → grows trig before a b s ≡ false
  unfolding grows
  high a b fa s l =
      ap₂ (λ (x y : Bool). x || (y && meet (get_or before s 0) b)) (has-high 32 s fa l)
      (some-none 32 (λ x. has a x && has (get_or trig x 0) s)
      (λ x m. ap (λ (y : Bool). has a x && y) (has-high 32 s (rows x) l) ∙ and-false (has a x)))

  round : (a b : ℕ) → a < 2 ^ 32 → (s : ℕ) → has (mask_of 32 (grows trig before a b)) s ≡ grows trig before a b s
  round a b fa =
      picked_every (grows trig before a b) 32 (mask_of 32 (grows trig before a b))
      (mask_of_picked 32 (grows trig before a b)) (high a b fa)

  pub record Settled (p : ℕ × ℕ) : Type 0 where
    pub grew : Grew trig before i j p.0 p.1
    pub fa : p.0 < 2 ^ 32
    pub fb : p.1 < 2 ^ 32

  settle-done : (k a b : ℕ) → Growing trig before i j a b → 64 < k + (count 32 (has a) + count 32 (has b))
      → Settled (settle trig before k a b)
  unfolding settle
  settle-done zero a b g l =
      let f : ⊥ = omega (arith, count-max 32 (has a), count-max 32 (has b)) in absurd f
  settle-done (suc k) a b g l = pick (eqb c a && eqb d b) refl (settle-done k c d (growing_turn g c d hc hd fc fd))
    where
      c : ℕ
      c = mask_of 32 (grows trig before a b)

      d : ℕ
      d = mask_of 32 (grows trig before b a)

      hc : (s : ℕ) → has c s ≡ grows trig before a b s
      hc = round a b g.fa

      hd : (s : ℕ) → has d s ≡ grows trig before b a s
      hd = round b a g.fb

      fc : c < 2 ^ 32
      fc = mask_of-lt 32 (grows trig before a b)

      fd : d < 2 ^ 32
      fd = mask_of-lt 32 (grows trig before b a)

      fewer : (eqb c a && eqb d b) ≡ false → count 32 (has a) + count 32 (has b) < count 32 (has c) + count 32 (has d)
      fewer e =
          let up : count 32 (has a) ≤ count 32 (has c) = count-le 32 (has a) (has c) (growing_more g c d hc hd).0 in
          let up' : count 32 (has b) ≤ count 32 (has d) = count-le 32 (has b) (has d) (growing_more g c d hc hd).1 in
          ⊎_elim
          (λ p.
          ⊎_elim
          (λ q. absurd (false≢true (sym e ∙ ap₂ ◌&&◌ (eq-eqb c a p) (eq-eqb d b q))))
          (λ q. omega arith)
          (more b d g.fb fd (growing_more g c d hc hd).1))
          (λ p. omega arith)
          (more a c g.fa fc (growing_more g c d hc hd).0)

      pick : (t : Bool) → (eqb c a && eqb d b) ≡ t
          → (64 < k + (count 32 (has c) + count 32 (has d)) → Settled (settle trig before k c d))
          → Settled (cond t (a, b) (settle trig before k c d))
      pick true q next =
          let w : (eqb c a ≡ true) × (eqb d b ≡ true) = and_true_both (eqb c a) (eqb d b) q in
          record { grew = growing_end g c d hc hd (eqb-true c a w.0) (eqb-true d b w.1); fa = g.fa; fb = g.fb }
      pick false q next = next (omega (arith, fewer q))

  pub settled : i < 32 → j < 32 → Settled (settle trig before 65 (2 ^ i) (2 ^ j))
  settled li lj =
      settle-done 65 (2 ^ i) (2 ^ j)
      (growing_start trig before i j (2 ^ i) (2 ^ j) (pow-lt li) (pow-lt lj) (has_bit i) (has_bit j)) (omega arith)
