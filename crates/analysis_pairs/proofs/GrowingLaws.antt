-- The two growing sets as masks. Nothing gets in that does not belong there; and where a round changes nothing, all is
-- in.
use mathlib.Core.Path.{◌≡◌, refl, sym, ap, ap₂, ◌∙◌, subst}
use mathlib.Core.Logic.{⊎_elim}
use mathlib.Core.Bool.{Bool, true, false, not, ◌&&◌, ◌||◌, or-true}
use mathlib.Core.List.{List}
use Prim.Native.Nat.{ℕ, ◌<◌, ◌≤◌, ◌^◌}
use lib.Dec.{eqb}
use lib.ListN.{get_or}
use borrow.Author.Tests.{eqb-true, eq-eqb}
use Rattle.mask.specs.Search.{some}
use Rattle.mask.proofs.SearchLaws.{Found, some_intro, some-elim, or_true_cases, and_true_both}
use Rattle.mask.specs.Mask.{has, meet}
use Rattle.mask.proofs.BitsLaws.{has-lt}
use Rattle.mask.proofs.MaskLaws.{subset_le}
use Rattle.graph.specs.GraphInner.{Edge}
use Rattle.analysis_pairs.specs.Rules.{first, second, grow}
use Rattle.analysis_pairs.specs.AnalysisPairsInner.{grows, RowsGrown, Grew}

-- ---- nothing else gets in

abbrev OnlyGrown : List ℕ → List ℕ → ℕ → ℕ → Bool → ℕ → Type 0
OnlyGrown trig before i j side a = (s : ℕ) → has a s ≡ true → RowsGrown trig before i j side s

only_step : (trig before : List ℕ) (i j : ℕ) (side : Bool) (a b c : ℕ)
    → OnlyGrown trig before i j side a → OnlyGrown trig before i j (not side) b
    → ((s : ℕ) → has c s ≡ grows trig before a b s) → OnlyGrown trig before i j side c
unfolding grows meet
only_step trig before i j side a b c ha hb hc s e =
    ⊎_elim (ha s)
    (λ h.
    let w : (some 32 (λ x. has a x && has (get_or trig x 0) s) ≡ true) × (meet (get_or before s 0) b ≡ true) =
    and_true_both _ _ h in
    let x : Found 32 (λ x. has a x && has (get_or trig x 0) s) = some-elim 32 _ w.0 in
    let y : Found 32 (λ t. has (get_or before s 0) t && has b t) = some-elim 32 _ w.1 in
    let p : (has a x.at ≡ true) × (has (get_or trig x.at 0) s ≡ true) = and_true_both _ _ x.is in
    let q : (has (get_or before s 0) y.at ≡ true) × (has b y.at ≡ true) = and_true_both _ _ y.is in
    grow (ha x.at p.0) p.1 q.0 (hb y.at q.1))
    (or_true_cases _ _ (sym (hc s) ∙ e))

-- ---- where nothing changes any more, all is in

abbrev on : Bool → ℕ → ℕ → ℕ
on true a b = a
on false a b = b

module _ (trig before : List ℕ) (i j a b : ℕ) (fa : a < 2 ^ 32) (fb : b < 2 ^ 32) (hi : has a i ≡ true)
    (hj : has b j ≡ true) (ga : (s : ℕ) → has a s ≡ grows trig before a b s)
    (gb : (s : ℕ) → has b s ≡ grows trig before b a s) where
  grows_in : (x y r s t : ℕ) → x < 2 ^ 32 → y < 2 ^ 32 → has x r ≡ true → Edge trig r s → Edge before s t → has y t ≡ true
      → grows trig before x y s ≡ true
  unfolding grows meet
  grows_in x y r s t fx fy hr e f ht =
      ap₂ (λ (u v : Bool). has x s || (u && v))
      (some_intro 32 (λ z. has x z && has (get_or trig z 0) s) r (has-lt 32 r fx hr) (ap₂ ◌&&◌ hr e))
      (some_intro 32 (λ z. has (get_or before s 0) z && has y z) t (has-lt 32 t fy ht) (ap₂ ◌&&◌ f ht))
      ∙ or-true (has x s)

  complete : (side : Bool) (s : ℕ) → RowsGrown trig before i j side s → has (on side a b) s ≡ true
  complete side s first = hi
  complete side s second = hj
  complete side s (grow {side = d} {r = r} {t = t} g e f h) = last d (complete d r g) (complete (not d) t h)
    where
      last : (d : Bool) → has (on d a b) r ≡ true → has (on (not d) a b) t ≡ true → has (on d a b) s ≡ true
      last true u v = ga s ∙ grows_in a b r s t fa fb u e f v
      last false u v = gb s ∙ grows_in b a r s t fb fa u e f v

-- ---- what growing keeps

pub record Growing (trig before : List ℕ) (i j a b : ℕ) : Type 0 where
  pub fa : a < 2 ^ 32
  pub fb : b < 2 ^ 32
  pub hi : has a i ≡ true
  pub hj : has b j ≡ true
  pub sa : OnlyGrown trig before i j true a
  pub sb : OnlyGrown trig before i j false b

pub growing_start : (trig before : List ℕ) (i j a b : ℕ) → a < 2 ^ 32 → b < 2 ^ 32
    → ((k : ℕ) → has a k ≡ eqb k i) → ((k : ℕ) → has b k ≡ eqb k j) → Growing trig before i j a b
growing_start trig before i j a b fa fb ha hb =
    record {
      fa = fa;
      fb = fb;
      hi = ha i ∙ eq-eqb i i refl;
      hj = hb j ∙ eq-eqb j j refl;
      sa = λ s e. subst (RowsGrown trig before i j true) (sym (eqb-true s i (sym (ha s) ∙ e))) first;
      sb = λ s e. subst (RowsGrown trig before i j false) (sym (eqb-true s j (sym (hb s) ∙ e))) second;
    }

grows-keeps : (trig before : List ℕ) (a b s : ℕ) → has a s ≡ true → grows trig before a b s ≡ true
unfolding grows
grows-keeps trig before a b s e =
    ap (λ (x : Bool). x || (some 32 (λ x. has a x && has (get_or trig x 0) s) && meet (get_or before s 0) b)) e

module _ {trig before : List ℕ} {i j a b : ℕ} (g : Growing trig before i j a b) (c d : ℕ)
    (hc : (s : ℕ) → has c s ≡ grows trig before a b s) (hd : (s : ℕ) → has d s ≡ grows trig before b a s) where
  pub growing_turn : c < 2 ^ 32 → d < 2 ^ 32 → Growing trig before i j c d
  growing_turn fc fd =
      record {
        fa = fc;
        fb = fd;
        hi = hc i ∙ grows-keeps trig before a b i g.hi;
        hj = hd j ∙ grows-keeps trig before b a j g.hj;
        sa = only_step trig before i j true a b c g.sa g.sb hc;
        sb = only_step trig before i j false b a d g.sb g.sa hd;
      }

  pub growing_more : ((s : ℕ) → has a s ≡ true → has c s ≡ true) × ((s : ℕ) → has b s ≡ true → has d s ≡ true)
  growing_more = (λ s e. hc s ∙ grows-keeps trig before a b s e, λ s e. hd s ∙ grows-keeps trig before b a s e)

  pub growing_le : c < 2 ^ 32 → d < 2 ^ 32 → (a ≤ c) × (b ≤ d)
  growing_le fc fd = (subset_le a c g.fa fc growing_more.0, subset_le b d g.fb fd growing_more.1)

  pub growing_end : c ≡ a → d ≡ b → Grew trig before i j a b
  growing_end p q =
      let ga : (s : ℕ) → has a s ≡ grows trig before a b s = λ s. ap (λ (x : ℕ). has x s) (sym p) ∙ hc s in
      let gb : (s : ℕ) → has b s ≡ grows trig before b a s = λ s. ap (λ (x : ℕ). has x s) (sym q) ∙ hd s in
      record {
        first = λ s. (g.sa s, complete trig before i j a b g.fa g.fb g.hi g.hj ga gb true s);
        second = λ s. (g.sb s, complete trig before i j a b g.fa g.fb g.hi g.hj ga gb false s);
      }
