-- Tests taken out of a choice and out of a search.
use mathlib.Core.Path.{◌≡◌, refl, sym, ap, ◌∙◌}
use mathlib.Core.Bool.{Bool, true, false, ◌&&◌, ◌||◌, false≢true}
use Prim.Native.Nat.{ℕ, ◌≤◌}
use lib.ListN.{get_or}
use Rattle.mask.specs.Search.{some}
use Rattle.mask.proofs.SearchLaws.{same_test, Found, some-elim}
use Rattle.rule.specs.Fill.{filled}
use Rattle.rule.proofs.FillLaws.{some-filled}

-- a test of both parts of a choice, taken out
pub out_both : (l a b c d : Bool) → ((a && (l && b)) || (c && (l && d))) ≡ (l && ((a && b) || (c && d)))
out_both true a b c d = refl
out_both false true b true d = refl
out_both false true b false d = refl
out_both false false b true d = refl
out_both false false b false d = refl

-- and out of a search
pub out_some : (l : Bool) (n : ℕ) (f : ℕ → Bool) → some n (λ j. l && f j) ≡ (l && some n f)
out_some true n f = refl
out_some false n f = same_test (some n (λ j. false)) false (λ e. let w : Found n (λ j. false) = some-elim n (λ j. false) e in w.is) (λ e. absurd (false≢true e))

-- the same of a search through filled slots
pub out-filled : {A : Type 0} (l : Bool) (n : ℕ) (d : A) (f : ℕ → A) (t : ℕ) (g : A → Bool) → n ≤ t
    → some n (λ j. l && g (f j)) ≡ (l && some n (λ j. g (get_or (filled 8 d f t) j d)))
out-filled l n d f t g few =
    out_some l n (λ j. g (f j)) ∙ ap (λ (b : Bool). l && b) (sym (some-filled 8 d f t n g few))
