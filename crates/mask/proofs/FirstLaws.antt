-- Where the answer given is none of the rows', every test was false; what all answers have, the given one has.
use mathlib.Core.Path.{◌≡◌, refl, sym, ap, ◌∙◌}
use mathlib.Core.Bool.{Bool, true, false, not, ◌&&◌, cond, false≢true}
use mathlib.Core.List.{List, [], ◌∷◌}
use Prim.Native.Nat.{ℕ}
use lib.Dec.{eqb}
use Rattle.mask.proofs.SearchLaws.{and_true_both}
use Rattle.mask.specs.First.{first_of}

module _ {A : Type 0} where
  -- no test holds
  abbrev pub NoneHolds : List (Bool × A) → Type 0
  NoneHolds [] = Unit {0}
  NoneHolds (row ∷ rows) = (row.0 ≡ false) × NoneHolds rows

  -- an answer whose test holds does not have P
  abbrev pub Never : (A → Type 0) → List (Bool × A) → Type 0
  Never P [] = Unit {0}
  Never P (row ∷ rows) = (row.0 ≡ true → P row.1 → ⊥) × Never P rows

  -- a choice that has P, where the first answer does not
  pub skip : (P : A → Type 0) (b : Bool) (a rest : A) → (b ≡ true → P a → ⊥) → P (cond b a rest) → (b ≡ false) × P rest
  skip P true a rest never p = absurd (never refl p)
  skip P false a rest never p = (refl, p)

  pub first-passed : (P : A → Type 0) (none : A) (rows : List (Bool × A)) → Never P rows → P (first_of none rows) → NoneHolds rows
  first-passed P none [] never p = tt
  first-passed P none (row ∷ rows) never p =
      let s = skip P row.0 row.1 (first_of none rows) never.0 p in (s.0, first-passed P none rows never.1 s.1)

  -- what comes after a row matters only where its test does not hold
  pub later_rows : (b : Bool) (a x y : A) → (b ≡ false → x ≡ y) → cond b a x ≡ cond b a y
  later_rows true a x y e = refl
  later_rows false a x y e = e refl

  pub passed_first : (none : A) (rows : List (Bool × A)) → NoneHolds rows → first_of none rows ≡ none
  passed_first none [] h = refl
  passed_first none ((b, a) ∷ rows) h = rw h.0 (passed_first none rows h.1)

  -- every answer has P
  abbrev pub EachAnswer : (A → Type 0) → List (Bool × A) → Type 0
  EachAnswer P [] = Unit {0}
  EachAnswer P (row ∷ rows) = P row.1 × EachAnswer P rows

  pub first-each : (P : A → Type 0) (none : A) (rows : List (Bool × A)) → EachAnswer P rows → P none → P (first_of none rows)
  first-each P none [] h p = p
  first-each P none ((true, a) ∷ rows) h p = h.0
  first-each P none ((false, a) ∷ rows) h p = first-each P none rows h.1 p

-- ---- numbers, of which 0 says that none applies

abbrev pub none_zero : List (Bool × ℕ) → Bool
none_zero [] = true
none_zero (row ∷ rows) = not (eqb row.1 0) && none_zero rows

never_zero : (rows : List (Bool × ℕ)) → none_zero rows ≡ true → Never (λ (x : ℕ). x ≡ 0) rows
never_zero [] h = tt
never_zero ((b, x) ∷ rows) h =
    let p = and_true_both (not (eqb x 0)) (none_zero rows) h in
    (λ t z. false≢true (sym (ap (λ (y : ℕ). not (eqb y 0)) z) ∙ p.0), never_zero rows p.1)

-- where the number given is 0, no test holds
pub number_passed : (rows : List (Bool × ℕ)) → none_zero rows ≡ true → first_of 0 rows ≡ 0 → NoneHolds rows
number_passed rows h e = first-passed (λ (x : ℕ). x ≡ 0) 0 rows (never_zero rows h) e
