-- The laws of search below n.
use mathlib.Core.Path.{◌≡◌, refl, sym, ap, ap₂, ◌∙◌, subst}
use mathlib.Core.Logic.{◌⊎◌, inl, inr, ⊎_elim}
use mathlib.Core.Bool.{Bool, true, false, not, ◌&&◌, ◌||◌, cond, or-true, and-true, and-false, false≢true, or-false}
use mathlib.Core.List.{List, [], ◌∷◌}
use Prim.Native.Nat.{ℕ, zero, suc, ◌+◌, ◌≤◌, ◌<◌, zero-le, suc-le-suc}
use native.Mathlib.Nat.{lt_irrefl, le_antisymm, le_refl, le-suc, le_trans, eq-or-lt_of_le, not-suc-le-zero, le_of_suc-le-suc}
use native.Mathlib.Numerals.{add-one}
use native.Mathlib.Decide.{ℕ_discrete}
use native.Mathlib.Omega.{arith}
use lib.Arith.{lt_of_le-ne}
use lib.Dec.{eqb, ltb}
use borrow.Author.Tests.{lt-ltb, le-ltb, ltb-true, ltb-false, eq-eqb, ne_eqb}
use Rattle.mask.specs.Search.{some, least, count}

-- ---- tests

pub lt-or_ge : (x i : ℕ) → (x < i) ⊎ (i ≤ x)
lt-or_ge x i = pick (ltb x i) refl
  where
    pick : (b : Bool) → ltb x i ≡ b → (x < i) ⊎ (i ≤ x)
    pick true e = inl (ltb-true x i e)
    pick false e = inr (ltb-false x i e)

-- a choice, worked out without a branch
pub branch-free : (b x y : Bool) → ((b && x) || (not b && y)) ≡ cond b x y
branch-free true x y = or-false x
branch-free false x y = refl

pub or_true_cases : (a b : Bool) → (a || b) ≡ true → (a ≡ true) ⊎ (b ≡ true)
or_true_cases true b e = inl refl
or_true_cases false b e = inr e

pub and_true_both : (a b : Bool) → (a && b) ≡ true → (a ≡ true) × (b ≡ true)
and_true_both true b e = (refl, e)
and_true_both false b e = absurd (false≢true e)

pub or_false_both : (a b : Bool) → (a || b) ≡ false → (a ≡ false) × (b ≡ false)
or_false_both true b e = absurd (false≢true (sym e))
or_false_both false b e = (refl, e)

-- `b || b1 || .. || bn`, as it groups, and that none of them holds
abbrev pub any_of : Bool → List Bool → Bool
any_of b [] = b
any_of b (c ∷ bs) = any_of (b || c) bs

abbrev pub NoneOf : Bool → List Bool → Type 0
NoneOf b [] = b ≡ false
NoneOf b (c ∷ bs) = (b ≡ false) × NoneOf c bs

none_first : (b c : Bool) (bs : List Bool) → NoneOf (b || c) bs → (b ≡ false) × NoneOf c bs
none_first b c [] h = or_false_both b c h
none_first b c (d ∷ bs) h = let p = or_false_both b c h.0 in (p.0, (p.1, h.1))

pub none_of : (b : Bool) (bs : List Bool) → any_of b bs ≡ false → NoneOf b bs
none_of b [] e = e
none_of b (c ∷ bs) e = none_first b c bs (none_of (b || c) bs e)

-- what comes after a test matters only where the test does not hold
pub or_same : (b x y : Bool) → (b ≡ false → x ≡ y) → (b || x) ≡ (b || y)
or_same true x y e = refl
or_same false x y e = e refl

-- two tests that hold together are one
pub same_test : (a b : Bool) → (a ≡ true → b ≡ true) → (b ≡ true → a ≡ true) → a ≡ b
same_test true b f g = sym (f refl)
same_test false true f g = g refl
same_test false false f g = refl

-- ---- somewhere below n

pub some_intro : (n : ℕ) (f : ℕ → Bool) (i : ℕ) → i < n → f i ≡ true → some n f ≡ true
unfolding some
some_intro zero f i h e = absurd (not-suc-le-zero h)
some_intro (suc n) f i h e =
    ⊎_elim
    (λ q. ap (λ (b : Bool). b || some n f) (subst (λ (k : ℕ). f k ≡ true) q e))
    (λ l. ap (λ (b : Bool). f n || b) (some_intro n f i l e) ∙ or-true (f n))
    (eq-or-lt_of_le (le_of_suc-le-suc h))

-- where it holds
pub record Found (n : ℕ) (f : ℕ → Bool) : Type 0 where
  pub at : ℕ
  pub lt : at < n
  pub is : f at ≡ true

pub some-elim : (n : ℕ) (f : ℕ → Bool) → some n f ≡ true → Found n f
unfolding some
some-elim zero f e = absurd (false≢true e)
some-elim (suc n) f e = pick (f n) refl (some-elim n f)
  where
    pick : (b : Bool) → f n ≡ b → (some n f ≡ true → Found n f) → Found (suc n) f
    pick true q more = record { at = n; lt = le_refl (suc n); is = q }
    pick false q more =
        let r : Found n f = more (sym (ap (λ (b : Bool). b || some n f) q) ∙ e) in
        record { at = r.at; lt = le_trans r.lt (le-suc n); is = r.is }

pub some-none : (n : ℕ) (f : ℕ → Bool) → ((i : ℕ) → i < n → f i ≡ false) → some n f ≡ false
unfolding some
some-none zero f h = refl
some-none (suc n) f h =
    ap₂ ◌||◌ (h n (le_refl (suc n))) (some-none n f (λ i l. h i (le_trans l (le-suc n))))

pub some_false : (n : ℕ) (f : ℕ → Bool) → some n f ≡ false → (i : ℕ) → i < n → f i ≡ false
some_false n f e i l = pick (f i) refl
  where
    pick : (b : Bool) → f i ≡ b → f i ≡ false
    pick true q = absurd (false≢true (sym e ∙ some_intro n f i l q))
    pick false q = q

-- two searches that find the same
pub some-iff : (n : ℕ) (f g : ℕ → Bool)
    → ((i : ℕ) → i < n → f i ≡ true → g i ≡ true) → ((i : ℕ) → i < n → g i ≡ true → f i ≡ true) → some n f ≡ some n g
some-iff n f g there back = same_test (some n f) (some n g) (half f g there) (half g f back)
  where
    half : (f g : ℕ → Bool) → ((i : ℕ) → i < n → f i ≡ true → g i ≡ true) → some n f ≡ true → some n g ≡ true
    half f g h e = let w : Found n f = some-elim n f e in some_intro n g w.at w.lt (h w.at w.lt w.is)

pub some_same : (n : ℕ) (f g : ℕ → Bool) → ((i : ℕ) → i < n → f i ≡ g i) → some n f ≡ some n g
some_same n f g h = some-iff n f g (λ i l e. sym (h i l) ∙ e) (λ i l e. h i l ∙ e)

-- one number more to look at
pub some_more : (n : ℕ) (f : ℕ → Bool) → some (n + 1) f ≡ (f n || some n f)
unfolding some
some_more n f = ap (λ (k : ℕ). some k f) (add-one n)

-- a search that finds nothing past n goes to n
pub some-cut : (N n : ℕ) (f g : ℕ → Bool) → n ≤ N → ((j : ℕ) → j < n → f j ≡ g j) → ((j : ℕ) → n ≤ j → j < N → f j ≡ false)
    → some N f ≡ some n g
some-cut N n f g l same rest = same_test (some N f) (some n g) there back
  where
    there : some N f ≡ true → some n g ≡ true
    there e =
        let x = some-elim N f e in
        ⊎_elim (λ h. some_intro n g x.at h (sym (same x.at h) ∙ x.is))
        (λ h. absurd (false≢true (sym (rest x.at h x.lt) ∙ x.is)))
        (lt-or_ge x.at n)

    back : some n g ≡ true → some N f ≡ true
    back e = let x = some-elim n g e in some_intro N f x.at (le_trans x.lt l) (same x.at x.lt ∙ x.is)

-- of the numbers below N, those below n
pub some_below : (N n : ℕ) (f : ℕ → Bool) → n ≤ N → some N (λ i. f i && ltb i n) ≡ some n f
some_below N n f l =
    some-cut N n (λ i. f i && ltb i n) f l (λ j h. ap (λ (b : Bool). f j && b) (lt-ltb j n h) ∙ and-true (f j))
    (λ j h g. ap (λ (b : Bool). f j && b) (le-ltb j n h) ∙ and-false (f j))

-- one number apart from the rest
pub some_but : (n : ℕ) (f : ℕ → Bool) (x : ℕ) → x < n → some n f ≡ (f x || some n (λ y. f y && not (eqb y x)))
some_but n f x l = same_test (some n f) (f x || some n (λ y. f y && not (eqb y x))) there back
  where
    there : some n f ≡ true → (f x || some n (λ y. f y && not (eqb y x))) ≡ true
    there e =
        let w : Found n f = some-elim n f e in
        elim (ℕ_discrete w.at x) [
          | yes z ↦ ap (λ (b : Bool). b || some n (λ y. f y && not (eqb y x))) (subst (λ (k : ℕ). f k ≡ true) z w.is)
          | no z ↦
              ap (λ (b : Bool). f x || b)
              (some_intro n (λ y. f y && not (eqb y x)) w.at w.lt
              (ap₂ (λ (a b : Bool). a && not b) w.is (ne_eqb w.at x z)))
              ∙ or-true (f x)
        ]

    back : (f x || some n (λ y. f y && not (eqb y x))) ≡ true → some n f ≡ true
    back e =
        ⊎_elim (some_intro n f x l)
        (λ h.
        let w : Found n (λ y. f y && not (eqb y x)) = some-elim n (λ y. f y && not (eqb y x)) h in
        some_intro n f w.at w.lt (and_true_both (f w.at) (not (eqb w.at x)) w.is).0)
        (or_true_cases (f x) (some n (λ y. f y && not (eqb y x))) e)

-- ---- the least

-- r is the least number below n at which f holds, or n
pub record Least (n : ℕ) (f : ℕ → Bool) (r : ℕ) : Type 0 where
  pub bound : r ≤ n
  pub is : r < n → f r ≡ true
  pub first : (i : ℕ) → i < r → f i ≡ false

pub least-is : (n : ℕ) (f : ℕ → Bool) → Least n f (least n f)
unfolding least
least-is zero f =
    record { bound = le_refl 0; is = λ l. absurd (not-suc-le-zero l); first = λ i l. absurd (not-suc-le-zero l) }
least-is (suc n) f = pick (f 0) refl (least-is n (λ i. f (suc i)))
  where
    after : (i r : ℕ) → f 0 ≡ false → ((k : ℕ) → k < r → f (suc k) ≡ false) → i < suc r → f i ≡ false
    after zero r e h l = e
    after (suc i) r e h l = h i (le_of_suc-le-suc l)

    pick : (b : Bool) → f 0 ≡ b → Least n (λ i. f (suc i)) (least n (λ i. f (suc i)))
        → Least (suc n) f (cond b 0 (suc (least n (λ i. f (suc i)))))
    pick true e d = record { bound = zero-le; is = λ l. e; first = λ i l. absurd (not-suc-le-zero l) }
    pick false e d =
        record {
          bound = suc-le-suc d.bound;
          is = λ l. d.is (le_of_suc-le-suc l);
          first = λ i l. after i (least n (λ i. f (suc i))) e d.first l;
        }

pub least-unique : {n : ℕ} {f : ℕ → Bool} {r s : ℕ} → Least n f r → Least n f s → r ≡ s
least-unique {n} {f} {r} {s} a b = le_antisymm (at_most a b) (at_most b a)
  where
    at_most : {r s : ℕ} → Least n f r → Least n f s → r ≤ s
    at_most {r} {s} a b =
        ⊎_elim
        (λ l. absurd (false≢true (sym (a.first s l) ∙ b.is (le_trans l a.bound))))
        (λ l. l)
        (lt-or_ge s r)

pub least_by : (n : ℕ) (f : ℕ → Bool) (r : ℕ) → Least n f r → r ≡ least n f
least_by n f r d = least-unique d (least-is n f)

pub least-none : (n : ℕ) (f : ℕ → Bool) → ((i : ℕ) → i < n → f i ≡ false) → least n f ≡ n
least-none n f h =
    sym (least_by n f n (record { bound = le_refl n; is = λ l. absurd (lt_irrefl n l); first = h }))

pub least-same : (n : ℕ) (f g : ℕ → Bool) → ((i : ℕ) → i < n → f i ≡ g i) → least n f ≡ least n g
least-same n f g h =
    least_by n g (least n f)
    (record {
      bound = d.bound;
      is = λ l. sym (h (least n f) l) ∙ d.is l;
      first = λ i l. sym (h i (le_trans l d.bound)) ∙ d.first i l;
    })
  where
    d : Least n f (least n f)
    d = least-is n f

-- ---- how many

-- what one number counts
abbrev pub one_if : Bool → ℕ
one_if b = cond b 1 0

pub count_same : (n : ℕ) (f g : ℕ → Bool) → ((k : ℕ) → k < n → g k ≡ f k) → count n g ≡ count n f
unfolding count
count_same zero f g h = refl
count_same (suc n) f g h =
    ap₂ (λ (x : ℕ) (b : Bool). x + one_if b) (count_same n f g (λ k l. h k (le_trans l (le-suc n)))) (h n (le_refl (suc n)))

-- one number fewer
pub count-drop : (n : ℕ) (f g : ℕ → Bool) (i : ℕ) → i < n → f i ≡ true → ((k : ℕ) → g k ≡ (f k && not (eqb k i)))
    → count n f ≡ suc (count n g)
unfolding count
count-drop zero f g i h o w = absurd (not-suc-le-zero h)
count-drop (suc n) f g i h o w =
    ⊎_elim
    (λ q.
    let e : count n g ≡ count n f =
    count_same n f g (λ k l. kept k (λ z. lt_irrefl k (subst (λ (x : ℕ). k < x) (sym q ∙ sym z) l))) in
    let o' : f n ≡ true = subst (λ (x : ℕ). f x ≡ true) q o in
    let t : g n ≡ false = w n ∙ ap (λ (b : Bool). f n && not b) (eq-eqb n i (sym q)) ∙ and-false (f n) in
    rw (e, o', t) (omega arith))
    (λ l.
    let s : g n ≡ f n = kept n (λ z. lt_irrefl i (subst (λ (x : ℕ). i < x) z l)) in
    let r : count n f ≡ suc (count n g) = count-drop n f g i l o w in
    rw (r, s) (omega arith))
    (eq-or-lt_of_le (le_of_suc-le-suc h))
  where
    kept : (k : ℕ) → (k ≡ i → ⊥) → g k ≡ f k
    kept k ne = w k ∙ ap (λ (b : Bool). f k && not b) (ne_eqb k i ne) ∙ and-true (f k)

pub count-max : (n : ℕ) (f : ℕ → Bool) → count n f ≤ n
unfolding count
count-max zero f = le_refl 0
count-max (suc n) f = omega (arith, count-max n f, pick (f n))
  where
    pick : (b : Bool) → one_if b ≤ 1
    pick true = le_refl 1
    pick false = omega arith

one-le : (a b : Bool) → (a ≡ true → b ≡ true) → one_if a ≤ one_if b
one-le true b q = subst (λ (c : Bool). 1 ≤ one_if c) (sym (q refl)) (le_refl 1)
one-le false b q = omega arith

pub count-le : (n : ℕ) (f g : ℕ → Bool) → ((k : ℕ) → f k ≡ true → g k ≡ true) → count n f ≤ count n g
unfolding count
count-le zero f g h = le_refl 0
count-le (suc n) f g h = omega (arith, count-le n f g h, one-le (f n) (g n) (h n))

pub count-lt : (n : ℕ) (f g : ℕ → Bool) (i : ℕ) → i < n → f i ≡ false → g i ≡ true
    → ((k : ℕ) → f k ≡ true → g k ≡ true) → count n f < count n g
unfolding count
count-lt zero f g i l a b h = absurd (not-suc-le-zero l)
count-lt (suc n) f g i l a b h =
    elim (ℕ_discrete i n) [
      | yes z ↦
          let a' : f n ≡ false = subst (λ (k : ℕ). f k ≡ false) z a in
          let b' : g n ≡ true = subst (λ (k : ℕ). g k ≡ true) z b in
          rw (a', b') (omega (arith, count-le n f g h))
      | no z ↦
          omega (arith, count-lt n f g i (lt_of_le-ne (le_of_suc-le-suc l) z) a b h, one-le (f n) (g n) (h n))
    ]
