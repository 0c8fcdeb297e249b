-- Two reports on the same rules are equal: a pair has one mark, every place is that of a pair, and the rest is tied to the marks and to
-- the masks.
use mathlib.Core.Path.{◌≡◌, refl, sym, ap, ◌∙◌, subst}
use mathlib.Core.Logic.{◌⊎◌, inl, inr, ⊎_elim}
use mathlib.Core.Bool.{Bool}
use mathlib.Core.List.{List}
use Prim.Native.Nat.{ℕ, zero, suc, ◌+◌, ◌^◌, ◌≤◌, ◌<◌}
use native.Mathlib.Nat.{lt_irrefl, le_trans, pow-suc}
use native.Mathlib.Omega.{arith}
use lib.Dec.{lit<}
use lib.ListN.{get_or}
use lib.Pow.{pow_mono}
use lib.Seq.{ext_get_or}
use Rattle.mask.specs.Search.{count}
use Rattle.mask.proofs.SearchLaws.{same_test}
use Rattle.mask.specs.Mask.{has}
use Rattle.mask.proofs.BitsLaws.{ext}
use Rattle.analysis_pairs.specs.declared.Masks.{Masks}
use Rattle.analysis_pairs.specs.Rules.{Rules, Unordered}
use Rattle.analysis_pairs.specs.RuleMasks.{rules_of}
use Rattle.analysis_pairs.proofs.RulesLaws.{Alike, passes-alike, turned, culprits-unique}
use Rattle.analysis_masks.specs.Report.{Report}
use Rattle.analysis_marks.specs.Index.{index}
use Rattle.analysis_marks.proofs.IndexLaws.{PairAt, pair-at, index_inj}
use Rattle.analysis_marks.specs.Marks.{Marked, absent, ordered, passes, fails, fails_at, First, FirstOf}
use Rattle.analysis_masks.specs.Report.{Reported}

-- ---- marks

clash : {n j : ℕ} → n ≤ j → j < n → ⊥
clash {n} {j} l h = lt_irrefl j (le_trans h l)

not-both : (b : Rules) (i j : ℕ) → b.before i j ⊎ b.before j i → Unordered b i j → ⊥
not-both b i j (inl x) u = u.0 x
not-both b i j (inr x) u = u.1 x

pub marked-unique : {b : Rules} {n i j v w : ℕ} → Marked b n i j v → Marked b n i j w → v ≡ w
marked-unique (absent l) (absent k) = refl
marked-unique (absent l) (ordered k o) = refl
marked-unique (absent l) (passes k u p) = absurd (clash l k)
marked-unique (absent l) (fails k u p) = absurd (clash l k)
marked-unique (ordered l o) (absent k) = refl
marked-unique (ordered l o) (ordered k q) = refl
marked-unique {b} {i = i} {j = j} (ordered l o) (passes k u p) = absurd (not-both b i j o u)
marked-unique {b} {i = i} {j = j} (ordered l o) (fails k u p) = absurd (not-both b i j o u)
marked-unique (passes l u p) (absent k) = absurd (clash k l)
marked-unique {b} {i = i} {j = j} (passes l u p) (ordered k o) = absurd (not-both b i j o u)
marked-unique (passes l u p) (passes k v q) = refl
marked-unique (passes l u p) (fails k v q) = absurd (q p)
marked-unique (fails l u p) (absent k) = absurd (clash k l)
marked-unique {b} {i = i} {j = j} (fails l u p) (ordered k o) = absurd (not-both b i j o u)
marked-unique (fails l u p) (passes k v q) = absurd (p q)
marked-unique (fails l u p) (fails k v q) = refl

unordered-alike : {a b : Rules} {i j : ℕ} → Alike a b → Unordered a i j → Unordered b i j
unordered-alike {i = i} {j = j} h u = (λ x. u.0 (h.back i j x), λ x. u.1 (h.back j i x))

pub marked-alike : {a b : Rules} {n i j v : ℕ} → Alike a b → Marked a n i j v → Marked b n i j v
marked-alike h (absent l) = absent l
marked-alike {i = i} {j = j} h (ordered l (inl x)) = ordered l (inl (h.there i j x))
marked-alike {i = i} {j = j} h (ordered l (inr x)) = ordered l (inr (h.there j i x))
marked-alike h (passes l u p) = passes l (unordered-alike h u) (passes-alike h p)
marked-alike h (fails l u p) = fails l (unordered-alike h u) (λ q. p (passes-alike (turned h) q))

-- ---- the first failing pair

pub first-unique : {b : Rules} {marks : List ℕ} {i j c o i' j' c' o' : ℕ}
    → First b marks i j c o → First b marks i' j' c' o' → (i ≡ i') × (j ≡ j') × (c ≡ c') × (o ≡ o')
first-unique {b} {marks} {i} {j} {c} {o} {i'} {j'} {c'} {o'} a d =
    let e : index i j ≡ index i' j' = a.earliest ∙ sym d.earliest in
    let p : (i ≡ i') × (j ≡ j') = index_inj i j i' j' a.low a.high d.low d.high e in
    let same : First b marks i j c' o' =
    subst (λ (x : ℕ). First b marks i x c' o') (sym p.1)
    (subst (λ (x : ℕ). First b marks x j' c' o') (sym p.0) d) in
    let q : (c ≡ c') × (o ≡ o') = culprits-unique a.culprits same.culprits in
    (p.0, p.1, q.0, q.1)

zero-or-more : (k : ℕ) → (k ≡ 0) ⊎ (0 < k)
zero-or-more zero = inl refl
zero-or-more (suc k) = inr (omega arith)

first_of-unique : {b : Rules} {marks : List ℕ} {i j c o i' j' c' o' : ℕ}
    → FirstOf b marks i j c o → FirstOf b marks i' j' c' o' → (i ≡ i') × (j ≡ j') × (c ≡ c') × (o ≡ o')
first_of-unique {marks = marks} a d =
    ⊎_elim
    (λ z.
    let p = a.none z in let q = d.none z in
    (p.0 ∙ sym q.0, p.1 ∙ sym q.1, p.2 ∙ sym q.2, p.3 ∙ sym q.3))
    (λ l. first-unique (a.some l) (d.some l))
    (zero-or-more (count 496 (fails_at marks)))

-- ---- the whole report

below_power : (n : ℕ) → n < 2 ^ n
below_power zero = lit< tt
below_power (suc n) = omega (arith, below_power n, pow-suc 2 n)

-- two masks with the same members are equal, however large
same-mask : (a b : ℕ) → ((x : ℕ) → has a x ≡ has b x) → a ≡ b
same-mask a b h =
    ext (a + b) a b (le_trans (below_power a) (pow_mono (omega arith)))
    (le_trans (below_power b) (pow_mono (omega arith))) (λ x l. h x)

abbrev made : ℕ → ℕ → Bool → ℕ → List ℕ → ℕ → ℕ → ℕ → ℕ → ℕ → Report
made a b c d e f g h i j =
    record {
      number = a;
      place = b;
      cleared = c;
      faulty = d;
      marks = e;
      failing = f;
      first = g;
      second = h;
      culprit = i;
      other = j;
    }

pub unique : (m : Masks) (r s : Report) → Reported m r → Reported m s → r ≡ s
unique m r s p q = all
  where
    faulty : r.faulty ≡ s.faulty
    faulty =
        same-mask r.faulty s.faulty (λ x.
        same_test (has r.faulty x) (has s.faulty x)
        (λ e. (q.faulty x).1 ((p.faulty x).0 e)) (λ e. (p.faulty x).1 ((q.faulty x).0 e)))

    marks : r.marks ≡ s.marks
    marks =
        ext_get_or 0 r.marks s.marks (p.size ∙ sym q.size) (λ k l.
        let w : PairAt k = pair-at k (rw p.size at l) in
        subst (λ (x : ℕ). get_or r.marks x 0 ≡ get_or s.marks x 0) w.at
        (marked-unique (p.marks w.i w.j w.low w.high) (q.marks w.i w.j w.low w.high)))

    cleared : r.cleared ≡ s.cleared
    cleared =
        same_test r.cleared s.cleared (λ e. q.cleared.1 (p.cleared.0 e)) (λ e. p.cleared.1 (q.cleared.0 e))

    first : (r.first ≡ s.first) × (r.second ≡ s.second) × (r.culprit ≡ s.culprit) × (r.other ≡ s.other)
    first =
        first_of-unique p.first
        (subst (λ (l : List ℕ). FirstOf (rules_of m) l s.first s.second s.culprit s.other) (sym marks)
        q.first)

    failing : r.failing ≡ s.failing
    failing = p.failing ∙ ap (λ (l : List ℕ). count 496 (fails_at l)) marks ∙ sym q.failing

    all : r ≡ s
    all =
        let number : r.number ≡ s.number = p.number ∙ sym q.number in
        let place : r.place ≡ s.place = p.place ∙ sym q.place in
        let z : made r.number r.place r.cleared r.faulty r.marks r.failing r.first r.second
        r.culprit r.other
        ≡ made s.number s.place s.cleared s.faulty s.marks s.failing s.first s.second
        s.culprit s.other =
        cc (cleared, faulty, marks, failing, first.0, first.1, first.2, first.3) in
        z
