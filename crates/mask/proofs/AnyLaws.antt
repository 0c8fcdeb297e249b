-- What the searches of an iterator answer, over a range or over a slice: `any`, `all`, `find`, `position` and `count` against the search
-- below its end.
use Rattle.std.proofs.Common.{◌≡◌, ℕ, zero, suc, ◌+◌, ◌-◌, ◌≤◌, Bool, true, false, not, cond, ◌||◌, ◌&&◌, ltb, List, [], ◌∷◌, length, get_or, take, drop, refl, ap, sym, ◌∙◌, arith, Option, Some, None, unwrap_or, suc-le-suc, lt-ltb, le-ltb, ltb-true, ltb-false, length-take, length-drop}
use Rattle.std.specs.List.{list_any, list_all, find, count_by, position_or_len, enumerate_from, range_with_len, FoldsTo}
use Rattle.std.specs.Bool.{⊤}
use Rattle.std.specs.Iterator.{YieldsThen, Drains}
use Rattle.std.specs.Iterator.Adapters.{enumerate_source, enumerate_count, enumerate_steps, filter_source, filter_callee, filter_steps}
use Rattle.std.specs.Option.{MatchOption, option_map}
use Rattle.std.specs.Fn.{Called, CalledAt}
use Rattle.std.specs.Slice.Iter.{iter_rest}
use Rattle.std.specs.declared.ops.Range.{Range}
use Rattle.std.proofs.iter.Yields.{fronts, nat_range_steps}
use Rattle.std.proofs.lemmas.Iterator.{YieldsList, YieldsList-from_range, YieldsList-from_slice}
use Rattle.std.proofs.lemmas.Iterator.Search.{any_from_yields_List, all_from_yields_List, find_from_yields_List, position_from_yields_List}
use Rattle.std.proofs.lemmas.Iterator.Adapters.{option_map_id}
use Rattle.std.proofs.lemmas.Iterator.Consumers.{YieldsList-from_enumerate, YieldsList-from_filter, count_from_yields_List}
use Rattle.std.proofs.lemmas.List.FromFn.{length-range_with_len, get_or-range_with_len, get_or-enumerate_from, length-enumerate_from}
use Rattle.std.proofs.lemmas.List.Sums.{length-filter, sum_by-cons}
use Rattle.std.proofs.lemmas.List.{get_or-drop, get_or-take}
use denote.Param.Members.{Mut}
use denote.Ref.{Bor}
use Rattle.mask.specs.Search.{some, least, least_at, IsLeast, count}
use Rattle.mask.proofs.SearchLaws.{some_same, least-is, least-same, count_same}

-- ---- the least number first

or_swap : (a b c : Bool) → (a || (b || c)) ≡ (b || (a || c))
or_swap true true c = refl
or_swap true false c = refl
or_swap false b c = refl

some_first : (n : ℕ) (f : ℕ → Bool) → some (suc n) f ≡ (f 0 || some n (λ i. f (suc i)))
unfolding some
some_first zero f = refl
some_first (suc n) f = ap (λ (b : Bool). f (suc n) || b) (some_first n f) ∙ or_swap (f (suc n)) (f 0) (some n (λ i. f (suc i)))

count_first : (n : ℕ) (f : ℕ → Bool) → count (suc n) f ≡ cond (f 0) 1 0 + count n (λ i. f (suc i))
unfolding count
count_first zero f = omega arith
count_first (suc n) f = omega (arith, count_first n f)

-- ---- searches of a list

module _ {B : Type 0} (test : B → Bool) (d : B) where
  list_any-at : (xs : List B) → list_any test xs ≡ some (length xs) (λ j. test (get_or xs j d))
  unfolding some
  list_any-at [] = refl
  list_any-at (x ∷ xs) = ap (λ (b : Bool). test x || b) (list_any-at xs) ∙ sym (some_first (length xs) (λ j. test (get_or (x ∷ xs) j d)))

  position-at : (xs : List B) → position_or_len test xs ≡ least (length xs) (λ j. test (get_or xs j d))
  unfolding least
  position-at [] = refl
  position-at (x ∷ xs) = pick (test x) (position-at xs)
    where
      pick : (b : Bool) → position_or_len test xs ≡ least (length xs) (λ j. test (get_or xs j d)) → cond (not b) (1 + position_or_len test xs) 0 ≡ cond b 0 (suc (least (length xs) (λ j. test (get_or xs j d))))
      pick true e = refl
      pick false e = omega (arith, e)

  count-at : (xs : List B) → count_by test xs ≡ count (length xs) (λ j. test (get_or xs j d))
  unfolding count
  count-at [] = refl
  count-at (x ∷ xs) = sum_by-cons (λ y. cond (test y) 1 0) x xs ∙ (ap (λ (k : ℕ). cond (test x) 1 0 + k) (count-at xs) ∙ sym (count_first (length xs) (λ j. test (get_or (x ∷ xs) j d))))

-- ---- the calls: what ran, and what the closure answers

abbrev RanAny : {S A F : Type 0} → (S → Option A → S → Type 0) → Mut F (A × Unit {0}) Bool → S → S → F → Bool → Type 0
RanAny {S} {A} {F} steps g s u f r = (xs : List A) × (o : Option A) × (j : F) × YieldsThen steps s xs o u × FoldsTo (λ p x q. Called g p (x, tt) false q) f xs j × MatchOption o (r ≡ false) (λ x. (r ≡ true) × ((h : F) × Called g j (x, tt) true h))

abbrev RanAll : {S A F : Type 0} → (S → Option A → S → Type 0) → Mut F (A × Unit {0}) Bool → S → S → F → Bool → Type 0
RanAll {S} {A} {F} steps g s u f r = (xs : List A) × (o : Option A) × (j : F) × YieldsThen steps s xs o u × FoldsTo (λ p x q. Called g p (x, tt) true q) f xs j × MatchOption o (r ≡ true) (λ x. (r ≡ false) × ((h : F) × Called g j (x, tt) false h))

abbrev RanPosition : {S A F : Type 0} → (S → Option A → S → Type 0) → Mut F (A × Unit {0}) Bool → S → S → F → Option ℕ → Type 0
RanPosition {S} {A} {F} steps g s u f r = (xs : List A) × (o : Option A) × (j : F) × YieldsThen steps s xs o u × FoldsTo (λ p x q. Called g p (x, tt) false q) f xs j × MatchOption o (r ≡ None) (λ x. (r ≡ Some (length xs)) × ((h : F) × Called g j (x, tt) true h))

abbrev RanFind : {S A F : Type 0} → (S → Option A → S → Type 0) → Mut F (Bor A × Unit {0}) Bool → S → S → F → Option A → Type 0
RanFind {S} {A} {F} steps g s u f r = (xs : List A) × (j : F) × YieldsThen steps s xs r u × FoldsTo (λ p x q. CalledAt g p x false q) f xs j × MatchOption r ⊤ (λ x. (h : F) × CalledAt g j x true h)

abbrev Tests : {A F : Type 0} → Mut F (A × Unit {0}) Bool → F → (A → Bool) → Type 0
Tests {A} {F} g f test = (x : A) (b : Bool) (q : F) → Called g f (x, tt) b q → (q ≡ f) × (b ≡ test x)

abbrev TestsAt : {A F : Type 0} → Mut F (Bor A × Unit {0}) Bool → F → (A → Bool) → Type 0
TestsAt {A} {F} g f test = (x : A) (b : Bool) (q : F) → CalledAt g f x b q → (q ≡ f) × (b ≡ test x)

-- ---- `any`

list_any-range : (a n : ℕ) (f : ℕ → Bool) → list_any f (range_with_len a n) ≡ some n (λ i. f (a + i))
list_any-range a n f =
    list_any-at f 0 (range_with_len a n)
    ∙ (ap (λ (k : ℕ). some k (λ j. f (get_or (range_with_len a n) j 0))) (length-range_with_len a n)
    ∙ some_same n (λ j. f (get_or (range_with_len a n) j 0)) (λ i. f (a + i)) (λ i l. ap f (get_or-range_with_len a n i 0 l)))

-- over 0..n
pub some_of_any : {F : Type 0} {g : Mut F (ℕ × Unit {0}) Bool} {s : Range ℕ} (n : ℕ) (test : ℕ → Bool) (u : Range ℕ) (f : F) (r : Bool)
    → s ≡ record { start = 0; end = n } → RanAny nat_range_steps g s u f r → Tests g f test → r ≡ some n test
some_of_any n test u f r e ran called =
    any_from_yields_List test u f r ran (YieldsList-from_range 0 n n e (omega arith)) called
    ∙ (list_any-range 0 n test ∙ some_same n (λ i. test (0 + i)) test (λ i l. ap test (omega arith)))

-- over a..b
pub some_of_any_from : {F : Type 0} {g : Mut F (ℕ × Unit {0}) Bool} {s : Range ℕ} (a b : ℕ) (test : ℕ → Bool) (u : Range ℕ) (f : F) (r : Bool)
    → s ≡ record { start = a; end = b } → RanAny nat_range_steps g s u f r → Tests g f test → r ≡ some (b - a) (λ i. test (a + i))
some_of_any_from a b test u f r e ran called =
    any_from_yields_List test u f r ran (YieldsList-from_range a b (b - a) e refl) called ∙ list_any-range a (b - a) test

-- over the items of a list, as a chain yields them
pub some_of_any_in : {S A B F : Type 0} {steps : S → Option A → S → Type 0} {v : A → B} {g : Mut F (A × Unit {0}) Bool} {s : S} {all : List B} (d : B) (test : B → Bool) (u : S) (f : F) (r : Bool)
    → RanAny steps g s u f r → YieldsList steps v s all → Tests g f (λ x. test (v x)) → r ≡ some (length all) (λ j. test (get_or all j d))
some_of_any_in d test u f r ran road called = any_from_yields_List test u f r ran road called ∙ list_any-at test d _

-- over a slice
pub some_of_any-slice : {A F : Type 0} {g : Mut F (Bor A × Unit {0}) Bool} {s : _} (xs : List A) (d : A) (test : A → Bool) (u : _) (f : F) (r : Bool)
    → iter_rest s ≡ xs → RanAny fronts g s u f r → Tests g f (λ x. test x.now) → r ≡ some (length xs) (λ j. test (get_or xs j d))
some_of_any-slice xs d test u f r e ran called = some_of_any_in d test u f r ran (YieldsList-from_slice xs e) called

-- over a part of a slice
pub some_of_any-part : {A F : Type 0} {g : Mut F (Bor A × Unit {0}) Bool} {s : _} (xs : List A) (a b : ℕ) (d : A) (test : A → Bool) (u : _) (f : F) (r : Bool)
    → iter_rest s ≡ take (b - a) (drop a xs) → b ≤ length xs → RanAny fronts g s u f r → Tests g f (λ x. test x.now)
    → r ≡ some (b - a) (λ j. test (get_or xs (a + j) d))
some_of_any-part xs a b d test u f r e l ran called =
    some_of_any-slice (take (b - a) (drop a xs)) d test u f r e ran called
    ∙ (ap (λ (k : ℕ). some k (λ j. test (get_or (take (b - a) (drop a xs)) j d))) (omega (arith, length-take (b - a) (drop a xs), length-drop a xs))
    ∙ some_same (b - a) (λ j. test (get_or (take (b - a) (drop a xs)) j d)) (λ j. test (get_or xs (a + j) d)) (λ j k. ap test (get_or-take (b - a) (drop a xs) j d k ∙ get_or-drop a xs j d)))

-- each item with its place in the slice
pub some_of_any-places : {A F : Type 0} {g : Mut F ((ℕ × Bor A) × Unit {0}) Bool} {s : _} (xs : List A) (d : A) (test : ℕ → A → Bool) (u : _) (f : F) (r : Bool)
    → iter_rest (enumerate_source s) ≡ xs → enumerate_count s ≡ 0 → RanAny (enumerate_steps fronts) g s u f r → Tests g f (λ x. test x.0 x.1.now)
    → r ≡ some (length xs) (λ j. test j (get_or xs j d))
some_of_any-places xs d test u f r e z ran called =
    some_of_any_in (0, d) (λ p. test p.0 p.1) u f r ran (YieldsList-from_enumerate (YieldsList-from_slice xs e) z) called
    ∙ (ap (λ (k : ℕ). some k (λ j. test (get_or (enumerate_from 0 xs) j (0, d)).0 (get_or (enumerate_from 0 xs) j (0, d)).1)) (length-enumerate_from 0 xs)
    ∙ some_same (length xs) _ (λ j. test j (get_or xs j d)) (λ j l. ap (λ (p : ℕ × _). test p.0 p.1) (get_or-enumerate_from 0 xs j (0, d) l) ∙ ap (λ (k : ℕ). test k (get_or xs j d)) (omega arith)))

-- ---- `all`

list_all-any : {B : Type 0} (bad : B → Bool) (xs : List B) → list_all (λ x. not (bad x)) xs ≡ not (list_any bad xs)
list_all-any bad [] = refl
list_all-any bad (x ∷ xs) = pick (bad x) (list_all-any bad xs)
  where
    pick : (b : Bool) → list_all (λ y. not (bad y)) xs ≡ not (list_any bad xs) → (not b && list_all (λ y. not (bad y)) xs) ≡ not (b || list_any bad xs)
    pick true e = refl
    pick false e = e

-- over 0..n
pub none_of_all : {F : Type 0} {g : Mut F (ℕ × Unit {0}) Bool} {s : Range ℕ} (n : ℕ) (bad : ℕ → Bool) (u : Range ℕ) (f : F) (r : Bool)
    → s ≡ record { start = 0; end = n } → RanAll nat_range_steps g s u f r → Tests g f (λ x. not (bad x)) → r ≡ not (some n bad)
none_of_all n bad u f r e ran called =
    all_from_yields_List (λ x. not (bad x)) u f r ran (YieldsList-from_range 0 n n e (omega arith)) called
    ∙ (list_all-any bad (range_with_len 0 n)
    ∙ ap not (list_any-range 0 n bad ∙ some_same n (λ i. bad (0 + i)) bad (λ i l. ap bad (omega arith))))

-- over the items of a list, as a chain yields them
pub none_of_all_in : {S A B F : Type 0} {steps : S → Option A → S → Type 0} {v : A → B} {g : Mut F (A × Unit {0}) Bool} {s : S} {all : List B} (d : B) (bad : B → Bool) (u : S) (f : F) (r : Bool)
    → RanAll steps g s u f r → YieldsList steps v s all → Tests g f (λ x. not (bad (v x))) → r ≡ not (some (length all) (λ j. bad (get_or all j d)))
none_of_all_in d bad u f r ran road called =
    all_from_yields_List (λ x. not (bad x)) u f r ran road called ∙ (list_all-any bad _ ∙ ap not (list_any-at bad d _))

-- over a slice
pub none_of_all-slice : {A F : Type 0} {g : Mut F (Bor A × Unit {0}) Bool} {s : _} (xs : List A) (d : A) (bad : A → Bool) (u : _) (f : F) (r : Bool)
    → iter_rest s ≡ xs → RanAll fronts g s u f r → Tests g f (λ x. not (bad x.now)) → r ≡ not (some (length xs) (λ j. bad (get_or xs j d)))
none_of_all-slice xs d bad u f r e ran called = none_of_all_in d bad u f r ran (YieldsList-from_slice xs e) called

-- ---- `position` and `find`: the least, where there is one

-- what `unwrap_or` makes of it
pub unwrap_least : (n : ℕ) (f : ℕ → Bool) (r : Option ℕ) → r ≡ least_at n f → unwrap_or r n ≡ least n f
unwrap_least n f r h = rw h (pick (ltb (least n f) n) refl)
  where
    pick : (b : Bool) → ltb (least n f) n ≡ b → unwrap_or (cond b (Some (least n f)) None) n ≡ least n f
    pick true e = refl
    pick false e = omega (arith, ltb-false (least n f) n e, (least-is n f).bound)

-- what it says in either case
pub least_cases : (n : ℕ) (f : ℕ → Bool) (r : Option ℕ) → r ≡ least_at n f → IsLeast n f r
least_cases n f r h = rw h (pick (ltb (least n f) n) refl)
  where
    pick : (b : Bool) → ltb (least n f) n ≡ b → IsLeast n f (cond b (Some (least n f)) None)
    pick true e = let l = ltb-true (least n f) n e in (l, (least-is n f).is l, (least-is n f).first)
    pick false e = λ i l. (least-is n f).first i (omega (arith, ltb-false (least n f) n e))

-- over the items of a list, as a chain yields them
pub least_of_position_in : {S A B F : Type 0} {steps : S → Option A → S → Type 0} {v : A → B} {g : Mut F (A × Unit {0}) Bool} {s : S} {all : List B} (d : B) (test : B → Bool) (u : S) (f : F) (r : Option ℕ)
    → RanPosition steps g s u f r → YieldsList steps v s all → Tests g f (λ x. test (v x)) → r ≡ least_at (length all) (λ j. test (get_or all j d))
least_of_position_in {all = all} d test u f r ran road called =
    position_from_yields_List test u f r ran road called ∙ ap (λ (k : ℕ). cond (ltb k (length all)) (Some k) None) (position-at test d all)

-- over a slice
pub least_of_position-slice : {A F : Type 0} {g : Mut F (Bor A × Unit {0}) Bool} {s : _} (xs : List A) (d : A) (test : A → Bool) (u : _) (f : F) (r : Option ℕ)
    → iter_rest s ≡ xs → RanPosition fronts g s u f r → Tests g f (λ x. test x.now) → r ≡ least_at (length xs) (λ j. test (get_or xs j d))
least_of_position-slice xs d test u f r e ran called = least_of_position_in d test u f r ran (YieldsList-from_slice xs e) called

least-range : (n : ℕ) (f : ℕ → Bool) → least_at (length (range_with_len 0 n)) (λ j. f (get_or (range_with_len 0 n) j 0)) ≡ least_at n f
least-range n f =
    ap (λ (k : ℕ). least_at k (λ j. f (get_or (range_with_len 0 n) j 0))) (length-range_with_len 0 n)
    ∙ ap (λ (k : ℕ). cond (ltb k n) (Some k) None)
    (least-same n (λ j. f (get_or (range_with_len 0 n) j 0)) f
    (λ i l. ap f (get_or-range_with_len 0 n i 0 l ∙ omega arith)))

-- over 0..n
pub least_of_position : {F : Type 0} {g : Mut F (ℕ × Unit {0}) Bool} {s : Range ℕ} (n : ℕ) (test : ℕ → Bool) (u : Range ℕ) (f : F) (r : Option ℕ)
    → s ≡ record { start = 0; end = n } → RanPosition nat_range_steps g s u f r → Tests g f test → r ≡ least_at n test
least_of_position n test u f r e ran called =
    least_of_position_in 0 test u f r ran (YieldsList-from_range 0 n n e (omega arith)) called ∙ least-range n test

-- the item that `find` gives is the one at the first place
find-at : {B : Type 0} (test : B → Bool) (d : B) (xs : List B) → find test xs ≡ option_map (λ j. get_or xs j d) (least_at (length xs) (λ j. test (get_or xs j d)))
unfolding least
find-at test d [] = refl
find-at test d (x ∷ xs) = pick (test x) (find-at test d xs)
  where
    n : ℕ
    n = least (length xs) (λ j. test (get_or xs j d))

    later : (b : Bool) → ltb n (length xs) ≡ b → option_map (λ j. get_or xs j d) (cond b (Some n) None) ≡ option_map (λ j. get_or (x ∷ xs) j d) (cond (ltb (suc n) (suc (length xs))) (Some (suc n)) None)
    later true h = rw (lt-ltb (suc n) (suc (length xs)) (suc-le-suc (ltb-true n (length xs) h))) refl
    later false h = rw (le-ltb (suc n) (suc (length xs)) (suc-le-suc (ltb-false n (length xs) h))) refl

    pick : (b : Bool) → find test xs ≡ option_map (λ j. get_or xs j d) (least_at (length xs) (λ j. test (get_or xs j d))) → cond b (Some x) (find test xs) ≡ option_map (λ j. get_or (x ∷ xs) j d) (cond (ltb (cond b 0 (suc n)) (length (x ∷ xs))) (Some (cond b 0 (suc n))) None)
    pick true e = rw (lt-ltb 0 (suc (length xs)) (omega arith)) refl
    pick false e = e ∙ later (ltb n (length xs)) refl

-- over the items of a list, as a chain yields them
pub least_of_find_in : {S A B F : Type 0} {steps : S → Option A → S → Type 0} {v : A → B} {g : Mut F (Bor A × Unit {0}) Bool} {s : S} {all : List B} (d : B) (test : B → Bool) (u : S) (f : F) (r : Option A)
    → RanFind steps g s u f r → YieldsList steps v s all → TestsAt g f (λ x. test (v x)) → option_map v r ≡ option_map (λ j. get_or all j d) (least_at (length all) (λ j. test (get_or all j d)))
least_of_find_in {all = all} d test u f r ran road called = find_from_yields_List test u f r ran road called ∙ find-at test d all

-- over 0..n
pub least_of_find : {F : Type 0} {g : Mut F (Bor ℕ × Unit {0}) Bool} {s : Range ℕ} (n : ℕ) (test : ℕ → Bool) (u : Range ℕ) (f : F) (r : Option ℕ)
    → s ≡ record { start = 0; end = n } → RanFind nat_range_steps g s u f r → TestsAt g f test → r ≡ least_at n test
least_of_find n test u f r e ran called =
    sym (option_map_id r)
    ∙ (least_of_find_in 0 test u f r ran (YieldsList-from_range 0 n n e (omega arith)) called
    ∙ (ap (option_map (λ j. get_or (range_with_len 0 n) j 0)) (least-range n test) ∙ read (ltb (least n test) n) refl))
  where
    read : (b : Bool) → ltb (least n test) n ≡ b → option_map (λ j. get_or (range_with_len 0 n) j 0) (cond b (Some (least n test)) None) ≡ cond b (Some (least n test)) None
    read true h = ap Some (get_or-range_with_len 0 n (least n test) 0 (ltb-true (least n test) n h) ∙ omega arith)
    read false h = refl

-- ---- `filter` and `count`

-- the items of a list that pass the test, as a chain yields them
pub count_of_filter_in : {S A B F : Type 0} {steps : S → Option A → S → Type 0} {v : A → B} {g : Mut F (Bor A × Unit {0}) Bool} {all : List B} (d : B) (test : B → Bool) (s : _) (f : F) (r : ℕ)
    → ((xs : List A) × Drains (filter_steps steps g) s xs × (r ≡ length xs)) → YieldsList steps v (filter_source s) all → filter_callee s ≡ f → TestsAt g f (λ x. test (v x)) → r ≡ count (length all) (λ j. test (get_or all j d))
count_of_filter_in {g = g} {all = all} d test s f r ran road e called =
    count_from_yields_List s r ran (YieldsList-from_filter g test road e called) ∙ (length-filter test all ∙ count-at test d all)

-- over a slice
pub count_of_filter-slice : {A F : Type 0} {g : Mut F (Bor (Bor A) × Unit {0}) Bool} (xs : List A) (d : A) (test : A → Bool) (s : _) (f : F) (r : ℕ)
    → iter_rest (filter_source s) ≡ xs → filter_callee s ≡ f → ((ys : List (Bor A)) × Drains (filter_steps fronts g) s ys × (r ≡ length ys)) → TestsAt g f (λ x. test x.now) → r ≡ count (length xs) (λ j. test (get_or xs j d))
count_of_filter-slice xs d test s f r e k ran called = count_of_filter_in d test s f r ran (YieldsList-from_slice xs e) k called

-- over 0..n
pub count_of_filter : {F : Type 0} {g : Mut F (Bor ℕ × Unit {0}) Bool} (n : ℕ) (test : ℕ → Bool) (s : _) (f : F) (r : ℕ)
    → ◌≡◌ {A = Range ℕ} (filter_source s) (record { start = 0; end = n }) → filter_callee s ≡ f → ((ys : List ℕ) × Drains (filter_steps nat_range_steps g) s ys × (r ≡ length ys)) → TestsAt g f test → r ≡ count n test
count_of_filter n test s f r e k ran called =
    count_of_filter_in 0 test s f r ran (YieldsList-from_range 0 n n e (omega arith)) k called
    ∙ (ap (λ (m : ℕ). count m (λ j. test (get_or (range_with_len 0 n) j 0))) (length-range_with_len 0 n)
    ∙ sym (count_same n (λ j. test (get_or (range_with_len 0 n) j 0)) test (λ i l. sym (ap test (get_or-range_with_len 0 n i 0 l ∙ omega arith)))))
