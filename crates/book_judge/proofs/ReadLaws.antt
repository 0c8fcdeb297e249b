-- The reader's checks and the checks of a table: a rule's number as the reader finds it, and a read that is done gives a sound table.
use mathlib.Core.Path.{◌≡◌, refl, sym, ap, ap₂, ◌∙◌, subst}
use mathlib.Core.List.{List}
use mathlib.Core.Bool.{Bool, true, false, not, cond, ◌&&◌, ◌||◌}
use mathlib.Core.Logic.{⊎_elim}
use Prim.Native.Nat.{ℕ, ◌≤◌, ◌<◌}
use native.Mathlib.Nat.{le_refl}
use native.Mathlib.Omega.{arith}
use lib.Dec.{leb, eqb}
use borrow.Author.Tests.{lt-ltb, le-ltb, lt-leb, le-leb, ne_eqb}
use Rattle.mask.proofs.SearchLaws.{least-none, lt-or_ge, or_true_cases, or_false_both}
use Rattle.mask.proofs.LoopsLaws.{Passed, passed_here, passed-all}
use Rattle.mask.proofs.FirstLaws.{skip, first-passed, passed_first}
use Rattle.graph.specs.Graph.{cyclic}
use Rattle.rule.specs.declared.Rule.{Rule}
use Rattle.rule.proofs.FillLaws.{get_or-filled, get_or-left}
use Rattle.rule.specs.Empty.{no_rule}
use Rattle.rule.specs.Numbers.{not_zero, counts_bad, rule_number, rule_slot_bad}
use Rattle.rule.proofs.NumbersLaws.{clean}
use Rattle.table.specs.Table.{rule_at, precedes_of}
use Rattle.table.specs.Check.{sizes_bad, number_at, first_bad, first_slot, check_of, Sound}
use Rattle.table.specs.BodyStarts.{body_size}
use Rattle.table.proofs.SoundLaws.{sized, none_first, first-is}
use Rattle.table.proofs.TableSlotLaws.{empty-slot}
use Rattle.book_judge.specs.Read.{Reading, length_of, head_bad, contents_bad, table_in, number_in, first_in}
use Rattle.book_judge.specs.Read.{refusal, read_answers, read_of}
use Rattle.book_judge.specs.BookJudgeInner.{taken, n_of, k_of, body_in, body_bad, bodies_of}

-- ---- a rule's number, as the reader finds it

-- "body length wrong"
abbrev size_wrong : List ℕ → ℕ → Rule → Bool
size_wrong s i r = not (eqb (length_of s i) (body_size r))

module _ (s : List ℕ) (i : ℕ) (l : i < n_of s) where
  pub rule_in_lem : rule_at (table_in s) i ≡ body_in s i
  unfolding table_in
  rule_in_lem = get_or-filled 32 no_rule (body_in s) (n_of s) no_rule i l

  -- the number by the rule of body i
  by-body : number_in s i ≡ cond (size_wrong s i (body_in s i)) 5 (rule_number (n_of s) (k_of s) (table_in s).rules i (body_in s i))
  unfolding number_in number_at table_in
  by-body = ap (λ (r : Rule). cond (size_wrong s i r) 5 (rule_number (n_of s) (k_of s) (table_in s).rules i r)) rule_in_lem

  pub number-body : body_bad s i ≡ true → number_in s i ≡ 5
  unfolding body_bad rule_number
  number-body e =
      by-body
      ∙ ⊎_elim (λ c. rw c (same (size_wrong s i (body_in s i)) 5)) (λ w. rw w)
      (or_true_cases (counts_bad (body_in s i)) (size_wrong s i (body_in s i)) e)
    where
      same : (b : Bool) (x : ℕ) → cond b x x ≡ x
      same true x = refl
      same false x = refl

  pub number-good : body_bad s i ≡ false → number_in s i ≡ rule_number (n_of s) (k_of s) (table_in s).rules i (body_in s i)
  unfolding body_bad
  number-good e = by-body ∙ rw (or_false_both (counts_bad (body_in s i)) (size_wrong s i (body_in s i)) e).1

  -- a rule with number 0: 5 does not refuse its body, and no number applies to it as one of the table
  pub record Right : Type 0 where
    pub body : body_bad s i ≡ false
    pub number : number_at (table_in s) i ≡ 0

  pub right : number_in s i ≡ 0 → Right
  unfolding number_in body_bad number_at
  right e =
      let t = table_in s in
      let p = skip (λ (x : ℕ). x ≡ 0) (size_wrong s i (rule_at t i)) 5 (number_at t i) (λ b z. omega arith) e in
      let c = (clean t.n t.k t.rules i (rule_at t i) p.1).counts in
      record {
        body = subst (λ (r : Rule). (counts_bad r || size_wrong s i r) ≡ false) rule_in_lem (ap₂ ◌||◌ c p.0);
        number = p.1;
      }

-- ---- the first rule with a number, and none
module _ (s : List ℕ) (i : ℕ) (h : Passed (λ x. not_zero (number_in s x)) i) where
  pub refused-at : (v : ℕ) → i < n_of s → number_in s i ≡ v → (v ≡ 0 → ⊥) → bodies_of s ≡ refusal v i
  unfolding bodies_of first_in
  refused-at v l e ne =
      let f : first_in s ≡ i = sym (passed_here h l (ap not_zero e ∙ ap not (ne_eqb v 0 ne))) in
      rw (f, lt-ltb i (n_of s) l, e)

  pub none-refused : n_of s ≤ i → bodies_of s ≡ cond (cyclic (n_of s) (precedes_of (table_in s))) (refusal 10 255) (taken (table_in s))
  unfolding bodies_of first_in
  none-refused l =
      let f : first_in s ≡ n_of s = sym (passed-all h l) in
      rw (f, le-ltb (n_of s) (n_of s) (le_refl (n_of s)))

-- ---- a read that is done gives a sound table

module _ (s : List ℕ) (few : n_of s ≤ 32) where
  none-slot : first_slot (table_in s) ≡ 32
  unfolding first_slot table_in
  none-slot =
      least-none 32 (λ i. leb (n_of s) i && rule_slot_bad (rule_at (table_in s) i))
      (λ i l. ⊎_elim (mine i) (past i l) (lt-or_ge i (n_of s)))
    where
      mine : (i : ℕ) → i < n_of s → (leb (n_of s) i && rule_slot_bad (rule_at (table_in s) i)) ≡ false
      mine i m = ap (λ (b : Bool). b && rule_slot_bad (rule_at (table_in s) i)) (lt-leb (n_of s) i m)

      past : (i : ℕ) → i < 32 → n_of s ≤ i → (leb (n_of s) i && rule_slot_bad (rule_at (table_in s) i)) ≡ false
      past i l m =
          ap₂ ◌&&◌ (le-leb (n_of s) i m)
          (ap rule_slot_bad (get_or-left 32 no_rule (body_in s) (n_of s) no_rule i m l) ∙ empty-slot)

  none-bad : ((i : ℕ) → i < n_of s → number_in s i ≡ 0) → first_bad (table_in s) ≡ n_of s
  unfolding first_bad table_in
  none-bad h = least-none (n_of s) (λ i. not_zero (number_at (table_in s) i)) (λ i l. ap not_zero (right s i l (h i l)).number)

-- what a done reading of s is
pub record Taken (s : List ℕ) : Type 0 where
  pub reading : read_of s ≡ taken (table_in s)
  pub sound : Sound (table_in s)
  pub head : head_bad s ≡ false
  pub contents : contents_bad s (n_of s) ≡ false
  pub bodies : (i : ℕ) → i < n_of s → body_bad s i ≡ false

module _ (s : List ℕ) where
  sound_of : n_of s ≤ 32 → sizes_bad (n_of s) (k_of s) ≡ false → ((i : ℕ) → i < n_of s → number_in s i ≡ 0)
      → cyclic (n_of s) (precedes_of (table_in s)) ≡ false → Sound (table_in s)
  unfolding check_of table_in
  sound_of few sizes clean acyclic =
      record {
        checked = rw (sizes, none-bad s few clean, le-ltb (n_of s) (n_of s) (le_refl (n_of s)), none-slot s few, acyclic);
      }

  pub read_done : (read_of s).number ≡ 0 → Taken s
  unfolding read_of first_in
  read_done e =
      let p = first-passed (λ (r : Reading). r.number ≡ 0) (taken (table_in s)) (read_answers s) (
        λ b z. omega arith,
        (λ b z. omega arith, (λ b z. omega arith, (λ b z. omega arith, (first-is (n_of s) (number_in s), (λ b z. omega arith, tt))))),
      ) e in
      let q = p.1.1 in
      let few = (sized (n_of s) (k_of s) q.0).rules in
      let clean = none_first (n_of s) (number_in s) q.1.1.0 in
      record {
        reading = passed_first (taken (table_in s)) (read_answers s) p;
        sound = sound_of few q.0 clean q.1.1.1.0;
        head = p.1.0;
        contents = q.1.0;
        bodies = λ i l. (right s i l (clean i l)).body;
      }
