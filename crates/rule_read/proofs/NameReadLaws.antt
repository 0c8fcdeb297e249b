-- A name that is read has its 16 letters, and each is a byte.
use mathlib.Core.Path.{◌≡◌, sym, subst}
use mathlib.Core.Logic.{⊎_elim}
use mathlib.Core.List.{List}
use Prim.Native.Nat.{ℕ, ◌+◌, ◌≤◌, ◌<◌}
use native.Mathlib.Omega.{arith}
use lib.ListN.{length, get_or-eq_default}
use Rattle.mask.proofs.SearchLaws.{lt-or_ge}
use Rattle.little.specs.Little.{byte_at}
use Rattle.little.specs.EachByte.{Bytes}
use Rattle.rule.proofs.FillLaws.{length-filled, each-filled}
use Rattle.rule_read.specs.Parts.{name_in}

module _ (s : List ℕ) (p m : ℕ) (few : m ≤ 16) where
  pub name-long : length (name_in s p m) ≡ 16
  name-long = length-filled 16 0 (λ j. byte_at s (p + j)) m few

  pub name-bytes : Bytes s → Bytes (name_in s p m)
  name-bytes b =
      record {
        small = λ j.
            ⊎_elim
            (each-filled (λ (x : ℕ). x < 256) 16 0 (λ x. byte_at s (p + x)) m 0 (omega arith) (λ x l. b.small (p + x)) j)
            (λ l.
            subst (λ (x : ℕ). x < 256)
            (sym (get_or-eq_default (name_in s p m) 0 {n = j} (subst (λ (x : ℕ). x ≤ j) (sym name-long) l))) (omega arith))
            (lt-or_ge j 16);
      }
