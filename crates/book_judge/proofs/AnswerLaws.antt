-- A refused read gives an empty table, a done one has its bodies in the book, and either table is that of its own bytes.
use mathlib.Core.Path.{◌≡◌, refl, sym, ◌∙◌, subst}
use mathlib.Core.Bool.{Bool, true, false, false≢true}
use mathlib.Core.List.{List}
use Prim.Native.Nat.{ℕ, ◌≤◌}
use lib.Dec.{eqb}
use borrow.Author.Tests.{eqb-true, eq-eqb}
use Rattle.mask.proofs.FirstLaws.{first-each}
use Rattle.little.specs.EachByte.{Bytes}
use Rattle.rule.specs.Empty.{no_rule}
use Rattle.rule.proofs.FillLaws.{length-filled, each-filled}
use Rattle.rule_write.specs.HeldRule.{HeldRule}
use Rattle.rule_write.proofs.HeldLaws.{none-held, rule-held}
use Rattle.table.specs.Table.{no_table}
use Rattle.table.proofs.SoundLaws.{parts}
use Rattle.table.specs.Memory.{table_from, table_bytes, HeldTable}
use Rattle.table.proofs.TableTripLaws.{stored_loaded}
use Rattle.book_judge.specs.Read.{Reading, start_of, table_in, read_answers, read_of}
use Rattle.book_judge.specs.BookJudgeInner.{taken, n_of, body_in, GoodBodies}
use Rattle.book_judge.proofs.InsideLaws.{fitting, inside, counts, room}
use Rattle.book_judge.proofs.ReadLaws.{Taken, read_done}

-- refused, its table is empty
abbrev Empty : Reading → Type 0
Empty r = (r.number ≡ 0 → ⊥) → r.table ≡ no_table

pub refused-empty : (s : List ℕ) → Empty (read_of s)
unfolding read_of
refused-empty s =
    first-each Empty (taken (table_in s)) (read_answers s)
    (λ ne. refl, (λ ne. refl, (λ ne. refl, (λ ne. refl, (λ ne. refl, (λ ne. refl, tt)))))) (λ ne. absurd (ne refl))

few : (s : List ℕ) → Taken s → n_of s ≤ 32
unfolding table_in
few s t = (parts (table_in s) t.sound).sizes.rules

pub bodies : (s : List ℕ) → Taken s → GoodBodies s
bodies s t =
    record {
      inside = inside s (n_of s) (few s t) (fitting s (n_of s) t.contents);
      good = t.bodies;
    }

-- the table that was read is one that memory can hold, and so it is the table of its own bytes
none-table : HeldTable no_table
none-table = record { size = refl; rule = each-filled HeldRule 32 no_rule (λ i. no_rule) 0 no_rule none-held (λ i l. none-held) }

taken-table : (s : List ℕ) → Bytes s → Taken s → HeldTable (table_in s)
unfolding table_in
taken-table s b t =
    let in_book = bodies s t in
    record {
      size = length-filled 32 no_rule (body_in s) (n_of s) (few s t);
      rule =
          each-filled HeldRule 32 no_rule (body_in s) (n_of s) no_rule none-held
          (λ i l.
          rule-held s b (start_of s i) _ _ _ (room s i (in_book.inside.bodies i l) (counts s i (in_book.good i l))));
    }

pub read_loaded : (s : List ℕ) → Bytes s → table_from (table_bytes (read_of s).table) ≡ (read_of s).table
read_loaded s b = pick (eqb (read_of s).number 0) refl
  where
    pick : (z : Bool) → eqb (read_of s).number 0 ≡ z → table_from (table_bytes (read_of s).table) ≡ (read_of s).table
    pick true e =
        let d = read_done s (eqb-true (read_of s).number 0 e) in
        stored_loaded (read_of s).table (subst (λ (r : Reading). HeldTable r.table) (sym d.reading) (taken-table s b d))
    pick false e =
        stored_loaded (read_of s).table
        (subst HeldTable (sym (refused-empty s (λ z. false≢true (sym e ∙ eq-eqb (read_of s).number 0 z)))) none-table)
