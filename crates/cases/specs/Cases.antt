-- Every case marked P in the paper: a row is the paper's sentence and what it says.
use Rattle.std.specs.Prelude.{List, [], ◌∷◌, ℕ, ℤ, pos, negsuc, replicate}
use Prim.Native.String.{String}
use Rattle.machine_spec.specs.declared.State.{State}
use Rattle.cases.specs.Books.{empty, tax, circle, adding, swap, unordered, ordered, night}
use Rattle.cases.specs.Case.{Case, reads, scales, steps, posts, commutes, bounds, prints, state}

-- the highest amount in range
abbrev most : ℤ
most = pos 1000000000000

-- the rule that adds the constant of these bytes to cell 0, stepped once on the amount a: the amount and the fault marks then
abbrev pub adds : List ℕ → ℤ → ℤ → ℕ → Case
adds k a b faults = steps (adding k) (state (a ∷ []) 1 0) (0 ∷ []) (state (b ∷ []) 0 faults)

-- the night book after 5 is posted to cell 0 of zeros
abbrev pub evening : State
evening = state (pos 5 ∷ []) 3 0

abbrev pub table : List (String × Case)
table =
    ("bytes 01 00 01 00: no rules", reads empty 0 255 0 1)
    ∷ ("cleared, bound 0", prints empty "book 0 1\nends yes 0\npairs 0\ncleared yes\n")
    ∷ ("The first three alone: 1.", reads (1 ∷ 0 ∷ 1 ∷ []) 1 255 0 0)
    ∷ ("The first three alone: 1.", prints (1 ∷ 0 ∷ 1 ∷ []) "refused 1 255\n")
    ∷ ("tax book, 43 bytes", reads tax 0 255 1 2)
    ∷ ("Cleared, bound 1.", prints tax "book 1 2\nends yes 1\npairs 0\ncleared yes\n")
    ∷ ("7 x 1 / 2 gives 3", scales (pos 7) 1 2 (pos 3))
    -- `negsuc k` is -(k + 1)
    ∷ ("-7 x 1 / 2 gives -3", scales (negsuc 6) 1 2 (negsuc 2))
    ∷ ("1,000,000,000,000 + 0 is stored", adds (replicate 8 0) most most 0)
    ∷ ("+ 1 is a fault mark and no cell changes", adds (1 ∷ replicate 7 0) most most 1)
    ∷ (
      "one rule sets cell 0 to cell 1 and cell 1 to cell 0 (each + 0): 3, 4 become 4, 3.",
      steps swap (state (pos 3 ∷ pos 4 ∷ []) 1 0) (0 ∷ []) (state (pos 4 ∷ pos 3 ∷ []) 0 0),
    )
    ∷ (
      "a rule that watches and writes cell 0: `ends no 0`",
      prints circle "book 1 1\nends no 0\npairs 0\ncleared no\n",
    )
    ∷ (
      "two rules, tax watches cell 0 and writes cell 1, post .. unordered: the pair fails.",
      prints unordered "book 2 3\nends yes 3\npairs 1 0 1 0 1\ncleared no\n",
    )
    ∷ ("With tax before post: cleared", prints ordered "book 2 3\nends yes 3\npairs 0\ncleared yes\n")
    ∷ ("weights 2 and 1", bounds ordered 1 2)
    ∷ ("weights 2 and 1", bounds ordered 2 1)
    ∷ ("night book", prints night "book 3 3\nends yes 4\npairs 1 0 1 2 1\ncleared no\n")
    ∷ ("Rules 0 and 1 commute, yet (0,1) fails through 2 and 1.", commutes night 0 1)
    ∷ ("From zeros, post 5 to cell 0", posts night 0 (pos 5) evening)
    ∷ (
      "starting with 0, cell 2 ends 9 .. Three steps each.",
      steps night evening (0 ∷ 2 ∷ 1 ∷ []) (state (pos 5 ∷ pos 6 ∷ pos 9 ∷ []) 0 0),
    )
    ∷ (
      "starting with 1, it ends 7. Three steps each.",
      steps night evening (1 ∷ 0 ∷ 2 ∷ []) (state (pos 5 ∷ pos 6 ∷ pos 7 ∷ []) 0 0),
    )
    ∷ []
