-- The first number in a part of a list is the first of so many in the list.
use Rattle.std.proofs.Common.{◌≡◌, ◌∙◌, ap, ℕ, ◌≤◌, List, Bool, cond, Some, None, ltb, arith, take, length, get_or, length-take}
use Rattle.std.proofs.lemmas.List.{get_or-take}
use Rattle.mask.specs.Search.{least_at}
use Rattle.mask.proofs.SearchLaws.{least-same}

pub least_at-take : (n : ℕ) (xs : List ℕ) (f : ℕ → Bool) → n ≤ length xs
    → least_at (length (take n xs)) (λ j. f (get_or (take n xs) j 0)) ≡ least_at n (λ j. f (get_or xs j 0))
least_at-take n xs f l =
    ap (λ (k : ℕ). least_at k (λ j. f (get_or (take n xs) j 0))) (omega (arith, length-take n xs))
    ∙ ap (λ (k : ℕ). cond (ltb k n) (Some k) None)
    (least-same n (λ j. f (get_or (take n xs) j 0)) (λ j. f (get_or xs j 0)) (λ j h. ap f (get_or-take n xs j 0 h)))
