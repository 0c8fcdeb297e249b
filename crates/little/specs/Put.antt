-- Writing into a buffer: what stands in it afterwards, for lists of any kind.
use Rattle.std.specs.Prelude.{List, ◌++◌, ℕ, ◌+◌, length, take, drop}

module _ {A : Type 0} where
  -- d with bs written from `at` on: "a done write leaves the bytes after the book untouched"
  unfoldable pub put : List A → ℕ → List A → List A
  put d at bs = take at d ++ bs ++ drop (at + length bs) d
