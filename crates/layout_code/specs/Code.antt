-- What every call for C and Rust returns.
use Rattle.std.specs.Prelude.{cond, ℕ, ◌+◌, ◌*◌, eqb}

-- "0 when done, else the paper's number + 256 x place"
abbrev pub code_of : ℕ → ℕ → ℕ
code_of number place = cond (eqb number 0) 0 (number + 256 * place)
