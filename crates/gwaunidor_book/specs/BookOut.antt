-- Of each answer, the code and what is left beside it.
use Rattle.std.specs.Prelude.{ℕ}
use Rattle.book_write.specs.Write.{Written}
use Rattle.layout_code.specs.Code.{code_of}

abbrev pub size_out : Written → ℕ × ℕ
size_out w = (code_of w.number w.place, w.length)
