-- The two masks, and the cells before them: in the end nothing of the old bytes is left.
use mathlib.Core.Path.{◌≡◌, sym, ap, ◌∙◌}
use mathlib.Core.List.{List, ◌++◌, append_assoc}
use Prim.Native.Nat.{ℕ, ◌+◌, ◌≤◌}
use native.Mathlib.Omega.{arith}
use lib.ListN.{length, length-append}
use borrow.Author.Rules.{rules}
use Rattle.little.specs.Put.{put}
use Rattle.little.specs.Bytes.{u32_bytes}
use Rattle.little.proofs.BytesLaws.{length_u32}
use Rattle.little.proofs.PutLaws.{put_next, put_before, put_whole}
use Rattle.layout_state.specs.States.{cells_bytes, state_bytes}
use Rattle.layout_state.proofs.StatesLaws.{length-cells, length-state}
use Rattle.layout_state.proofs.store_state.Goals as goal

pub returns : goal.returns
unfolding state_bytes
returns c =
    let a = c.args in
    let s = a.s in
    let old = a.out.now in
    let size : length old ≡ 264 = search rules in
    let cells = cells_bytes s.cells 32 in
    let w = u32_bytes s.waiting in
    let f = u32_bytes s.faults in
    let n : length cells ≡ 256 = length-cells s.cells 32 in
    let m : length w ≡ 4 = length_u32 s.waiting in
    let k : length f ≡ 4 = length_u32 s.faults in
    let masks : c.put-2.new.out ≡ put old 256 (w ++ f) = put_next old 256 w c.put.ensures (omega arith) 260 (omega arith) f c.put-2.ensures in
    let fits : 256 + length (w ++ f) ≤ length old = rw (length-append) (omega arith) in
    c.put_cells.ensures
    ∙ (ap (λ (d : List ℕ). put d 0 cells) masks
    ∙ (put_before old cells 256 (sym n) (w ++ f) fits
    ∙ (ap (put old 0) (sym (append_assoc cells w f))
    ∙ put_whole old (state_bytes s) (length-state s ∙ sym size))))
