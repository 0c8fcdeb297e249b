-- Two rules that commute can be stepped in either order: the amounts are the same (BodiesCells); the fault
-- marks, since neither writes what the other reads; who is woken, since each cell is changed by at most
-- one.
use Rattle.std.specs.Prelude.{◌≡◌, refl, ◌≢◌, Bool, ℕ}
use Rattle.std.proofs.Common.{sym, ◌∙◌, ap}
use Rattle.std.proofs.Math.Decide.{ℕ_discrete}
use Rattle.orders.specs.Overwritten.{put}
use Rattle.orders.proofs.OverwrittenLaws.{put_same, put_other, put-swap}
use Rattle.orders.specs.Cells.{Cells}
use Rattle.orders.specs.Kept.{Memory}
use Rattle.orders.specs.Bodies.{Bodies, State, BodyFacts, Analysis, step, Same}
use Rattle.orders.specs.BodiesCells.{Commuting}
use Rattle.orders.proofs.BodiesCellsLaws.{commuting_flip, reads-free, watches-free, cells-swap, by_one}

module _ (k : ℕ) (E : Memory k) (B : Bodies k) where
  open E use {rest, moved}
  open B use {watches, body}

  -- what a step leaves to the stepped rule, and to another
  pub kept-own : (r t : ℕ) (S : State k E B) → t ≡ r
      → (step k E B r S).kept t ≡ moved (watches t) (rest S.cells) S.cells (body r S.cells)
  kept-own r t S e =
      ap (λ m. moved (watches t) m S.cells (body r S.cells))
      (put_same S.kept r (rest S.cells) t e)

  pub kept-other : (r t : ℕ) (S : State k E B) → t ≢ r
      → (step k E B r S).kept t ≡ moved (watches t) (S.kept t) S.cells (body r S.cells)
  kept-other r t S e =
      ap (λ m. moved (watches t) m S.cells (body r S.cells))
      (put_other S.kept r (rest S.cells) t e)

module _ (k : ℕ) (E : Memory k) (B : Bodies k) (F : BodyFacts k B) (N : Analysis k B) where
  open E use {Kept, rest, moved, alike, alike_is, rest-alike, moved-alike, moved-still, moved-swap}
  open B use {watches, body, mark}

  -- what r keeps, s before it or after it
  own-swap : (r s : ℕ) → Commuting k B F N r s → (c : Cells)
      → alike (watches r) (moved (watches r) (rest (body s c)) (body s c) (body r (body s c)))
      (moved (watches r) (moved (watches r) (rest c) c (body r c)) (body r c) (body s (body r c)))
  own-swap r s h c =
      let a = watches r in
      let h' = commuting_flip k B F N r s h in
      let q = watches-free k B F N s r h' c in
      let p = watches-free k B F N s r h' (body r c) in
      (alike_is a).trans _ _ _
      (moved-alike a _ _ _ _ _ _ (rest-alike a _ _ q) q (λ x lx i. cells-swap k B F N r s h c x lx ∙ p x lx i))
      ((alike_is a).symm _ _ (moved-still a _ _ _ p))

  -- what any other rule keeps
  other-swap : (r s : ℕ) → Commuting k B F N r s → (c : Cells) (a : ℕ → Bool) (m : Kept)
      → alike a (moved a (moved a m c (body s c)) (body s c) (body r (body s c)))
      (moved a (moved a m c (body r c)) (body r c) (body s (body r c)))
  other-swap r s h c a m =
      (alike_is a).trans _ _ _
      (moved-swap a m c (body r c) (body s c) (body r (body s c)) (λ x lx i. by_one k B F N r s h c x lx))
      (moved-alike a _ _ _ _ _ _ ((alike_is a).refl _) (λ x lx i. refl)
      (λ x lx i. cells-swap k B F N r s h c x lx))

  module _ (r s : ℕ) (h : Commuting k B F N r s) (S : State k E B) where
    open S use {cells as c}

    kept-swap : (t : ℕ)
        → alike (watches t) ((step k E B r (step k E B s S)).kept t) ((step k E B s (step k E B r S)).kept t)
    kept-swap t = go (ℕ_discrete t r) (ℕ_discrete t s)
      where
        a : ℕ → Bool
        a = watches t

        after : (x y : ℕ) → State k E B
        after x y = step k E B x (step k E B y S)

        -- x's own after y; before y; of neither
        late : (x y : ℕ) → t ≡ x
            → (after x y).kept t ≡ moved a (rest (body y c)) (body y c) (body x (body y c))
        late x y e = kept-own k E B x t (step k E B y S) e

        early : (x y : ℕ) → t ≡ x → t ≢ y
            → (after y x).kept t ≡ moved a (moved a (rest c) c (body x c)) (body x c) (body y (body x c))
        early x y e f =
            kept-other k E B y t (step k E B x S) f
            ∙ ap (λ m. moved a m (body x c) (body y (body x c))) (kept-own k E B x t S e)

        out : (x y : ℕ) → t ≢ x → t ≢ y
            → (after x y).kept t ≡ moved a (moved a (S.kept t) c (body y c)) (body y c) (body x (body y c))
        out x y f g =
            kept-other k E B x t (step k E B y S) f
            ∙ ap (λ m. moved a m (body y c) (body x (body y c))) (kept-other k E B y t S g)

        -- t is x
        own : (x y : ℕ) → Commuting k B F N x y → t ≡ x → t ≢ y
            → alike a ((after x y).kept t) ((after y x).kept t)
        own x y g e f = rw (late x y e, early x y e f, e) (own-swap x y g c)

        go : Dec (t ≡ r) → Dec (t ≡ s) → alike a ((after r s).kept t) ((after s r).kept t)
        go (yes e) (yes f) = absurd (h.differ (sym e ∙ f))
        go (yes e) (no f) = own r s h e f
        go (no e) (yes f) = (alike_is a).symm _ _ (own s r (commuting_flip k B F N r s h) f e)
        go (no e) (no f) = rw (out r s e f, out s r f e) (other-swap r s h c a (S.kept t))

    -- the mark that x gets after y is the one that it gets before y
    mark-after : (x y : ℕ) → Commuting k B F N x y
        → mark x (body y c) ((step k E B y S).marks x) ≡ mark x c (S.marks x)
    mark-after x y g =
        F.mark-local x (body y c) c ((step k E B y S).marks x) g.r_below
        (reads-free k B F N y x (commuting_flip k B F N x y g) c)
        ∙ ap (mark x c) (put_other S.marks y (mark y c (S.marks y)) x g.differ)

    marks-swap : (t : ℕ) → (step k E B r (step k E B s S)).marks t ≡ (step k E B s (step k E B r S)).marks t
    marks-swap t =
        ap (λ m. put (step k E B s S).marks r m t) (mark-after r s h)
        ∙ put-swap S.marks r s (mark r c (S.marks r)) (mark s c (S.marks s)) t h.differ
        ∙ ap (λ m. put (step k E B r S).marks s m t) (sym (mark-after s r (commuting_flip k B F N r s h)))

    pub step-swap : Same k E B (step k E B r (step k E B s S)) (step k E B s (step k E B r S))
    step-swap =
        record {
          cells_same = λ x lx. cells-swap k B F N r s h c x lx;
          marks-same = λ t l. marks-swap t;
          kept-alike = λ t l. kept-swap t;
        }
