-- A number and its bytes, both ways: where a number's bytes stand the number is read, and what was read has the bytes that
-- stand there.
use mathlib.Core.Path.{◌≡◌, refl, sym, ap, ◌∙◌}
use mathlib.Core.Bool.{Bool, true, false, cond}
use mathlib.Core.List.{List, [], ◌∷◌, ◌++◌}
use Prim.Native.Nat.{ℕ, ◌+◌, ◌-◌, ◌*◌, ◌/◌, ◌%◌, ◌^◌, ◌≤◌, ◌<◌}
use native.Mathlib.Nat.{add-zero, zero-add, add_comm, mul_comm, mod-lt, mod-add-div, mod-eq_of_lt, div-eq_of_lt, div-lt_iff_lt-mul, add-mul-mod_self_left, add-mul-div_left}
use native.Mathlib.Omega.{arith}
use lib.Arith.{digits_lt}
use lib.Dec.{ltb}
use lib.IntN.{ℤ, pos, negsuc}
use lib.ListN.{length, get_or}
use mir.Syntax.{w64}
use mir.Val.{SFits}
use borrow.Author.Tests.{lt-ltb, le-ltb}
use Rattle.little.specs.Little.{byte_at, u16_at, u32_at, u64_at, i64_at, signed}
use Rattle.little.specs.Bytes.{u16_bytes, u32_bytes, u64_bytes, i64_bytes, unsigned}
use Rattle.little.proofs.BytesLaws.{length_u16, length_u32, length_u64, length_i64}
use Rattle.little.proofs.StandsLaws.{Stands, stands-nil, stands-cons, stands-left, stands_after, stands_then, stands_put}
use Rattle.little.specs.Put.{put}
use Rattle.little.specs.EachByte.{Bytes}

-- ---- a number as a low and a high part
module _ (m : ℕ) (pos-m : 0 < m) (lo hi : ℕ) (small : lo < m) where
  low : (lo + m * hi) % m ≡ lo
  low = add-mul-mod_self_left lo m hi ∙ mod-eq_of_lt small

  high : (lo + m * hi) / m ≡ hi
  high = add-mul-div_left lo hi pos-m ∙ (ap (λ (k : ℕ). k + hi) (div-eq_of_lt small) ∙ zero-add hi)

-- ---- two's complement

pub signed-unsigned : (z : ℤ) → SFits w64 z → signed (unsigned z) ≡ z
signed-unsigned (pos n) h = rw (lt-ltb n (2 ^ 63) h.sfits)
signed-unsigned (negsuc k) h =
    let a : 2 ^ 63 ≤ 2 ^ 64 - 1 - k = omega (arith, h.sfits) in
    let b : 2 ^ 64 - 1 - (2 ^ 64 - 1 - k) ≡ k = omega (arith, h.sfits) in
    rw (le-ltb (2 ^ 64 - 1 - k) (2 ^ 63) a) (ap negsuc b)

pub unsigned_small : (z : ℤ) → SFits w64 z → unsigned z < 2 ^ 64
unsigned_small (pos n) h = omega (arith, h.sfits)
unsigned_small (negsuc k) h = omega arith

pub unsigned_signed : (x : ℕ) → x < 2 ^ 64 → unsigned (signed x) ≡ x
unsigned_signed x h = pick (ltb x (2 ^ 63))
  where
    pick : (b : Bool) → unsigned (cond b (pos x) (negsuc (2 ^ 64 - 1 - x))) ≡ x
    pick true = refl
    pick false = omega arith

-- ---- 16 bits
module _ (s : List ℕ) (i : ℕ) where
  pub byte_read : (b : ℕ) (bs : List ℕ) → Stands s i (b ∷ bs) → byte_at s i ≡ b
  byte_read b bs h = ap (λ (k : ℕ). get_or s k 0) (sym (add-zero i)) ∙ h.same 0 (omega arith)

  pub u16_read : (x : ℕ) → x < 65536 → Stands s i (u16_bytes x) → u16_at s i ≡ x
  unfolding u16_bytes
  u16_read x l h =
      let a : byte_at s i ≡ x % 256 = byte_read (x % 256) (x / 256 % 256 ∷ []) h in
      let b : byte_at s (i + 1) ≡ x / 256 % 256 = h.same 1 (omega arith) in
      omega arith

-- what was read of w bytes fits them, and its bytes stand there
pub record Read (s : List ℕ) (i : ℕ) (m x : ℕ) (bs : List ℕ) : Type 0 where
  pub small : x < m
  pub stands : Stands s i bs

pub u16_stands : (s : List ℕ) → Bytes s → (i : ℕ) → i + 2 ≤ length s → Read s i 65536 (u16_at s i) (u16_bytes (u16_at s i))
unfolding u16_bytes
u16_stands s b i h =
    let p = b.small i in
    let q = b.small (i + 1) in
    record {
      small = omega arith;
      stands = stands-cons s i (u16_at s i % 256) (u16_at s i / 256 % 256 ∷ []) (omega arith) (omega arith)
          (stands-cons s (i + 1) (u16_at s i / 256 % 256) [] (omega arith) (omega arith)
          (stands-nil s (i + 1 + 1) (omega arith)));
    }

-- ---- twice as many: a low part below m and a high part, each of w bytes
module _ (s : List ℕ) (R : ℕ → ℕ) (B : ℕ → List ℕ) (w m : ℕ) (some-m : 0 < m) (wide : (x : ℕ) → length (B x) ≡ w) where
  double_read : ((i x : ℕ) → x < m → Stands s i (B x) → R i ≡ x) → (i x : ℕ) → x < m * m
      → Stands s i (B (x % m) ++ B (x / m)) → R i + m * R (i + w) ≡ x
  double_read reads i x l h =
      let a = reads i (x % m) (mod-lt x some-m) (stands-left s i (B (x % m)) (B (x / m)) h) in
      let g = stands_after s i (B (x % m)) (B (x / m)) w (wide (x % m)) h in
      let b = reads (i + w) (x / m) ((div-lt_iff_lt-mul some-m).1 l) g in
      rw (a, b) (mod-add-div x m)

  double_stands : ((i : ℕ) → i + w ≤ length s → Read s i m (R i) (B (R i))) → (i : ℕ) → i + (w + w) ≤ length s
      → let x = R i + m * R (i + w) in Read s i (m * m) x (B (x % m) ++ B (x / m))
  double_stands reads i h =
      let p = reads i (omega arith) in
      let q = reads (i + w) (omega arith) in
      let x = R i + m * R (i + w) in
      record {
        small = rw (add_comm (R i) (m * R (i + w)), mul_comm m (R (i + w))) (digits_lt q.small p.small);
        stands = stands_then s i (B (x % m)) (B (x / m)) w (wide (x % m))
            (rw (low m some-m (R i) (R (i + w)) p.small) p.stands)
            (rw (high m some-m (R i) (R (i + w)) p.small) q.stands);
      }

-- ---- 32 and 64 bits
module _ (s : List ℕ) where
  pub u32_read : (i x : ℕ) → x < 4294967296 → Stands s i (u32_bytes x) → u32_at s i ≡ x
  unfolding u32_bytes
  u32_read = double_read s (u16_at s) u16_bytes 2 65536 (omega arith) length_u16 (u16_read s)

  pub u64_read : (i x : ℕ) → x < 2 ^ 64 → Stands s i (u64_bytes x) → u64_at s i ≡ x
  unfolding u64_bytes
  u64_read = double_read s (u32_at s) u32_bytes 4 4294967296 (omega arith) length_u32 u32_read

  pub i64_read : (i : ℕ) (z : ℤ) → SFits w64 z → Stands s i (i64_bytes z) → i64_at s i ≡ z
  unfolding i64_bytes
  i64_read i z f h = ap signed (u64_read i (unsigned z) (unsigned_small z f) h) ∙ signed-unsigned z f

  module _ (b : Bytes s) where
    pub u32_stands : (i : ℕ) → i + 4 ≤ length s → Read s i 4294967296 (u32_at s i) (u32_bytes (u32_at s i))
    unfolding u32_bytes
    u32_stands = double_stands s (u16_at s) u16_bytes 2 65536 (omega arith) length_u16 (u16_stands s b)

    pub u64_stands : (i : ℕ) → i + 8 ≤ length s → Read s i (2 ^ 64) (u64_at s i) (u64_bytes (u64_at s i))
    unfolding u64_bytes
    u64_stands = double_stands s (u32_at s) u32_bytes 4 4294967296 (omega arith) length_u32 u32_stands

    pub i64_stands : (i : ℕ) → i + 8 ≤ length s → Stands s i (i64_bytes (i64_at s i))
    unfolding i64_bytes
    i64_stands i h = let r = u64_stands i h in rw (unsigned_signed (u64_at s i) r.small) r.stands

-- ---- what was written is read again
module _ (s : List ℕ) (i : ℕ) where
  pub u16_back : (x : ℕ) → x < 2 ^ 16 → i + 2 ≤ length s → u16_at (put s i (u16_bytes x)) i ≡ x
  u16_back x l h = u16_read (put s i (u16_bytes x)) i x l (stands_put s i (u16_bytes x) (rw (length_u16 x) h))

  pub u32_back : (x : ℕ) → x < 2 ^ 32 → i + 4 ≤ length s → u32_at (put s i (u32_bytes x)) i ≡ x
  u32_back x l h = u32_read (put s i (u32_bytes x)) i x l (stands_put s i (u32_bytes x) (rw (length_u32 x) h))

  pub u64_back : (x : ℕ) → x < 2 ^ 64 → i + 8 ≤ length s → u64_at (put s i (u64_bytes x)) i ≡ x
  u64_back x l h = u64_read (put s i (u64_bytes x)) i x l (stands_put s i (u64_bytes x) (rw (length_u64 x) h))

  pub i64_back : (z : ℤ) → SFits w64 z → i + 8 ≤ length s → i64_at (put s i (i64_bytes z)) i ≡ z
  i64_back z f h = i64_read (put s i (i64_bytes z)) i z f (stands_put s i (i64_bytes z) (rw (length_i64 z) h))

-- eight bytes that are the same are the same number
pub word_same : (x s : List ℕ) (k p : ℕ) → ((j : ℕ) → j < 8 → get_or x (k + j) 0 ≡ byte_at s (p + j)) → u64_at x k ≡ u64_at s p
word_same x s k p h =
    omega (
      arith,
      at k p 0 (omega arith) (omega arith) (omega arith),
      at (k + 1) (p + 1) 1 (omega arith) (omega arith) (omega arith),
      at (k + 2) (p + 2) 2 (omega arith) (omega arith) (omega arith),
      at (k + 2 + 1) (p + 2 + 1) 3 (omega arith) (omega arith) (omega arith),
      at (k + 4) (p + 4) 4 (omega arith) (omega arith) (omega arith),
      at (k + 4 + 1) (p + 4 + 1) 5 (omega arith) (omega arith) (omega arith),
      at (k + 4 + 2) (p + 4 + 2) 6 (omega arith) (omega arith) (omega arith),
      at (k + 4 + 2 + 1) (p + 4 + 2 + 1) 7 (omega arith) (omega arith) (omega arith),
    )
  where
    at : (a b j : ℕ) → j < 8 → a ≡ k + j → b ≡ p + j → get_or x a 0 ≡ byte_at s b
    at a b j l ea eb = ap (λ (y : ℕ). get_or x y 0) ea ∙ h j l ∙ ap (byte_at s) (sym eb)
