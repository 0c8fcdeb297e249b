-- How many bytes a number has.
use mathlib.Core.Path.{◌≡◌, refl}
use Prim.Native.Nat.{ℕ}
use lib.IntN.{ℤ}
use lib.ListN.{length}
use Rattle.little.specs.Bytes.{u16_bytes, u32_bytes, u64_bytes, unsigned, i64_bytes}

pub length_u16 : (x : ℕ) → length (u16_bytes x) ≡ 2
unfolding u16_bytes
length_u16 x = refl

pub length_u32 : (x : ℕ) → length (u32_bytes x) ≡ 4
unfolding u16_bytes u32_bytes
length_u32 x = refl

pub length_u64 : (x : ℕ) → length (u64_bytes x) ≡ 8
unfolding u16_bytes u32_bytes u64_bytes
length_u64 x = refl

pub length_i64 : (z : ℤ) → length (i64_bytes z) ≡ 8
unfolding i64_bytes
length_i64 z = length_u64 (unsigned z)
