-- "Numbers are little-endian; constants are 64-bit two's complement.", of a list of bytes.
use Rattle.std.specs.Prelude.{cond, List, ℕ, ◌+◌, ◌-◌, ◌*◌, ◌^◌, ltb, ℤ, pos, negsuc, get_or}

-- the byte at i
abbrev pub byte_at : List ℕ → ℕ → ℕ
byte_at s i = get_or s i 0

-- 16, 32 and 64 bits from i on, the lowest byte first
abbrev pub u16_at : List ℕ → ℕ → ℕ
u16_at s i = byte_at s i + 256 * byte_at s (i + 1)

abbrev pub u32_at : List ℕ → ℕ → ℕ
u32_at s i = u16_at s i + 65536 * u16_at s (i + 2)

abbrev pub u64_at : List ℕ → ℕ → ℕ
u64_at s i = u32_at s i + 4294967296 * u32_at s (i + 4)

-- 64 bits as two's complement: `negsuc k` is -(k + 1)
abbrev pub signed : ℕ → ℤ
signed x = cond (ltb x (2 ^ 63)) (pos x) (negsuc (2 ^ 64 - 1 - x))

abbrev pub i64_at : List ℕ → ℕ → ℤ
i64_at s i = signed (u64_at s i)
