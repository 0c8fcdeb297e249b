-- The bytes of a number: "Numbers are little-endian; constants are 64-bit two's complement."
use Rattle.std.specs.Prelude.{List, [], ◌∷◌, ◌++◌, ℕ, ◌-◌, ◌/◌, ◌%◌, ◌^◌, ℤ, pos, negsuc}

-- 16, 32 and 64 bits, the lowest byte first
unfoldable pub u16_bytes : ℕ → List ℕ
u16_bytes x = x % 256 ∷ x / 256 % 256 ∷ []

unfoldable pub u32_bytes : ℕ → List ℕ
u32_bytes x = u16_bytes (x % 65536) ++ u16_bytes (x / 65536)

unfoldable pub u64_bytes : ℕ → List ℕ
u64_bytes x = u32_bytes (x % 4294967296) ++ u32_bytes (x / 4294967296)

-- two's complement of 64 bits: `negsuc k` is -(k + 1)
abbrev pub unsigned : ℤ → ℕ
unsigned (pos n) = n
unsigned (negsuc k) = 2 ^ 64 - 1 - k

unfoldable pub i64_bytes : ℤ → List ℕ
i64_bytes z = u64_bytes (unsigned z)
