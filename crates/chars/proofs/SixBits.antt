-- A code is joined of six bits a byte, and taken apart again.
use Prim.Native.Nat.{ℕ, ◌+◌, ◌*◌, ◌/◌, ◌%◌, ◌≤◌}
use native.Mathlib.Omega.{arith}
use mathlib.Core.Path.{◌≡◌}

pub div_4096 : (c : ℕ) → c / 4096 ≡ c / 64 / 64
div_4096 c = omega arith

pub div_262144 : (c : ℕ) → c / 262144 ≡ c / 64 / 64 / 64
div_262144 c = omega arith

-- the six bits of a later byte
pub low_six : (y : ℕ) → (0x80 + y % 64) % 64 ≡ y % 64
low_six y = omega arith

pub join_three : (p : ℕ) → (p / 4096 * 64 + p / 64 % 64) * 64 + p % 64 ≡ p
join_three p = omega arith

-- a later byte z joined to the code w: the code without it, and the byte
pub high : (w z : ℕ) → (w * 64 + z % 64) / 64 ≡ w
high w z = omega arith

pub low : (w z : ℕ) → 0x80 ≤ z → z ≤ 0xBF → 0x80 + (w * 64 + z % 64) % 64 ≡ z
low w z g h = omega arith
