-- A number of fewer than 16 digits has room for one more. Assumes nothing.
use Rattle.std.proofs.Common.{ℕ, ◌^◌, ◌<◌, arith, lit<}
use Rattle.std.proofs.Math.Nat.{pow-le-pow_right}

pub has_room : (n k : ℕ) → k < 16 → n < 16 ^ k → n < 2 ^ 60
has_room n k few h = omega (arith, h, pow-le-pow_right {n = 16} (lit< tt) {i = k} {j = 15} (omega arith))
