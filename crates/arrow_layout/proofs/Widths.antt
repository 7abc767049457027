-- Where the bytes and the items of slots of one width lie.
use Rattle.std.proofs.Common.{ℕ, ◌+◌, ◌*◌, ◌<◌, ◌≤◌, arith}
use Rattle.std.proofs.lemmas.Nat.{column_fits, mul-le}

-- the bytes of a slot of fixed width
pub slot_inside : (width i n m : ℕ) → i < n → width * n ≤ m → width * i + width ≤ m
slot_inside width i n m h long = omega (arith, column_fits width i width n h (omega arith), long)

-- the bytes of slots of fixed width one after another
pub parts_inside : (width i k n m : ℕ) → i ≤ k → k ≤ n → width * n ≤ m → (width * i ≤ width * k) × (width * k ≤ m)
parts_inside width i k n m order inside long = (mul-le width i width k (omega arith) order, omega (arith, mul-le width k width n (omega arith) inside, long))

-- the items of a fixed-size list
pub items_inside : (size i n m : ℕ) → i < n → size * n ≤ m → (size * i ≤ size * (i + 1)) × (size * (i + 1) ≤ m)
items_inside size i n m h long = parts_inside size i (i + 1) n m (omega arith) (omega (arith, h)) long
