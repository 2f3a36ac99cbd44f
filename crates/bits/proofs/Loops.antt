-- The loops that load and store a number: what holds before the first turn, after each and at the end.
use Prim.Native.Nat.{ℕ, suc, ◌+◌, ◌-◌, ◌*◌, ◌/◌, ◌%◌, ◌^◌, ◌≤◌, ◌<◌}
use native.Mathlib.Nat.{pow-le-pow_right, zero-lt-suc}
use native.Mathlib.Omega.{arith}
use mathlib.Core.List.{List}
use mathlib.Core.Path.{◌≡◌, ap, ap₂, ◌∙◌}
use lib.ListN.{set}
use Rattle.base.specs.Bytes.{byte_at}
use Rattle.bits.specs.Row.{Bytes}
use Rattle.bits.specs.Number.{num, stored}
use Rattle.bits.proofs.Number.{num-lt}

-- storing goes up: with i bytes stored, the rest of v is still to be stored from o + i on

pub store_more : (n i : ℕ) (s r : List ℕ) (o w : ℕ) → i < n → stored (n - i) s (o + i) w ≡ r
    → stored (n - (i + 1)) (set s (o + i) (w % 256)) (o + (i + 1)) (w / 256) ≡ r
unfolding stored
store_more n i s r o w h e =
    ap (λ (k : ℕ). stored (n - (i + 1)) (set s (o + i) (w % 256)) k (w / 256)) {x = o + (i + 1)} {y = o + i + 1} (omega arith)
    ∙ ap (λ (k : ℕ). stored k s (o + i) w) {x = suc (n - (i + 1))} {y = n - i} (omega arith)
    ∙ e

pub store-end : (n i : ℕ) (s r : List ℕ) (o w : ℕ) → n ≤ i → stored (n - i) s (o + i) w ≡ r → s ≡ r
unfolding stored
store-end n i s r o w h e = ap (λ (k : ℕ). stored k s (o + i) w) {x = 0} {y = n - i} (omega arith) ∙ e

-- loading goes down: v is the number in the bytes from o + i on

pub load_none : (n : ℕ) (s : List ℕ) (o : ℕ) → 0 ≡ num (n - n) s (o + n)
unfolding num
load_none n s o = ap (λ (k : ℕ). num k s (o + n)) {x = 0} {y = n - n} (omega arith)

pub load_more : (n i : ℕ) (s : List ℕ) (o v x : ℕ) → 0 < i → i ≤ n → v ≡ num (n - i) s (o + i)
    → x ≡ byte_at s (o + (i - 1)) → v * 256 + x ≡ num (n - (i - 1)) s (o + (i - 1))
unfolding num
load_more n i s o v x p h e q =
    omega (arith, e, q, ap (λ (k : ℕ). num (n - i) s k) {x = suc (o + (i - 1))} {y = o + i} (omega arith))
    ∙ ap (λ (k : ℕ). num k s (o + (i - 1))) {x = suc (n - i)} {y = n - (i - 1)} (omega arith)

-- there is room for one byte more
pub load_room : (n i : ℕ) (s : List ℕ) (o v : ℕ) → Bytes s → n ≤ 8 → 0 < i → v ≡ num (n - i) s (o + i) → v < 256 ^ 7
load_room n i s o v b h p e =
    omega (arith, e, num-lt (n - i) s (o + i) b, pow-le-pow_right {n = 256} (zero-lt-suc 255) {i = n - i} {j = 7} (omega arith))

pub load_end : (n i : ℕ) (s : List ℕ) (o v : ℕ) → i ≤ 0 → v ≡ num (n - i) s (o + i) → v ≡ num n s o
load_end n i s o v h e = e ∙ ap₂ (λ (k m : ℕ). num k s m) {x = n - i} {y = n} (omega arith) (omega arith)
