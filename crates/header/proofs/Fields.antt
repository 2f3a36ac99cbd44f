-- Laws of the header's fields.
use Prim.Native.Nat.{ℕ, ◌/◌, ◌%◌, ◌^◌, ◌≤◌, ◌<◌}
use native.Mathlib.Nat.{lt-div-mul-add}
use native.Mathlib.Omega.{arith}
use mathlib.Core.Bool.{Bool, true, false}
use mathlib.Core.List.{List}
use mathlib.Core.Path.{◌≡◌, refl, ◌∙◌}
use lib.ListN.{length}
use lib.Pow.{pow_pos}
use borrow.Author.Tests.{lt-leb, eqb-true}
use Rattle.base.specs.Bytes.{between}
use Rattle.base.specs.Weight.{ones, all}
use Rattle.base.proofs.Weight.{weight_mono, count-all}
use Rattle.header.specs.declared.Head.{Head}
use Rattle.header.specs.declared.weights.Feature.TheVariants.{Even, Heavy}
use Rattle.header.specs.Header.{joined, head_of, header_size, peers_of, threshold_of, honest_of, periods_of, items_of}
use Rattle.header.specs.Header.{peers_with, is_honest, honest_count, total_weight, least_threshold, none_above, threshold_ok, header_ok}

-- a header, field by field
pub all_read : (s : List ℕ) (n t honest even heavy sets periods items : ℕ) → n ≡ peers_of s → t ≡ threshold_of s
    → honest ≡ honest_of s → even ≡ peers_with Even s → heavy ≡ peers_with Heavy s → sets ≡ joined honest even heavy 0
    → periods ≡ periods_of s → items ≡ items_of s
    → ◌≡◌ {A = Head} (record { n = n; t = t; sets = sets; periods = periods; items = items }) (head_of s)
all_read s n t honest even heavy sets periods items a b c d e f g h =
    let all-sets : sets ≡ joined (honest_of s) (peers_with Even s) (peers_with Heavy s) 0 = f ∙ λ i. joined (c i) (d i) (e i) 0 in
    λ i. record { n = a i; t = b i; sets = all-sets i; periods = g i; items = h i }

-- the first three sets of a word are those that were joined, where each has sixteen bits

pub first-set : (a b c : ℕ) → a < 65536 → joined a b c 0 % 65536 ≡ a
first-set a b c x = omega (arith, x)

pub second-set : (a b c : ℕ) → a < 65536 → b < 65536 → joined a b c 0 / 65536 % 65536 ≡ b
second-set a b c x y = omega (arith, x, y)

pub third-set : (a b c : ℕ) → a < 65536 → b < 65536 → c < 65536 → joined a b c 0 / 4294967296 % 65536 ≡ c
third-set a b c x y z = omega (arith, x, y, z)

-- at most all peers are honest
pub honest_most : (h : Head) → honest_count h ≤ h.n
honest_most h = omega (arith, weight_mono ones h.n (is_honest h) all (λ k e. refl), count-all h.n)

-- a set with no bit above n is below 2 ^ n
pub none_above_lem : (n set : ℕ) → none_above n set ≡ true → set < 2 ^ n
none_above_lem n set e = omega (arith, rw (eqb-true (set / 2 ^ n) 0 e) at (lt-div-mul-add {a = set} (pow_pos n)))

-- the threshold is judged by the weight of all peers
pub judged : (s : List ℕ) {w least t : ℕ} {ok : Bool} → w ≡ total_weight s → least ≡ least_threshold w → t ≡ threshold_of s
    → ok ≡ between least t w → ok ≡ threshold_ok (total_weight s) (threshold_of s)
unfolding threshold_ok
judged s {w} {least} {t} {ok} w-is least-is t-is is = rw (← w-is, ← least-is, ← t-is) is

-- the header, cut short
pub header_short : (s : List ℕ) → length s < header_size s → false ≡ header_ok s
unfolding header_ok
header_short s l = rw (lt-leb (header_size s) (length s) l)
