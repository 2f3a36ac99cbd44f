-- Sets of peers, as the machine has them: a peer added, the members counted and weighed, and the threshold reached.
use Prim.Native.Nat.{ℕ, zero, suc, ◌+◌, ◌-◌, ◌*◌, ◌/◌, ◌^◌, ◌≤◌, ◌<◌}
use native.Mathlib.Nat.{one-mul}
use native.Mathlib.Omega.{arith}
use mathlib.Core.Bool.{Bool, true, false, ◌&&◌, cond}
use mathlib.Core.Path.{◌≡◌, refl, sym, ap, ◌∙◌}
use lib.Bits.{bit_or, bit_and, or_shifted_r, and_lt}
use lib.Count as machine
use lib.Dec.{leb}
use borrow.Author.Tests.{le-leb, lt-leb}
use Rattle.base.specs.Bits.{member, digit, pack}
use Rattle.base.specs.Weight.{weight, ones}
use Rattle.base.proofs.Bits.{bit-none, bit-and, pack-lt}
use Rattle.base.proofs.Count.{ones_members}
use Rattle.base.proofs.Masks.{bits_in}
use Rattle.base.proofs.Weight.{weight_ext, weight_same}
use Rattle.header.specs.declared.Head.{Head}
use Rattle.header.specs.Header.{joined, even_in, heavy_in}
use Rattle.header.specs.Quorum.{room, with_peer, count_in, weight_of, reaches}

-- no peer 0, none above 16, and else the bit is set

pub peer_none : (set k : ℕ) → k ≡ 0 → set ≡ with_peer set k
unfolding with_peer
peer_none set k e = rw (lt-leb 1 k (omega arith))

pub peer_high : (set k : ℕ) → room < k → set ≡ with_peer set k
unfolding with_peer
peer_high set k h = rw (le-leb 1 k (omega arith), lt-leb k room h)

pub peer_more : (set k : ℕ) → (k ≡ 0 → ⊥) → k ≤ room → bit_or set (2 ^ (k - 1)) ≡ with_peer set k
unfolding with_peer
peer_more set k d h = rw (le-leb 1 k (omega (arith, d)), le-leb k room h)

-- the set of the first k that pass f, made one after the other: the next one is added
pub next_peer : (f : ℕ → Bool) (k : ℕ) {set : ℕ} → k < room → set ≡ pack k f → f k ≡ true → with_peer set (k + 1) ≡ pack (k + 1) f
next_peer f k {set} l set_is passes =
    sym (peer_more set (k + 1) (λ e. omega (arith, e)) (omega arith))
    ∙ ap (λ (j : ℕ). bit_or set (2 ^ j)) {x = k + 1 - 1} {y = k} (omega arith)
    ∙ omega (arith, rw one-mul at (or_shifted_r 1 k set (rw set_is (pack-lt k f))), set_is, bits_in f k passes)

pub counted : (set : ℕ) → set < 2 ^ room → machine.ones set ≡ count_in set
unfolding count_in
counted set l = ones_members room set l

-- the members that two sets have in common
common : (a b : ℕ) → count_in (bit_and a b) ≡ weight ones room (λ k. member a k && member b k)
unfolding count_in member
common a b = weight_ext ones room (member (bit_and a b)) (λ k. member a k && member b k) (λ k l m. in_both k)
  where
    in_both : (k : ℕ) → member (bit_and a b) k ≡ (member a k && member b k)
    in_both zero = refl
    in_both (suc k) = bit-and a b k

-- a set weighs as many as it has members, the even ones once more and the heavy ones twice

one_more : (x y z : ℕ) (a even heavy : Bool)
    → (x + cond a 1 0) + (y + cond (a && even) 1 0) + 2 * (z + cond (a && heavy) 1 0)
    ≡ (x + y + 2 * z) + cond a (1 + digit even + 2 * digit heavy) 0
one_more x y z true true true = omega arith
one_more x y z true true false = omega arith
one_more x y z true false true = omega arith
one_more x y z true false false = omega arith
one_more x y z false even heavy = omega arith

by_features : (h : Head) (n : ℕ) (S : ℕ → Bool)
    → weight ones n S + weight ones n (λ k. S k && member (even_in h) k) + 2 * weight ones n (λ k. S k && member (heavy_in h) k)
    ≡ weight (weight_of h) n S
unfolding weight weight_of
by_features h zero S = refl
by_features h (suc n) S =
    one_more _ _ _ (S (suc n)) (member (even_in h) (suc n)) (member (heavy_in h) (suc n))
    ∙ ap (λ (w : ℕ). w + cond (S (suc n)) (weight_of h (suc n)) 0) (by_features h n S)

-- the bits of four sets that share a word are those of each
ones-joined : (a b c d : ℕ) → a < 65536 → b < 65536 → c < 65536
    → machine.ones (joined a b c d) ≡ machine.ones a + machine.ones b + machine.ones c + machine.ones d
ones-joined a b c d x y z =
    let high = machine.ones_cat 16 d c z in
    let middle = machine.ones_cat 16 (d * 65536 + c) b y in
    let whole = machine.ones_cat 16 ((d * 65536 + c) * 65536 + b) a x in
    ap machine.ones {x = joined a b c d} {y = ((d * 65536 + c) * 65536 + b) * 65536 + a} (omega arith)
    ∙ omega (arith, whole, middle, high)

pub weighed : (h : Head) (set : ℕ) {even heavy : ℕ} → set < 65536 → even ≡ even_in h → heavy ≡ heavy_in h
    → machine.ones (joined set (bit_and set even) (bit_and set heavy) (bit_and set heavy))
    ≡ weight (weight_of h) room (member set)
unfolding count_in
weighed h set {even} {heavy} l even_is heavy-is =
    let small : (x : ℕ) → x < 65536 → bit_and set x < 65536 = λ x m. and_lt 16 set x l m in
    let evens = small even (omega (arith, even_is)) in
    let heavies = small heavy (omega (arith, heavy-is)) in
    let members = counted set l in
    let even-there = counted (bit_and set even) evens ∙ ap (λ (x : ℕ). count_in (bit_and set x)) even_is ∙ common set (even_in h) in
    let heavy-there = counted (bit_and set heavy) heavies ∙ ap (λ (x : ℕ). count_in (bit_and set x)) heavy-is ∙ common set (heavy_in h) in
    ones-joined set (bit_and set even) (bit_and set heavy) (bit_and set heavy) l evens heavies
    ∙ omega (arith, members, even-there, heavy-there)
    ∙ by_features h room (member set)

-- where nobody is even or heavy, it weighs as many as it has members

nobody_in : (k : ℕ) → member 0 k ≡ false
unfolding member
nobody_in zero = refl
nobody_in (suc k) = bit-none k

one_each : (h : Head) → h.sets / 65536 ≡ 0 → (k : ℕ) → weight_of h k ≡ 1
unfolding weight_of
one_each h nobody k =
    let no-even : even_in h ≡ 0 = omega (arith, nobody) in
    let no-heavy : heavy_in h ≡ 0 = omega (arith, nobody) in
    rw (no-even, no-heavy, nobody_in k)

pub reached : (h : Head) (set : ℕ) {w : ℕ} → w ≡ weight (weight_of h) room (member set) → leb h.t w ≡ reaches h set
unfolding reaches
reached h set e = ap (leb h.t) e

pub reached_counted : (h : Head) (set : ℕ) {n : ℕ} → n ≡ count_in set → h.sets / 65536 ≡ 0 → leb h.t n ≡ reaches h set
unfolding count_in
reached_counted h set n-is nobody =
    reached h set (n-is ∙ weight_same ones (weight_of h) room (member set) (λ k l m. sym (one_each h nobody k)))
