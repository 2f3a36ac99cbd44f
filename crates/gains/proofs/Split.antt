-- A file cut at step b: the steps of the block that starts there, and what they add to the different steps 16.
use Prim.Native.Nat.{ℕ, zero, suc, ◌+◌, ◌-◌, ◌*◌, ◌<◌, ◌≤◌}
use native.Mathlib.Nat.{add-zero}
use native.Mathlib.Numerals.{add-one}
use native.Mathlib.Omega.{arith}
use mathlib.Core.Bool.{Bool, true, false, ◌&&◌, ◌||◌, not, or-false, or_assoc}
use mathlib.Core.List.{List, [], ◌∷◌}
use mathlib.Core.Path.{◌≡◌, refl, sym, ap, ap₂, subst, ◌∙◌}
use lib.ListN.{length, take, drop, length-drop}
use lib.Seq.{length-take-le, take-take, drop-drop, take-nil}
use Rattle.base.specs.Bits.{digit}
use Rattle.base.specs.Bytes.{byte_at, part, same_bytes}
use Rattle.base.specs.Sums.{sum}
use Rattle.base.specs.Tab.{tab}
use Rattle.base.proofs.Tab.{length-tab}
use Rattle.gains.specs.Gain.{is_op, is_among, different_of}
use Rattle.gains.specs.File.{file_call, calls_to}
use Rattle.gains.specs.Chains.{is_new, is_fresh, Fresh}
use Rattle.gains.proofs.Counting.{different-one, different_few}
use Rattle.gains.proofs.Counted.{more_calls, among_more}

-- a part of a part

drop-take : (m n : ℕ) (l : List ℕ) → drop m (take (m + n) l) ≡ take n (drop m l)
drop-take zero n l = ap (λ (k : ℕ). take k l) {x = 0 + n} {y = n} (omega arith)
drop-take (suc m) n [] = ap (drop (suc m)) (take-nil (suc m + n)) ∙ sym (take-nil n)
drop-take (suc m) n (x ∷ l) =
    ap (λ (k : ℕ). drop (suc m) (take k (x ∷ l))) {x = suc m + n} {y = suc (m + n)} (omega arith) ∙ drop-take m n l

part-part : (s : List ℕ) (a b i n : ℕ) → i + n ≤ b → part (part s a b) i n ≡ part s (a + i) n
unfolding part
part-part s a b i n l =
    ap (λ (k : ℕ). take n (drop i (take k (drop a s)))) {x = b} {y = i + (b - i)} (omega arith)
    ∙ ap (take n) (drop-take i (b - i) (drop a s)) ∙ take-take n (b - i) (drop i (drop a s)) (omega arith)
    ∙ ap (take n) (drop-drop i a s)

pub block_long : (s block : List ℕ) (b size : ℕ) → block ≡ part s (13 * b) (13 * size) → 13 * (b + size) ≤ length s
    → 13 * size ≤ length block
unfolding part
block_long s block b size q l =
    omega (arith, ap length q, length-take-le (13 * size) (drop (13 * b) s) (omega (arith, length-drop (13 * b) s)))

both_not : (o a b : Bool) → (o && not (a || b)) ≡ ((o && not b) && not a)
both_not true true true = refl
both_not true true false = refl
both_not true false true = refl
both_not true false false = refl
both_not false a b = refl

module _ (s block : List ℕ) (b size : ℕ) (q : block ≡ part s (13 * b) (13 * size)) where
  call_in : (i : ℕ) → i < size → file_call block i ≡ file_call s (b + i)
  unfolding file_call
  call_in i l =
      ap (λ (x : List ℕ). part x (13 * i) 13) q ∙ part-part s (13 * b) (13 * size) (13 * i) 13 (omega arith)
      ∙ ap (λ (k : ℕ). part s k 13) {x = 13 * b + 13 * i} {y = 13 * (b + i)} (omega arith)

  -- the steps before step i of the block are those before the block and those of the block before i
  among_in : (c : List ℕ) (i : ℕ) → i ≤ size → is_among c (calls_to s (b + i)) ≡ (is_among c (calls_to s b) || is_among c (calls_to block i))
  unfolding calls_to tab is_among
  among_in c zero l = ap (λ (k : ℕ). is_among c (calls_to s k)) (add-zero b) ∙ sym (or-false (is_among c (calls_to s b)))
  among_in c (suc i) l =
      ap (λ (k : ℕ). is_among c (calls_to s k)) {x = b + suc i} {y = b + i + 1} (omega arith) ∙ among_more s c (b + i)
      ∙ ap₂ ◌||◌ (among_in c i (omega arith)) (ap (same_bytes c) (sym (call_in i l)))
      ∙ or_assoc (is_among c (calls_to s b)) (is_among c (calls_to block i)) (same_bytes c (file_call block i))
      ∙ ap (λ (x : Bool). is_among c (calls_to s b) || x)
      (sym (ap (λ (k : ℕ). is_among c (calls_to block k)) (sym (add-one i)) ∙ among_more block c i))

  new_in : (i : ℕ) → i < size → is_new s (b + i) ≡ is_fresh s b block i
  unfolding is_new is_fresh
  new_in i l =
      let c = file_call block i in
      ap (λ (d : List ℕ). is_op 16 d && not (is_among d (calls_to s (b + i)))) (sym (call_in i l))
      ∙ ap (λ (x : Bool). is_op 16 c && not x) (among_in c i (omega arith))
      ∙ both_not (is_op 16 c) (is_among c (calls_to s b)) (is_among c (calls_to block i))

  -- one step more, and all of the block

  next_new : (k : ℕ) → different_of (is_op 16) (calls_to s (k + 1)) ≡ different_of (is_op 16) (calls_to s k) + digit (is_new s k)
  unfolding is_new
  next_new k = ap (different_of (is_op 16)) (more_calls s k) ∙ different-one (is_op 16) (calls_to s k) (file_call s k)

  module _ (fresh : List ℕ) (F : Fresh s b block size fresh) where
    added : (n : ℕ) → n ≤ size
        → different_of (is_op 16) (calls_to s b) + sum n (byte_at fresh) ≡ different_of (is_op 16) (calls_to s (b + n))
    unfolding sum
    added zero l = omega (arith, ap (λ (k : ℕ). different_of (is_op 16) (calls_to s k)) (add-zero b))
    added (suc n) l = omega (
      arith,
      added n (omega arith),
      F.each n l ∙ ap digit (sym (new_in n l)),
      next_new (b + n),
      ap (λ (k : ℕ). different_of (is_op 16) (calls_to s k)) {x = b + n + 1} {y = b + suc n} (omega arith),
    )

pub block_added : (s block fresh : List ℕ) (b size m r : ℕ) → block ≡ part s (13 * b) (13 * size) → Fresh s b block m fresh → size ≡ m
    → r ≡ sum size (byte_at fresh)
    → different_of (is_op 16) (calls_to s b) + r ≡ different_of (is_op 16) (calls_to s (b + size))
block_added s block fresh b size m r q F e p =
    ap (λ (x : ℕ). different_of (is_op 16) (calls_to s b) + x) p
    ∙ added s block b size q fresh (subst (λ (k : ℕ). Fresh s b block k fresh) (sym e) F) size (omega arith)

-- block after block: none yet, one more, all

backings_few : (s : List ℕ) (n : ℕ) → different_of (is_op 16) (calls_to s n) ≤ n
unfolding calls_to
backings_few s n = omega (arith, different_few (is_op 16) (calls_to s n), length-tab n (file_call s))

pub backings_none : (s : List ℕ) → 0 ≡ different_of (is_op 16) (calls_to s 0)
unfolding calls_to tab different_of
backings_none s = refl

module _ (s : List ℕ) (b size r d : ℕ) (e : r ≡ different_of (is_op 16) (calls_to s b))
    (q : different_of (is_op 16) (calls_to s b) + d ≡ different_of (is_op 16) (calls_to s (b + size))) where
  pub backings_more : r + d ≡ different_of (is_op 16) (calls_to s (b + size))
  backings_more = ap (λ (x : ℕ). x + d) e ∙ q

  pub backings_low : r + d ≤ b + size
  backings_low = omega (arith, backings_more, backings_few s (b + size))

pub backings_all : (s : List ℕ) (b n r : ℕ) → r ≡ different_of (is_op 16) (calls_to s b) → b ≤ n → n ≤ b
    → r ≡ different_of (is_op 16) (calls_to s n)
backings_all s b n r e l m = e ∙ ap (λ (k : ℕ). different_of (is_op 16) (calls_to s k)) (omega arith)

pub backings_end : (s : List ℕ) (b n r : ℕ) → r ≡ different_of (is_op 16) (calls_to s b) → b ≤ n → r ≤ n
backings_end s b n r e l = omega (arith, backings_few s b)
