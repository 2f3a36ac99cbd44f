-- The steps of a file, and how they are counted one after the other.
use Prim.Native.Nat.{ℕ, zero, suc, ◌+◌, ◌-◌, ◌*◌, ◌/◌, ◌<◌, ◌≤◌, min}
use native.Mathlib.Decide.{ℕ_discrete}
use native.Mathlib.Numerals.{add-one}
use native.Mathlib.Omega.{arith}
use mathlib.Core.Bool.{Bool, true, false, ◌&&◌, ◌||◌}
use mathlib.Core.List.{List, [], ◌∷◌, ◌++◌}
use mathlib.Core.Logic.{◌⊎◌, inl, inr}
use mathlib.Core.Path.{◌≡◌, refl, sym, ap, ap₂, subst, ◌∙◌}
use lib.Dec.{eqb}
use lib.ListN.{length, set, drop, replicate, length-set, length-drop, length-replicate}
use lib.Seq.{length-take-le, get_or-take, get_or-drop, get_or-set_same, get_or-set_other}
use mir.Val.{bool_byte}
use borrow.Author.Tests.{eq-eqb, ne_eqb}
use Rattle.base.specs.Bits.{digit}
use Rattle.base.specs.Bytes.{byte_at, part, same_bytes}
use Rattle.base.specs.Sums.{sum}
use Rattle.base.specs.Tab.{tab}
use Rattle.base.proofs.Bytes.{zeros-at}
use Rattle.base.proofs.Sums.{sum_ext}
use Rattle.base.proofs.Tab.{tab_more}
use Rattle.base.proofs.Truth.{or_l, or_r}
use Rattle.gains.specs.Gain.{is_op, count_of, is_among, different_of, adds, back_of, gain}
use Rattle.gains.proofs.Counting.{count-one, among_one}
use Rattle.gains.specs.File.{file_call, calls_to, file_calls, Turns}

-- a step's bytes are those of the file

module _ (s : List ℕ) (k : ℕ) (room : 13 * k + 13 ≤ length s) where
  call_length : length (file_call s k) ≡ 13
  unfolding file_call part
  call_length = length-take-le 13 (drop (13 * k) s) (omega (arith, length-drop (13 * k) s))

  call_byte : (i : ℕ) → i < 13 → byte_at (file_call s k) i ≡ byte_at s (13 * k + i)
  unfolding file_call part
  call_byte i l = get_or-take 13 (drop (13 * k) s) i 0 l ∙ get_or-drop (13 * k) s i 0

  op_is : (n : ℕ) → is_op n (file_call s k) ≡ eqb (byte_at s (13 * k)) n
  unfolding is_op
  op_is n = rw (call_length, call_byte 0 (omega arith)) (ap (λ (i : ℕ). eqb (byte_at s i) n) {x = 13 * k + 0} {y = 13 * k} (omega arith))

  module _ {op : ℕ} (q : op ≡ byte_at s (13 * k)) where
    pub op_read : (n : ℕ) → is_op n (file_call s k) ≡ eqb op n
    op_read n = op_is n ∙ ap (λ (x : ℕ). eqb x n) (sym q)

    -- hash, publish and false hash
    adds-read : adds (file_call s k) ≡ (eqb op 9 || (eqb op 12 || eqb op 15))
    unfolding adds
    adds-read = ap₂ ◌||◌ (op_read 9) (ap₂ ◌||◌ (op_read 12) (op_read 15))

    pub adds_some : (op ≡ 9) ⊎ ((op ≡ 12) ⊎ (op ≡ 15)) → true ≡ adds (file_call s k)
    adds_some (inl e) = rw (adds-read, e)
    adds_some (inr (inl e)) = rw (adds-read, e)
    adds_some (inr (inr e)) = rw (adds-read, e)

    pub adds_none : ((op ≡ 9) ⊎ ((op ≡ 12) ⊎ (op ≡ 15)) → ⊥) → false ≡ adds (file_call s k)
    adds_none n =
        rw (adds-read, ne_eqb op 9 (λ e. n (inl e)), ne_eqb op 12 (λ e. n (inr (inl e))), ne_eqb op 15 (λ e. n (inr (inr e))))

-- what a test counts, 1 or 0
pub byte_digit : {a b : Bool} → a ≡ b → bool_byte a ≡ digit b
byte_digit {a} {b} e = ap bool_byte e ∙ go b
  where
    go : (b : Bool) → bool_byte b ≡ digit b
    go true = refl
    go false = refl

-- one step more

pub more_calls : (s : List ℕ) (k : ℕ) → calls_to s (k + 1) ≡ calls_to s k ++ (file_call s k ∷ [])
unfolding calls_to
more_calls s k = ap (λ (n : ℕ). tab n (file_call s)) (add-one k) ∙ tab_more k (file_call s)

pub counted_none : (s : List ℕ) → 0 ≡ count_of adds (calls_to s 0)
unfolding calls_to tab count_of
counted_none s = refl

pub counted_more : (s : List ℕ) (k r d : ℕ) → r ≡ count_of adds (calls_to s k) → d ≡ digit (adds (file_call s k))
    → r + d ≡ count_of adds (calls_to s (k + 1))
counted_more s k r d e f = ap₂ (λ (x y : ℕ). x + y) e f ∙ sym
    (ap (count_of adds) (more_calls s k) ∙ count-one adds (calls_to s k) (file_call s k))

-- among those before

pub among_more : (s c : List ℕ) (j : ℕ) → is_among c (calls_to s (j + 1)) ≡ (is_among c (calls_to s j) || same_bytes c (file_call s j))
among_more s c j = ap (is_among c) (more_calls s j) ∙ among_one c (calls_to s j) (file_call s j)

among_later : (s c : List ℕ) (j i : ℕ) → is_among c (calls_to s j) ≡ true → is_among c (calls_to s (j + i)) ≡ true
among_later s c j zero e = subst (λ (n : ℕ). is_among c (calls_to s n) ≡ true) (omega arith) e
among_later s c j (suc i) e =
    subst (λ (n : ℕ). is_among c (calls_to s n) ≡ true) {x = j + i + 1} {y = j + suc i} (omega arith)
    (among_more s c (j + i) ∙ or_l _ _ (among_later s c j i e))

pub among_before : (s c : List ℕ) (j k : ℕ) → j < k → same_bytes c (file_call s j) ≡ true → is_among c (calls_to s k) ≡ true
among_before s c j k l e =
    subst (λ (n : ℕ). is_among c (calls_to s n) ≡ true) {x = j + 1 + (k - (j + 1))} {y = k} (omega arith)
    (among_later s c (j + 1) (k - (j + 1)) (among_more s c j ∙ or_r (is_among c (calls_to s j)) _ e))

-- backs of each peer byte

pub no_turns : (s : List ℕ) → Turns s 0 (replicate 256 0)
unfolding calls_to tab count_of
no_turns s = record { long = length-replicate {A = ℕ} 256 0; each = λ j l. omega (arith, zeros-at 256 j) }

module _ (s : List ℕ) (k : ℕ) (turns : List ℕ) (room : 13 * k + 13 ≤ length s) (U : Turns s k turns) {op : ℕ} (q : op ≡ byte_at s (13 * k))
  where
    -- the count of each peer byte
    backs_more : (i : ℕ) → count_of (back_of i) (calls_to s (k + 1)) ≡ count_of (back_of i) (calls_to s k) + digit (back_of i (file_call s k))
    backs_more i = ap (count_of (back_of i)) (more_calls s k) ∙ count-one (back_of i) (calls_to s k) (file_call s k)

    back_is : (i : ℕ) → back_of i (file_call s k) ≡ (eqb op 11 && eqb (byte_at s (13 * k + 1)) i)
    unfolding back_of
    back_is i = rw (op_read s k room q 11, call_byte s k room 1 (omega arith))

    pub no_turn : (op ≡ 11 → ⊥) → Turns s (k + 1) turns
    no_turn n = record { long = U.long; each = λ i l. U.each i l ∙ ap (λ (m : ℕ). min 8 m) (same i) }
      where
        same : (i : ℕ) → count_of (back_of i) (calls_to s k) ≡ count_of (back_of i) (calls_to s (k + 1))
        same i =
            let none : back_of i (file_call s k) ≡ false = back_is i ∙ rw (ne_eqb op 11 n) in
            omega (arith, backs_more i, ap digit none)

    module _ (is : op ≡ 11) {j : ℕ} (at : j ≡ byte_at s (13 * k + 1)) where
      of_j : (i : ℕ) → back_of i (file_call s k) ≡ eqb j i
      of_j i = back_is i ∙ rw (is, sym at)

      other : (i : ℕ) → (i ≡ j → ⊥) → count_of (back_of i) (calls_to s k) ≡ count_of (back_of i) (calls_to s (k + 1))
      other i d = omega (arith, backs_more i, ap digit (of_j i ∙ ne_eqb j i (λ e. d (sym e))))

      this : count_of (back_of j) (calls_to s (k + 1)) ≡ count_of (back_of j) (calls_to s k) + 1
      this = omega (arith, backs_more j, ap digit (of_j j ∙ eq-eqb j j refl))

      pub one_turn : {v : ℕ} → j < 256 → v ≡ min (byte_at turns j + 1) 8 → Turns s (k + 1) (set turns j v)
      one_turn {v} small is = record { long = length-set turns j v ∙ U.long; each = λ i l. go i l (ℕ_discrete i j) }
        where
          go : (i : ℕ) → i < 256 → Dec (i ≡ j) → byte_at (set turns j v) i ≡ min 8 (count_of (back_of i) (calls_to s (k + 1)))
          go i l (yes e) = rw e (get_or-set_same turns j v 0 (omega (arith, U.long)) ∙ omega (arith, is, U.each j small, this))
          go i l (no d) = get_or-set_other turns j i v 0 d ∙ U.each i l ∙ ap (λ (m : ℕ). min 8 m) (other i d)

-- all three parts

pub gain_is : (s turns : List ℕ) {n a b t : ℕ} → n ≡ length s / 13 → Turns s n turns → a ≡ count_of adds (calls_to s n)
    → b ≡ different_of (is_op 16) (calls_to s n) → t ≡ sum 256 (byte_at turns) → a + b + t ≡ gain (file_calls s)
unfolding gain
gain_is s turns {n} m U p q e =
    let backs = sum_ext 256 (byte_at turns) (λ j. min 8 (count_of (back_of j) (calls_to s n))) U.each in
    rw (p, q, e, backs) (ap (λ (k : ℕ). gain (calls_to s k)) m)
