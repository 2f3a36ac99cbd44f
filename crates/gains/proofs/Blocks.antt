-- A block of steps: what is fresh in it, while the steps before it are struck.
use Prim.Native.Nat.{ℕ, suc, ◌+◌, ◌*◌, ◌<◌, ◌≤◌}
use native.Mathlib.Decide.{ℕ_discrete, dec_lt}
use native.Mathlib.Omega.{arith}
use mathlib.Core.Bool.{Bool, true, false, ◌&&◌, ◌||◌, not, or-false, and-false, and-true}
use mathlib.Core.List.{List}
use mathlib.Core.Path.{◌≡◌, sym, ap, ◌∙◌}
use mathlib.Core.Logic.{◌⊎◌, inl, inr}
use lib.ListN.{length, set, length-set}
use lib.Seq.{get_or-set_same, get_or-set_other}
use borrow.Author.Tests.{eq-eqb, ne_eqb}
use Rattle.std.specs.Prelude.{Some, None}
use Rattle.base.specs.Bits.{digit}
use Rattle.base.specs.Bytes.{byte_at, same_bytes}
use Rattle.base.specs.Tab.{tab, FilledTo}
use Rattle.base.proofs.Below.{any_at}
use Rattle.base.proofs.Bytes.{eq_of_same, same_sym, same_of_eq}
use Rattle.base.proofs.Truth.{either, is_false, split, and_l, and_r, or_r, true_false}
use Rattle.gains.specs.Gain.{is_op, is_among}
use Rattle.gains.specs.File.{file_call, calls_to}
use Rattle.gains.specs.Chains.{last_where, below, is_new, new_digit, new_like, is_fresh, Fresh}
use Rattle.gains.proofs.Counted.{op_read, among_more, among_before}
use Rattle.gains.proofs.Last.{above, above-below, last_low, last_passes, last_any}

-- at most one step is new and has the bytes of c

module _ (s c : List ℕ) where
  like_new : (i : ℕ) → new_like s c i ≡ true → is_new s i ≡ true
  unfolding new_like
  like_new i e = and_l (is_new s i) _ e

  like_same : (i : ℕ) → new_like s c i ≡ true → c ≡ file_call s i
  unfolding new_like
  like_same i e = eq_of_same c (file_call s i) (and_r (is_new s i) _ e)

  like_16 : (i : ℕ) → new_like s c i ≡ true → is_op 16 c ≡ true
  unfolding is_new
  like_16 i e = ap (is_op 16) (like_same i e) ∙ and_l (is_op 16 (file_call s i)) _ (like_new i e)

  like_after : (i k : ℕ) → i < k → new_like s c i ≡ true → new_like s c k ≡ true → ⊥
  unfolding is_new
  like_after i k l e f =
      let same = same_of_eq (file_call s k) (file_call s i) (sym (like_same k f) ∙ like_same i e) in
      let among = among_before s (file_call s k) i k l same in
      true_false (sym (and_r (is_op 16 (file_call s k)) _ (like_new k f)) ∙ ap not among)

  like_once : (i k : ℕ) → new_like s c i ≡ true → new_like s c k ≡ true → (i ≡ k → ⊥) → ⊥
  like_once i k e f d = go (dec_lt i k)
    where
      go : Dec (i < k) → ⊥
      go (yes l) = like_after i k l e f
      go (no l) = like_after k i (omega (arith, l, d)) f e

-- what is fresh: before any step of s is struck, after one more, and after all

pub fresh_start : (s block fresh : List ℕ) (k m : ℕ) → FilledTo 0 8192 (new_digit block) k fresh → k ≤ 8192 → k ≡ m
    → Fresh s 0 block m fresh
unfolding new_digit is_fresh calls_to tab is_among
fresh_start s block fresh k m F l e = record {
  long = omega (arith, F.long);
  each = λ i h. F.each i (omega arith) ∙ ap digit (sym (and-true (is_new block i)));
}

module _ (s : List ℕ) (j : ℕ) (block : List ℕ) (k : ℕ) (fresh : List ℕ) (F : Fresh s j block k fresh) where
  -- a step of the block that is other than step j stays as it is
  stays : (i : ℕ) → new_like block (file_call s j) i ≡ false → is_fresh s j block i ≡ is_fresh s (j + 1) block i
  unfolding new_like is_fresh
  stays i e = go (either (is_new block i))
    where
      go : (is_new block i ≡ true) ⊎ (is_new block i ≡ false) → is_fresh s j block i ≡ is_fresh s (j + 1) block i
      go (inl n) =
          let same = same_bytes (file_call s j) (file_call block i) in
          let other = same_sym (file_call block i) (file_call s j) ∙ sym (ap (λ (b : Bool). b && same) n) ∙ e in
          ap (λ (b : Bool). is_new block i && not b)
          (sym (among_more s (file_call block i) j ∙ ap (λ (b : Bool). is_among (file_call block i) (calls_to s j) || b) other
          ∙ or-false (is_among (file_call block i) (calls_to s j))))
      go (inr n) =
          ap (λ (b : Bool). b && not (is_among (file_call block i) (calls_to s j))) n
          ∙ sym (ap (λ (b : Bool). b && not (is_among (file_call block i) (calls_to s (j + 1)))) n)

  -- the one that is step j is not fresh
  struck : (i : ℕ) → new_like block (file_call s j) i ≡ true → is_fresh s (j + 1) block i ≡ false
  unfolding is_fresh
  struck i e =
      let same = same_of_eq (file_call block i) (file_call s j) (sym (like_same block (file_call s j) i e)) in
      let among = among_more s (file_call block i) j ∙ or_r (is_among (file_call block i) (calls_to s j)) _ same in
      ap (λ (b : Bool). is_new block i && not b) among ∙ and-false (is_new block i)

  none_struck : ((i : ℕ) → i < k → new_like block (file_call s j) i ≡ false) → Fresh s (j + 1) block k fresh
  none_struck n = record { long = F.long; each = λ i l. F.each i l ∙ ap digit (stays i (n i l)) }

  pub fresh-other : {op : ℕ} → 13 * j + 13 ≤ length s → op ≡ byte_at s (13 * j) → (op ≡ 16 → ⊥) → Fresh s (j + 1) block k fresh
  fresh-other {op} room q n =
      none_struck (λ i l. is_false _ (λ e. split (like_16 block (file_call s j) i e) (op_read s j room q 16 ∙ ne_eqb op 16 n)))

  pub fresh-not-found : None ≡ below (last_where (new_like block (file_call s j)) k) → Fresh s (j + 1) block k fresh
  unfolding above
  fresh-not-found told =
      let last = last_where (new_like block (file_call s j)) k in
      let zero-last : last ≡ 0 = sym (above-below last) ∙ ap above (sym told) in
      let none = sym (last_any (new_like block (file_call s j)) k) ∙ eq-eqb _ 0 zero-last in
      none_struck (λ i l. is_false _ (λ e. true_false (sym none ∙ ap not (any_at (new_like block (file_call s j)) i k l e))))

  module _ {at : ℕ} (told : Some at ≡ below (last_where (new_like block (file_call s j)) k)) where
    is_last : suc at ≡ last_where (new_like block (file_call s j)) k
    unfolding above
    is_last = ap above told ∙ above-below (last_where (new_like block (file_call s j)) k)

    pub found-place : at < length fresh
    found-place = omega (arith, is_last, last_low (new_like block (file_call s j)) k, F.long)

    pub fresh_struck : Fresh s (j + 1) block k (set fresh at 0)
    fresh_struck = record {
      long = omega (arith, length-set fresh at 0, F.long);
      each = λ i l. go i l (ℕ_discrete i at);
    }
      where
        here : new_like block (file_call s j) at ≡ true
        here = last_passes (new_like block (file_call s j)) k at (sym is_last)

        go : (i : ℕ) → i < k → Dec (i ≡ at) → byte_at (set fresh at 0) i ≡ digit (is_fresh s (j + 1) block i)
        go i l (yes e) = rw e (get_or-set_same fresh at 0 0 found-place ∙ ap digit (sym (struck at here)))
        go i l (no d) =
            get_or-set_other fresh at i 0 0 d ∙ F.each i l
            ∙ ap digit (stays i (is_false _ (λ e. like_once block (file_call s j) i at e here d)))
