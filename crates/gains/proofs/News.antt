-- New steps: a call is among all steps exactly if it is among these. How chains grow by one step.
use Prim.Native.Nat.{ℕ, zero, suc, ◌+◌, ◌*◌, ◌<◌, ◌≤◌}
use native.Mathlib.Decide.{ℕ_discrete}
use native.Mathlib.Nat.{not-suc-le-zero}
use native.Mathlib.Numerals.{add-one}
use native.Mathlib.Omega.{arith}
use mathlib.Core.Bool.{Bool, true, false, ◌&&◌, ◌||◌, not, and-true, or-true}
use mathlib.Core.List.{List}
use mathlib.Core.Path.{◌≡◌, refl, sym, ap, ap₂, subst, ◌∙◌}
use mathlib.Core.Logic.{◌⊎◌, inl, inr}
use lib.Dec.{eqb}
use lib.ListN.{length, get_or, set, take, replicate, length-set, length-replicate}
use lib.Seq.{length-take-le, get_or-take, get_or-set_same, get_or-set_other}
use borrow.Author.Tests.{eq-eqb, ne_eqb, not-true, not-false}
use Rattle.std.specs.Prelude.{Option}
use Rattle.std.specs.Option.{is_some}
use Rattle.base.specs.Below.{any}
use Rattle.base.specs.Bytes.{byte_at, part, same_bytes}
use Rattle.base.specs.Tab.{tab, FilledTo}
use Rattle.base.proofs.Bytes.{zeros-at, eq_of_same}
use Rattle.base.proofs.Tab.{filled_more}
use Rattle.base.proofs.Truth.{either, split, and_i, and_false}
use Rattle.gains.specs.Gain.{is_op, is_among}
use Rattle.gains.specs.File.{file_call, calls_to}
use Rattle.gains.specs.Chains.{last_where, below, mix_of, is_new, new_of, new_like, Chains}
use Rattle.gains.proofs.Counted.{op_read, among_more}
use Rattle.gains.proofs.Chains.{like_other}
use Rattle.gains.proofs.Last.{last_hit, last_miss, last_any}

or-not : (a : Bool) → (a || not a) ≡ true
or-not true = refl
or-not false = refl

-- a call 16 stands among the first k steps exactly if a new one of them has its bytes
module _ (s c : List ℕ) (is16 : is_op 16 c ≡ true) where
  like_here : (k : ℕ) → same_bytes c (file_call s k) ≡ true → new_like s c k ≡ not (is_among c (calls_to s k))
  unfolding new_like is_new
  like_here k e =
      let here : is_new s k ≡ (is_op 16 c && not (is_among c (calls_to s k))) =
      ap (λ (d : List ℕ). is_op 16 d && not (is_among d (calls_to s k))) (sym (eq_of_same c (file_call s k) e)) in
      ap₂ ◌&&◌ here e ∙ rw (is16, and-true (not (is_among c (calls_to s k))))

  among_new : (k : ℕ) → is_among c (calls_to s k) ≡ any k (new_like s c)
  unfolding calls_to tab is_among any
  among_new zero = refl
  among_new (suc k) =
      ap (λ (n : ℕ). is_among c (calls_to s n)) (sym (add-one k)) ∙ among_more s c k ∙ go (either (same_bytes c (file_call s k))) (among_new k)
    where
      go : (same_bytes c (file_call s k) ≡ true) ⊎ (same_bytes c (file_call s k) ≡ false) → is_among c (calls_to s k) ≡ any k (new_like s c)
          → (is_among c (calls_to s k) || same_bytes c (file_call s k)) ≡ (any k (new_like s c) || new_like s c k)
      go (inl e) r =
          ap (λ (b : Bool). is_among c (calls_to s k) || b) e ∙ or-true (is_among c (calls_to s k))
          ∙ sym (ap₂ ◌||◌ (sym r) (like_here k e) ∙ or-not (is_among c (calls_to s k)))
      go (inr e) r = ap₂ ◌||◌ r (e ∙ sym (like_other s c k e))

-- a step is found, or none

twice : (b : Bool) → not (not b) ≡ b
twice true = refl
twice false = refl

some_below : (n : ℕ) → is_some (below n) ≡ not (eqb n 0)
unfolding below
some_below zero = refl
some_below (suc i) = rw (ne_eqb (suc i) 0 (λ e. omega (arith, e)))

none_found : {r : Option ℕ} {b : Bool} (n : ℕ) → is_some r ≡ not b → r ≡ below n → b ≡ eqb n 0
none_found {r} {b} n e q = sym (twice b) ∙ ap not (sym e ∙ ap is_some q ∙ some_below n) ∙ twice (eqb n 0)

-- whether step k is new
module _ (s : List ℕ) (k : ℕ) (room : 13 * k + 13 ≤ length s) {op : ℕ} (q : op ≡ byte_at s (13 * k)) where
  pub no_backing : (op ≡ 16 → ⊥) → false ≡ is_new s k
  unfolding is_new
  no_backing n = rw (op_read s k room q 16, ne_eqb op 16 n)

  pub found_new : {r : Option ℕ} {b : Bool} {m : ℕ} → op ≡ 16 → is_some r ≡ not b → r ≡ below (last_where (new_like s (file_call s k)) m) → k ≡ m
      → b ≡ is_new s k
  unfolding is_new
  found_new {r} {b} {m} o none e n =
      none_found _ none e ∙
      let is16 : is_op 16 (file_call s k) ≡ true = op_read s k room q 16 ∙ eq-eqb op 16 o in
      ap (λ (x : ℕ). eqb x 0) (ap (last_where (new_like s (file_call s k))) (sym n)) ∙ last_any (new_like s (file_call s k)) k
      ∙ ap not (sym (among_new s (file_call s k) is16 k)) ∙ rw is16

pub not_new : (s : List ℕ) (k : ℕ) {r : Bool} → r ≡ is_new s k → not r ≡ true → false ≡ is_new s k
not_new s k {r} e t = sym (not-true r t) ∙ e

pub new_one : (s : List ℕ) (k : ℕ) {r : Bool} → r ≡ is_new s k → not r ≡ false → true ≡ is_new s k
new_one s k {r} e t = sym (not-false r t) ∙ e

-- the chains: of no step, with a part of the links, of one step more

pub chains_none : (s heads links : List ℕ) → heads ≡ replicate 4096 0 → Chains s 0 heads links
unfolding last_where
chains_none s heads links e = record {
  room = omega arith;
  wide = ap length e ∙ length-replicate {A = ℕ} 4096 0;
  long = omega arith;
  head = λ h l. ap (λ (a : List ℕ). get_or a h 0) e ∙ zeros-at 4096 h;
  link = λ i l n. absurd (not-suc-le-zero l);
}

pub links_to : {s heads links : List ℕ} {k : ℕ} → Chains s k heads links → k ≡ length (take k links)
links_to {s} {heads} {links} {k} C = sym (length-take-le k links C.long)

pub chains_part : (s heads links : List ℕ) (k : ℕ) → Chains s k heads links → Chains s (length (take k links)) heads (take k links)
chains_part s heads links k C =
    let long : length (take k links) ≡ k = sym (links_to C) in
    record {
      room = omega (arith, C.room, long);
      wide = C.wide;
      long = omega arith;
      head = λ h l. C.head h l ∙ ap (last_where (new_of s h)) (sym long);
      link = λ i l n. get_or-take k links i 0 (omega (arith, long)) ∙ C.link i (omega (arith, long)) n;
    }

module _ (s heads links : List ℕ) (k : ℕ) (room : 13 * k + 13 ≤ length s) (small : k < 8192) (long : length links ≡ 8192)
    (C : Chains s k heads links) where
  pub chains_same : {r : Bool} → r ≡ is_new s k → not r ≡ true → Chains s (k + 1) heads links
  unfolding new_of
  chains_same {r} e t = record {
    room = omega arith;
    wide = C.wide;
    long = omega arith;
    head = λ h l. C.head h l ∙ sym (ap (last_where (new_of s h)) (add-one k) ∙ last_miss (new_of s h) k (rw none));
    link = λ i l n. go i l n (ℕ_discrete i k);
  }
    where
      none : is_new s k ≡ false
      none = sym e ∙ not-true r t

      go : (i : ℕ) → i < k + 1 → is_new s i ≡ true → Dec (i ≡ k)
          → get_or links i 0 ≡ last_where (new_of s (mix_of (file_call s i))) i
      go i l n (yes z) = split (subst (λ (m : ℕ). is_new s m ≡ true) z n) none
      go i l n (no z) = C.link i (omega arith) n

  pub chains_more : {r : Bool} {a : List ℕ} {h : ℕ} → r ≡ is_new s k → not r ≡ false → a ≡ part s (13 * k) 13 → h ≡ mix_of a → h < 4096
      → Chains s (k + 1) (set heads h (k + 1)) (set links k (get_or heads h 0))
  unfolding new_of file_call
  chains_more {r} {a} {h} e t p q l = record {
    room = omega arith;
    wide = length-set heads h (k + 1) ∙ C.wide;
    long = omega (arith, length-set links k (get_or heads h 0));
    head = λ g m. first g m (ℕ_discrete g h);
    link = λ i m n. go i m n (ℕ_discrete i k);
  }
    where
      is_h : h ≡ mix_of (file_call s k)
      is_h = q ∙ ap mix_of p

      new : is_new s k ≡ true
      new = sym e ∙ not-false r t

      first : (g : ℕ) → g < 4096 → Dec (g ≡ h) → get_or (set heads h (k + 1)) g 0 ≡ last_where (new_of s g) (k + 1)
      first g m (yes z) = rw (z, add-one k)
          (get_or-set_same heads h (suc k) 0 (omega (arith, C.wide))
          ∙ sym (last_hit (new_of s h) k (and_i _ _ new (eq-eqb _ _ (sym is_h)))))
      first g m (no z) =
          get_or-set_other heads h g (k + 1) 0 z ∙ C.head g m
          ∙ sym (ap (last_where (new_of s g)) (add-one k)
          ∙ last_miss (new_of s g) k (rw (ne_eqb (mix_of (file_call s k)) g (λ w. z (sym w ∙ sym is_h))) (and_false (is_new s k))))

      go : (i : ℕ) → i < k + 1 → is_new s i ≡ true → Dec (i ≡ k)
          → get_or (set links k (get_or heads h 0)) i 0 ≡ last_where (new_of s (mix_of (file_call s i))) i
      go i m n (yes z) = rw z
          (get_or-set_same links k (get_or heads h 0) 0 (omega arith) ∙ C.head h l ∙ ap (λ (x : ℕ). last_where (new_of s x) k) is_h)
      go i m n (no z) = get_or-set_other links k i (get_or heads h 0) 0 z ∙ C.link i (omega arith) n

-- the marks of new steps: one more

pub marked_more : (f : ℕ → ℕ) (a : List ℕ) (k n v : ℕ) → FilledTo 0 8192 f k a → k < n → n ≤ 8192 → v ≡ f k
    → FilledTo 0 8192 f (k + 1) (set a k v)
marked_more f a k n v F l m e = filled_more 0 8192 f k a v (omega arith) e F
