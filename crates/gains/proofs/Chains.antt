-- Chains of steps: what a walk along one finds.
use Prim.Native.Nat.{ℕ, suc, ◌+◌, ◌-◌, ◌*◌, ◌%◌, ◌<◌, ◌≤◌}
use native.Mathlib.Numerals.{add-one}
use native.Mathlib.Omega.{arith}
use mathlib.Core.Bool.{Bool, true, false}
use mathlib.Core.List.{List}
use mathlib.Core.Path.{◌≡◌, refl, sym, ap, ap₂, ◌∙◌}
use lib.Dec.{eqb}
use lib.ListN.{get_or}
use lib.Pointwise.{pointwise}
use borrow.Author.Tests.{eq-eqb, eqb-true}
use Rattle.std.specs.Prelude.{Some, None}
use Rattle.base.specs.Bytes.{byte_at, part, same_bytes}
use Rattle.base.proofs.Bytes.{eq_of_same, same_pointwise}
use Rattle.base.proofs.Truth.{and_i, and_l, and_r, and_false}
use Rattle.gains.specs.File.{file_call}
use Rattle.gains.specs.Chains.{last_where, below, mix_to, mix_of, is_new, new_of, new_like, Chains}
use Rattle.gains.proofs.Last.{last_hit, last_miss, last_low, last_passes, last_within}

-- the hash, byte after byte

pub mix_none : (c : List ℕ) → 0 ≡ mix_to c 0
unfolding mix_to
mix_none c = refl

pub mix_more : (c : List ℕ) (i h b : ℕ) → h ≡ mix_to c i → b ≡ byte_at c i → (h * 257 + b) % 4093 ≡ mix_to c (i + 1)
unfolding mix_to
mix_more c i h b e f = rw (add-one i, e, f)

-- the hash of a step
pub hash_is : (t : List ℕ) (j : ℕ) {a : List ℕ} {h : ℕ} → a ≡ part t (13 * j) 13 → h ≡ mix_of a → h ≡ mix_of (file_call t j)
unfolding file_call
hash_is t j p q = q ∙ ap mix_of p

-- the bytes of two steps
pub same_parts : (s t : List ℕ) (i j : ℕ) (a b : List ℕ) {r : Bool} → a ≡ part t (13 * j) 13 → b ≡ part s (13 * i) 13
    → r ≡ pointwise eqb a b → r ≡ same_bytes (file_call t j) (file_call s i)
unfolding file_call
same_parts s t i j a b p q e = e ∙ same_pointwise a b ∙ ap₂ same_bytes p q

-- a walk along the chain of c's hash: the step that has the bytes of c is where the walk stands, or before that

pub record Walk (s c : List ℕ) (k at : ℕ) : Type 0 where
  pub low : at ≤ k
  pub met : last_where (new_like s c) k ≡ last_where (new_like s c) at
  pub on : (i : ℕ) → at ≡ suc i → new_of s (mix_of c) i ≡ true

module _ (s c : List ℕ) where
  pub like_other : (i : ℕ) → same_bytes c (file_call s i) ≡ false → new_like s c i ≡ false
  unfolding new_like
  like_other i e = rw e (and_false (is_new s i))

  like_of : (i : ℕ) → new_like s c i ≡ true → new_of s (mix_of c) i ≡ true
  unfolding new_like new_of
  like_of i e =
      let same = eq_of_same c (file_call s i) (and_r (is_new s i) _ e) in
      and_i _ _ (and_l (is_new s i) _ e) (eq-eqb _ _ (ap mix_of (sym same)))

  -- it stands at the last of the chain below m
  stands : (k m at : ℕ) → m ≤ k → last_where (new_like s c) k ≡ last_where (new_like s c) m → at ≡ last_where (new_of s (mix_of c)) m
      → Walk s c k at
  stands k m at l e q = record {
    low = omega (arith, last_low (new_of s (mix_of c)) m);
    met = e ∙ last_within (new_like s c) (new_of s (mix_of c)) like_of m ∙ ap (last_where (new_like s c)) (sym q);
    on = λ i p. last_passes (new_of s (mix_of c)) m i (sym q ∙ p);
  }

pub walk_starts : (s t : List ℕ) (j k : ℕ) (heads links : List ℕ) {a : List ℕ} {h at : ℕ} → Chains s k heads links
    → a ≡ part t (13 * j) 13 → h ≡ mix_of a → h < 4096 → at ≡ get_or heads h 0 → Walk s (file_call t j) k at
unfolding file_call
walk_starts s t j k heads links {a} {h} {at} C p q l e =
    stands s (part t (13 * j) 13) k k at (omega arith) refl
    (e ∙ C.head h l ∙ ap (λ (x : ℕ). last_where (new_of s x) k) (q ∙ ap mix_of p))

module _ (s c : List ℕ) (k at : ℕ) (W : Walk s c k at) where
  module _ (l : 0 < at) where
    before : at ≡ suc (at - 1)
    before = omega arith

    here_of : new_of s (mix_of c) (at - 1) ≡ true
    here_of = W.on (at - 1) before

    here_new : is_new s (at - 1) ≡ true
    unfolding new_of
    here_new = and_l (is_new s (at - 1)) _ here_of

    here_mix : mix_of (file_call s (at - 1)) ≡ mix_of c
    unfolding new_of
    here_mix = eqb-true _ _ (and_r (is_new s (at - 1)) _ here_of)

    pub walk_found : {r : Bool} → r ≡ same_bytes c (file_call s (at - 1)) → r ≡ true → Some (at - 1) ≡ below (last_where (new_like s c) k)
    unfolding new_like below
    walk_found e t = ap below (sym (last_hit (new_like s c) (at - 1) (and_i _ _ here_new (sym e ∙ t)))
        ∙ sym (W.met ∙ ap (last_where (new_like s c)) before))

    -- the next one of the chain
    module _ {heads links : List ℕ} (C : Chains s k heads links) {x : ℕ} (q : x ≡ get_or links (at - 1) 0) where
      next_is : x ≡ last_where (new_of s (mix_of c)) (at - 1)
      next_is =
          q ∙ C.link (at - 1) (omega (arith, W.low)) here_new
          ∙ ap (λ (h : ℕ). last_where (new_of s h) (at - 1)) here_mix

      pub walk_falls : x < at
      walk_falls = omega (arith, next_is, last_low (new_of s (mix_of c)) (at - 1))

      pub walk_on : {r : Bool} → r ≡ same_bytes c (file_call s (at - 1)) → r ≡ false → Walk s c k x
      walk_on e f =
          let other = like_other s c (at - 1) (sym e ∙ f) in
          stands s c k (at - 1) x (omega (arith, W.low))
          (W.met ∙ ap (last_where (new_like s c)) before ∙ last_miss (new_like s c) (at - 1) other) next_is

  pub walk_ends : at ≤ 0 → None ≡ below (last_where (new_like s c) k)
  unfolding last_where below
  walk_ends z = sym (ap below (W.met ∙ ap (last_where (new_like s c)) {x = at} {y = 0} (omega arith)))
