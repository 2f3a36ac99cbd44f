-- Boards as numbers: the one that a peer finds in its database, and the items of one that are not posted.
use Prim.Native.Nat.{ℕ, ◌^◌, ◌≤◌, ◌<◌}
use native.Mathlib.Decide.{dec_lt}
use native.Mathlib.Omega.{arith}
use mathlib.Core.Bool.{Bool, true, false, not, ◌&&◌, ◌||◌}
use mathlib.Core.List.{List}
use mathlib.Core.Path.{◌≡◌, refl, sym, ap, ◌∙◌}
use mathlib.Core.Logic.{◌⊎◌, inl, inr}
use lib.Bits.{bit_or, or_lt}
use lib.Dec.{eqb}
use lib.Pow.{pow_mono}
use borrow.Author.Tests.{eqb-true, eq-eqb}
use Rattle.base.specs.Below.{any}
use Rattle.base.specs.Bits.{bit, pack}
use Rattle.base.proofs.Below.{any_at, any_found}
use Rattle.base.proofs.Bits.{bit-or, bit_ext, bit_high, bit-pack, pack-lt, pack_ext}
use Rattle.base.proofs.Truth.{either, split, not_i, or_l, and_l, and_r}
use Rattle.rules.specs.Table.{quorum}
use Rattle.rules.specs.Rules.{board_from}
use Rattle.state.specs.declared.Fact.TheVariants.{Posted}
use Rattle.state.specs.Contents.{Contents, contents}
use Rattle.state.specs.Sets.{signers_of, posted_of}
use Rattle.sets.specs.Database.{on_board, peer_board}
use Rattle.header.specs.declared.Head.{Head}
use Rattle.header.specs.Quorum.{reaches}
use Rattle.view.specs.View.{no_clash, table_of, state_of}
use Rattle.view.specs.Ready.{Ready}
use Rattle.view.proofs.Quorum.{signers-quorum}

module _ (h : Head) (s : List ℕ) (R : Ready h s) where
  -- the board that a peer finds is the board of the rules
  pub board-found : (j p : ℕ) {r : ℕ} → r ≡ peer_board h (contents s) j p → r ≡ board_from (table_of h no_clash) ((state_of (contents s)).db j p)
  unfolding peer_board on_board board_from
  board-found j p e =
      e
      ∙ pack_ext h.items (λ x. reaches h (signers_of (contents s) j p x).0)
      (λ x. quorum (table_of h no_clash) ((state_of (contents s)).db j p x))
      (λ x l. signers-quorum h s R j p x)

or_within : (a b : Bool) → (a && not b ≡ true → ⊥) → a || b ≡ b
or_within true true f = refl
or_within true false f = absurd (f refl)
or_within false b f = refl

not_off : (b : Bool) → not b ≡ true → b ≡ false
not_off true e = sym e
not_off false e = refl

-- a board joined with the posted items is no other set exactly if each of its items is posted
joined_same : (f : ℕ → Bool) (B m : ℕ) → m ≤ 64 → B < 2 ^ m → (any m (λ x. bit B x && not (f x)) ≡ true → ⊥)
    → bit_or B (pack 64 f) ≡ pack 64 f
joined_same f B m l q none =
    bit_ext 64 (bit_or B (pack 64 f)) (pack 64 f) (or_lt 64 B (pack 64 f) (omega (arith, pow_mono {i = m} {j = 64} l)) (pack-lt 64 f))
    (pack-lt 64 f)
    (λ k b. bit-or B (pack 64 f) k ∙ ap (λ (z : Bool). bit B k || z) (bit-pack 64 f k b) ∙ or_within (bit B k) (f k) (within k (dec_lt k m))
    ∙ sym (bit-pack 64 f k b))
  where
    within : (k : ℕ) → Dec (k < m) → bit B k && not (f k) ≡ true → ⊥
    within k (yes b) t = none (any_at (λ x. bit B x && not (f x)) k m b t)
    within k (no b) t = split (and_l (bit B k) _ t) (bit_high m B k q (omega arith))

pub joined-other : (f : ℕ → Bool) (B m : ℕ) → m ≤ 64 → B < 2 ^ m
    → not (eqb (bit_or B (pack 64 f)) (pack 64 f)) ≡ any m (λ x. bit B x && not (f x))
joined-other f B m l q = go (either (any m (λ x. bit B x && not (f x))))
  where
    go : (any m (λ x. bit B x && not (f x)) ≡ true) ⊎ (any m (λ x. bit B x && not (f x)) ≡ false)
        → not (eqb (bit_or B (pack 64 f)) (pack 64 f)) ≡ any m (λ x. bit B x && not (f x))
    go (inl t) = not_i _ (λ e. differs (eqb-true (bit_or B (pack 64 f)) (pack 64 f) e)) ∙ sym t
      where
        differs : bit_or B (pack 64 f) ≡ pack 64 f → ⊥
        differs e =
            let g = any_found m (λ x. bit B x && not (f x)) t in
            let x = g.0 in
            let b : x < 64 = omega (arith, g.1) in
            let on : bit B x ≡ true = and_l (bit B x) _ g.2 in
            let off : f x ≡ false = not_off (f x) (and_r (bit B x) _ g.2) in
            split (or_l (bit B x) (bit (pack 64 f) x) on)
            (sym (bit-or B (pack 64 f) x) ∙ ap (λ (n : ℕ). bit n x) e ∙ bit-pack 64 f x b ∙ off)
    go (inr t) = ap not (eq-eqb (bit_or B (pack 64 f)) (pack 64 f) (joined_same f B m l q (λ e. split e t))) ∙ sym t

pub unposted_items : (c : Contents) (B m posted : ℕ) → m ≤ 64 → B < 2 ^ m → posted ≡ posted_of c
    → not (eqb (bit_or B posted) posted) ≡ any m (λ x. bit B x && not (c.has (Posted x)))
unfolding posted_of
unposted_items c B m posted l q e = ap (λ (n : ℕ). not (eqb (bit_or B n) n)) e ∙ joined-other (λ i. c.has (Posted i)) B m l q
