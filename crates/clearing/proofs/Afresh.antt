-- The heard bytes written one after the other, in place: each reads only bytes that are not yet written.
use Prim.Native.Nat.{ℕ, ◌+◌, ◌-◌, ◌*◌, ◌/◌, ◌%◌, ◌<◌, ◌≤◌}
use native.Mathlib.Decide.{ℕ_discrete, dec_lt}
use native.Mathlib.Omega.{arith}
use mathlib.Core.Bool.{Bool, true, false, ◌&&◌}
use mathlib.Core.List.{List}
use mathlib.Core.Path.{◌≡◌, refl, ap, ◌∙◌}
use mathlib.Core.Logic.{◌⊎◌, inl, inr}
use lib.Dec.{ltb}
use lib.ListN.{length, set, length-set}
use lib.Seq.{get_or-set_same, get_or-set_other}
use borrow.Author.Tests.{ltb-true, lt-ltb}
use Rattle.base.specs.Bits.{bit}
use Rattle.base.specs.Bytes.{byte_at}
use Rattle.base.proofs.Bits.{pack_ext, pack-lt, bit-pack}
use Rattle.base.proofs.Truth.{either, and_i, and_l, and_r}
use Rattle.bits.specs.Row.{bit_at, Bytes}
use Rattle.bits.proofs.Row.{bit_at_same}
use Rattle.state.specs.declared.Fact.TheVariants.{Heard}
use Rattle.state.specs.Layout.{peers, entries, heard_at, size}
use Rattle.state.specs.Facts.{is_peer, in_range, Peer}
use Rattle.state.specs.Places.{place}
use Rattle.state.specs.Contents.{contents, Canon, Holds}
use Rattle.state.specs.Cleared.{afresh, hearing}
use Rattle.state.proofs.Ranges.{peer_within}
use Rattle.state.proofs.Frame.{has-bit, has-none}
use Rattle.state.proofs.Cleared.{hearing_holds}
use Rattle.clearing.specs.Moves.{Rising, heard_bit, heard_bits, heard_byte}

-- the first b heard bytes are written, and every other byte is as it was
pub record Renumbered (s t old : List ℕ) (n b : ℕ) : Type 0 where
  pub long : length t ≡ length s
  pub done : (i : ℕ) → i < b → byte_at t (heard_at + i) ≡ heard_byte s old n i
  pub others : (i : ℕ) → (heard_at ≤ i → heard_at + b ≤ i) → byte_at t i ≡ byte_at s i

pub renumbered_none : (s old : List ℕ) (n : ℕ) → Renumbered s s old n 0
renumbered_none s old n = record { long = refl; done = λ i l. absurd (omega arith); others = λ i h. refl }

module _ (s t old : List ℕ) (n b : ℕ) (R : Renumbered s t old n b) where
  -- what is read for byte b was not yet written
  same_bit : Rising n old entries → (k : ℕ) → heard_bits t old n b k ≡ heard_bits s old n b k
  unfolding heard_bits heard_bit
  same_bit up k = go (either (ltb (a % entries) n))
    where
      a : ℕ
      a = 8 * b + k

      at : ℕ
      at = 8 * heard_at + (a - a % entries + byte_at old (a % entries))

      go : (ltb (a % entries) n ≡ true) ⊎ (ltb (a % entries) n ≡ false)
          → (ltb (a % entries) n && bit_at t at) ≡ (ltb (a % entries) n && bit_at s at)
      go (inl e) = ap (λ (x : Bool). ltb (a % entries) n && x) (bit_at_same t s at (R.others (at / 8) (λ z.
          omega (arith, up.from (a % entries) (ltb-true (a % entries) n e)))))
      go (inr e) = rw e

  same_byte : Rising n old entries → heard_byte t old n b ≡ heard_byte s old n b
  unfolding heard_byte
  same_byte up = pack_ext 8 (heard_bits t old n b) (heard_bits s old n b) (λ k l. same_bit up k)

  pub renumbered_more : {v : ℕ} → Rising n old entries → length s ≡ size → b < 512 → v ≡ heard_byte t old n b
      → Renumbered s (set t (heard_at + b) v) old n (b + 1)
  renumbered_more {v} up room l e = record {
    long = length-set t (heard_at + b) v ∙ R.long;
    done = λ i m. go i m (ℕ_discrete i b);
    others = λ i h. get_or-set_other t (heard_at + b) i v 0 (λ z. omega (arith, h (omega arith))) ∙ R.others i (λ p. omega (arith, h p));
  }
    where
      go : (i : ℕ) → i < b + 1 → Dec (i ≡ b) → byte_at (set t (heard_at + b) v) (heard_at + i) ≡ heard_byte s old n i
      go i m (yes z) = rw z (get_or-set_same t (heard_at + b) v 0 (omega (arith, R.long)) ∙ e ∙ same_byte up)
      go i m (no z) = get_or-set_other t (heard_at + b) (heard_at + i) v 0 (λ q. z (omega arith)) ∙ R.done i (omega (arith, z))

  module _ (c : Canon s) (up : Rising n old entries) (all : 512 ≤ b) (most : b ≤ 512) where
    bytes : Bytes t
    unfolding heard_byte
    bytes i = go (dec_lt i heard_at) (dec_lt i (heard_at + b))
      where
        go : Dec (i < heard_at) → Dec (i < heard_at + b) → byte_at t i < 256
        go (yes h) k = omega (arith, R.others i (λ z. absurd (omega (arith, h))), c.bytes i)
        go (no h) (yes k) =
            let here : byte_at t (heard_at + (i - heard_at)) ≡ byte_at t i = ap (byte_at t) (omega (arith, h)) in
            omega (arith, here, R.done (i - heard_at) (omega (arith, h)), pack-lt 8 (heard_bits s old n (i - heard_at)))
        go (no h) (no k) = omega (arith, R.others i (λ z. omega (arith, k)), c.bytes i)

    -- bit a is that of the old number
    bit-at : (a : ℕ) → a < peers * entries → bit_at t (8 * heard_at + a) ≡ heard_bit s old n a
    unfolding bit_at heard_byte heard_bits
    bit-at a l =
        ap (λ (x : ℕ). bit (byte_at t x) ((8 * heard_at + a) % 8)) {x = (8 * heard_at + a) / 8} {y = heard_at + a / 8} (omega arith)
        ∙ ap (λ (x : ℕ). bit (byte_at t (heard_at + a / 8)) x) {x = (8 * heard_at + a) % 8} {y = a % 8} (omega arith)
        ∙ ap (λ (x : ℕ). bit x (a % 8)) (R.done (a / 8) (omega arith))
        ∙ bit-pack 8 (λ k. heard_bit s old n (8 * (a / 8) + k)) (a % 8) (omega arith)
        ∙ ap (heard_bit s old n) {x = 8 * (a / 8) + a % 8} {y = a} (omega arith)

    heard_at_lem : (j e : ℕ) → is_peer j && ltb e entries ≡ true → bit_at t (place (Heard j e)) ≡ afresh n (byte_at old) (contents s).has j e
    unfolding heard_bit afresh
    heard_at_lem j e r =
        let p : Peer j = peer_within j (and_l (is_peer j) _ r) in
        let l : e < entries = ltb-true e entries (and_r (is_peer j) _ r) in
        let a = (j - 1) * entries + e in
        let low : a % entries ≡ e = omega arith in
        bit-at a (omega arith) ∙ rw low (go a (omega arith) (either (ltb e n)))
      where
        there : ltb e n ≡ true → in_range (Heard j (byte_at old e)) ≡ true
        there t = and_i (is_peer j) _ (and_l (is_peer j) _ r) (lt-ltb _ _ (up.below e (ltb-true e n t)))

        go : (a : ℕ) → a - e + byte_at old e ≡ (j - 1) * entries + byte_at old e → (ltb e n ≡ true) ⊎ (ltb e n ≡ false)
            → (ltb e n && bit_at s (8 * heard_at + (a - e + byte_at old e))) ≡ (ltb e n && (contents s).has (Heard j (byte_at old e)))
        go a q (inl t) = ap (λ (x : Bool). ltb e n && x)
            (ap (λ (x : ℕ). bit_at s (8 * heard_at + x)) q ∙ has-bit s (Heard j (byte_at old e)) (there t))
        go a q (inr f) = rw f

    not_heard : (j e : ℕ) → is_peer j && ltb e entries ≡ false → afresh n (byte_at old) (contents s).has j e ≡ false
    unfolding afresh
    not_heard j e r = go (either (ltb e n))
      where
        peerless : is_peer j ≡ false → in_range (Heard j (byte_at old e)) ≡ false
        peerless f = rw f

        is_peer_lem : ltb e n ≡ true → is_peer j ≡ false
        is_peer_lem t = let l : ltb e entries ≡ true = lt-ltb e entries (omega (arith, ltb-true e n t, up.few)) in out (is_peer j) (rw l at r)
          where
            out : (x : Bool) → x && true ≡ false → x ≡ false
            out true h = h
            out false h = h

        go : (ltb e n ≡ true) ⊎ (ltb e n ≡ false) → (ltb e n && (contents s).has (Heard j (byte_at old e))) ≡ false
        go (inl t) = rw t (has-none s (Heard j (byte_at old e)) (peerless (is_peer_lem t)))
        go (inr f) = rw f

    pub renumbered_all : Holds t (hearing (afresh n (byte_at old) (contents s).has) (contents s))
    renumbered_all = hearing_holds s t (afresh n (byte_at old) (contents s).has) c R.long bytes
        (λ i h. R.others i (λ z. omega (arith, h z))) heard_at_lem not_heard
