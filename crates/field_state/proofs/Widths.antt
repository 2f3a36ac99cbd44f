-- How many bits a set of signers may have: as many as there are peers, at most 16; and when a number has no others.
use Prim.Native.Nat.{ℕ, ◌^◌, ◌<◌, ◌≤◌}
use native.Mathlib.Omega.{arith}
use mathlib.Core.Bool.{Bool, true, false, cond, not, ◌&&◌}
use mathlib.Core.Path.{◌≡◌, sym, ◌∙◌}
use mathlib.Core.Logic.{◌⊎◌, inl, inr}
use lib.Dec.{ltb}
use lib.Pow.{pow_mono}
use borrow.Author.Tests.{ltb-true, ltb-false, lt-ltb, le-ltb, not-true}
use Rattle.base.specs.Below.{any}
use Rattle.base.specs.Bits.{bit, pack}
use Rattle.base.proofs.Below.{any_at, any_found}
use Rattle.base.proofs.Bits.{bit_high, bit_ext, bit-pack, pack-lt}
use Rattle.base.proofs.Truth.{either, iff, is_false, split, not_i, and_i, and_l, and_r}
use Rattle.header.specs.declared.Head.{Head}
use Rattle.view.specs.Ready.{Room}
use Rattle.field_state.specs.Width.{width_at}

pub width_in : (h : Head) (x : ℕ) → x < h.items → h.n ≡ width_at h x
unfolding width_at
width_in h x l = rw (lt-ltb x h.items l)

pub width_out : (h : Head) (x : ℕ) → h.items ≤ x → 0 ≡ width_at h x
unfolding width_at
width_out h x l = rw (le-ltb x h.items l)

pub narrow : (h : Head) → Room h → (x : ℕ) → width_at h x ≤ 16
unfolding width_at
narrow h room x = go (ltb x h.items)
  where
    go : (t : Bool) → cond t h.n 0 ≤ 16
    go true = room.peers
    go false = omega arith

pub width_fits : (h : Head) (x m : ℕ) → Room h → m ≡ width_at h x → m ≤ 64
width_fits h x m room e = omega (arith, e, narrow h room x)

-- a number has a bit at w or above exactly if it is not below 2 ^ w
pub bits_above : (m v w : ℕ) → v < 2 ^ m → w ≤ m → any m (λ k. bit v k && not (ltb k w)) ≡ not (ltb v (2 ^ w))
bits_above m v w small l = iff _ _ to from
  where
    f : ℕ → Bool
    f k = bit v k && not (ltb k w)

    to : any m (λ k. bit v k && not (ltb k w)) ≡ true → not (ltb v (2 ^ w)) ≡ true
    to t = not_i _ (λ e.
        let g = any_found m (λ k. bit v k && not (ltb k w)) t in
        let k = g.0 in
        split (and_l (bit v k) (not (ltb k w)) g.2)
        (bit_high w v k (ltb-true v (2 ^ w) e) (ltb-false k w (not-true _ (and_r (bit v k) (not (ltb k w)) g.2)))))

    low : any m (λ k. bit v k && not (ltb k w)) ≡ false → v ≡ pack w (bit v)
    low none = bit_ext m v (pack w (bit v)) small (omega (arith, pack-lt w (bit v), pow_mono {i = w} {j = m} l))
        (λ k b. go k b (either (ltb k w)))
      where
        go : (k : ℕ) → k < m → (ltb k w ≡ true) ⊎ (ltb k w ≡ false) → bit v k ≡ bit (pack w (bit v)) k
        go k b (inl e) = sym (bit-pack w (bit v) k (ltb-true k w e))
        go k b (inr e) =
            is_false (bit v k) (λ t. split (any_at (λ k. bit v k && not (ltb k w)) k m b (and_i _ _ t (rw e))) none)
            ∙ sym (bit_high w (pack w (bit v)) k (pack-lt w (bit v)) (ltb-false k w e))

    from : not (ltb v (2 ^ w)) ≡ true → any m (λ k. bit v k && not (ltb k w)) ≡ true
    from n = go (either (any m (λ k. bit v k && not (ltb k w))))
      where
        go : (any m (λ k. bit v k && not (ltb k w)) ≡ true) ⊎ (any m (λ k. bit v k && not (ltb k w)) ≡ false)
            → any m (λ k. bit v k && not (ltb k w)) ≡ true
        go (inl e) = e
        go (inr e) = split (lt-ltb v (2 ^ w) (rw (← low e) at (pack-lt w (bit v)))) (not-true _ n)
