-- Laws of the three numbers of a peer, as they stand in the bytes.
use Prim.Native.Nat.{ℕ, ◌+◌, ◌-◌, ◌<◌}
use native.Mathlib.Omega.{arith}
use mathlib.Core.Bool.{Bool}
use mathlib.Core.List.{List}
use mathlib.Core.Path.{◌≡◌, refl, ap, ◌∙◌}
use borrow.Author.Tests.{le-leb}
use Rattle.base.specs.Below.{every}
use Rattle.base.specs.Bytes.{byte_at}
use Rattle.base.proofs.Below.{every_ext}
use Rattle.state.specs.declared.Number.{Number}
use Rattle.state.specs.declared.Number.TheVariants.{CurrentOf, ToBackOf, DownOf}
use Rattle.state.specs.Layout.{peers, current_at, to_back_at, down_at}
use Rattle.state.specs.Numbers.{peer_of, slot}
use Rattle.state.specs.Contents.{contents}
use Rattle.header.specs.declared.Head.{Head}
use Rattle.valid.specs.StateOk.{numbers_ok, peer_ok, peers_ok}

module _ (h : Head) (s : List ℕ) where
  -- the test on the three numbers of peer i + 1
  abbrev pub numbers_at : ℕ → Bool
  numbers_at i = numbers_ok h (i + 1) (byte_at s (current_at + i)) (byte_at s (to_back_at + i)) (byte_at s (down_at + i))

  number_at : (i o : ℕ) (n : Number) → i < peers → peer_of n ≡ i + 1 → slot n ≡ o + (i + 1 - 1) → (contents s).number n ≡ byte_at s (o + i)
  unfolding contents
  number_at i o n l p q =
      rw (p, le-leb 1 (i + 1) (omega arith), le-leb (i + 1) peers (omega arith), q)
      (ap (λ (k : ℕ). byte_at s (o + k)) {x = i + 1 - 1} {y = i} (omega arith))

  by_peer : (i : ℕ) → i < peers → numbers_at i ≡ peer_ok h (contents s) (i + 1)
  unfolding peer_ok
  by_peer i l =
      rw (
        number_at i current_at (CurrentOf (i + 1)) l refl refl,
        number_at i to_back_at (ToBackOf (i + 1)) l refl refl,
        number_at i down_at
            (DownOf (i + 1)) l refl refl,
      )

  pub by_peers : (r : Bool) → r ≡ every peers numbers_at → r ≡ peers_ok h s
  unfolding peers_ok
  by_peers r e = e ∙ every_ext peers numbers_at (λ i. peer_ok h (contents s) (i + 1)) by_peer
