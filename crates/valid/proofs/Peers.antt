-- The test on counters and flags says what the rules ask of them.
use Prim.Native.Nat.{ℕ, ◌+◌, ◌-◌, ◌<◌, ◌≤◌}
use native.Mathlib.Omega.{arith}
use native.Mathlib.Decide.{dec_lt}
use mathlib.Core.Bool.{true, false, cond, ◌&&◌}
use mathlib.Core.List.{List}
use mathlib.Core.Path.{◌≡◌, subst}
use mathlib.Core.Logic.{◌⊎◌, inl, inr}
use lib.Dec.{eqb, leb}
use borrow.Author.Tests.{eqb-true, eq-eqb, leb-true, leb-false, le-leb}
use Rattle.base.proofs.Truth.{either, and_i, and_l, and_r}
use Rattle.base.proofs.Below.{every-at, every_of}
use Rattle.state.specs.declared.Number.TheVariants.{CurrentOf, ToBackOf, DownOf}
use Rattle.state.specs.Layout.{peers}
use Rattle.state.specs.Facts.{is_peer}
use Rattle.state.specs.Contents.{Contents, contents}
use Rattle.state.proofs.Ranges.{peer_within}
use Rattle.state.proofs.Frame.{number_none}
use Rattle.header.specs.declared.Head.{Head}
use Rattle.valid.specs.StateOk.{numbers_ok, peer_ok, peers_ok}

-- what holds of the three numbers of a peer
pub record Numbers (h : Head) (c : Contents) (j : ℕ) : Type 0 where
  pub current_at_most : c.number (CurrentOf j) ≤ h.periods
  pub to_back_at_most : c.number (ToBackOf j) ≤ c.number (CurrentOf j)
  pub flag : c.number (DownOf j) < 2
  pub has_current : 0 < c.number (CurrentOf j) → (1 ≤ j) × (j ≤ h.n)
  pub is_down : 0 < c.number (DownOf j) → (1 ≤ j) × (j ≤ h.n)

module _ (h : Head) where
  numbers_of : (c : Contents) (j : ℕ) → 1 ≤ j → peer_ok h c j ≡ true → Numbers h c j
  unfolding peer_ok numbers_ok
  numbers_of c j l ok = go (either (leb j h.n))
    where
      go : (leb j h.n ≡ true) ⊎ (leb j h.n ≡ false) → Numbers h c j
      go (inl e) =
          let has : (leb (c.number (CurrentOf j)) h.periods &&
          (leb (c.number (ToBackOf j)) (c.number (CurrentOf j)) && leb (c.number (DownOf j)) 1)) ≡ true = rw e at ok in
          let small = leb-true j h.n e in
          let p = leb-true _ _ (and_l (leb (c.number (CurrentOf j)) h.periods) _ has) in
          let rest = and_r (leb (c.number (CurrentOf j)) h.periods) _ has in
          let n = leb-true _ _ (and_l (leb (c.number (ToBackOf j)) (c.number (CurrentOf j))) _ rest) in
          let d = leb-true (c.number (DownOf j)) 1 (and_r (leb (c.number (ToBackOf j)) (c.number (CurrentOf j))) _ rest) in
          record { current_at_most = p; to_back_at_most = n; flag = omega arith; has_current = λ q. (l, small); is_down = λ q. (l, small) }
      go (inr e) =
          let none = eqb-true (c.number (CurrentOf j) + c.number (ToBackOf j) + c.number (DownOf j)) 0 (rw e at ok) in
          record {
            current_at_most = omega arith;
            to_back_at_most = omega arith;
            flag = omega arith;
            has_current = λ q. absurd
                (omega arith);
            is_down = λ q. absurd (omega arith);
          }

  ok_of : (c : Contents) (j : ℕ) → Numbers h c j → peer_ok h c j ≡ true
  unfolding peer_ok numbers_ok
  ok_of c j N = go (either (leb j h.n))
    where
      go : (leb j h.n ≡ true) ⊎ (leb j h.n ≡ false)
          → cond (leb j h.n) (leb (c.number (CurrentOf j)) h.periods &&
          (leb (c.number (ToBackOf j)) (c.number (CurrentOf j)) && leb (c.number (DownOf j)) 1))
          (eqb (c.number (CurrentOf j) + c.number (ToBackOf j) + c.number (DownOf j)) 0) ≡ true
      go (inl e) =
          rw e
          (and_i _ _ (le-leb _ _ N.current_at_most)
          (and_i _ _ (le-leb _ _ N.to_back_at_most) (le-leb (c.number (DownOf j)) 1 (omega (arith, N.flag)))))
      go (inr e) = rw e (eq-eqb _ 0 (none (dec_lt 0 (c.number (CurrentOf j))) (dec_lt 0 (c.number (DownOf j)))))
        where
          above : h.n < j
          above = leb-false j h.n e

          none : Dec (0 < c.number (CurrentOf j)) → Dec (0 < c.number (DownOf j))
              → c.number (CurrentOf j) + c.number (ToBackOf j) + c.number (DownOf j) ≡ 0
          none (yes o) d = absurd (omega (arith, above, (N.has_current o).1))
          none (no o) (yes d) = absurd (omega (arith, above, (N.is_down d).1))
          none (no o) (no d) = omega (arith, N.to_back_at_most)

  module _ (s : List ℕ) where
    pub peers_of_ok : peers_ok h s ≡ true → (j : ℕ) → Numbers h (contents s) j
    unfolding peers_ok
    peers_of_ok ok j = go (either (is_peer j))
      where
        go : (is_peer j ≡ true) ⊎ (is_peer j ≡ false) → Numbers h (contents s) j
        go (inl e) =
            let within = peer_within j e in
            numbers_of (contents s) j within.0
            (subst (λ (k : ℕ). peer_ok h (contents s) k ≡ true) {x = j - 1 + 1} {y = j} (omega arith)
            (every-at (λ i. peer_ok h (contents s) (i + 1)) peers ok (j - 1) (omega arith)))
        go (inr e) =
            let p = number_none s (CurrentOf j) e in
            let c = number_none s (ToBackOf j) e in
            let d = number_none s (DownOf j) e in
            record {
              current_at_most = omega arith;
              to_back_at_most = omega arith;
              flag = omega arith;
              has_current = λ q. absurd
                  (omega arith);
              is_down = λ q. absurd (omega arith);
            }

    pub ok_of_peers : ((j : ℕ) → Numbers h (contents s) j) → peers_ok h s ≡ true
    unfolding peers_ok
    ok_of_peers N = every_of peers (λ i. peer_ok h (contents s) (i + 1)) (λ i l. ok_of (contents s) (i + 1) (N (i + 1)))
