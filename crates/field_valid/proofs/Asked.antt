-- The tests of row 14, as the code makes them.
use Prim.Native.Nat.{ℕ, ◌-◌, ◌<◌, ◌≤◌}
use native.Mathlib.Omega.{arith}
use mathlib.Core.Bool.{Bool, true, false, cond, not}
use mathlib.Core.List.{List}
use mathlib.Core.Path.{◌≡◌}
use lib.Dec.{leb, ltb}
use borrow.Author.Tests.{le-leb, lt-leb, not-true, not-false}
use Rattle.base.specs.Below.{every}
use Rattle.bits.specs.Row.{zeros}
use Rattle.header.specs.declared.Head.{Head}
use Rattle.state.specs.Layout.{entries}
use Rattle.view.specs.Ready.{Room}
use Rattle.field_state.specs.Layout.{hash_start, size}
use Rattle.field_state.specs.Holding.{heard_count}
use Rattle.field_valid.specs.BoxOk.{row_width, hash_ok, new_at, hashes_ok}

module _ (h : Head) where
  pub row_fits : (p w : ℕ) → Room h → w ≡ row_width h p → w ≤ 64
  unfolding row_width
  row_fits p w room e = rw e (go (ltb p h.periods))
    where
      go : (t : Bool) → cond t h.items 0 ≤ 64
      go true = room.items
      go false = omega arith

  module _ (s : List ℕ) where
    -- all hashes
    module _ (n : ℕ) (i : n ≡ heard_count s) where
      pub too_many : entries < n → false ≡ hashes_ok h s
      unfolding hashes_ok
      too_many l = rw (lt-leb (heard_count s) entries (omega (arith, i, l)))

      module _ (few : n ≤ entries) {a : Bool} (at : a ≡ every n (hash_ok h s)) where
        counted : leb (heard_count s) entries ≡ true
        counted = le-leb (heard_count s) entries (omega (arith, i, few))

        pub one_bad : not a ≡ true → false ≡ hashes_ok h s
        unfolding hashes_ok
        one_bad t = rw (counted, ← i, ← at, not-true a t)

        module _ (good : not a ≡ false) {b : Bool} (bt : b ≡ every n (new_at s)) where
          pub one_twin : not b ≡ true → false ≡ hashes_ok h s
          unfolding hashes_ok
          one_twin t = rw (counted, ← i, ← at, not-false a good, ← bt, not-true b t)

          pub rest_left : {r : Bool} → not b ≡ false → r ≡ zeros (size - hash_start n) s (hash_start n) → r ≡ hashes_ok h s
          unfolding hashes_ok
          rest_left t q = rw (counted, ← i, ← at, not-false a good, ← bt, not-false b t) q
