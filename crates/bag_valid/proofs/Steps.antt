-- The parts of the test, in the order in which the code takes them.
use Prim.Native.Nat.{ℕ, ◌-◌, ◌<◌, ◌≤◌}
use mathlib.Core.Bool.{Bool, true, false, ◌&&◌, not}
use mathlib.Core.List.{List}
use mathlib.Core.Path.{◌≡◌, sym, ap, ◌∙◌}
use lib.Dec.{leb}
use borrow.Author.Tests.{le-leb, lt-leb, leb-true, not-true, not-false}
use Rattle.base.specs.Below.{every}
use Rattle.base.proofs.Truth.{and_l}
use Rattle.base.proofs.Chain.{stop, pass}
use Rattle.bits.specs.Row.{zeros}
use Rattle.state.specs.Layout.{entries, entry_start, size}
use Rattle.state.specs.Contents.{count}
use Rattle.header.specs.declared.Head.{Head}
use Rattle.bag_valid.specs.BagOk.{entry_at_ok, bag_ok}
use Rattle.bag_valid.specs.Numbers.{new_at}
use Rattle.bag_valid.proofs.Apart.{all-different}

module _ (h : Head) (s : List ℕ) where
  -- the bytes after the last entry are 0
  abbrev rest : ℕ → Bool
  rest n = zeros (size - entry_start n) s (entry_start n)

  pub too_many : (n : ℕ) → n ≡ count s → entries < n → false ≡ bag_ok h s
  unfolding bag_ok
  too_many n e l = rw (lt-leb (count s) entries (rw (← e) l))

  -- n is the number of entries, at most 256
  module _ (n : ℕ) (e : n ≡ count s) (few : n ≤ entries) where
    few_count : leb (count s) entries ≡ true
    few_count = le-leb (count s) entries (rw (← e) few)

    pub entry_fails : (r : Bool) → r ≡ every n (entry_at_ok h s) → not r ≡ true → false ≡ bag_ok h s
    unfolding bag_ok
    entry_fails r q t = rw (few_count, ← e, ← q, not-true r t)

    -- each is of the table
    module _ (r : Bool) (q : r ≡ every n (entry_at_ok h s)) (t : not r ≡ false) where
      new_left : (every n (new_at s) && rest n) ≡ bag_ok h s
      unfolding bag_ok zeros
      new_left =
          let all : every (count s) (entry_at_ok h s) ≡ true = ap (λ (k : ℕ). every k (entry_at_ok h s)) (sym e) ∙ sym q ∙ not-false r t in
          rw (few_count, all, ← all-different h s all, e)

      pub twin_found : (a : Bool) → a ≡ every n (new_at s) → not a ≡ true → false ≡ bag_ok h s
      twin_found a p u = stop _ _ a p u ∙ new_left

      pub rest_left : (a v : Bool) → a ≡ every n (new_at s) → not a ≡ false → v ≡ rest n → v ≡ bag_ok h s
      rest_left a v p u z = pass _ _ a v p u z ∙ new_left

  -- a bag that passes has at most 256
  pub few_entries : (n : ℕ) (r : Bool) → n ≡ count s → r ≡ bag_ok h s → not r ≡ false → n ≤ entries
  unfolding bag_ok
  few_entries n r e q t = rw e (leb-true (count s) entries (and_l (leb (count s) entries) _ (sym q ∙ not-false r t)))

pub ruleset by-bag = (too_many, entry_fails, twin_found, rest_left)
