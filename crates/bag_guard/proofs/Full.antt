-- A full bag: asked for before the entry is looked for.
use Prim.Native.Nat.{ℕ, ◌<◌, ◌≤◌}
use native.Mathlib.Omega.{arith}
use mathlib.Core.Bool.{Bool, not, and-true, and-false}
use mathlib.Core.List.{List}
use mathlib.Core.Path.{◌≡◌, sym}
use lib.ListN.{length}
use lib.Dec.{leb}
use borrow.Author.Tests.{le-leb, lt-leb}
use Rattle.rules.specs.declared.Entry.{Entry}
use Rattle.rules.specs.Bag.{is_in, capacity, is_full}

pub full_room : (x : Entry) (bag : List Entry) (n : ℕ) → n ≡ length bag → n < capacity → leb capacity n ≡ is_full x bag
unfolding is_full
full_room x bag n l r = rw (lt-leb capacity n r, lt-leb capacity (length bag) (omega arith)) (sym (and-false (not (is_in x bag))))

pub full_at : (x : Entry) (bag : List Entry) (n : ℕ) {r : Bool} → n ≡ length bag → capacity ≤ n → r ≡ is_in x bag → not r ≡ is_full x bag
unfolding is_full
full_at x bag n {r} l m e = rw (← e, le-leb capacity (length bag) (omega arith)) (sym (and-true (not r)))
