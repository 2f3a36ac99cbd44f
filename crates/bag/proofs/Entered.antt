-- An entry entered: it was there, or there was room for it.
use Prim.Native.Nat.{ℕ, ◌<◌}
use mathlib.Core.Bool.{Bool, true, false}
use mathlib.Core.List.{List}
use mathlib.Core.Path.{◌≡◌}
use lib.ListN.{length}
use borrow.Author.Tests.{leb-false}
use Rattle.rules.specs.declared.Entry.{Entry}
use Rattle.rules.specs.Bag.{is_in, is_full}
use Rattle.state.specs.Layout.{entries}
use Rattle.state.specs.Contents.{contents, Canon, Holds, with_entry, enter_on}

pub entered_there : (s : List ℕ) (x : Entry) {r : Bool} → Canon s → r ≡ is_in x (contents s).bag → r ≡ true
    → Holds s (enter_on x (contents s))
unfolding enter_on
entered_there s x c e t = record { canon = c; says = rw (← e, t) }

pub entered_new : (s t : List ℕ) (x : Entry) {r : Bool} → r ≡ is_in x (contents s).bag → r ≡ false
    → Holds t (with_entry x (contents s)) → Holds t (enter_on x (contents s))
unfolding enter_on
entered_new s t x e f h = rw (← e, f) h

pub has_room : (s : List ℕ) (x : Entry) {r : Bool} → is_full x (contents s).bag ≡ false → r ≡ is_in x (contents s).bag
    → r ≡ false → length (contents s).bag < entries
unfolding is_full
has_room s x full e f = leb-false entries (length (contents s).bag) (rw (← e, f) at full)
