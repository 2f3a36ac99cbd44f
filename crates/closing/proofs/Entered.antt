-- After an entry the numbers are as they were.
use Prim.Native.Nat.{ℕ, ◌<◌}
use native.Mathlib.Omega.{arith}
use mathlib.Core.Bool.{Bool, true, false, cond}
use mathlib.Core.List.{List}
use mathlib.Core.Path.{◌≡◌, refl}
use Rattle.rules.specs.declared.Entry.{Entry}
use Rattle.rules.specs.Bag.{is_in}
use Rattle.state.specs.declared.Number.{Number}
use Rattle.state.specs.declared.Number.TheVariants.{ToBackOf}
use Rattle.state.specs.Contents.{Contents, contents, with_entry, enter_on}
use Rattle.header.specs.declared.Head.{Head}
use Rattle.view.specs.View.{no_clash}
use Rattle.view.specs.Ready.{Ready}

pub same_number : (x : Entry) (c : Contents) (n : Number) → (enter_on x c).number n ≡ c.number n
unfolding enter_on with_entry
same_number x c n = go (is_in x c.bag)
  where
    go : (b : Bool) → (cond b c (with_entry x c)).number n ≡ c.number n
    go true = refl
    go false = refl

-- the next period to back is one of the header's
pub to_back_fits : (h : Head) (s : List ℕ) (j : ℕ) → Ready h s → (contents s).number (ToBackOf j) < 255
to_back_fits h s j R = omega (arith, (R.good no_clash).valid.counters.behind j, (R.good no_clash).valid.counters.opens j, R.room.periods)
