-- The example of docs/STATE.md: item 5 posted, a signature in a database, and one hash.
use mathlib.Core.Path.{◌≡◌, refl}
use Rattle.base.specs.Bits.{pack}
use Rattle.rules.specs.declared.Entry.TheVariants.{Hash}
use Rattle.state.specs.declared.Fact.TheVariants.{Posted, Known}
use Rattle.state.specs.Places.{fact_at}
use Rattle.state.specs.Numbers.{number_of}
use Rattle.state.specs.Entries.{entry_byte}
use Rattle.state.specs.Contents.{Contents, empty, adding, insert, with_entry}
use Rattle.state.specs.Encode.{bag_byte, state_byte}

unfoldable example : Contents
example = with_entry (Hash 2 0 33) (insert (Known 2 1 5 3) (insert (Posted 5) empty))

record Bytes : Type 0 where
  pub posted : state_byte example 0 ≡ 32
  pub known : state_byte example 4306 ≡ 4
  pub counted : state_byte example 20088 ≡ 1
  pub kind : state_byte example 20090 ≡ 1
  pub signer : state_byte example 20091 ≡ 2
  pub period : state_byte example 20092 ≡ 0
  pub board : state_byte example 20093 ≡ 33
  -- and one of the others
  pub signed : state_byte example 1000 ≡ 0

bytes : Bytes
unfolding example with_entry insert adding state_byte bag_byte entry_byte fact_at number_of pack
bytes =
    record {
      posted = refl;
      known = refl;
      counted = refl;
      kind = refl;
      signer = refl;
      period = refl;
      board = refl;
      signed = refl;
    }
