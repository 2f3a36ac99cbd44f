-- What the parts of a clear do to the bytes.
use Rattle.std.specs.Prelude.{ℕ, ◌+◌, ◌-◌, ◌*◌, ◌%◌, ◌<◌, ◌≤◌, Bool, ◌&&◌, List, ◌≡◌, ltb, length, get_or}
use Rattle.base.specs.Bits.{pack}
use Rattle.base.specs.Bytes.{byte_at}
use Rattle.bits.specs.Row.{bit_at}
use Rattle.rules.specs.declared.Entry.{Entry}
use Rattle.rules.specs.Bag.{entry_at as nth}
use Rattle.state.specs.Layout.{entries, heard_at}
use Rattle.state.specs.Contents.{contents, Holds, bag_on}
use Rattle.state.specs.Cleared.{kept, with_bag}

-- old has the numbers of the n entries that stay
pub record Numbers (q : ℕ) (bag : List Entry) (old : List ℕ) (n : ℕ) : Type 0 where
  pub many : n ≡ length (kept q bag)
  pub each : (e : ℕ) → e < n → byte_at old e ≡ get_or (kept q bag) e 0

-- none of the first n numbers is below its place, and each is below m
pub record Rising (n : ℕ) (old : List ℕ) (m : ℕ) : Type 0 where
  pub few : n ≤ entries
  pub from : (e : ℕ) → e < n → e ≤ byte_at old e
  pub below : (e : ℕ) → e < n → byte_at old e < m

-- bit a of the heard bits, once they are numbered afresh
unfoldable pub heard_bit : List ℕ → List ℕ → ℕ → ℕ → Bool
heard_bit s old n a = ltb (a % entries) n && bit_at s (8 * heard_at + (a - a % entries + byte_at old (a % entries)))

-- the eight bits of byte b
unfoldable pub heard_bits : List ℕ → List ℕ → ℕ → ℕ → ℕ → Bool
heard_bits s old n b k = heard_bit s old n (8 * b + k)

unfoldable pub heard_byte : List ℕ → List ℕ → ℕ → ℕ → ℕ
heard_byte s old n b = pack 8 (heard_bits s old n b)

-- the bytes between are 0, and all others as they were
pub record Zeroed (s t : List ℕ) (from to : ℕ) : Type 0 where
  pub long : length t ≡ length s
  pub zeros : (i : ℕ) → from ≤ i → i < to → byte_at t i ≡ 0
  pub others : (i : ℕ) → (from ≤ i → to ≤ i) → byte_at t i ≡ byte_at s i

-- the first n entries are those that had the old numbers, and all else is as it was
pub record Moved (s t : List ℕ) (old : List ℕ) (n : ℕ) : Type 0 where
  pub holds : Holds t (with_bag (bag_on t) (contents s))
  pub long : length (bag_on t) ≡ length (bag_on s)
  pub moved : (e : ℕ) → e < n → nth (bag_on t) e ≡ nth (bag_on s) (byte_at old e)
  pub others : (e : ℕ) → n ≤ e → nth (bag_on t) e ≡ nth (bag_on s) e
