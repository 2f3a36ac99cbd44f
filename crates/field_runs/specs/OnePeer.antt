-- What document 02 asks of one peer for the field, of an engine E, both sides fresh: the box that is fed with the
-- messages to peer j is, step for step, the peer of the rehearsal.
use Rattle.std.specs.Prelude.{ℕ, ◌<◌, true, false, List, ◌≡◌}
use Rattle.std.proofs.Math.Option.{some}
use Rattle.base.specs.Bytes.{byte_at}
use Rattle.rules.specs.Table.{Table}
use Rattle.rules.specs.Form.{read}
use Rattle.rules.specs.Run.{Engine, store_after}
use Rattle.field_rules.specs.Box.{fresh_box}
use Rattle.field_rules.specs.Message.{Message}
use Rattle.field_rules.specs.MessageBytes.{message_bytes, is_filled}
use Rattle.field_rules.specs.Replies.{box_after}
use Rattle.field_runs.specs.Beside.{passes, sends, messages, neither_full, always_below, InStep, AsBox, SameForJ}
use Rattle.field_runs.specs.Delivered.{outside, delivered, is_call_of, InItsName}

pub record OnePeer (T : Table) (j : ℕ) {X : Type 0} (E : Engine X) (Ready : X → Type 0) : Type 0 where
  -- in step: at each place up to which no call that passes j a message is answered 13 on either side
  pub in_step : (calls : List (List ℕ)) → neither_full T j E E.starts fresh_box calls ≡ true
      → InStep T j E (store_after E calls) (box_after T j fresh_box (messages T j E E.starts calls))
  -- and of the list as a whole: the answers to calls that pass a message, and all that j sends
  pub as_box : (calls : List (List ℕ)) → neither_full T j E E.starts fresh_box calls ≡ true
      → AsBox T j E E.starts fresh_box calls
  -- delivered: in every store that is ready a call of j's adds to the outside what j sends, and nothing else
  pub delivers : (x : X) → Ready x → (c : List ℕ) → is_call_of j (read c) ≡ true
      → outside (E.holds (E.leaves x c)) ≡ delivered j (sends T j E x c) (outside (E.holds x))
  -- and whoever's call it is, nothing goes out in j's name but what j sends
  pub in_its_name : (x : X) → Ready x → (c : List ℕ)
      → InItsName j (outside (E.holds (E.leaves x c))) (delivered j (sends T j E x c) (outside (E.holds x)))
  -- room: both stores below 256 at every place
  pub room : (calls : List (List ℕ)) → always_below T j E E.starts fresh_box calls ≡ true
      → neither_full T j E E.starts fresh_box calls ≡ true
  -- only messages: what else the calls hold does not matter
  pub only_messages : (calls others : List (List ℕ))
      → messages T j E E.starts calls ≡ messages T j E E.starts others
      → neither_full T j E E.starts fresh_box calls ≡ true → neither_full T j E E.starts fresh_box others ≡ true
      → SameForJ T j E E.starts fresh_box calls others
  -- a call that points at nothing outside passes its own bytes
  pub as_it_is : (x : X) (c : List ℕ) → ((i : ℕ) → byte_at c i < 256) → (m : Message) → passes T j E x c ≡ some m
      → is_filled m ≡ false → message_bytes j m ≡ c
