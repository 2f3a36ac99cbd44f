-- What comes to the field peer, and what it sends.
use Rattle.std.specs.Prelude.{ℕ, Bool}

-- What comes: a message, which brings what is outside, or a step, which is the peer's own act; each under its op.
pub data Message : Type 0 where
  -- 2, hand: an item
  handed : ℕ → Message
  -- 4, take: a signature's signer, period and item
  taken : ℕ → ℕ → ℕ → Message
  -- 8, fetch: the other, a period, and the other's database of it, rows of signers by item
  fetched : ℕ → ℕ → (ℕ → ℕ → Bool) → Message
  -- 10, hear: a hash's signer, period and board
  told : ℕ → ℕ → ℕ → Message
  -- 3, sign: item
  signs : ℕ → Message
  -- 5, share: item
  shares : ℕ → Message
  -- 7, close
  closes : Message
  -- 9, hash: period
  hashes : ℕ → Message
  -- 11, back
  backs : Message
  -- 17, down, and 18, up
  falls : Message
  rises : Message

-- What the peer sends.
pub data Sent : Type 0 where
  -- period, item
  signature : ℕ → ℕ → Sent
  share : ℕ → ℕ → Sent
  -- period, board
  hash : ℕ → ℕ → Sent
  backing : ℕ → ℕ → Sent

-- the most items and peers that the rows of a fetch have place for
abbrev pub row_items : ℕ
row_items = 64

abbrev pub row_peers : ℕ
row_peers = 16
