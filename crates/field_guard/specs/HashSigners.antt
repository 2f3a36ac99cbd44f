-- The signers of the heard hashes of a period and a board.
use Rattle.std.specs.Prelude.{ℕ, List}
use Rattle.state.specs.Layout.{hash_kind}
use Rattle.bag.specs.Bag.{signer_with}
use Rattle.field_state.specs.Holding.{hash_at}

-- the signer of heard hash e if it is of period p and board B, else 0
unfoldable pub hash_signer : List ℕ → ℕ → ℕ → ℕ → ℕ
hash_signer s p B e = signer_with hash_kind p B (hash_at s e)
