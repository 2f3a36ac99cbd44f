-- The peers whose entries support a board of a period, gathered into a set of peers.
use Rattle.std.specs.Prelude.{ℕ, ◌+◌, Option, Some, None, cond, eqb}
use Rattle.base.specs.Below.{any}
use Rattle.base.specs.Bits.{pack}
use Rattle.rules.specs.Bag.{entry_at}
use Rattle.state.specs.declared.Fact.TheVariants.{Heard}
use Rattle.state.specs.Layout.{peers, hash_kind, backing_kind}
use Rattle.state.specs.Contents.{Contents}
use Rattle.bag.specs.Bag.{signer_with}

-- a peer that was found, else 0
abbrev pub or_zero : Option ℕ → ℕ
or_zero (Some k) = k
or_zero None = 0

-- the signer of entry e if it is a hash of period p and board B that peer j heard, else 0
unfoldable pub heard_signer : Contents → ℕ → ℕ → ℕ → ℕ → ℕ
heard_signer c j p B e = cond (c.has (Heard j e)) (signer_with hash_kind p B (entry_at c.bag e)) 0

-- the signer of entry e if it is a backing of period p and board B, else 0
unfoldable pub back_signer : Contents → ℕ → ℕ → ℕ → ℕ
back_signer c p B e = signer_with backing_kind p B (entry_at c.bag e)

-- the set of the peers f 0 to f (n - 1)
unfoldable pub gathered : (ℕ → ℕ) → ℕ → ℕ
gathered f n = pack peers (λ k. any n (λ e. eqb (f e) (k + 1)))
