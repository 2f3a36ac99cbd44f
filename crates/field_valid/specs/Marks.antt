-- Marks of heard hashes: bag_valid's marks of entries, so that most hashes that differ need not be compared.
use Rattle.std.specs.Prelude.{ℕ, ◌+◌, Bool, true, List, ◌≡◌}
use Rattle.std.proofs.Common.{ap}
use Rattle.base.specs.Bytes.{byte_at}
use Rattle.bits.specs.Number.{num}
use Rattle.rules.specs.declared.Entry.{Entry}
use Rattle.rules.specs.Bag.{signer_of, period_of, board_of}
use Rattle.rules.proofs.Bag.{eq_of_same}
use Rattle.state.specs.Layout.{hash_kind, item_bytes}
use Rattle.bag_valid.specs.Numbers.{mark_of}
use Rattle.field_state.specs.Layout.{hash_start}
use Rattle.field_state.specs.Holding.{hash_at}
use Rattle.field_state.specs.Hearing.{same_at}

module _ (s : List ℕ) where
  unfoldable pub mark_at : ℕ → ℕ
  mark_at e = let o = hash_start e in mark_of hash_kind (byte_at s o) (byte_at s (o + 1)) (num item_bytes s (o + 2))

  -- heard hash d is heard hash e
  abbrev pub same_as : ℕ → ℕ → Bool
  same_as e d = same_at s (byte_at s (hash_start e)) (byte_at s (hash_start e + 1)) (num item_bytes s (hash_start e + 2)) d

  -- the same hash has the same mark
  pub same_mark : (e d : ℕ) → same_as e d ≡ true → mark_at e ≡ mark_at d
  unfolding same_at hash_at mark_at
  same_mark e d t = ap (λ (x : Entry). mark_of hash_kind (signer_of x) (period_of x) (board_of x)) (eq_of_same (hash_at s e) (hash_at s d) t)
