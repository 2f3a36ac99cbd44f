-- Rows that a message brings: judged, and added to the database.
use Rattle.std.specs.Prelude.{ℕ, ◌+◌, Bool, ◌&&◌, ◌||◌, List, eqb, ltb}
use Rattle.base.specs.Bits.{member}
use Rattle.base.specs.Below.{any}
use Rattle.header.specs.declared.Head.{Head}
use Rattle.rules.specs.Rules.{no_item, no_peer}
use Rattle.field_rules.specs.Box.{Box, box_db}
use Rattle.field_rules.specs.Message.{row_peers}
use Rattle.field_rules.specs.Rules.{own_rows}
use Rattle.field_rules.specs.MessageBytes.{rows_in}

-- the message brings a signer on item x that the table has not
unfoldable pub stray_at : Head → List ℕ → ℕ → Bool
stray_at h s x = any row_peers (λ k. rows_in s x (k + 1) && (no_item h.items x || no_peer h.n (k + 1)))

-- a set of signers on item x added to the database of period p
unfoldable pub joining : ℕ → ℕ → ℕ → Box → Box
joining p x v b = box_db b (λ q y k. (eqb q p && (eqb y x && member v k)) || b.db q y k)

-- the first n rows that a message brings added to it
unfoldable pub rows_to : ℕ → ℕ → List ℕ → Box → Box
rows_to p n s b = box_db b (own_rows p (λ y k. ltb y n && rows_in s y k) b.db)
