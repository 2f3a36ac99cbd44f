-- The receipts of a period as a set of items: bit i for item i.
use Rattle.std.specs.Prelude.{ℕ}
use Rattle.base.specs.Bits.{pack}
use Rattle.state.specs.declared.Fact.TheVariants.{Receipted}
use Rattle.state.specs.Layout.{items}
use Rattle.state.specs.Contents.{Contents}

-- the items for which there is a receipt of period p
unfoldable pub receipted_of : Contents → ℕ → ℕ
receipted_of c p = pack items (λ i. c.has (Receipted p i))
