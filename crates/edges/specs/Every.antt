-- What the marked cases of the table are cases of: said of every table, every text and every two items.
use Rattle.std.specs.Prelude.{ℕ, ◌*◌, ◌≤◌, true, false, cond, List, ◌≡◌, eqb, length}
use Rattle.base.specs.Bytes.{between}
use Rattle.header.specs.Season.{zero_then}
use Rattle.header.specs.Header.{peers_of, threshold_of, total_weight}
use Rattle.ballot.specs.declared.item.Kind.TheVariants.{Vote, Audit, Cancellation}
use Rattle.ballot.specs.declared.item.Audits.{Audits}
use Rattle.ballot.specs.declared.item.Audits.TheVariants.{Bare, Placed, Either}
use Rattle.ballot.specs.declared.item.Item.{Item}
use Rattle.ballot.specs.Item.{kind_byte, kind_number, read_item, reading_number}
use Rattle.ballot.specs.Table.{refusal}
use Rattle.clash.specs.Clash.{items_clash}

pub record EveryTable : Type 0 where
  -- a threshold of two thirds of what all peers weigh, or of less, is refused with 1, whatever else the table says; so
  -- with peers that weigh 1 it is refused at two thirds of them
  pub two_thirds : (table : List ℕ) → 3 * threshold_of table ≤ 2 * total_weight table → refusal table ≡ 1
  pub two_thirds_counted : (table : List ℕ) → zero_then table 3 ≡ false → 3 * threshold_of table ≤ 2 * peers_of table
      → refusal table ≡ 1
  -- a vote is taken exactly if it has 6 to 37 bytes, a cancellation if it has 5; an audit if it has 5 in tables of the
  -- first season, 6 in those of later ones, and either in a sheet
  pub votes : (audits : Audits) (text : List ℕ) (n : ℕ) → kind_byte text ≡ kind_number (Vote n)
      → reading_number (read_item audits text) ≡ cond (between 6 (length text) 37) 0 3
  pub audits : (text : List ℕ) → kind_byte text ≡ kind_number Audit
      → reading_number (read_item Bare text) ≡ cond (eqb (length text) 5) 0 3
  pub placed-audits : (text : List ℕ) → kind_byte text ≡ kind_number Audit
      → reading_number (read_item Placed text) ≡ cond (eqb (length text) 6) 0 3
  pub either_audits : (text : List ℕ) → kind_byte text ≡ kind_number Audit
      → reading_number (read_item Either text) ≡ cond (between 5 (length text) 6) 0 3
  pub cancellations : (audits : Audits) (text : List ℕ) → kind_byte text ≡ kind_number Cancellation
      → reading_number (read_item audits text) ≡ cond (eqb (length text) 5) 0 3
  -- of two items of one ballot, a vote clashes with any that is no cancellation, whichever stands first; a
  -- cancellation with none; nor two audits without a place
  pub votes_clash : (a b : Item) (n : ℕ) → a.ballot ≡ b.ballot → a.kind ≡ Vote n → (b.kind ≡ Cancellation → ⊥)
      → (items_clash a b ≡ true) × (items_clash b a ≡ true)
  pub cancellations_do_not : (a b : Item) → a.kind ≡ Cancellation → (items_clash a b ≡ false) × (items_clash b a ≡ false)
  pub audits_do_not : (a b : Item) → a.kind ≡ Audit → b.kind ≡ Audit → items_clash a b ≡ false
