-- What a table that is not refused has.
use Rattle.std.specs.Prelude.{ℕ, ◌+◌, ◌*◌, ◌≤◌, ◌<◌, true, List, ◌≡◌, length}
use Rattle.header.specs.Header.{header_size, peers_of, threshold_of, periods_of, items_of, weight_in, total_weight, head_of}
use Rattle.header.specs.Header.{is_honest}
use Rattle.header.specs.Quorum.{weight_of}
use Rattle.pairs.specs.Pairs.{offset_of, size_of}
use Rattle.ballot.specs.declared.item.Audits.TheVariants.{Either}
use Rattle.ballot.specs.Item.{is_item}
use Rattle.ballot.specs.Table.{audits_of, item_text}

pub record Sound (s : List ℕ) : Type 0 where
  -- n is 1 to 16
  pub peers_least : 1 ≤ peers_of s
  pub peers_most : peers_of s ≤ 16
  -- the weight of each peer is 1 to 4, and the header's struct has it
  pub weight_least : (k : ℕ) → 1 ≤ weight_in s k
  pub weight_most : (k : ℕ) → weight_in s k ≤ 4
  pub weight-read : (k : ℕ) → weight_of (head_of s) k ≡ weight_in s k
  -- 2W < 3t ≤ 3W, and W is at most 64
  pub threshold_rule : 2 * total_weight s < 3 * threshold_of s
  pub threshold_most : 3 * threshold_of s ≤ 3 * total_weight s
  pub total_most : total_weight s ≤ 64
  -- the honest peers are among the n
  pub honest_peer : (k : ℕ) → is_honest (head_of s) k ≡ true → (1 ≤ k) × (k ≤ peers_of s)
  -- P is 1 to 8
  pub periods_least : 1 ≤ periods_of s
  pub periods_most_lem : periods_of s ≤ 8
  -- m is 0 to 64
  pub items_most_lem : items_of s ≤ 64
  -- each item's text lies in the table, has the length that its pair says, and reads as an item: as one of the table's
  -- season, and so as one of a sheet, which takes either kind of audits
  pub text_within : (k : ℕ) → k < items_of s → offset_of s (header_size s) k + size_of s (header_size s) k ≤ length s
  pub text_length : (k : ℕ) → k < items_of s → length (item_text s k) ≡ size_of s (header_size s) k
  pub text_season : (k : ℕ) → k < items_of s → is_item (audits_of s) (item_text s k) ≡ true
  pub text_good : (k : ℕ) → k < items_of s → is_item Either (item_text s k) ≡ true
  -- no two items have the same text
  pub no_twins_lem : (i j : ℕ) → i < items_of s → j < items_of s → item_text s i ≡ item_text s j → i ≡ j
