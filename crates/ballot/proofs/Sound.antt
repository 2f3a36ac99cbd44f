-- A table that is not refused is sound: each of its facts comes from one of the tests that it has passed.
use Prim.Native.Nat.{ℕ, ◌<◌}
use native.Mathlib.Omega.{arith}
use mathlib.Core.Bool.{true}
use mathlib.Core.List.{List}
use mathlib.Core.Path.{◌≡◌, sym, ap, ◌∙◌}
use lib.ListN.{length}
use borrow.Author.Tests.{lt-ltb, not-false}
use Rattle.base.proofs.Refusals.{passed}
use Rattle.header.specs.Header.{header_size, peers_of, threshold_of, items_of, total_weight, header_ok}
use Rattle.header.proofs.TwoThirds.{threshold_rule}
use Rattle.header.proofs.Ranges.{peers_range, weights_right, threshold_range, honest_range, periods_range, items_range}
use Rattle.header.proofs.Weighing.{weight_range, weight-read, total_most}
use Rattle.pairs.specs.Pairs.{text_of}
use Rattle.pairs.proofs.Texts.{text_within, text_length}
use Rattle.twins.proofs.Apart.{same_number_lem}
use Rattle.ballot.specs.Item.{is_item}
use Rattle.ballot.specs.Table.{audits_of, table_pairs_ok, item_below, item_text, items_ok, no_twins, table_refusals, refusal}
use Rattle.ballot.specs.Sound.{Sound}
use Rattle.ballot.proofs.Readings.{each_item, either_item}

-- the items

-- below m the text of item k is what its pair marks out
pub text_of_lem : (s : List ℕ) (k : ℕ) → k < items_of s → item_text s k ≡ text_of s (header_size s) k
unfolding item_below
text_of_lem s k l = rw (lt-ltb k (items_of s) l)

all_good : (s : List ℕ) → items_ok s ≡ true → (k : ℕ) → k < items_of s → is_item (audits_of s) (item_text s k) ≡ true
unfolding items_ok
all_good s ok k l = rw (text_of_lem s k l) (each_item (audits_of s) s (header_size s) (items_of s) ok k l)

same_item : (s : List ℕ) → no_twins s ≡ true → (i j : ℕ) → i < items_of s → j < items_of s → item_text s i ≡ item_text s j → i ≡ j
unfolding no_twins
same_item s ok i j l h e = same_number_lem s (header_size s) (items_of s) ok i j l h (sym (text_of_lem s i l) ∙ e ∙ text_of_lem s j h)

-- the whole table

pub sound : (s : List ℕ) → refusal s ≡ 0 → Sound s
unfolding refusal table_pairs_ok
sound s e =
    let tests = passed (table_refusals s) e in
    let header = not-false (header_ok s) tests.0 in
    let pairs = not-false (table_pairs_ok s) tests.1.0 in
    let items = not-false (items_ok s) tests.1.1.0 in
    let twins = not-false (no_twins s) tests.1.1.1.0 in
    let peers = peers_range s header in
    let weights = weights_right s header in
    let threshold = threshold_range s header in
    let periods = periods_range s header in
    record {
      peers_least = peers.0;
      peers_most = peers.1;
      weight_least = λ k. (weight_range s weights k).0;
      weight_most = λ k. (weight_range s weights k).1;
      weight-read = weight-read s header;
      threshold_rule = threshold_rule (total_weight s) (threshold_of s) threshold.0;
      threshold_most = omega (arith, threshold.1);
      total_most = omega (arith, total_most s weights (peers_of s), peers.1);
      honest_peer = honest_range s header;
      periods_least = periods.0;
      periods_most_lem = periods.1;
      items_most_lem = items_range s header;
      text_within = text_within s (header_size s) (items_of s) pairs;
      text_length = λ k l. ap length (text_of_lem s k l) ∙ text_length s (header_size s) (items_of s) pairs k l;
      text_season = all_good s items;
      text_good = λ k l. either_item (audits_of s) (item_text s k) (all_good s items k l);
      no_twins_lem = same_item s twins;
    }
