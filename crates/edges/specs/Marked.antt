-- The marked cases of document 01, and further ones.
use Rattle.std.specs.Prelude.{true, false, [], ◌∷◌, ◌++◌, ◌≡◌, replicate}
use Rattle.header.specs.Header.{head_of, honest_count}
use Rattle.ballot.specs.Table.{refusal}
use Rattle.clash.specs.Clash.{clash_mask}
use Rattle.edges.specs.Tables.{empty, single, item, vote, audit, cancellation, clash, two_fives, three, case_r}
use Rattle.edges.specs.TwoDays.{slip_table}

-- the table's marked cases: 0 is taken, 1 header, 3 item
pub record TableEdges : Type 0 where
  pub three_peers_threshold_2 : refusal (empty 3 2) ≡ 1
  pub three_peers_threshold_3 : refusal (empty 3 3) ≡ 0
  pub sixteen_peers_threshold_10 : refusal (empty 16 10) ≡ 1
  pub sixteen_peers_threshold_11 : refusal (empty 16 11) ≡ 0
  pub vote_of_5_bytes : refusal (single (vote [])) ≡ 3
  pub vote_of_6_bytes : refusal (single (vote (255 ∷ []))) ≡ 0
  pub vote_of_37_bytes : refusal (single (vote (replicate 32 255))) ≡ 0
  pub vote_of_38_bytes : refusal (single (vote (replicate 33 255))) ≡ 3
  pub audit_of_6_bytes : refusal (single (item 2 (0 ∷ []))) ≡ 3
  pub votes_00_and_01_clash : clash (vote (0 ∷ [])) (vote (1 ∷ [])) ≡ true
  pub vote-and-audit-clash : clash (vote (0 ∷ [])) audit ≡ true
  pub vote_and_cancellation_do_not : clash (vote (0 ∷ [])) cancellation ≡ false

-- further cases of the table: 0 is taken, 1 header, 2 pairs, 3 item, 4 twin
pub record TableCases : Type 0 where
  -- the header: cut short, and each field out of range
  pub no_bytes : refusal [] ≡ 1
  pub five_bytes : refusal (1 ∷ 1 ∷ 0 ∷ 0 ∷ 1 ∷ []) ≡ 1
  pub no_peers : refusal (empty 0 0) ≡ 1
  pub seventeen_peers : refusal (empty 17 12) ≡ 1
  pub threshold_above_peers : refusal (empty 3 4) ≡ 1
  pub honest_above_peers : refusal (3 ∷ 3 ∷ 0 ∷ 8 ∷ 1 ∷ 0 ∷ []) ≡ 1
  pub all-honest : refusal (3 ∷ 3 ∷ 0 ∷ 7 ∷ 1 ∷ 0 ∷ []) ≡ 0
  pub no_periods : refusal (3 ∷ 3 ∷ 0 ∷ 7 ∷ 0 ∷ 0 ∷ []) ≡ 1
  pub nine_periods : refusal (3 ∷ 3 ∷ 0 ∷ 7 ∷ 9 ∷ 0 ∷ []) ≡ 1
  pub items_65 : refusal (3 ∷ 3 ∷ 0 ∷ 7 ∷ 1 ∷ 65 ∷ []) ≡ 1
  -- the pairs: cut short, off by one at either end, a byte too many
  pub pairs_cut_short : refusal (1 ∷ 1 ∷ 0 ∷ 0 ∷ 1 ∷ 1 ∷ 0 ∷ 10 ∷ 0 ∷ []) ≡ 2
  pub first_offset_9 : refusal (1 ∷ 1 ∷ 0 ∷ 0 ∷ 1 ∷ 1 ∷ 0 ∷ 9 ∷ 0 ∷ 6 ∷ audit) ≡ 2
  pub last_end_past_end : refusal (1 ∷ 1 ∷ 0 ∷ 0 ∷ 1 ∷ 1 ∷ 0 ∷ 10 ∷ 0 ∷ 6 ∷ audit) ≡ 2
  pub one_byte_more : refusal (case_r ++ (0 ∷ [])) ≡ 2
  pub no_items_one_byte_more : refusal (empty 1 1 ++ (0 ∷ [])) ≡ 2
  -- the items: empty, of no kind, the same twice
  pub item_of_0_bytes : refusal (single []) ≡ 3
  pub kind_0 : refusal (single (item 0 [])) ≡ 3
  pub kind_4 : refusal (single (item 4 [])) ≡ 3
  pub twins : refusal (two_fives (audit ++ audit)) ≡ 4
  pub audit-and-cancellation : refusal (two_fives (audit ++ cancellation)) ≡ 0
  -- the first in order is given
  pub header_before_pairs : refusal (empty 3 2 ++ (0 ∷ [])) ≡ 1
  pub pairs_before_item : refusal (single (item 4 []) ++ (0 ∷ [])) ≡ 2
  pub item_before_twin : refusal (two_fives (vote [] ++ vote [])) ≡ 3
  -- a table of a vote, an audit and a cancellation, by item numbers
  pub three_taken : refusal three ≡ 0
  pub first_clashes_with_second : clash_mask three 0 ≡ 2
  pub second_clashes_with_first : clash_mask three 1 ≡ 1
  pub third_with_none : clash_mask three 2 ≡ 0
  -- case R
  pub case_r_taken : refusal case_r ≡ 0
  pub case_r-honest : honest_count (head_of case_r) ≡ 1
  -- a vote and an audit of another ballot over three periods
  pub slip_taken : refusal slip_table ≡ 0
  pub slip_honest : honest_count (head_of slip_table) ≡ 3
