-- A worked run with clears, of an honest peer and a dishonest one, beside the same run without them.
use Rattle.std.specs.Prelude.{ℕ, true, false, List, [], ◌∷◌, ◌≡◌, eqb}
use Rattle.base.specs.Weight.{ones}
use Rattle.rules.specs.declared.Entry.TheVariants.{Hash, Backing, Board}
use Rattle.rules.specs.Table.{Table}
use Rattle.rules.specs.State.{fresh}
use Rattle.rules.specs.Run.{by_rules, answers_from}
use Rattle.gains.specs.Gain.{gain}
use Rattle.growth.specs.Growth.{never_full}
use Rattle.cleared_runs.specs.Cleared.{uncleared, translated_from, periods_cleared, without_clears, with_clears}
use Rattle.cleared_runs.specs.Gone.{gone_after}

-- two peers, of which the first is honest, threshold 1, two periods and one item
abbrev pub T : Table
T = record { n = 2; t = 1; honest = λ k. eqb k 1; weight_of = ones; periods = 2; items = 1; clash = λ x y. false }

-- op, peer, period, item or entry
abbrev call : ℕ → ℕ → ℕ → ℕ → List ℕ
call op j p x = op ∷ j ∷ 0 ∷ p ∷ x ∷ 0 ∷ 0 ∷ 0 ∷ 0 ∷ 0 ∷ 0 ∷ 0 ∷ 0 ∷ []

-- entry numbers are those of the run without clears: 0 and 1 the hashes, 2 the backing, 3 the board
abbrev pub calls : List (List ℕ)
calls =
    call 1 0 0 0 ∷ call 2 1 0 0 ∷ call 3 1 0 0 ∷ call 7 1 0 0
    -- the hash of peer 1, and a false one of peer 2, of no items
    ∷ call 9 1 0 0 ∷ call 15 2 0 0
    -- a clear before peer 1 has backed: 9
    ∷ call 19 0 0 0
    ∷ call 10 1 0 0 ∷ call 10 1 0 1 ∷ call 11 1 0 0
    -- the clear, though peer 2 has backed nothing; a hash is unknown then, and the backing is published all the same
    ∷ call 19 0 0 0 ∷ call 10 1 0 0 ∷ call 12 0 0 2
    -- peer 1's hash is sent again, and heard
    ∷ call 9 1 0 0 ∷ call 10 1 0 0
    -- clears of the open period, of one that the table does not have, and one that is not formed
    ∷ call 19 0 1 0 ∷ call 19 0 2 0 ∷ call 19 1 0 0 ∷ []

pub record WorkedClears : Type 0 where
  pub before : answers_from (by_rules T) fresh (uncleared calls)
      ≡ (0 ∷ 0 ∷ 0 ∷ 0 ∷ 0 ∷ 0 ∷ 0 ∷ 0 ∷ 0 ∷ 0 ∷ 0 ∷ 0 ∷ 0 ∷ 5 ∷ [])
  pub never_full_lem : never_full (answers_from (by_rules T) fresh (uncleared calls)) ≡ true
  pub after : answers_from (by_rules T) fresh (translated_from (by_rules T) fresh fresh calls)
      ≡ (0 ∷ 0 ∷ 0 ∷ 0 ∷ 0 ∷ 0 ∷ 9 ∷ 0 ∷ 0 ∷ 0 ∷ 0 ∷ 10 ∷ 0 ∷ 0 ∷ 0 ∷ 9 ∷ 6 ∷ 5 ∷ [])
  pub bag_before : (without_clears (by_rules T) fresh calls).bag
      ≡ (Hash 1 0 1 ∷ Hash 2 0 0 ∷ Backing 1 0 1 ∷ Board 0 1 ∷ [])
  pub bag_after : (with_clears (by_rules T) fresh calls).bag ≡ (Backing 1 0 1 ∷ Board 0 1 ∷ Hash 1 0 1 ∷ [])
  pub periods : (periods_cleared (by_rules T) fresh calls 0 ≡ true) × (periods_cleared (by_rules T) fresh calls 1 ≡ false)
  -- peer 2's hash is gone, and peer 1's is there again
  pub gone : (gone_after T (by_rules T) fresh calls (Hash 2 0 0) ≡ true)
      × (gone_after T (by_rules T) fresh calls (Hash 1 0 1) ≡ false)
  -- two hashes, a false one, a back and a publish
  pub gains : gain calls ≡ 5
