-- A worked run of the two peers of the worked day, with the box of peer 1 beside it: what it should answer and send.
use Rattle.std.specs.Prelude.{ℕ, true, false, List, [], ◌∷◌, ◌≡◌}
use Rattle.std.proofs.Math.Option.{none, some}
use Rattle.rules.specs.declared.Entry.TheVariants.{Hash}
use Rattle.rules.specs.State.{fresh}
use Rattle.rules.specs.Run.{by_rules, store_from, answers_from}
use Rattle.field_rules.specs.Box.{fresh_box}
use Rattle.field_rules.specs.Message.{signature, share, hash, backing}
use Rattle.field_rules.specs.Replies.{box_after, box_replies}
use Rattle.field_rules.specs.Worked.{two}
use Rattle.field_runs.specs.Beside.{messages, replies, all_sent, neither_full, always_below}

-- op, peer, other, period, item
abbrev pub call : ℕ → ℕ → ℕ → ℕ → ℕ → List ℕ
call op j k p x = op ∷ j ∷ k ∷ p ∷ x ∷ 0 ∷ 0 ∷ 0 ∷ 0 ∷ 0 ∷ 0 ∷ 0 ∷ 0 ∷ []

abbrev pub calls : List (List ℕ)
calls =
    -- a post; a hand of what is not posted passes none; a hand, a signature, and the signature again
    call 1 0 0 0 0 ∷ call 2 1 0 0 1 ∷ call 2 1 0 0 0 ∷ call 3 1 0 0 0 ∷ call 3 1 0 0 0
    -- short; peer 2's steps pass none; peer 1 takes the signature and shares
    ∷ call 5 1 0 0 0 ∷ call 2 2 0 0 0 ∷ call 3 2 0 0 0 ∷ call 4 1 2 0 0 ∷ call 5 1 0 0 0
    -- a close; a fetch from peer 2, which has not closed, passes none; a second share for the item is given
    ∷ call 7 1 0 0 0 ∷ call 8 1 2 0 0 ∷ call 2 1 0 0 0 ∷ call 3 1 0 0 0 ∷ call 5 1 0 0 0
    -- hashes of both, a fetch that passes, both hashes heard, backings, and a clear
    ∷ call 9 1 0 0 0 ∷ call 7 2 0 0 0 ∷ call 8 2 1 0 0 ∷ call 9 2 0 0 0 ∷ call 8 1 2 0 0
    ∷ call 11 1 0 0 0 ∷ call 10 1 0 0 0 ∷ call 10 1 0 0 1 ∷ call 10 1 0 0 2 ∷ call 11 1 0 0 0
    ∷ call 10 2 0 0 0 ∷ call 10 2 0 0 1 ∷ call 11 2 0 0 0 ∷ call 19 0 0 0 0
    -- a fetch from peer 2 while it is down passes none
    ∷ call 17 2 0 0 0 ∷ call 8 1 2 0 0 ∷ call 18 2 0 0 0
    -- down and up; an item out of range; no step
    ∷ call 17 1 0 0 0 ∷ call 3 1 0 0 0 ∷ call 18 1 0 0 0 ∷ call 3 1 0 0 2 ∷ (0 ∷ []) ∷ []

pub record WorkedBox : Type 0 where
  -- what the rehearsal answers
  pub answers : answers_from (by_rules two) fresh calls ≡ (
      0 ∷ 10 ∷ 0 ∷ 0 ∷ 0 ∷ 12 ∷ 0 ∷ 0 ∷ 0 ∷ 0 ∷ 0 ∷ 9 ∷ 0 ∷ 0 ∷ 17 ∷ 0 ∷ 0 ∷ 0 ∷ 0 ∷ 0 ∷ 12 ∷ 0 ∷ 0 ∷ 10 ∷ 0
      ∷ 0 ∷ 0 ∷ 0 ∷ 0 ∷ 0 ∷ 8 ∷ 0 ∷ 0 ∷ 8 ∷ 0 ∷ 6 ∷ 5 ∷ [])
  -- what the box answers and sends
  pub box : box_replies two 1 fresh_box (messages two 1 (by_rules two) fresh calls) ≡ (
      (0, none) ∷ (0, some (signature 0 0)) ∷ (0, some (signature 0 0)) ∷ (12, none) ∷ (0, none) ∷ (0, some (share 0 0))
      ∷ (0, none) ∷ (0, none) ∷ (0, some (signature 1 0)) ∷ (17, none)
      ∷ (0, some (hash 0 1)) ∷ (0, none) ∷ (12, none) ∷ (0, none) ∷ (0, none) ∷ (0, some (backing 0 1)) ∷ (0, none)
      ∷ (8, none) ∷ (0, none) ∷ (6, none) ∷ [])
  -- and peer 1 of the rehearsal
  pub peer : replies two 1 (by_rules two) fresh calls ≡ box_replies two 1 fresh_box
      (messages two 1 (by_rules two) fresh calls)
  pub sent : all_sent two 1 (by_rules two) fresh
      calls ≡ (signature 0 0 ∷ signature 0 0 ∷ share 0 0 ∷ signature 1 0 ∷ hash 0 1 ∷ backing 0 1 ∷ [])
  -- neither store was full
  pub roomy : neither_full two 1 (by_rules two) fresh fresh_box calls ≡ true
  pub below : always_below two 1 (by_rules two) fresh fresh_box calls ≡ true
  -- the clear took the hashes of a period that is backed from the rehearsal; the box keeps them
  pub heard : (box_after two 1 fresh_box (messages two 1 (by_rules two) fresh calls)).heard ≡ (Hash 1 0 1 ∷ Hash 2 0 1 ∷ [])
  pub cleared : (store_from (by_rules two) fresh calls).heard 1 1 0 1 ≡ false
