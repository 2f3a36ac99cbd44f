-- A worked run of the field peer alone, and single answers: what document 02 has it answer and send.
use Rattle.std.specs.Prelude.{◌&&◌, ◌||◌, List, [], ◌∷◌, ◌≡◌, eqb, replicate}
use Rattle.std.proofs.Math.Option.{none, some}
use Rattle.base.specs.Weight.{ones}
use Rattle.rules.specs.declared.Entry.TheVariants.{Hash}
use Rattle.rules.specs.Table.{Table}
use Rattle.field_rules.specs.Box.{Box, box_heard, box_current, fresh_box}
use Rattle.field_rules.specs.Message.{Message, handed, taken, fetched, told, signs, shares, closes, hashes, backs, falls, rises, signature, share, hash, backing}
use Rattle.field_rules.specs.Rules.{handle_answer}
use Rattle.field_rules.specs.Replies.{box_replies}

-- two peers, both honest, of which both must sign; two items that clash
abbrev pub two : Table
two = record {
  n = 2;
  t = 2;
  honest = λ k. eqb k 1 || eqb k 2;
  weight_of = ones;
  periods = 2;
  items = 2;
  clash = λ x y. (eqb x 0 && eqb y 1) || (eqb x 1 && eqb y 0);
}

-- what comes to peer 1
abbrev pub day : List Message
day =
    -- an item, and one that clashes with it; a share too early, the signature twice, and peer 2's
    handed 0 ∷ handed 1 ∷ shares 0 ∷ signs 0 ∷ signs 0 ∷ taken 2 0 0
    -- the share, twice; a hash of the open period; the close
    ∷ shares 0 ∷ shares 0 ∷ told 2 0 1 ∷ closes
    -- the item again on the next day: held and signed, and no second share
    ∷ handed 0 ∷ signs 0 ∷ taken 2 1 0 ∷ shares 0
    -- hashes of a board that is not the peer's own count for nothing
    ∷ told 1 0 0 ∷ told 2 0 0 ∷ backs ∷ hashes 0
    -- those of its own do
    ∷ told 1 0 1 ∷ told 2 0 1 ∷ backs ∷ backs
    -- down and up; names that the table has not
    ∷ falls ∷ signs 0 ∷ rises ∷ signs 2 ∷ taken 3 0 0 ∷ []

-- the open period is 1, and 256 hashes are heard
abbrev pub full_box : Box
full_box = box_heard (box_current fresh_box 1) (replicate 256 (Hash 1 0 0))

pub record WorkedDay : Type 0 where
  pub replies : box_replies two 1 fresh_box day ≡ (
      (0, none) ∷ (11, none) ∷ (12, none) ∷ (0, some (signature 0 0)) ∷ (0, some (signature 0 0)) ∷ (0, none)
      ∷ (0, some (share 0 0)) ∷ (0, some (share 0 0)) ∷ (9, none) ∷ (0, none)
      ∷ (0, none) ∷ (0, some (signature 1 0)) ∷ (0, none) ∷ (17, none)
      ∷ (0, none) ∷ (0, none) ∷ (12, none) ∷ (0, some (hash 0 1))
      ∷ (0, none) ∷ (0, none) ∷ (0, some (backing 0 1)) ∷ (9, none)
      ∷ (0, none) ∷ (8, none) ∷ (0, none) ∷ (6, none) ∷ (6, none) ∷ [])
  -- rows of an item, and of a signer, that the table has not
  pub stray_item : handle_answer two 1 (box_current fresh_box 1) (fetched 2 0 (λ x k. eqb x 2 && eqb k 1)) ≡ 6
  pub stray_signer : handle_answer two 1 (box_current fresh_box 1) (fetched 2 0 (λ x k. eqb x 1 && eqb k 3)) ≡ 6
  pub rows : handle_answer two 1 (box_current fresh_box 1) (fetched 2 0 (λ x k. eqb x 1 && eqb k 2)) ≡ 0
  -- a 257th hash, and one of the 256 again
  pub full : handle_answer two 1 full_box (told 2 0 1) ≡ 13
  pub heard : handle_answer two 1 full_box (told 1 0 0) ≡ 0
  -- a peer that the table has not
  pub nobody : handle_answer two 3 fresh_box closes ≡ 6
