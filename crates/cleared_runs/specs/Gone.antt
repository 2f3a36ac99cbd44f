-- The hashes that are gone from the run with clears, from its calls and answers: those of a period that is cleared
-- join, and one that is sent again leaves.
use Rattle.std.specs.Prelude.{ℕ, Bool, true, false, cond, ◌&&◌, ◌||◌, not, List, [], ◌∷◌, ◌≡◌, eqb}
use Rattle.rules.specs.declared.Entry.{Entry}
use Rattle.rules.specs.declared.Entry.TheVariants.{Hash}
use Rattle.rules.specs.declared.Step.{Step}
use Rattle.rules.specs.Form.{Call}
use Rattle.std.specs.Prelude.{Some, None}
use Rattle.rules.specs.Table.{Table}
use Rattle.rules.specs.Bag.{same_entry, is_in, is_hash, is_hash_of}
use Rattle.rules.specs.State.{State}
use Rattle.rules.specs.Form.{read}
use Rattle.rules.specs.declared.Fields.{Fields}
use Rattle.rules.specs.Fields.{fields}
use Rattle.rules.specs.Rules.{board_by}
use Rattle.rules.specs.Run.{Engine}
use Rattle.cleared_runs.specs.Cleared.{translated_from}

-- the hash that a step sends: an honest peer's own, of its board on the state s, or a false one
abbrev pub hash_sent : Table → State → Fields → Entry
hash_sent T s f = Hash f.peer f.period (cond (eqb f.op 9) (board_by T s f.peer f.period) f.board)

-- a step that is answered 0, on the state s
unfoldable pub gone_with : Table → State → Step → (Entry → Bool) → Entry → Bool
gone_with T s st gone a =
    let f = fields st in
    cond (eqb f.op 19) (is_hash_of f.period a || gone a)
    (cond (eqb f.op 9 || eqb f.op 15) (not (same_entry a (hash_sent T s f)) && gone a) (gone a))

unfoldable pub gone_call : Table → State → Call → ℕ → (Entry → Bool) → Entry → Bool
gone_call T s (Some st) r gone = cond (eqb r 0) (gone_with T s st gone) gone
gone_call T s None r gone = gone

module _ (T : Table) {X : Type 0} (E : Engine X) where
  -- along a list of calls, as the run with clears gets them
  unfoldable pub gone_from : (Entry → Bool) → X → List (List ℕ) → Entry → Bool
  gone_from gone x [] = gone
  gone_from gone x (c ∷ calls) = gone_from (gone_call T (E.holds x) (read c) (E.answers x c) gone) (E.leaves x c) calls

  abbrev pub gone_after : X → List (List ℕ) → Entry → Bool
  gone_after x calls = gone_from (λ a. false) x (translated_from E x x calls)

-- own has the entries of all that are not gone; only hashes are
pub record Exactly (gone : Entry → Bool) (all own : List Entry) : Type 0 where
  pub only : (a : Entry) → gone a ≡ true → is_hash a ≡ true
  pub exact : (a : Entry) → is_in a own ≡ (is_in a all && not (gone a))
