-- The same of a list of calls whose entry numbers are those of the run with clears: translated back for the run without
-- them.
use Rattle.std.specs.Prelude.{ℕ, ◌<◌, Bool, false, cond, ◌||◌, List, [], ◌∷◌, ◌≡◌, eqb, ltb, length, set}
use Rattle.base.specs.Bytes.{byte_at}
use Rattle.rules.specs.declared.Entry.{Entry}
use Rattle.rules.specs.Table.{Table}
use Rattle.rules.specs.Bag.{entry_at, place_in}
use Rattle.rules.specs.Form.{read}
use Rattle.rules.specs.Run.{Engine}
use Rattle.gains.specs.Gain.{is_op}
use Rattle.cleared_runs.specs.Cleared.{clears, uncleared, answer_with, AsBefore}

-- number e of the bag `own`, as a number of the bag `all` that has its entries; one at which `own` has no entry becomes
-- one at which `all` has none
unfoldable pub back_number : List Entry → List Entry → ℕ → ℕ
back_number own all e = cond (ltb e (length own)) (place_in all (entry_at own e)) (length all)

unfoldable pub untranslated : List Entry → List Entry → List ℕ → List ℕ
untranslated own all d = cond (is_op 10 d || is_op 12 d) (set d 4 (back_number own all (byte_at d 4))) d

module _ {X : Type 0} (E : Engine X) where
  -- the calls translated back one after the other, where the run without clears is at u and the one with them at v
  unfoldable pub untranslated_from : X → X → List (List ℕ) → List (List ℕ)
  untranslated_from u v [] = []
  untranslated_from u v (d ∷ calls) =
      let c = untranslated (E.holds v).bag (E.holds u).bag d in
      c ∷ untranslated_from (cond (clears (read c)) u (E.leaves u c)) (E.leaves v d) calls

  -- the calls without the clears, in the numbers of the run without them
  abbrev pub uncleared_back : X → List (List ℕ) → List (List ℕ)
  uncleared_back x calls = uncleared (untranslated_from x x calls)

-- what holds of the two runs, and of any call that comes next in the numbers of the run with clears
pub record AsOwn (T : Table) {X : Type 0} (E : Engine X) (S : ℕ → Bool) (u v : X) : Type 0 where
  pub before : AsBefore T E S u v
  pub answers : (d : List ℕ)
      → let from = (E.holds u).bag in let to = (E.holds v).bag in let c = untranslated to from d in
      eqb (E.answers u c) 13 ≡ false → E.answers v d ≡ answer_with from to c (E.answers u c)
  -- a number that is a byte stays one, unless the bag of the run without clears has 256 entries
  pub bytes : (e : ℕ) → let from = (E.holds u).bag in length from < 256 → back_number (E.holds v).bag from e < 256
