-- A run with clears beside the same run without them: the same list of calls, whose entry numbers are those of the run
-- without clears.
use Rattle.std.specs.Prelude.{ℕ, ◌<◌, Bool, true, false, cond, ◌&&◌, ◌||◌, not, List, [], ◌∷◌, ◌++◌, ◌≡◌, eqb, ltb, length, set}
use Rattle.base.specs.Bytes.{byte_at}
use Rattle.base.specs.Sets.{add1}
use Rattle.rules.specs.declared.Entry.{Entry}
use Rattle.rules.specs.declared.Entry.TheVariants.{Hash, Backing, Board}
use Rattle.rules.specs.declared.Step.{Step}
use Rattle.rules.specs.declared.Step.TheVariants.{SendHash, FalseHash}
use Rattle.rules.specs.Form.{Call}
use Rattle.std.specs.Prelude.{Some, None}
use Rattle.rules.specs.Table.{Table}
use Rattle.rules.specs.Bag.{is_in, entry_at, place_in, is_hash, period_of}
use Rattle.rules.specs.State.{State, with_bag_lem, with_heard}
use Rattle.rules.specs.Form.{read}
use Rattle.rules.specs.Fields.{fields}
use Rattle.rules.specs.Backed.{unbacked}
use Rattle.rules.specs.Rules.{board_by}
use Rattle.rules.specs.Run.{Engine, store_from}
use Rattle.gains.specs.Gain.{is_op}

-- the step is a clear
abbrev pub is_clear : Step → Bool
is_clear st = eqb (fields st).op 19

unfoldable pub clears : Call → Bool
clears (Some st) = is_clear st
clears None = false

-- the periods of S, and that of a clear which is answered 0
unfoldable pub with_call : (ℕ → Bool) → Call → ℕ → ℕ → Bool
with_call S (Some st) a = cond (is_clear st && eqb a 0) (add1 (fields st).period S) S
with_call S None a = S

-- the calls without the clears
unfoldable pub uncleared : List (List ℕ) → List (List ℕ)
uncleared [] = []
uncleared (c ∷ calls) = cond (clears (read c)) (uncleared calls) (c ∷ uncleared calls)

-- the calls with the clears: entry numbers translated

-- number e of the bag `from`, as a number of the bag `to`: the place of the entry there, or where `to` lacks it the
-- length of `to`, at which it has none; a number at which `from` has no entry stays
unfoldable pub renumber : List Entry → List Entry → ℕ → ℕ
renumber from to e = cond (ltb e (length from)) (place_in to (entry_at from e)) e

-- the call with its entry number translated; hear and publish have one, as byte 4
unfoldable pub translated : List Entry → List Entry → List ℕ → List ℕ
translated from to c = cond (is_op 10 c || is_op 12 c) (set c 4 (renumber from to (byte_at c 4))) c

module _ {X : Type 0} (E : Engine X) where
  -- the calls translated one after the other, where the run without clears is at u and the one with them at v
  unfoldable pub translated_from : X → X → List (List ℕ) → List (List ℕ)
  translated_from u v [] = []
  translated_from u v (c ∷ calls) =
      let d = translated (E.holds u).bag (E.holds v).bag c in
      d ∷ translated_from (cond (clears (read c)) u (E.leaves u c)) (E.leaves v d) calls

  -- the periods of S, and those that clears among the calls, answered 0, have cleared
  unfoldable pub cleared_from : (ℕ → Bool) → X → List (List ℕ) → ℕ → Bool
  cleared_from S x [] = S
  cleared_from S x (c ∷ calls) = cleared_from (with_call S (read c) (E.answers x c)) (E.leaves x c) calls

  -- the two stores after the calls, both from x
  abbrev pub without_clears : X → List (List ℕ) → X
  without_clears x calls = store_from E x (uncleared calls)

  abbrev pub with_clears : X → List (List ℕ) → X
  with_clears x calls = store_from E x (translated_from x x calls)

  -- and the periods that were cleared
  abbrev pub periods_cleared : X → List (List ℕ) → ℕ → Bool
  periods_cleared x calls = cleared_from (λ p. false) x (translated_from x x calls)

-- what holds between them

-- the entries that are no hashes
unfoldable pub no_hashes : List Entry → List Entry
no_hashes [] = []
no_hashes (Hash k p B ∷ bag) = no_hashes bag
no_hashes (Backing k p B ∷ bag) = Backing k p B ∷ no_hashes bag
no_hashes (Board p B ∷ bag) = Board p B ∷ no_hashes bag

-- v is what clears of the periods S have left of u
pub record Cleared (T : Table) (S : ℕ → Bool) (u v : State) : Type 0 where
  -- every honest peer has backed these periods
  pub backed : (p : ℕ) → S p ≡ true → unbacked T u.to_back p ≡ false
  -- all but the bag and what is heard is the same
  pub rest : v ≡ with_heard (with_bag_lem u v.bag) v.heard
  -- backings and boards are the same, in the same order
  pub others : no_hashes v.bag ≡ no_hashes u.bag
  -- no entry is new, and one that is gone is a hash of a cleared period
  pub within : (a : Entry) → is_in a v.bag ≡ true → is_in a u.bag ≡ true
  pub gone : (a : Entry) → is_in a u.bag ≡ true → is_in a v.bag ≡ false
      → (is_hash a ≡ true) × (S (period_of a) ≡ true)
  -- nothing new is heard, and what is heard no more is a hash of a cleared period
  pub heard : (j k p B : ℕ) → v.heard j k p B ≡ true → u.heard j k p B ≡ true
  pub unheard : (j k p B : ℕ) → u.heard j k p B ≡ true → v.heard j k p B ≡ false → S p ≡ true

-- the call hears an entry that is gone
unfoldable pub hears_gone : List Entry → List Entry → List ℕ → Bool
hears_gone from to c = is_op 10 c && not (is_in (entry_at from (byte_at c 4)) to)

-- the answer with clears, where the one without them is a: a gone hash is unknown
unfoldable pub answer_with : List Entry → List Entry → List ℕ → ℕ → ℕ
answer_with from to c a = cond (hears_gone from to c && eqb a 0) 10 a

-- the call sends the hash a, a peer's own or a false one
pub data Sends (T : Table) (s : State) (c : Call) (a : Entry) : Type 0 where
  own : (j p : ℕ) → c ≡ Some (SendHash j p) → a ≡ Hash j p (board_by T s j p) → Sends T s c a
  falsely : (j p B : ℕ) → c ≡ Some (FalseHash j p B) → a ≡ Hash j p B → Sends T s c a

-- What holds of the two runs after the calls, where u is the store without clears, v the one with them, and S the
-- periods that were cleared; and of any call c that comes next.
pub record AsBefore (T : Table) {X : Type 0} (E : Engine X) (S : ℕ → Bool) (u v : X) : Type 0 where
  pub states : Cleared T S (E.holds u) (E.holds v)
  -- a call that is not answered 13 without the clears answers as before
  pub answers : (c : List ℕ) → eqb (E.answers u c) 13 ≡ false
      → let from = (E.holds u).bag in let to = (E.holds v).bag in
      E.answers v (translated from to c) ≡ answer_with from to c (E.answers u c)
  -- a gone hash may be sent again: where that is answered 0 it is answered 0 with the clears too, and the hash joins
  -- the bag
  pub again : (c : List ℕ) (a : Entry) → Sends T (E.holds u) (read c) a → E.answers u c ≡ 0
      → is_in a (E.holds v).bag ≡ false
      → let d = translated (E.holds u).bag (E.holds v).bag c in
      (E.answers v d ≡ 0) × ((E.holds (E.leaves v d)).bag ≡ (E.holds v).bag ++ (a ∷ []))
  -- a translated number that was a byte is a byte
  pub bytes : (e : ℕ) → e < 256 → renumber (E.holds u).bag (E.holds v).bag e < 256
