-- A close that can be computed: the places of its exchange as tables, and a test of each part of what P3 asks.
use Rattle.std.specs.Prelude.{ℕ, suc, Bool, true, ◌&&◌, ◌||◌, not, List, [], ◌∷◌, ◌≡◌, eqb, ltb}
use Rattle.base.specs.Below.{every}
use Rattle.base.specs.Bytes.{same_bytes}
use Rattle.rules.specs.declared.Entry.TheVariants.{Hash}
use Rattle.rules.specs.declared.Step.{Step}
use Rattle.rules.specs.declared.Step.TheVariants.{Fetch, SendHash, Hear, Back}
use Rattle.rules.specs.Form.{Call}
use Rattle.std.specs.Prelude.{Some, None}
use Rattle.rules.specs.Table.{Table, quorum}
use Rattle.rules.specs.Bag.{same_entry, entry_at}
use Rattle.rules.specs.State.{State}
use Rattle.rules.specs.declared.Fields.{Fields}
use Rattle.rules.specs.Fields.{of, fields}
use Rattle.rules.specs.Form.{read}
use Rattle.rules.specs.Rules.{reply, leave, board_by}
use Rattle.form.specs.Written.{written}
use Rattle.liveness.specs.Places.{call_at}

-- whose hashes each hears, the places of the exchange, the number that j names for k's hash, and the board of k's hash
pub record Plan : Type 0 where
  pub listens : ℕ → ℕ → Bool
  pub fetch_at : ℕ → ℕ → ℕ
  pub hash_at : ℕ → ℕ
  pub hear_at : ℕ → ℕ → ℕ
  pub entry : ℕ → ℕ → ℕ
  pub back_at : ℕ → ℕ
  pub board : ℕ → ℕ

-- the fields of what a call says; bytes that are no step have none
abbrev pub said_in : Call → Fields
said_in (Some st) = fields st
said_in None = of 0 0 0 0 0 0

-- every peer of a table passes a test, and every pair of peers
abbrev pub peers : Table → (ℕ → Bool) → Bool
peers T f = every T.n (λ a. f (suc a))

abbrev pub pairs : Table → (ℕ → ℕ → Bool) → Bool
pairs T f = peers T (λ j. peers T (λ k. f j k))

-- every call of a list passes a test of its place, of what is held before it, and of what it says
unfoldable pub every_place : Table → (ℕ → State → Call → Bool) → ℕ → State → List (List ℕ) → Bool
every_place T f i s [] = true
every_place T f i s (c ∷ rest) = f i s (read c) && every_place T f (suc i) (leave T s (read c)) rest

-- the calls `later`, from the state `begin` on
module _ (T : Table) (p : ℕ) (P : Plan) (begin : State) (later : List (List ℕ)) where
  -- the step stands at place i
  abbrev pub stands_at : ℕ → Step → Bool
  stands_at i st = same_bytes (call_at later i) (written st)

  -- a back that is accepted passes a test of its peer and its place
  abbrev pub where_backed : (ℕ → ℕ → Bool) → ℕ → State → Call → Bool
  where_backed f i s c = not (eqb (said_in c).op 11 && eqb (reply T s c) 0) || f (said_in c).peer i

  -- it comes after its peer's fetches
  abbrev pub late_enough : ℕ → ℕ → Bool
  late_enough j i = peers T (λ k. eqb j k || ltb (P.fetch_at j k) i)

  -- where k sends its hash, its board is the plan's
  abbrev pub board_sent : ℕ → State → Call → Bool
  board_sent i s c = peers T (λ k. not (eqb i (P.hash_at k)) || eqb (board_by T s k p) (P.board k))

  -- where j hears k, the entry that it names is that hash
  abbrev pub hash_heard : ℕ → State → Call → Bool
  hash_heard i s c = pairs T (λ j k. not (P.listens j k && eqb i (P.hear_at j k))
      || same_entry (entry_at s.bag (P.entry j k)) (Hash k p (P.board k)))

  pub record Planned : Type 0 where
    pub up : peers T (λ k. not (begin.down k)) ≡ true
    pub closed : peers T (λ k. ltb p (begin.current k)) ≡ true
    pub due : peers T (λ k. eqb (begin.to_back k) p) ≡ true
    pub enough : peers T (λ j. quorum T (P.listens j)) ≡ true
    pub fetches : pairs T (λ j k. eqb j k || stands_at (P.fetch_at j k) (Fetch j k p)) ≡ true
    pub sends : peers T (λ j. stands_at (P.hash_at j) (SendHash j p)) ≡ true
    pub hears : pairs T (λ j k. not (P.listens j k) || stands_at (P.hear_at j k) (Hear j (P.entry j k))) ≡ true
    pub backs : peers T (λ j. stands_at (P.back_at j) (Back j)) ≡ true
    pub fetch_first : pairs T (λ j k. eqb j k || ltb (P.fetch_at j k) (P.hash_at j)) ≡ true
    pub hash_first : pairs T (λ j k. not (P.listens j k) || ltb (P.hash_at k) (P.hear_at j k)) ≡ true
    pub hear_first : pairs T (λ j k. not (P.listens j k) || ltb (P.hear_at j k) (P.back_at j)) ≡ true
    pub back_last : pairs T (λ j k. eqb j k || (P.listens j j || ltb (P.fetch_at j k) (P.back_at j))) ≡ true
    pub sent : every_place T board_sent 0 begin later ≡ true
    pub of_these : every_place T hash_heard 0 begin later ≡ true
    pub none_early : every_place T (where_backed late_enough) 0 begin later ≡ true
    pub none_down : every_place T (λ i s c. not (eqb (said_in c).op 17)) 0 begin later ≡ true
    pub never_full_lem : every_place T (λ i s c. not (eqb (reply T s c) 13)) 0 begin later ≡ true

  -- the tests of document 02's own order, in which each hears all hashes

  -- a back that is accepted comes after all fetches
  abbrev pub last_enough : ℕ → ℕ → Bool
  last_enough l i = pairs T (λ j k. eqb j k || ltb (P.fetch_at j k) i)

  pub record InTurnPlanned : Type 0 where
    pub all_heard : pairs T (λ j k. P.listens j k) ≡ true
    pub fetches_first : peers T (λ i. pairs T (λ j k. eqb j k || ltb (P.fetch_at j k) (P.hash_at i))) ≡ true
    pub hashes_first : peers T (λ i. pairs T (λ j k. ltb (P.hash_at i) (P.hear_at j k))) ≡ true
    pub hears_first : peers T (λ i. pairs T (λ j k. ltb (P.hear_at j k) (P.back_at i))) ≡ true
    pub all_before : every_place T (where_backed last_enough) 0 begin later ≡ true
