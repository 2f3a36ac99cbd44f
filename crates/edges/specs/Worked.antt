-- Worked runs: how they end by the rules, and what the ideal board says of them.
use Rattle.std.specs.Prelude.{ℕ, zero, suc, ◌+◌, Bool, true, false, cond, List, [], ◌∷◌, ◌++◌, ◌≡◌, eqb}
use Rattle.base.specs.Weight.{weight, ones}
use Rattle.rules.specs.Table.{Table}
use Rattle.rules.specs.Bag.{boards_in}
use Rattle.rules.specs.Ideal.{ideal}
use Rattle.rules.specs.Run.{Engine, after, answers_from, by_rules, run}
use Rattle.rules.specs.Demand3.{Premise, Safe}
use Rattle.rules.specs.Once.{ReceiptedOnce}
use Rattle.edges.specs.Cases.{Worked, calls, due, table_r, case_r, table_two_faced, two_faced, table_left, left_period, table_liars, two_liars, table_odd, odd_bytes}
use Rattle.edges.specs.TwoDays.{table_slip_liars, slip_two_liars}

-- what f lists for each number below n, in order
abbrev pub each : {A : Type 0} → ℕ → (ℕ → List A) → List A
each zero f = []
each (suc n) f = each n f ++ f n

-- the receipts: period, item
abbrev pub receipts_in : Table → (ℕ → ℕ → Bool) → List (ℕ × ℕ)
receipts_in T receipted = each T.periods (λ p. each T.items (λ x. cond (receipted p x) ((p, x) ∷ []) []))

-- the databases: peer, period, item, number of signers, whatever they weigh; empty sets are left out
abbrev pub signers_in : Table → (ℕ → ℕ → ℕ → ℕ → Bool) → List (ℕ × ℕ × ℕ × ℕ)
signers_in T db = each T.n (λ i. each T.periods (λ p. each T.items (λ x.
    let v = weight ones T.n (db (i + 1) p x) in cond (eqb v 0) [] ((i + 1, p, x, v) ∷ []))))

-- how a run of an engine ends: every call has its answer, and the databases, receipts and boards (period, number) are
-- what a report lists
pub record Ends (T : Table) {X : Type 0} (E : Engine X) (w : Worked) (signers : List (ℕ × ℕ × ℕ × ℕ))
    (receipts boards : List (ℕ × ℕ)) : Type 0 where
  pub answered : answers_from E E.starts (calls w) ≡ due w
  pub signed : signers_in T (after E (calls w)).engine.db ≡ signers
  pub receipted : receipts_in T (after E (calls w)).engine.receipted ≡ receipts
  pub published : boards_in (after E (calls w)).engine.bag ≡ boards

-- what the ideal board, fed with the run, has at its end
pub record Ideally (T : Table) {X : Type 0} (E : Engine X) (w : Worked)
    (receipts boards : List (ℕ × ℕ)) (ok : Bool) : Type 0 where
  pub receipted : receipts_in T (ideal T (after E (calls w)).seen).receipts ≡ receipts
  pub published : (ideal T (after E (calls w)).seen).boards ≡ boards
  pub allowed : (ideal T (after E (calls w)).seen).allowed ≡ ok

-- the same of the rules themselves
abbrev pub RulesEnd : Table → Worked → List (ℕ × ℕ × ℕ × ℕ) → List (ℕ × ℕ) → List (ℕ × ℕ) → Type 0
RulesEnd T = Ends T (by_rules T)

abbrev pub RulesIdeally : Table → Worked → List (ℕ × ℕ) → List (ℕ × ℕ) → Bool → Type 0
RulesIdeally T = Ideally T (by_rules T)

pub record WorkedRuns : Type 0 where
  -- case R has document 01's output
  pub case_r_lem : RulesEnd table_r case_r ((1, 0, 0, 1) ∷ []) ((0, 0) ∷ []) ((0, 1) ∷ [])
  pub case_r_ideal : RulesIdeally table_r case_r ((0, 0) ∷ []) ((0, 1) ∷ []) true
  pub case_r_premise : Premise table_r
  -- with a two-faced peer, one of the clashing votes is receipted and published
  pub two_faced_lem : RulesEnd table_two_faced two_faced ((1, 0, 0, 3) ∷ (2, 0, 0, 3) ∷ (3, 0, 0, 3) ∷ (3, 0, 1, 2) ∷ [])
      ((0, 0) ∷ []) ((0, 1) ∷ [])
  pub two_faced_ideal : RulesIdeally table_two_faced two_faced ((0, 0) ∷ []) ((0, 1) ∷ []) true
  pub two_faced_premise : Premise table_two_faced
  -- with a share asked for too late, there is no receipt for the vote that is not on the board
  pub left_period_lem : RulesEnd table_left left_period ((1, 0, 0, 3) ∷ (2, 0, 0, 3) ∷ (3, 0, 0, 3) ∷ []) [] ((0, 0) ∷ [])
  pub left_period_ideal : RulesIdeally table_left left_period [] ((0, 0) ∷ []) true
  pub left_period_premise : Premise table_left
  -- with honest peers that weigh less than t both of the clashing votes are receipted, which was not allowed: demand 3
  -- needs its premise
  pub two_liars_lem : RulesEnd table_liars two_liars ((1, 0, 0, 3) ∷ (2, 0, 1, 3) ∷ []) ((0, 0) ∷ (0, 1) ∷ []) []
  pub two_liars_ideal : RulesIdeally table_liars two_liars ((0, 0) ∷ []) [] false
  pub two_liars_unsafe : Safe table_liars (run table_liars) (calls two_liars) → ⊥
  -- nor is there one receipt for an item: each honest peer gave one share, and the item has receipts in two periods
  pub slip_two_liars_lem : RulesEnd table_slip_liars slip_two_liars ((1, 0, 0, 3) ∷ (2, 1, 0, 3) ∷ []) ((0, 0) ∷ (1, 0) ∷ []) []
  pub slip_two_liars_twice : ReceiptedOnce (run table_slip_liars (calls slip_two_liars)).engine.receipted → ⊥
  -- odd bytes are answered, and make no signer, receipt or board
  pub odd_bytes_lem : RulesEnd table_odd odd_bytes [] [] []
