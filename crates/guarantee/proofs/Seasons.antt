-- What a step sees of a table is its refusal, its header and its clashes: where these are what they were, so is the step.
use Prim.Native.Nat.{ℕ, ◌≤◌}
use native.Mathlib.Decide.{ℕ_discrete}
use mathlib.Core.Bool.{true}
use mathlib.Core.List.{List}
use mathlib.Core.Path.{◌≡◌}
use borrow.Author.Tests.{ne_eqb}
use Rattle.header.specs.Season.{zero_then}
use Rattle.header.specs.Header.{peers_of, weight_in}
use Rattle.ballot.specs.Table.{refusal}
use Rattle.engine.specs.Engine.{step_answer, step_bytes}
use Rattle.edges.specs.Seasons.{Seen, Older}
use Rattle.edges.specs.Weights.{SameButOnes, unweighed, AsSecond}
use Rattle.edges.proofs.Seasons.{season_edges}
use Rattle.edges.proofs.Unweighed.{unweighed_same}
use Rattle.edges.proofs.AllOnes.{all_ones}
use Rattle.guarantee.specs.Seasons.{answer_seeing, bytes_seeing, old_answer, old_bytes, OldEngine, OldEngines, StepsAsSecond}

module _ {old : Seen} {Newer : List ℕ → Type 0} (O : Older old Newer) (table s step : List ℕ) where
  refuses : Newer table → old_answer old table s step ≡ 1
  refuses newer = rw (O.refuses table newer)

  module _ (other : Newer table → ⊥) where
    answers : step_answer table s step ≡ old_answer old table s step
    unfolding step_answer
    answers =
        let A = O.as_before table other in
        λ i. answer_seeing (A.judged i) (A.head i) (λ x y. A.clashing x y i) s step

    leaves : step_bytes table s step ≡ old_bytes old table s step
    unfolding step_bytes step_answer
    leaves =
        let A = O.as_before table other in
        λ i. bytes_seeing (A.judged i) (A.head i) (λ x y. A.clashing x y i) s step

old_engine : {old : Seen} {Newer : List ℕ → Type 0} → Older old Newer → OldEngine old Newer
old_engine O = record { refuses = refuses O; answers = answers O; leaves = leaves O }

pub old_engines : OldEngines
old_engines = record { first = old_engine season_edges.first; second = old_engine season_edges.second }

-- weights that are all 1: a table that is refused is answered with its refusal, and one that is taken has the same clashes

module _ (table other : List ℕ) (A : AsSecond table other) (s step : List ℕ) where
  same_answer : Dec (refusal other ≡ 0) → step_answer table s step ≡ step_answer other s step
  unfolding step_answer
  same_answer (yes taken) = λ i. answer_seeing (A.judged i) (A.head i) (λ x y. A.clashing taken x y i) s step
  same_answer (no refused) = rw (A.judged, ne_eqb (refusal other) 0 refused)

  same_bytes_lem : Dec (refusal other ≡ 0) → step_bytes table s step ≡ step_bytes other s step
  unfolding step_bytes step_answer
  same_bytes_lem (yes taken) = λ i. bytes_seeing (A.judged i) (A.head i) (λ x y. A.clashing taken x y i) s step
  same_bytes_lem (no refused) = let refuses = ne_eqb (refusal other) 0 refused in rw (A.judged, refuses, refuses)

pub steps_as_second : (table other : List ℕ) → SameButOnes table other → StepsAsSecond table other
steps_as_second table other R =
    let A = all_ones table other R in
    let taken = ℕ_discrete (refusal other) 0 in
    record { answers = λ s step. same_answer table other A s step taken; leaves = λ s step. same_bytes_lem table other A s step taken }

-- so every table of the third season that is taken and has no weight but 1 has such a one of the second beside it
pub steps_as_unweighed : (table : List ℕ) → refusal table ≡ 0 → zero_then table 3 ≡ true
    → ((k : ℕ) → 1 ≤ k → k ≤ peers_of table → weight_in table k ≡ 1) → StepsAsSecond table (unweighed table)
steps_as_unweighed table fit third ones = steps_as_second table (unweighed table) (unweighed_same table fit third ones)
