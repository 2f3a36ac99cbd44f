-- What shrinking sees of an input is what a rehearsal sees of it.
use Prim.Native.Nat.{ℕ, ◌-◌, ◌≤◌}
use native.Mathlib.Decide.{ℕ_discrete}
use mathlib.Core.Bool.{true, false, cond, ◌&&◌}
use mathlib.Core.List.{List}
use mathlib.Core.Logic.{◌⊎◌, inl, inr}
use mathlib.Core.Path.{◌≡◌, refl, sym, ap₂, ◌∙◌}
use lib.Dec.{eqb, ltb}
use lib.ListN.{length}
use borrow.Author.Tests.{ne_eqb}
use Rattle.base.specs.Bytes.{byte_at}
use Rattle.base.proofs.Truth.{either}
use Rattle.header.specs.Season.{zero_then}
use Rattle.header.specs.Header.{peers_of, weight_in}
use Rattle.state.specs.Contents.{contents}
use Rattle.view.specs.View.{state_of}
use Rattle.report.specs.Lines.{refused_line}
use Rattle.engine.specs.Engine.{fresh_state, step_answer, step_bytes}
use Rattle.rehearsal.specs.Input.{input_most, table_in, input_refusal, step_count, call_at}
use Rattle.edges.specs.Seasons.{Seen, Older}
use Rattle.edges.specs.Weights.{SameButOnes, unweighed}
use Rattle.edges.proofs.Seasons.{season_edges}
use Rattle.guarantee.specs.Demand3.{by_bytes}
use Rattle.guarantee.specs.Seeing.{this_engine, Looks, looks_by, table_seen}
use Rattle.guarantee.proofs.Inputs.{not_too_long, inputs_alike}
use Rattle.guarantee.proofs.Ones.{SameSteps, steps_alike, same_steps, unweighed_input}
use Rattle.guarantee.proofs.Seeing.{refusal_seen_lem, Halves, refused_alike, alike, no_first_header, no_second_header}
use Rattle.dropping.specs.Runs.{last_answer}
use Rattle.trials.specs.Answers.{answer_in, steps_left}
use Rattle.shrinking.specs.Shrunk.{clean, shrink_refusal, shrunk}
use Rattle.shrinking.specs.Seasons.{last_seen, shrunk_seen, OldShrinks, OldEnginesShrink}

module _ (input : List ℕ) where
  last_seen_lem : answer_in input ≡ last_seen (looks_by this_engine input) input
  unfolding answer_in step_count call_at table_in step_answer step_bytes
  last_seen_lem = refl

  shrunk_seen_lem : shrunk input ≡ shrunk_seen (looks_by this_engine input) input
  unfolding shrunk shrink_refusal clean steps_left step_count
  shrunk_seen_lem = rw (refusal_seen_lem input, last_seen_lem)

none_left : (input : List ℕ) (L M : Looks) → Halves L M → table_seen L input ≡ false → shrunk_seen L input ≡ shrunk_seen M input
none_left input L M H none =
    let same = refused_alike input input L M H none in
    rw (same.0, same.1, same.1)

module _ {old : Seen} {Newer : List ℕ → Type 0} (O : Older old Newer)
    (by-start : (a b : List ℕ) → byte_at a 0 ≡ byte_at b 0 → byte_at a 1 ≡ byte_at b 1 → Newer a → Newer b)
    (by_header : (a : List ℕ) → Newer a → old.header_ok a ≡ false) where
  refused_header : (input : List ℕ) → Newer input
      → shrunk_seen (looks_by old input) input ≡ refused_line (cond (ltb input_most (length input)) 15 1)
  refused_header input newer = go (either (ltb input_most (length input)))
    where
      go : (ltb input_most (length input) ≡ true) ⊎ (ltb input_most (length input) ≡ false)
          → shrunk_seen (looks_by old input) input ≡ refused_line (cond (ltb input_most (length input)) 15 1)
      go (inl e) = rw e
      go (inr e) = rw (e, by_header input newer)

  old_shrinks : OldShrinks old Newer
  old_shrinks = record {
    refuses = refused_header;
    shrinks = λ input other. shrunk_seen_lem input
        ∙ alike O by-start by_header input other (λ L. shrunk_seen L input) (none_left input);
  }

pub old_engines_shrink : OldEnginesShrink
old_engines_shrink = record {
  first = old_shrinks season_edges.first (λ a b e u n. sym e ∙ n) no_first_header;
  second = old_shrinks season_edges.second (λ a b e u n. ap₂ (λ (x y : ℕ). eqb x 0 && eqb y 3) (sym e) (sym u) ∙ n) no_second_header;
}

-- weights that are all 1
module _ (input other : List ℕ) (R : SameButOnes input other) (few : length input ≤ input_most) where
  module _ (taken : input_refusal other ≡ 0) where
    S : SameSteps input other
    S = same_steps input other R few taken

    engines_alike : by_bytes (table_in input) ≡ by_bytes (table_in other)
    engines_alike = let steps = steps_alike input other S in λ i. record {
      starts = fresh_state;
      holds = λ s. state_of (contents s);
      answers = λ s c. steps.answers s c i;
      leaves = λ s c. steps.leaves s c i;
    }

    answers_alike : answer_in input ≡ answer_in other
    unfolding answer_in
    answers_alike = λ i. last_answer (engines_alike i) (λ k. S.calls k i) (S.count i - 1)

  pub shrunk_as_second : shrunk input ≡ shrunk other
  unfolding shrunk shrink_refusal clean steps_left
  shrunk_as_second = go (ℕ_discrete (input_refusal other) 0)
    where
      go : Dec (input_refusal other ≡ 0) → shrunk input ≡ shrunk other
      go (yes taken) = rw (inputs_alike input other R few, taken, answers_alike taken, (S taken).count)
      go (no n) = rw (
        inputs_alike input other R few,
        ne_eqb (input_refusal other) 0 n,
        ne_eqb (input_refusal other) 0 n,
      )

pub shrunk_as_unweighed : (input : List ℕ) → input_refusal input ≡ 0 → zero_then input 3 ≡ true
    → ((k : ℕ) → 1 ≤ k → k ≤ peers_of input → weight_in input k ≡ 1) → shrunk input ≡ shrunk (unweighed input)
shrunk_as_unweighed input fit third ones =
    shrunk_as_second input (unweighed input) (unweighed_input input fit third ones) (not_too_long input fit)
