-- The steps that are left of an input, by what an engine sees of it: one that reads tables as an older engine did.
use Rattle.std.specs.Prelude.{ℕ, ◌-◌, Bool, ◌||◌, cond, List, ◌≡◌, eqb, ltb, length}
use Rattle.rules.specs.Run.{Engine}
use Rattle.state.specs.Contents.{contents}
use Rattle.view.specs.View.{state_of}
use Rattle.text.specs.Wrote.{each}
use Rattle.report.specs.Lines.{refused_line}
use Rattle.engine.specs.Engine.{fresh_state}
use Rattle.rehearsal.specs.Input.{input_most}
use Rattle.edges.specs.Seasons.{Seen, first_engine, second_engine, StartsWith0, StartsWith03}
use Rattle.guarantee.specs.Seasons.{answer_seeing, bytes_seeing}
use Rattle.guarantee.specs.Seeing.{Looks, looks_by, refusal_seen, count_seen, call_seen}
use Rattle.dropping.specs.Kept.{Kept, every_step}
use Rattle.dropping.specs.Passes.{left}
use Rattle.dropping.specs.Runs.{last_answer}
use Rattle.shrinking.specs.Shrunk.{kept_line, shrunk}

module _ (L : Looks) (input : List ℕ) where
  abbrev pub engine_seen : Engine (List ℕ)
  engine_seen = record {
    starts = fresh_state;
    holds = λ s. state_of (contents s);
    answers = answer_seeing L.refused L.head L.clash;
    leaves = bytes_seeing L.refused L.head L.clash;
  }

  abbrev pub last_seen : Kept → ℕ
  last_seen = last_answer engine_seen (call_seen L input) (count_seen L input - 1)

  abbrev pub clean_seen : Bool
  clean_seen = eqb (count_seen L input) 0 || eqb (last_seen every_step) 0

  abbrev pub shrink_seen : ℕ
  shrink_seen = cond (eqb (refusal_seen L input) 0) (cond clean_seen 18 0) (refusal_seen L input)

  abbrev pub shrunk_seen : List ℕ
  shrunk_seen =
      cond (eqb shrink_seen 0)
      (each (kept_line (left last_seen (count_seen L input - 1))) (count_seen L input))
      (refused_line shrink_seen)

pub record OldShrinks (old : Seen) (Newer : List ℕ → Type 0) : Type 0 where
  -- a newer input is refused with 1, header, unless it is too long
  pub refuses : (input : List ℕ) → Newer input
      → shrunk_seen (looks_by old input) input ≡ refused_line (cond (ltb input_most (length input)) 15 1)
  -- and of every other one the same steps are left
  pub shrinks : (input : List ℕ) → (Newer input → ⊥) → shrunk input ≡ shrunk_seen (looks_by old input) input

pub record OldEnginesShrink : Type 0 where
  pub first : OldShrinks first_engine StartsWith0
  pub second : OldShrinks second_engine StartsWith03
