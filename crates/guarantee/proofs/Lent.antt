-- P3 of states that were lent, over table bytes, state bytes and lists of byte lists: for every table that is taken and
-- has none but honest peers, and every state that row 14 passes.
use Prim.Native.Nat.{ℕ}
use mathlib.Core.List.{List}
use mathlib.Core.Path.{◌≡◌, refl, sym, ap, subst, ◌∙◌}
use Rattle.header.specs.Header.{head_of}
use Rattle.ballot.specs.Table.{refusal}
use Rattle.clash.specs.Clash.{clash_in}
use Rattle.rules.specs.Run.{by_rules}
use Rattle.state.specs.Contents.{Contents, contents, Holds}
use Rattle.state.specs.Encode.{encode}
use Rattle.state.proofs.Decode.{encode_holds}
use Rattle.view.specs.View.{state_of}
use Rattle.view.specs.Good.{Good}
use Rattle.view.specs.Ready.{Ready}
use Rattle.view.proofs.Whatever.{good_whatever}
use Rattle.engine.specs.Engine.{rules_table}
use Rattle.engine.specs.States.{StateOf}
use Rattle.engine.proofs.Calls.{room_of}
use Rattle.engine.proofs.Fits.{good_fits}
use Rattle.engine.proofs.States.{ready_state, state_ready}
use Rattle.liveness.specs.Places.{behaviour_from}
use Rattle.liveness.proofs.Places.{as_rules_from}
use Rattle.liveness.proofs.Lent.{through_lent}
use Rattle.liveness.proofs.CanClose.{lent_can_close}
use Rattle.guarantee.specs.Liveness.{NoneDishonest}
use Rattle.guarantee.specs.Lent.{from_state, BoardsComeLent, CanCloseLent}
use Rattle.guarantee.proofs.Demand3.{bytes_follow}
use Rattle.guarantee.proofs.Liveness.{all-honest}

pub boards_come_lent : (table : List ℕ) → NoneDishonest table → BoardsComeLent table
boards_come_lent table N s O =
    through_lent (bytes_follow table N.taken) (all-honest table N) s (ready_state table N.taken s O)

pub can_close_lent : (table : List ℕ) → NoneDishonest table → CanCloseLent table
can_close_lent table N s O =
    lent_can_close (bytes_follow table N.taken) (all-honest table N) s (ready_state table N.taken s O)

-- whatever is valid can be lent: its bytes pass row 14, and the engine does from them what the rules do from it
module _ (table : List ℕ) (fit : refusal table ≡ 0) (c : Contents) (G : Good (rules_table table) c) where
  holds : Holds (encode c) c
  holds = encode_holds c (good_fits (head_of table) (clash_in table) (room_of table (sym fit) refl) c G)

  ready : Ready (head_of table) (encode c)
  ready = record {
    room = room_of table (sym fit) refl;
    canon = holds.canon;
    good = good_whatever (head_of table) (clash_in table) (contents (encode c))
        (subst (λ (d : Contents). Good (rules_table table) d) (sym holds.says) G);
  }

  pub can_be_lent : StateOf table (encode c)
  can_be_lent = state_ready table (encode c) ready

  pub from_lent : from_state table (encode c) ≡ behaviour_from (by_rules (rules_table table)) (state_of c)
  from_lent =
      as_rules_from (bytes_follow table fit) (encode c) ready
      ∙ ap (λ (d : Contents). behaviour_from (by_rules (rules_table table)) (state_of d)) holds.says
