-- The fresh state is ready, and holds nothing.
use Prim.Native.Nat.{ℕ}
use native.Mathlib.Omega.{arith}
use mathlib.Core.Bool.{Bool}
use mathlib.Core.Path.{◌≡◌, refl, sym, ap, subst, ◌∙◌}
use lib.ListN.{length, length-replicate}
use Rattle.base.specs.Bytes.{byte_at}
use Rattle.base.proofs.Truth.{false_true}
use Rattle.rules.specs.State.{fresh}
use Rattle.rules.specs.Valid.{Valid}
use Rattle.rules.proofs.Valid.{fresh_valid}
use Rattle.state.specs.Layout.{size}
use Rattle.state.specs.Contents.{contents, empty, Holds}
use Rattle.state.proofs.Fresh.{fresh_holds}
use Rattle.header.specs.declared.Head.{Head}
use Rattle.view.specs.View.{told, table_of, state_of}
use Rattle.view.specs.Good.{Good}
use Rattle.view.specs.Ready.{Room, Ready}
use Rattle.engine.specs.Engine.{fresh_state}
use Rattle.base.proofs.Bytes.{zeros-at}

fresh-length : length fresh_state ≡ size
unfolding fresh_state
fresh-length = length-replicate {A = ℕ} size 0

fresh-zero : (i : ℕ) → byte_at fresh_state i ≡ 0
unfolding fresh_state
fresh-zero i = zeros-at size i

pub fresh_says : Holds fresh_state empty
fresh_says = fresh_holds fresh_state fresh-length fresh-zero

-- what the fresh bytes hold is the fresh state of the rules
empty-fresh : state_of empty ≡ fresh
unfolding told
empty-fresh = refl

pub fresh_state_lem : state_of (contents fresh_state) ≡ fresh
fresh_state_lem = ap state_of fresh_says.says ∙ empty-fresh

empty_good : (h : Head) (clash : ℕ → ℕ → Bool) → Good (table_of h clash) empty
empty_good h clash = record {
  valid = subst (λ s. Valid (table_of h clash) s) (sym empty-fresh) (fresh_valid (table_of h clash));
  sound = record { hears = λ j e q. false_true q; flags = λ j. omega arith };
}

pub fresh_ready : (h : Head) → Room h → Ready h fresh_state
fresh_ready h room = record {
  room = room;
  canon = fresh_says.canon;
  good = λ clash. subst (λ c. Good (table_of h clash) c) (sym fresh_says.says) (empty_good h clash);
}
