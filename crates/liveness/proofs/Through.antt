-- P3 by the rules, and by every engine that follows them: a close that comes through.
use Prim.Native.Nat.{ℕ}
use native.Mathlib.Omega.{arith}
use mathlib.Core.Bool.{true, false}
use mathlib.Core.List.{List, [], ◌∷◌, ◌++◌, append_assoc}
use mathlib.Core.Path.{◌≡◌, sym, ap, subst, ◌∙◌}
use Rattle.base.proofs.Truth.{is_false}
use Rattle.base.proofs.Weight.{weight-member}
use Rattle.rules.specs.declared.Entry.TheVariants.{Backing}
use Rattle.rules.specs.Table.{Table}
use Rattle.rules.specs.Bag.{is_in, entry_at, boards_in}
use Rattle.rules.specs.Ideal.{is_there}
use Rattle.rules.specs.State.{State}
use Rattle.rules.specs.Form.{read}
use Rattle.rules.specs.Run.{Engine, by_rules, run}
use Rattle.rules.specs.Follows.{Follows}
use Rattle.rules.proofs.Always.{invariant}
use Rattle.rules.proofs.Bag.{backs, in_at, there_stands}
use Rattle.rules.proofs.Follows.{rules_follow}
use Rattle.rules.proofs.Valid.{always_valid}
use Rattle.liveness.specs.Union.{union_board}
use Rattle.liveness.specs.Places.{behaviour, step_at, held_at}
use Rattle.liveness.specs.Close.{AllHonest, Close}
use Rattle.liveness.specs.Through.{Publishable, ComesThrough, AlwaysThrough}
use Rattle.liveness.specs.Lent.{CanPublish, LentThrough}
use Rattle.liveness.proofs.Places.{obeys, ruled, as_rules}
use Rattle.liveness.proofs.Answers.{call-room}
use Rattle.liveness.proofs.Fetches.{taken_known}
use Rattle.liveness.proofs.Lent.{lent_through, in_order}

-- From the fresh state there is more: an honest peer's signatures are in its own database, of p there is no backing
-- before, and a board has a quorum of backers.
module _ (T : Table) (A : AllHonest T) (earlier later : List (List ℕ)) (p : ℕ) (K : Close T (ruled T) earlier later p) where
  abbrev begin : State
  begin = (run T earlier).engine

  abbrev U : ℕ
  U = union_board T begin p

  none_yet : (k B : ℕ) → is_in (Backing k p B) begin.bag ≡ true → ⊥
  none_yet k B b =
      let h = ((always_valid T earlier).bag.entries (Backing k p B) b).0 in
      omega (arith, K.closed.due k h, (invariant T A.premise earlier).backings.done k p B b (A.honest k h))

  not_before : (k B : ℕ) → is_in (Backing k p B) begin.bag ≡ false
  not_before k B = is_false (is_in (Backing k p B) begin.bag) (none_yet k B)

  lent : LentThrough T (ruled T) earlier later p
  lent = lent_through (obeys T) A earlier later p K (taken_known T A earlier later p)

  module _ (more : List (List ℕ)) where
    abbrev calls : List (List ℕ)
    calls = (earlier ++ later) ++ more

    abbrev can : CanPublish T (ruled T) begin calls p U
    can = lent.publishable more

    only : (e k B : ℕ) → entry_at (run T calls).engine.bag e ≡ Backing k p B → B ≡ U
    only e k B it = can.only e k B it (not_before k B)

  -- a board of p has a quorum of backers, who all backed U
  one-board : (more : List (List ℕ)) (B : ℕ)
      → is_there (boards_in (run T (calls more)).engine.bag) p B ≡ true → B ≡ U
  one-board more B h =
      let bag = (run T (calls more)).engine.bag in
      let enough = (invariant T A.premise (calls more)).boards p B (sym (there_stands p B bag) ∙ h) in
      let member = weight-member T.weight_of T.n (λ k. backs bag k p B) (omega (arith, A.premise.threshold, enough)) in
      let at = in_at (Backing member.0 p B) bag member.1 in
      only more at.0 member.0 B at.2

  publishable : (more : List (List ℕ)) → Publishable T (ruled T) (calls more) p U
  publishable more = record {
    backed = (can more).backed;
    only = only more;
    publishes = λ c e k B r it room.
        let it-is = it ∙ ap (Backing k p) (only more e k B it) in
        let done = (can more).publishes c e k r it-is room in (
          done.0,
          record {
            stands = done.1;
            alone = subst (λ (l : List (List ℕ)). (B : ℕ) → is_there (boards_in (run T l).engine.bag) p B ≡ true → B ≡ U)
                (sym (append_assoc (earlier ++ later) more (c ∷ []))) (one-board (more ++ (c ∷ [])));
          },
        );
  }

  comes_through : ComesThrough T (ruled T) earlier later p
  comes_through = record { items = lent.items; same_union = lent.same_union; publishable = publishable }

pub rules_through : (T : Table) → AllHonest T → AlwaysThrough T (ruled T)
rules_through T A = record {
  through = comes_through T A;
  through_in_turn = λ earlier later p K. comes_through T A earlier later p (in_order T A (ruled T) earlier later p K);
  room = λ calls c. call-room T (run T calls).engine (read c);
  room_at = λ earlier later i. call-room T (held_at (ruled T) earlier later i) (step_at later i);
}

-- P3
pub always_through : {T : Table} {X : Type 0} {E : Engine X} {Ready : X → Type 0} → Follows T E Ready → AllHonest T
    → AlwaysThrough T (behaviour E)
always_through {T} F A = subst (AlwaysThrough T) (sym (as_rules F)) (rules_through T A)

pub always_through_on_rules : (T : Table) → AllHonest T → AlwaysThrough T (behaviour (by_rules T))
always_through_on_rules T = always_through (rules_follow T)
