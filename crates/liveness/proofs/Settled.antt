-- Once all peers have backed a period, and each the board U, U can be published, whatever calls come.
use Prim.Native.Nat.{ℕ, ◌≤◌, ◌<◌}
use native.Mathlib.Omega.{arith}
use mathlib.Core.Bool.{Bool, true, false}
use mathlib.Core.List.{List, [], ◌∷◌, ◌++◌}
use mathlib.Core.Path.{◌≡◌, ap, subst, ◌∙◌}
use mathlib.Core.Logic.{⊎_elim}
use lib.ListN.{length}
use Rattle.base.proofs.Weight.{weight_within}
use Rattle.rules.specs.declared.Entry.{Entry}
use Rattle.rules.specs.declared.Entry.TheVariants.{Backing, Board}
use Rattle.rules.specs.declared.Step.TheVariants.{Publish}
use Rattle.std.specs.Prelude.{Some}
use Rattle.rules.specs.Table.{Table, weigh}
use Rattle.rules.specs.Bag.{is_in, is_backing, entry_at, board_named, enter, boards_in, capacity}
use Rattle.rules.specs.State.{State}
use Rattle.rules.specs.Form.{read}
use Rattle.rules.specs.Rules.{rule, answer, reply, leave, backers}
use Rattle.rules.specs.Ideal.{is_there}
use Rattle.rules.specs.Valid.{Peer}
use Rattle.rules.proofs.Answered.{done}
use Rattle.rules.proofs.Bag.{entered, in_at, backing_in, there_stands}
use Rattle.edges.specs.Exact.{board}
use Rattle.liveness.specs.Places.{Behaviour, held_at}
use Rattle.liveness.specs.Close.{AllHonest}
use Rattle.liveness.specs.Lent.{CanPublish}
use Rattle.liveness.proofs.Places.{Obeys, at-end, along, since}
use Rattle.liveness.proofs.Answers as answers
use Rattle.liveness.proofs.Backed.{BackedIn, backed_step}

-- a set that has every peer reaches t
pub all_enough : (T : Table) → AllHonest T → (S : ℕ → Bool) → ((k : ℕ) → Peer T k → S k ≡ true) → T.t ≤ weigh T S
all_enough T A S f =
    omega (arith, A.premise.honest_enough, weight_within T.weight_of T.n T.honest S (λ k l m e. f k (l, m)))

module _ {T : Table} {E : Behaviour} (O : Obeys T E) (A : AllHonest T) (p U : ℕ) (before : State) where
  pub record Settled (s : State) : Type 0 where
    pub backed : BackedIn T p U before s
    pub over : (k : ℕ) → Peer T k → p < s.to_back k

  -- this stays, whatever calls follow
  pub settled_run : (calls more : List (List ℕ)) → Settled (E.held calls) → Settled (E.held (calls ++ more))
  settled_run calls more S = subst Settled (at-end O calls more (length more) (omega arith)) (record {
    backed = along O calls more (BackedIn T p U before) S.backed
        (λ i st e a c I. backed_step T p U before A _ I st (λ j u h n. absurd (omega (arith, n, over i j h))) c) (length more);
    over = over (length more);
  })
    where
      over : (i k : ℕ) → Peer T k → p < (held_at E calls more i).to_back k
      over i k h = omega (arith, S.over k h, (since O calls more i).to_back k)

  module _ (calls : List (List ℕ)) (S : Settled (E.held calls)) where
    abbrev s : State
    s = E.held calls

    has : (k : ℕ) → Peer T k → is_in (Backing k p U) s.bag ≡ true
    has k h = ⊎_elim (λ u. absurd (omega (arith, u, S.over k h))) (λ u. u.1) (S.backed.due k h)

    numbered : (k : ℕ) → Peer T k → (e : ℕ) × (e < capacity) × (entry_at s.bag e ≡ Backing k p U)
    numbered k h =
        let at = in_at (Backing k p U) s.bag (has k h) in
        (at.0, omega (arith, at.1, (O.valid calls).bag.size), at.2)

    only : (e k B : ℕ) → entry_at s.bag e ≡ Backing k p B → is_in (Backing k p B) before.bag ≡ false → B ≡ U
    only e k B it =
        let there = subst (λ (a : Entry). is_in a s.bag ≡ true) it (backing_in s.bag e (ap is_backing it)) in
        S.backed.only k B there

    module _ (c : List ℕ) (e k : ℕ) (r : read c ≡ Some (Publish e)) (it : entry_at s.bag e ≡ Backing k p U)
        (room : E.answers calls c ≡ 13 → ⊥) where
      its : E.answers calls c ≡ answer T s (Publish e)
      unfolding reply
      its = O.answers calls c ∙ ap (reply T s) r

      zero : answer T s (Publish e) ≡ 0
      zero =
          let backers-of = all_enough T A (backers s.bag p U) has in
          answers.entered T s (Publish e) (board_named s.bag e) (board e (ap is_backing it) (rw it backers-of)) (λ u. room (its ∙ u))

      its_bag : (E.held (calls ++ (c ∷ []))).bag ≡ enter (Board p U) s.bag
      unfolding leave rule
      its_bag =
          let left = O.one_more calls c ∙ ap (leave T s) r ∙ done T s (Publish e) zero in
          ap (λ (v : State). v.bag) left ∙ rw it

      published : (E.answers calls c ≡ 0) × (is_there (boards_in (E.held (calls ++ (c ∷ []))).bag) p U ≡ true)
      published = (its ∙ zero, rw its_bag (there_stands p U (enter (Board p U) s.bag) ∙ entered (Board p U) s.bag))

    pub can_publish : CanPublish T E before calls p U
    can_publish = record { backed = numbered; only = only; publishes = published }
