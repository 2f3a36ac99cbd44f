-- Where both stores have fewer than 256 at every place, neither side answers 13.
use Prim.Native.Nat.{ℕ, ◌≤◌}
use native.Mathlib.Omega.{arith}
use mathlib.Core.Bool.{true, not}
use mathlib.Core.List.{List, [], ◌∷◌}
use mathlib.Core.Option.{Option, none, some}
use mathlib.Core.Path.{◌≡◌, refl, sym, ◌∙◌}
use lib.Dec.{eqb, ltb}
use lib.ListN.{length}
use borrow.Author.Tests.{eqb-true, ltb-true}
use Rattle.base.specs.Refusals.{Row, name, role, numbered}
use Rattle.base.proofs.Truth.{and_i, and_l, and_r, not_i}
use Rattle.rules.specs.declared.Entry.TheVariants.{Hash}
use Rattle.rules.specs.Form.{Call}
use Rattle.std.specs.Prelude.{Some, None}
use Rattle.rules.specs.Table.{Table}
use Rattle.rules.specs.Bag.{capacity}
use Rattle.rules.specs.State.{State}
use Rattle.rules.specs.Form.{read}
use Rattle.rules.specs.Rules.{no_peer, reply}
use Rattle.rules.specs.Run.{Engine}
use Rattle.rules.specs.Follows.{Follows}
use Rattle.growth.proofs.Full.{never_full_lem, reached, full_size}
use Rattle.edges.proofs.Exact.{exact_edges}
use Rattle.field_rules.specs.Box.{Box}
use Rattle.field_rules.specs.Message.{Message, handed, taken, fetched, told, signs, shares, closes, hashes, backs, falls, rises}
use Rattle.field_rules.specs.Rules.{field_rule, handle_answer, handle}
use Rattle.field_runs.specs.Beside.{not_full, fed_with, room_in, passes, neither_full, both_below, always_below}

-- the box answers 13 only with 256 heard
module _ (T : Table) (j : ℕ) (b : Box) where
  -- all that is judged of a message
  abbrev judged_of : Message → Row
  judged_of m = numbered ((name, no_peer T.n j) ∷ (role, not (T.honest j)) ∷ (field_rule T j b m).refusals)

  pub box_full_at_256 : (m : Message) → handle_answer T j b m ≡ 13 → capacity ≤ length b.heard
  unfolding handle_answer field_rule
  box_full_at_256 (told k p B) e = let r = reached (judged_of (told k p B)) refl e in full_size (Hash k p B) b.heard (search)
  box_full_at_256 (handed x) e = absurd (never_full_lem (judged_of (handed x)) refl e)
  box_full_at_256 (taken k p x) e = absurd (never_full_lem (judged_of (taken k p x)) refl e)
  box_full_at_256 (fetched k p rows) e = absurd (never_full_lem (judged_of (fetched k p rows)) refl e)
  box_full_at_256 (signs x) e = absurd (never_full_lem (judged_of (signs x)) refl e)
  box_full_at_256 (shares x) e = absurd (never_full_lem (judged_of (shares x)) refl e)
  box_full_at_256 closes e = absurd (never_full_lem (judged_of closes) refl e)
  box_full_at_256 (hashes p) e = absurd (never_full_lem (judged_of (hashes p)) refl e)
  box_full_at_256 backs e = absurd (never_full_lem (judged_of backs) refl e)
  box_full_at_256 falls e = absurd (never_full_lem (judged_of falls) refl e)
  box_full_at_256 rises e = absurd (never_full_lem (judged_of rises) refl e)

-- an answer that would be 13 only with 256 in a store that has fewer
below : (a size : ℕ) → (a ≡ 13 → capacity ≤ size) → ltb size capacity ≡ true → not_full a ≡ true
below a size f l = not_i (eqb a 13) (λ e. omega (arith, f (eqb-true a 13 e), ltb-true size capacity l))

reply_full : (T : Table) (s : State) (c : Call) → reply T s c ≡ 13 → capacity ≤ length s.bag
unfolding reply
reply_full T s (Some st) e = (exact_edges T s).full_only st e
reply_full T s None e = absurd (omega (arith, e))

module _ (T : Table) (j : ℕ) {X : Type 0} (E : Engine X) (Ready : X → Type 0) (F : Follows T E Ready) where
  pub room-call : (x : X) → Ready x → (b : Box) (c : List ℕ) → both_below T j E x b ≡ true → (o : Option Message)
      → room_in T j b (E.answers x c) o ≡ true
  unfolding room_in handle
  room-call x R b c l none = refl
  room-call x R b c l (some m) =
      let bag = and_l (ltb (length (E.holds x).bag) capacity) (ltb (length b.heard) capacity) l in
      let own = and_r (ltb (length (E.holds x).bag) capacity) (ltb (length b.heard) capacity) l in
      and_i _ _ (below (E.answers x c) _ (λ e. reply_full T (E.holds x) (read c) (sym (F.answers x R c) ∙ e)) bag)
      (below (handle_answer T j b m) _ (box_full_at_256 T j b m) own)

  pub room : (x : X) → Ready x → (b : Box) (calls : List (List ℕ)) → always_below T j E x b calls ≡ true → neither_full T j E x b calls ≡ true
  unfolding always_below neither_full
  room x R b [] l = refl
  room x R b (c ∷ calls) l = and_i _ _ (room-call x R b c (and_l (both_below T j E x b) _ l) (passes T j E x c))
      (room (E.leaves x c) (F.stays_ready x R c) (fed_with T j b (passes T j E x c)) calls (and_r (both_below T j E x b) _ l))
